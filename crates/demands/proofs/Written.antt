-- Demand 2 of the calls that write an image: the length of a list, what stands in the buffer afterwards, and which lists are written.
-- Assumes nothing.
use mathlib.Core.Path.{◌≡◌, refl, sym, ap, ◌∙◌}
use mathlib.Core.Bool.{Bool, true, false}
use mathlib.Core.List.{List, ◌++◌}
use Prim.Native.Nat.{ℕ, ◌≤◌}
use native.Mathlib.Omega.{arith}
use lib.ListN.{length, take, drop, length-append, length-drop}
use lib.Seq.{take_at, drop_at}
use lib.Dec.{leb}
use borrow.Author.Tests.{leb-true}
use Rattle.lists.specs.Lists.{pick, sum}
use Rattle.image.specs.Calls.{Result, length_call, put, put_after, unwritten, write_call}
use Rattle.image.specs.Image.{Limits, code, image, size, wide}
use Rattle.answers.specs.Image.{Reply, given, refused}
use Rattle.store.specs.Reading.{list_in}
use Rattle.store.specs.Sound.{sound}
use Rattle.store.proofs.SoundFacts.{facts}
use Rattle.freeze.specs.Freeze.{freeze_call}
use Rattle.freeze.proofs.Freezing.{freeze-sound}
use Rattle.demands.specs.Demand2.{HasRoom, Written}
use Rattle.image.proofs.ReadLaws.{length-image}
use Rattle.image.proofs.CallLaws.{length-only, length-within, write-put}

-- a list within the limits has a length, which N, e and L give; no other has one (`length-only`)
pub length-is : (e : ℕ) (xs : List ℕ) → Limits e xs → length_call e xs ≡ given (size (wide (sum xs)) e (length xs) (length (code e xs)))
length-is e xs m = length-within e xs m ∙ ap given (length-image e xs)

-- into a buffer that is long enough
written : (w : Result) (i out : List ℕ) → length i ≤ length out → w ≡ record { reply = given (length i); bytes = i ++ drop (length i) out }
    → Written w i out
written w i out l e =
    record {
      reply-is = ap (λ (r : Result). r.reply) e;
      image-first = ap (λ (r : Result). take (length i) r.bytes) e ∙ take_at i (drop (length i) out) (length i) refl;
      rest-same = ap (λ (r : Result). drop (length i) r.bytes) e ∙ drop_at i (drop (length i) out) (length i) refl;
      as_long = ap (λ (r : Result). length r.bytes) e ∙ omega (arith, length-append i (drop (length i) out), length-drop (length i) out);
    }

pub write-is : (e : ℕ) (xs out : List ℕ) → Limits e xs → length (image e xs) ≤ length out → Written (write_call e xs out) (image e xs) out
write-is e xs out m l = written (write_call e xs out) (image e xs) out l (write-put e xs out m l)

-- a sound store's list has an image: at most 1,024 pages of 64 hours, and its total fits
pub store-limits : (s : List ℕ) (e : ℕ) → sound s ≡ true → 2 ≤ e → e ≤ 8 → Limits e (list_in s)
store-limits s e h low high =
    let f = facts s h in
    record { e-low = low; e-high = high; hours = omega (arith, f.hours-are, f.hours-fit, f.pages-high); total = omega (arith, f.total-fits) }

pub freeze-is : (s : List ℕ) (e : ℕ) (out : List ℕ) → sound s ≡ true → 2 ≤ e → e ≤ 8
    → length (image e (list_in s)) ≤ length out → Written (freeze_call e s out) (image e (list_in s)) out
freeze-is s e out h low high l =
    let xs : List ℕ = list_in s in
    written (freeze_call e s out) (image e xs) out l
    (sym (freeze-sound e s out h) ∙ write-put e xs out (store-limits s e h low high) l)

-- and into no other, nor of another list
has_room : (e : ℕ) (xs out : List ℕ) (n : ℕ) → Limits e xs → (put out (image e xs)).reply ≡ given n → HasRoom e xs out n
unfolding put pick unwritten
has_room e xs out n m = go (leb (length (image e xs)) (length out)) refl
  where
    done : Result
    done = record { reply = given (length (image e xs)); bytes = image e xs ++ drop (length (image e xs)) out }

    go : (b : Bool) → leb (length (image e xs)) (length out) ≡ b → (pick b done (unwritten out 4)).reply ≡ given n → HasRoom e xs out n
    go true q h = record { limits = m; room = leb-true (length (image e xs)) (length out) q; long = let z : length (image e xs) ≡ n = cc in sym z }
    go false q h = let z : ◌≡◌ {A = ℕ} 0 1 = cc in absurd (omega arith)

pub write-only : (e : ℕ) (xs out : List ℕ) (n : ℕ) → (write_call e xs out).reply ≡ given n → HasRoom e xs out n
unfolding write_call put_after unwritten
write-only e xs out n = go (length_call e xs) refl
  where
    go : (r : Reply) → length_call e xs ≡ r → (put_after r out (image e xs)).reply ≡ given n → HasRoom e xs out n
    go (given k) q h = has_room e xs out n (length-only e xs k q) h
    go (refused k) q h = let z : ◌≡◌ {A = ℕ} 0 1 = cc in absurd (omega arith)

pub freeze-only : (s : List ℕ) (e : ℕ) (out : List ℕ) (n : ℕ) → (freeze_call e s out).reply ≡ given n
    → (sound s ≡ true) × HasRoom e (list_in s) out n
unfolding freeze_call pick unwritten
freeze-only s e out n = go (sound s) refl
  where
    go : (b : Bool) → sound s ≡ b → (pick b (write_call e (list_in s) out) (unwritten out 10)).reply ≡ given n
        → (sound s ≡ true) × HasRoom e (list_in s) out n
    go true q h = (q, write-only e (list_in s) out n h)
    go false q h = let z : ◌≡◌ {A = ℕ} 0 1 = cc in absurd (omega arith)
