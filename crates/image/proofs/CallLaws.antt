-- What length and write make of a list, within the limits and not. Assumes nothing.
use mathlib.Core.Path.{◌≡◌, refl, sym}
use mathlib.Core.Bool.{Bool, true, false, ◌&&◌}
use mathlib.Core.List.{List, ◌++◌}
use Prim.Native.Nat.{ℕ, ◌≤◌}
use native.Mathlib.Omega.{arith}
use lib.ListN.{length, drop}
use lib.Dec.{leb}
use borrow.Author.Tests.{le-leb, leb-true}
use Rattle.lists.specs.Lists.{pick, sum}
use Rattle.image.specs.Calls.{Result, length_call, put, put_after, unwritten, write_call}
use Rattle.image.specs.Image.{Limits, image, max_hours, max_total}
use Rattle.answers.specs.Image.{Reply, given, refused}
use Rattle.lists.proofs.Tests.{left, right}

pub length-within : (e : ℕ) (xs : List ℕ) → Limits e xs → length_call e xs ≡ given (length (image e xs))
unfolding length_call pick
length-within e xs m = rw (le-leb 2 e m.e-low, le-leb e 8 m.e-high, le-leb (length xs) max_hours m.hours, le-leb (sum xs) max_total m.total)

pub write-put : (e : ℕ) (xs out : List ℕ) → Limits e xs → length (image e xs) ≤ length out
    → write_call e xs out ≡ record { reply = given (length (image e xs)); bytes = image e xs ++ drop (length (image e xs)) out }
unfolding write_call put_after put pick
write-put e xs out m l = rw (length-within e xs m, le-leb (length (image e xs)) (length out) l)

-- ---- no other list has a length
never : (k n : ℕ) → refused k ≡ given n → ⊥
never k n e = let z : ◌≡◌ {A = ℕ} 0 1 = cc in omega arith

limits_of : (e : ℕ) (xs : List ℕ) (n y : ℕ) (a b c : Bool) → (leb 2 e && leb e 8) ≡ a → leb (length xs) max_hours ≡ b
    → leb (sum xs) max_total ≡ c
    → pick a (pick b (pick c (given y) (refused 3)) (refused 2)) (refused 1) ≡ given n → Limits e xs
unfolding pick
limits_of e xs n y true true true i j k z = record {
  e-low = leb-true 2 e (left (leb 2 e) (leb e 8) i);
  e-high = leb-true e 8 (right (leb 2 e) (leb e 8) i);
  hours = leb-true (length xs) max_hours j;
  total = leb-true (sum xs) max_total k;
}
limits_of e xs n y true true false i j k z = absurd (never 3 n z)
limits_of e xs n y true false c i j k z = absurd (never 2 n z)
limits_of e xs n y false b c i j k z = absurd (never 1 n z)

pub length-only : (e : ℕ) (xs : List ℕ) (n : ℕ) → length_call e xs ≡ given n → Limits e xs
unfolding length_call
length-only e xs n q = limits_of e xs n (length (image e xs)) (leb 2 e && leb e 8) (leb (length xs) max_hours) (leb (sum xs) max_total) refl refl refl q

-- ---- refused
-- 'A refusal is its number alone; no byte changes.'
pub put_refused : (out i : List ℕ) (k : ℕ) → (put out i).reply ≡ refused k → (put out i).bytes ≡ out
unfolding put unwritten pick
put_refused out i k = go (leb (length i) (length out))
  where
    done : Result
    done = record { reply = given (length i); bytes = i ++ drop (length i) out }

    go : (b : Bool) → (pick b done (unwritten out 4)).reply ≡ refused k → (pick b done (unwritten out 4)).bytes ≡ out
    go true q = absurd (never k (length i) (sym q))
    go false q = refl

pub write-refused : (e : ℕ) (xs out : List ℕ) (k : ℕ) → (write_call e xs out).reply ≡ refused k → (write_call e xs out).bytes ≡ out
unfolding write_call put_after unwritten
write-refused e xs out k = go (length_call e xs)
  where
    go : (r : Reply) → (put_after r out (image e xs)).reply ≡ refused k → (put_after r out (image e xs)).bytes ≡ out
    go (given n) q = put_refused out (image e xs) k q
    go (refused j) q = refl
