-- How large the answers of the image's calls are. Assumes nothing.
use mathlib.Core.Path.{◌≡◌, refl, ap}
use mathlib.Core.Bool.{Bool, true, false, ◌&&◌}
use mathlib.Core.List.{List, ◌++◌}
use Prim.Native.Nat.{ℕ, zero, suc, ◌≤◌, ◌<◌}
use native.Mathlib.Omega.{arith}
use lib.ListN.{length, get_or, drop}
use lib.Dec.{leb}
use borrow.Author.Tests.{leb-true}
use Rattle.lists.specs.Lists.{pick, sum}
use Rattle.lists.proofs.Reach.{reached-le}
use Rattle.lists.proofs.Tests.{each, left, right}
use Rattle.tree.specs.Read.{Found, damaged, found}
use Rattle.image.specs.Calls.{length_call, put, put_after, unwritten, write_call}
use Rattle.image.specs.Check.{accepted, check, headed}
use Rattle.answers.specs.Image.{Verdict, fails, holds, Reply, given, refused}
use Rattle.image.specs.Image.{Limits, bytes_for, image, max_hours, max_total, size, wide}
use Rattle.image.specs.Query.{count, ended, look, reading, reading_at, the_count, the_reading}
use Rattle.image.specs.Reach.{Reach, above-total, any-index, damage, header-wrong, smallest}
use Rattle.image.specs.Read.{e_of, list_of, n_of, s_of}
use Rattle.image.proofs.Editions.{header-most}
use Rattle.image.proofs.Accepted.{accepted-only, length-list}
use Rattle.image.proofs.ReadLaws.{length-image, s-is}
use Rattle.image.proofs.HeadLaws.{headed-total}
use Rattle.image.proofs.CallLaws.{length-only}
use Rattle.image.proofs.PageLaws.{code-most, pages-few}
use Rattle.tree.proofs.WalkLaws.{Most}
use Rattle.image.proofs.QueryLaws.{look-most, most-ended}

-- a number is no more than the total's limit, refusals are 1 to 12
abbrev pub Small : Reply → Type 0
Small (given n) = n ≤ max_total
Small (refused k) = (1 ≤ k) × (k ≤ 12)

abbrev pub SmallVerdict : Verdict → Type 0
SmallVerdict (holds n s) = (n ≤ max_hours) × (s ≤ max_total)
SmallVerdict (fails k) = (1 ≤ k) × (k ≤ 12)

or-refused : (b : Bool) (k : ℕ) (r : Reply) → 1 ≤ k → k ≤ 12 → (b ≡ true → Small r) → Small (pick b r (refused k))
unfolding pick
or-refused true k r low high w = w refl
or-refused false k r low high w = (low, high)

refused-or : (b : Bool) (k : ℕ) (r : Reply) → 1 ≤ k → k ≤ 12 → Small r → Small (pick b (refused k) r)
unfolding pick
refused-or true k r low high w = (low, high)
refused-or false k r low high w = w

-- ---- length and write
image-most : (e : ℕ) (xs : List ℕ) → Limits e xs → length (image e xs) ≤ max_total
unfolding size bytes_for
image-most e xs m = omega (arith, length-image e xs, code-most e xs m, pages-few e (length xs) m.e-low m.hours, header-most (wide (sum xs)))

pub length-small : (e : ℕ) (xs : List ℕ) → Small (length_call e xs)
unfolding length_call
length-small e xs =
    or-refused (leb 2 e && leb e 8) 1 _ (omega arith) (omega arith) (λ a.
    or-refused (leb (length xs) max_hours) 2 _ (omega arith) (omega arith) (λ b.
    or-refused (leb (sum xs) max_total) 3 _ (omega arith) (omega arith) (λ c.
    image-most e xs (record {
      e-low = leb-true 2 e (left (leb 2 e) (leb e 8) a);
      e-high = leb-true e 8 (right (leb 2 e) (leb e 8) a);
      hours = leb-true (length xs) max_hours b;
      total = leb-true (sum xs) max_total c;
    }))))

put_small : (out i : List ℕ) → length i ≤ max_total → Small (put out i).reply
unfolding put pick unwritten
put_small out i l = go (leb (length i) (length out))
  where
    go : (b : Bool) → Small (pick b (record { reply = given (length i); bytes = i ++ drop (length i) out }) (unwritten out 4)).reply
    go true = l
    go false = omega arith

pub write-small : (e : ℕ) (xs out : List ℕ) → Small (write_call e xs out).reply
unfolding write_call put_after unwritten
write-small e xs out = go (length_call e xs) refl (length-small e xs)
  where
    go : (r : Reply) → length_call e xs ≡ r → Small r → Small (put_after r out (image e xs)).reply
    go (given n) q w = put_small out (image e xs) (image-most e xs (length-only e xs n q))
    go (refused k) q w = w

-- ---- check
pub check-small : (s : List ℕ) → SmallVerdict (check s)
unfolding check pick
check-small s = go (headed s) (accepted s) refl
  where
    go : (a b : Bool) → accepted s ≡ b → SmallVerdict (pick a (pick b (holds (n_of s) (s_of s)) (fails 6)) (fails 5))
    go true true e =
        let w = accepted-only s e in (
          omega (arith, length-list s, w.limits.hours),
          omega (arith, ap s_of w.bytes, s-is (e_of s) (list_of s) w.limits, w.limits.total),
        )
    go true false e = omega arith
    go false b e = omega arith

-- ---- the queries, on any bytes
hours-most : (s : List ℕ) → headed s ≡ true → n_of s ≤ max_hours
unfolding headed
hours-most s e = leb-true (n_of s) max_hours (each _ e).1.1.1.1.1.1.0

module _ (s : List ℕ) (bytes : (i : ℕ) → get_or s i 0 < 256) where
  total-most : headed s ≡ true → s_of s ≤ max_total
  total-most e = headed-total s bytes e

  found-small : headed s ≡ true → (f : Found) → Most (s_of s) f → Small (the_count f) × Small (the_reading f)
  unfolding the_count the_reading
  found-small e damaged m = (omega arith, omega arith)
  found-small e (found x c) m = (omega (arith, total-most e), omega (arith, total-most e))

  pub count_small : (i : ℕ) → Small (count s i)
  unfolding count
  count_small i =
      or-refused (headed s) 5 _ (omega arith) (omega arith) (λ e.
      refused-or _ 7 _ (omega arith) (omega arith) (found-small e (ended (look s i)) (most-ended (s_of s) (look s i) (look-most s i))).0)

  pub reading_small : (i : ℕ) → Small (reading s i)
  unfolding reading reading_at
  reading_small i = or-refused (headed s) 5 _ (omega arith) (omega arith) (λ e. refused-or _ 7 _ (omega arith) (omega arith) (go e i))
    where
      go : headed s ≡ true → (i : ℕ) → Small (reading_at s i)
      go e zero = omega arith
      go e (suc i) = (found-small e (ended (look s i)) (most-ended (s_of s) (look s i) (look-most s i))).1

pub reach-small : (s : List ℕ) (p : ℕ) (r : Reply) → Reach s p r → Small r
unfolding accepted
reach-small s p r = go
  where
    go : {r : Reply} → Reach s p r → Small r
    go (header-wrong e) = omega arith
    go (above-total e l) = omega arith
    go (smallest a l) = omega (arith, reached-le p (list_of s), length-list s, hours-most s (left (headed s) _ a))
    go (damage e l a) = omega arith
    go (any-index e l a i k) = omega (arith, hours-most s e)
