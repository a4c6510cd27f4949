-- The first counts of a page, with as many coins as are wanted. Assumes nothing.
use mathlib.Core.List.{List}
use mathlib.Core.Path.{◌≡◌, refl, ap}
use Prim.Native.Nat.{ℕ, ◌+◌, ◌≤◌, ◌<◌}
use native.Mathlib.Decide.{dec_le}
use native.Mathlib.Omega.{arith}
use lib.ListN.{length, get_or}
use Rattle.lists.specs.Lists.{reading, sum}
use Rattle.runs.proofs.PrefixSums.{reading-grows, reading-next}
use Rattle.sum_marks.specs.Code.Marks.{Marked, Unmarked}
use Rattle.sum_marks.specs.Code.Prefix.{PrefixOf, Tried}
use Rattle.sum_marks.specs.declared.prefix.Prefix.{Prefix}

pub prefix-first : (counts : List ℕ) (want : ℕ) → PrefixOf counts want (record { hours = 0; sum = 0 })
unfolding sum
prefix-first counts want = record { inside = omega arith; sum_is = refl; short = λ (k : ℕ) (l : k < 0). omega arith }

-- one count more, where they have too few coins
pub prefix-more : (counts : List ℕ) (want i t v : ℕ) → PrefixOf counts want (record { hours = i; sum = t }) → i < length counts → t < want
    → v ≡ get_or counts i 0 → PrefixOf counts want (record { hours = i + 1; sum = t + v })
prefix-more counts want i t v p h m e = record {
  inside = omega arith;
  sum_is = omega (arith, p.sum_is, reading-next counts i (omega arith));
  short = λ k b. go k b (dec_le i k);
}
  where
    go : (k : ℕ) → k < i + 1 → Dec (i ≤ k) → reading counts k < want
    go k b (yes d) =
        let g : k ≡ i = omega arith in
        omega (arith, p.sum_is, ap (reading counts) g)
    go k b (no d) = p.short k (omega arith)

-- more is wanted
pub prefix-wider : (counts : List ℕ) (want want' : ℕ) (r : Prefix) → want ≤ want' → PrefixOf counts want r → PrefixOf counts want' r
prefix-wider counts want want' r l p = record {
  inside = p.inside;
  sum_is = p.sum_is;
  short = λ (k : ℕ) (b : k < r.hours). omega (arith, p.short k b);
}

-- they have as much, or they are all
pub tried-reached : (counts : List ℕ) (want : ℕ) (r : Prefix) → PrefixOf counts want r → (r.sum < want → length counts ≤ r.hours)
    → Tried counts want r
tried-reached counts want r p f = record { prefix = p; missed = λ m k a b e. go m k b e (dec_le r.hours k) (dec_le want r.sum) }
  where
    go : (r.sum ≡ want → ⊥) → (k : ℕ) → k ≤ length counts → reading counts k ≡ want → Dec (r.hours ≤ k) → Dec (want ≤ r.sum) → ⊥
    go m k b e (yes d) (yes c) = m (omega (arith, reading-grows counts r.hours k d, p.sum_is))
    go m k b e (yes d) (no c) =
        let g : k ≡ r.hours = omega (arith, f (omega arith)) in
        omega (arith, p.sum_is, ap (reading counts) g)
    go m k b e (no d) c = omega (arith, p.short k (omega arith))

-- there is no mark of it
pub tried-unmarked : (counts : List ℕ) (want stamp : ℕ) (marks : List ℕ) (r : Prefix) → Marked counts stamp marks → Unmarked marks stamp want
    → PrefixOf counts want r → Tried counts want r
tried-unmarked counts want stamp marks r m u p = record { prefix = p; missed = λ f k a b e. u counts m k a b e }
