-- Sums of counts, marked one after another, and looked up. Assumes nothing.
use mathlib.Core.Bool.{false}
use mathlib.Core.List.{List}
use mathlib.Core.Path.{◌≡◌, refl, ap, sym, ◌∙◌}
use Prim.Native.Nat.{ℕ, ◌+◌, ◌%◌, ◌≤◌, ◌<◌}
use native.Mathlib.Decide.{dec_le, ℕ_discrete}
use native.Mathlib.Omega.{arith}
use lib.Dec.{eqb}
use lib.ListN.{length, get_or, set}
use lib.Seq.{get_or-set_other, get_or-set_same, take_all}
use borrow.Author.Tests.{eqb-false}
use Rattle.lists.specs.Lists.{reading, sum}
use Rattle.runs.proofs.PrefixSums.{reading-grows, reading-next}
use Rattle.sum_marks.specs.Code.Marks.{Marked, Unmarked, marks_length}

-- the sums of the first n counts have the stamp, and this is the last of them
pub record Marking (xs : List ℕ) (n stamp : ℕ) (marks : List ℕ) (t : ℕ) : Type 0 where
  pub sum_is : t ≡ reading xs n
  pub stamped : (k : ℕ) → 1 ≤ k → k ≤ n → get_or marks (reading xs k % marks_length) 0 ≡ stamp

pub marking-first : (xs : List ℕ) (stamp : ℕ) (marks : List ℕ) → Marking xs 0 stamp marks 0
unfolding sum
marking-first xs stamp marks = record { sum_is = refl; stamped = λ (k : ℕ) (a : 1 ≤ k) (b : k ≤ 0). omega arith }

-- one count more
pub marking-next : (xs : List ℕ) (n stamp : ℕ) (marks : List ℕ) (t u : ℕ) → n < length xs → length marks ≡ marks_length → u ≡ t + get_or xs n 0
    → Marking xs n stamp marks t → Marking xs (n + 1) stamp (set marks (u % marks_length) stamp) u
marking-next xs n stamp marks t u l m f w = record {
  sum_is = e;
  stamped = λ k a b. go k a b (ℕ_discrete (reading xs k % marks_length) (u % marks_length));
}
  where
    e : u ≡ reading xs (n + 1)
    e = omega (arith, reading-next xs n l, w.sum_is)

    old : (k : ℕ) → 1 ≤ k → k ≤ n + 1 → (reading xs k % marks_length ≡ u % marks_length → ⊥) → Dec (k ≤ n)
        → get_or marks (reading xs k % marks_length) 0 ≡ stamp
    old k a b f (yes d) = w.stamped k a d
    old k a b f (no d) =
        let g : k ≡ n + 1 = omega arith in
        absurd (f (ap (λ (z : ℕ). reading xs z % marks_length) g ∙ ap (λ (z : ℕ). z % marks_length) (sym e)))

    go : (k : ℕ) → 1 ≤ k → k ≤ n + 1 → Dec (reading xs k % marks_length ≡ u % marks_length)
        → get_or (set marks (u % marks_length) stamp) (reading xs k % marks_length) 0 ≡ stamp
    go k a b (yes g) = rw g (get_or-set_same marks (u % marks_length) stamp 0 (omega arith))
    go k a b (no f) = get_or-set_other marks (u % marks_length) (reading xs k % marks_length) stamp 0 f ∙ old k a b f (dec_le k n)

-- the same counts at the head of another list
pub marked-of : (xs ys : List ℕ) (stamp : ℕ) (marks : List ℕ) → length ys ≤ length xs → ((k : ℕ) → k ≤ length ys → reading xs k ≡ reading ys k)
    → Marked xs stamp marks → Marked ys stamp marks
marked-of xs ys stamp marks l f m = record {
  stamped = λ k a b. ap (λ (z : ℕ). get_or marks (z % marks_length) 0) (sym (f k b)) ∙ m.stamped k a (omega (arith, l));
}

-- another stamp, or none, at the place of a sum
pub unmarked : (marks : List ℕ) (stamp t : ℕ) → eqb (get_or marks (t % marks_length) 0) stamp ≡ false → Unmarked marks stamp t
unmarked marks stamp t e xs m k a b g =
    eqb-false (get_or marks (t % marks_length) 0) stamp e (ap (λ (z : ℕ). get_or marks (z % marks_length) 0) (sym g) ∙ m.stamped k a b)

-- the sum of the first counts, with one more, where that of all is small
pub sum_fits : (xs : List ℕ) (i t : ℕ) → sum xs ≤ 1099511627775 → i < length xs → t ≡ reading xs i → t + get_or xs i 0 < 18446744073709551616
sum_fits xs i t h b e =
    omega (arith, reading-next xs i b, reading-grows xs (i + 1) (length xs) (omega arith), ap sum (take_all (length xs) xs (omega arith)))
