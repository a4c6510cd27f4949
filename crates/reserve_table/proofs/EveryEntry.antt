-- A rule of a table, proved at all of its entries by one test that antt computes, one entry after the other. Assumes nothing.
use mathlib.Core.Path.{◌≡◌, ◌∙◌, subst, sym}
use mathlib.Core.Bool.{Bool, true, false}
use mathlib.Core.List.{List, [], ◌∷◌}
use Prim.Native.Nat.{ℕ, zero, suc, ◌+◌, ◌*◌, ◌/◌, ◌%◌, ◌<◌}
use native.Mathlib.Nat.{add-zero, zero-add, add-suc, suc-add, le_of_suc-le-suc, not-suc-le-zero}
use native.Mathlib.Omega.{arith}
use lib.Dec.{T, eqb, eqb→eq}
use lib.ListN.{length, get_or}
use Rattle.reserve.specs.Reserve.{reserve}
use Rattle.reserve_table.specs.Code.Tabled.{Tabled}

abbrev both : Bool → Bool → Bool
both true b = b
both false b = false

both_left : (a b : Bool) → T (both a b) → T a
both_left true b t = tt
both_left false b t = t

both_right : (a b : Bool) → T (both a b) → T b
both_right true b t = t
both_right false b t = absurd t

-- each entry of a list, whose first is at place i, is what the rule says of its place
abbrev pub right_from : (ℕ → ℕ) → ℕ → List ℕ → Bool
right_from rule i [] = true
right_from rule i (x ∷ xs) = both (eqb x (rule i)) (right_from rule (suc i) xs)

from : (rule : ℕ → ℕ) (xs : List ℕ) (i : ℕ) → T (right_from rule i xs) → (k : ℕ) → k < length xs → T (eqb (get_or xs k 0) (rule (i + k)))
from rule [] i t k h = absurd (not-suc-le-zero h)
from rule (x ∷ xs) i t zero h =
    subst (λ (m : ℕ). T (eqb x (rule m))) (sym (add-zero i)) (both_left (eqb x (rule i)) (right_from rule (suc i) xs) t)
from rule (x ∷ xs) i t (suc k) h =
    subst (λ (m : ℕ). T (eqb (get_or xs k 0) (rule m))) (suc-add i k ∙ sym (add-suc i k))
    (from rule xs (suc i) (both_right (eqb x (rule i)) (right_from rule (suc i) xs) t) k (le_of_suc-le-suc h))

-- then so is the entry at place k of the whole list
pub entry-is : (rule : ℕ → ℕ) (xs : List ℕ) → T (right_from rule 0 xs) → (k : ℕ) → k < length xs → get_or xs k 0 ≡ rule k
entry-is rule xs t k l =
    eqb→eq (get_or xs k 0) (rule k) (subst (λ (m : ℕ). T (eqb (get_or xs k 0) (rule m))) (zero-add k) (from rule xs 0 t k l))

-- the reserve that stands at place i of the table
unfoldable pub tabled_reserve : ℕ → ℕ
unfolding reserve
tabled_reserve i = reserve (i / 64) (i % 64)

-- a table of 512 entries, each of them right
pub tabled : (xs : List ℕ) → length xs ≡ 512 → T (right_from tabled_reserve 0 xs) → Tabled xs
unfolding tabled_reserve
tabled xs n t =
    record {
      entry = λ h s l k.
          let q : (h * 64 + s) / 64 ≡ h = omega arith in
          let r : (h * 64 + s) % 64 ≡ s = omega arith in
          entry-is tabled_reserve xs t (h * 64 + s) (omega (arith, n)) ∙ rw (q, r);
    }
