-- A list with one hour changed, and the page of that hour. Assumes nothing.
use mathlib.Core.Path.{◌≡◌, refl, sym, ap, ◌∙◌}
use mathlib.Core.List.{List, [], ◌∷◌, ◌++◌}
use Prim.Native.Nat.{ℕ, zero, suc, ◌+◌, ◌*◌, ◌/◌, ◌%◌, ◌≤◌, ◌<◌, max}
use native.Mathlib.Omega.{arith}
use native.Mathlib.Decide.{ℕ_discrete}
use lib.ListN.{length, get_or, set, length-set, length-append}
use lib.Seq.{get_or-set_same, get_or-set_other, get_or-append_seam, ext_get_or}
use borrow.Author.Tests.{eq-eqb, ne_eqb}
use Rattle.lists.specs.Lists.{pick, sum, tabulate}
use Rattle.store.specs.Plain.{page}
use Rattle.store.specs.Code.Hours.{with_hour}
use Rattle.lists.proofs.Occurrences.{get_d-snoc}
use Rattle.lists.proofs.Sums.{sum-snoc, sum-tabulate-one}
use Rattle.lists.proofs.Tables.{get_d_tabulate}
use Rattle.store.proofs.Holds.{page-length}
use Rattle.store.proofs.Keep.{Off}

-- ---- the list with one hour changed
pub record With (xs ys : List ℕ) (i v : ℕ) : Type 0 where
  pub off : Off xs ys i
  pub at : get_or ys i 0 ≡ v
  pub long : length ys ≡ max (length xs) (i + 1)
  pub total : sum ys + get_or xs i 0 ≡ sum xs + v

pub sum-set : (xs : List ℕ) (i v : ℕ) → i < length xs → sum (set xs i v) + get_or xs i 0 ≡ sum xs + v
unfolding sum
sum-set [] i v l = absurd (omega arith)
sum-set (x ∷ xs) zero v l = omega arith
sum-set (x ∷ xs) (suc i) v l = omega (arith, sum-set xs i v (omega arith))

get_d-end : (xs : List ℕ) → get_or xs (length xs) 0 ≡ 0
get_d-end [] = refl
get_d-end (x ∷ xs) = get_d-end xs

pub with-hour : (xs : List ℕ) (i v : ℕ) → i ≤ length xs → With xs (with_hour xs i v) i v
unfolding with_hour pick
with-hour xs i v l = go (ℕ_discrete i (length xs))
  where
    go : Dec (i ≡ length xs) → With xs (with_hour xs i v) i v
    go (yes e) =
        rw (eq-eqb i (length xs) e)
        (record {
          off = λ h ne. get_d-snoc xs v h (λ q. ne (q ∙ sym e));
          at = ap (λ (z : ℕ). get_or (xs ++ v ∷ []) z 0) e ∙ get_or-append_seam xs v [] 0;
          long = omega (arith, length-append xs (v ∷ []));
          total = omega (arith, sum-snoc xs v, ap (λ (z : ℕ). get_or xs z 0) e, get_d-end xs);
        })
    go (no e) =
        rw (ne_eqb i (length xs) e)
        (record {
          off = λ h ne. get_or-set_other xs i h v 0 ne;
          at = get_or-set_same xs i v 0 (omega arith);
          long = omega (arith, length-set xs i v);
          total = sum-set xs i v (omega arith);
        })

-- the page of the hour
pub page-sum : (xs ys : List ℕ) (i v : ℕ) → With xs ys i v → sum (page ys (i / 64)) + get_or xs i 0 ≡ sum (page xs (i / 64)) + v
unfolding page
page-sum xs ys i v w =
    let e : 64 * (i / 64) + i % 64 ≡ i = omega arith in
    omega (
      arith,
      sum-tabulate-one 64 (λ j. get_or ys (64 * (i / 64) + j) 0) (λ j. get_or xs (64 * (i / 64) + j) 0) (i % 64) (omega arith)
          (λ j ne. w.off (64 * (i / 64) + j) (λ q. ne (omega arith))),
      ap (λ (z : ℕ). get_or xs z 0) e,
      ap (λ (z : ℕ). get_or ys z 0) e,
      w.at,
    )

pub page-hour : (xs : List ℕ) (i : ℕ) → get_or (page xs (i / 64)) (i % 64) 0 ≡ get_or xs i 0
unfolding page
page-hour xs i = get_d_tabulate 64 (λ j. get_or xs (64 * (i / 64) + j) 0) (i % 64) 0 (omega arith)
    ∙ ap (λ (z : ℕ). get_or xs z 0) {x = 64 * (i / 64) + i % 64} {y = i} (omega arith)

pub page-at : (xs : List ℕ) (p j : ℕ) → j < 64 → get_or (page xs p) j 0 ≡ get_or xs (64 * p + j) 0
unfolding page
page-at xs p j l = get_d_tabulate 64 (λ j. get_or xs (64 * p + j) 0) j 0 l

pub page-set : (xs ys : List ℕ) (i v : ℕ) → With xs ys i v → set (page xs (i / 64)) (i % 64) v ≡ page ys (i / 64)
page-set xs ys i v w =
    ext_get_or 0 (set (page xs (i / 64)) (i % 64) v) (page ys (i / 64)) (length-set (page xs (i / 64)) (i % 64) v ∙ page-length xs (i / 64)
    ∙ sym (page-length ys (i / 64)))
    (λ j l. go j (omega (arith, length-set (page xs (i / 64)) (i % 64) v, page-length xs (i / 64))) (ℕ_discrete j (i % 64)))
  where
    go : (j : ℕ) → j < 64 → Dec (j ≡ i % 64) → get_or (set (page xs (i / 64)) (i % 64) v) j 0 ≡ get_or (page ys (i / 64)) j 0
    go j l (yes e) = rw e (get_or-set_same (page xs (i / 64)) (i % 64) v 0 (omega (arith, page-length xs (i / 64))) ∙ sym (page-hour ys i ∙ w.at))
    go j l (no e) = get_or-set_other (page xs (i / 64)) (i % 64) j v 0 e ∙ others j l e
      where
        others : (j : ℕ) → j < 64 → (j ≡ i % 64 → ⊥) → get_or (page xs (i / 64)) j 0 ≡ get_or (page ys (i / 64)) j 0
        others j l e = page-at xs (i / 64) j l ∙ sym (w.off (64 * (i / 64) + j) (λ q. e (omega arith))) ∙ sym (page-at ys (i / 64) j l)

pub get_d_le : (xs : List ℕ) (i : ℕ) → get_or xs i 0 ≤ sum xs
unfolding sum
get_d_le [] i = omega arith
get_d_le (x ∷ xs) zero = omega arith
get_d_le (x ∷ xs) (suc i) = omega (arith, get_d_le xs i)

pub tabulate-le : (n : ℕ) (f : ℕ → ℕ) (p : ℕ) → p < n → f p ≤ sum (tabulate n f)
tabulate-le n f p l = omega (arith, get_d_le (tabulate n f) p, get_d_tabulate n f p 0 l)
