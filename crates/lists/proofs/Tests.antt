-- Tests: several at once, and two lists that are the same. Assumes nothing.
use mathlib.Core.Path.{◌≡◌, refl, sym, ap, ap₂, ◌∙◌}
use mathlib.Core.Bool.{Bool, true, false, ◌&&◌, and-false, and-true}
use mathlib.Core.List.{List, [], ◌∷◌, ◌++◌}
use Prim.Native.Nat.{ℕ, zero, suc, ◌<◌}
use native.Mathlib.Omega.{arith}
use lib.ListN.{length, get_or}
use lib.Dec.{eqb}
use borrow.Author.Tests.{eq-eqb, eqb-true}
use Rattle.lists.specs.Lists.{tabulate, same, every}
use Rattle.lists.proofs.Tables.{tabulate-ext, get_d_tabulate}

pub both : {a b : Bool} → a ≡ true → b ≡ true → (a && b) ≡ true
both {a} {b} p q = rw (p, q)

pub left : (a b : Bool) → (a && b) ≡ true → a ≡ true
left true b e = refl
left false b e = e

pub right : (a b : Bool) → (a && b) ≡ true → b ≡ true
right true b e = e
right false true e = refl
right false false e = e

-- two tests that imply each other
pub agree : (a b : Bool) → (a ≡ true → b ≡ true) → (b ≡ true → a ≡ true) → a ≡ b
agree true b h j = sym (h refl)
agree false true h j = j refl
agree false false h j = refl

-- ---- two lists that are the same
pub same_refl : (xs : List ℕ) → same xs xs ≡ true
unfolding same
same_refl [] = refl
same_refl (x ∷ xs) = both (eq-eqb x x refl) (same_refl xs)

pub same-is : (xs ys : List ℕ) → same xs ys ≡ true → xs ≡ ys
unfolding same
same-is [] [] e = refl
same-is [] (y ∷ ys) e = cc
same-is (x ∷ xs) [] e = cc
same-is (x ∷ xs) (y ∷ ys) e = ap₂ ◌∷◌ (eqb-true x y (left (eqb x y) (same xs ys) e)) (same-is xs ys (right (eqb x y) (same xs ys) e))

pub same-eq : (xs ys : List ℕ) → xs ≡ ys → same xs ys ≡ true
same-eq xs ys e = rw e (same_refl ys)

pub same-join : (xs ys us vs : List ℕ) → length xs ≡ length us → same (xs ++ ys) (us ++ vs) ≡ (same xs us && same ys vs)
unfolding same
same-join [] ys [] vs e = refl
same-join [] ys (u ∷ us) vs e = absurd (omega (arith, e))
same-join (x ∷ xs) ys [] vs e = absurd (omega (arith, e))
same-join (x ∷ xs) ys (u ∷ us) vs e = go (eqb x u) (same-join xs ys us vs (omega arith))
  where
    go : (t : Bool) → same (xs ++ ys) (us ++ vs) ≡ (same xs us && same ys vs)
        → (t && same (xs ++ ys) (us ++ vs)) ≡ ((t && same xs us) && same ys vs)
    go true q = q
    go false q = refl

pub same-tabulate : (n : ℕ) (f g : ℕ → ℕ) → same (tabulate n f) (tabulate n g) ≡ true → (j : ℕ) → j < n → f j ≡ g j
same-tabulate n f g e j l = sym (get_d_tabulate n f j 0 l) ∙ ap (λ (z : List ℕ). get_or z j 0) (same-is (tabulate n f) (tabulate n g) e) ∙ get_d_tabulate n g j 0 l

pub tabulate-same : (n : ℕ) (f g : ℕ → ℕ) → ((j : ℕ) → j < n → f j ≡ g j) → same (tabulate n f) (tabulate n g) ≡ true
tabulate-same n f g h = ap (same (tabulate n f)) (sym (tabulate-ext n f g h)) ∙ same_refl (tabulate n f)

-- ---- several tests at once
abbrev pub Each : List Bool → Type 0
Each [] = Unit {0}
Each (b ∷ bs) = (b ≡ true) × Each bs

pub each : (bs : List Bool) → every bs ≡ true → Each bs
unfolding every
each [] e = tt
each (b ∷ bs) e = (left b (every bs) e, each bs (right b (every bs) e))

pub every_of : (bs : List Bool) → Each bs → every bs ≡ true
unfolding every
every_of [] w = refl
every_of (b ∷ bs) w = both w.0 (every_of bs w.1)

-- a list of tests of which one fails, and one of which all but the last hold
pub every-no : (bs : List Bool) (k : ℕ) → get_or bs k true ≡ false → every bs ≡ false
unfolding every
every-no [] k e = e
every-no (b ∷ bs) zero e = ap (λ (z : Bool). z && every bs) e
every-no (b ∷ bs) (suc k) e = ap (λ (z : Bool). b && z) (every-no bs k e) ∙ and-false b

pub every-last : (bs : List Bool) (b : Bool) → every bs ≡ true → every (bs ++ b ∷ []) ≡ b
unfolding every
every-last [] b e = and-true b
every-last (a ∷ bs) b e = ap₂ ◌&&◌ (left a (every bs) e) (every-last bs b (right a (every bs) e))
