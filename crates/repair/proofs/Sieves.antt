-- Numbers sifted out of those from a on, and lists in which each number of a range stands once. Assumes nothing.
use mathlib.Core.Path.{◌≡◌, refl, sym, ap, ap₂, ◌∙◌}
use mathlib.Core.Bool.{Bool, true, false}
use mathlib.Core.List.{List, [], ◌∷◌, ◌++◌}
use Prim.Native.Nat.{ℕ, zero, suc, ◌+◌, ◌≤◌, ◌<◌}
use native.Mathlib.Omega.{arith}
use native.Mathlib.Decide.{ℕ_discrete, dec_le}
use lib.ListN.{length}
use lib.Dec.{eqb}
use Rattle.lists.specs.Lists.{occurrences, one, pick, sum, tabulate}
use Rattle.lists.proofs.Occurrences.{one-equal, one-other, one_same}
use Rattle.lists.proofs.Sums.{sum-nones, sum-tabulate-one}
use Rattle.lists.proofs.Tables.{tabulate-ext}
use Rattle.store.specs.Sound.{is_cell}
use Rattle.store.proofs.FreshLaws.{cell_in, cell-is}
use Rattle.repair.specs.Repair.{sieve}
use Rattle.repair.specs.Clauses.{Rising}

clash : {A : Type 0} (b : Bool) → b ≡ false → b ≡ true → A
clash b p q = absurd (let z : ◌≡◌ {A = ℕ} 0 1 = cc in omega arith)

-- ---- what is sifted out
pub sieve-yes : (f : ℕ → Bool) (a n : ℕ) → f a ≡ true → sieve f a (suc n) ≡ a ∷ sieve f (suc a) n
unfolding sieve pick
sieve-yes f a n e = rw e

pub sieve-no : (f : ℕ → Bool) (a n : ℕ) → f a ≡ false → sieve f a (suc n) ≡ sieve f (suc a) n
unfolding sieve pick
sieve-no f a n e = rw e

-- c is among them just where it is one of the numbers and f holds
pub sieve-range : (f : ℕ → Bool) (a n c : ℕ) → 1 ≤ occurrences c (sieve f a n) → (a ≤ c) × (c < a + n) × (f c ≡ true)
unfolding sieve occurrences
sieve-range f a zero c q = absurd (omega arith)
sieve-range f a (suc n) c q = go (f a) refl (λ r. sieve-range f (suc a) n c r)
  where
    go : (b : Bool) → f a ≡ b → (1 ≤ occurrences c (sieve f (suc a) n) → (suc a ≤ c) × (c < suc a + n) × (f c ≡ true))
        → (a ≤ c) × (c < a + suc n) × (f c ≡ true)
    go true e h = here (ℕ_discrete c a)
      where
        more : 1 ≤ one (eqb c a) + occurrences c (sieve f (suc a) n)
        more = omega (arith, ap (occurrences c) (sieve-yes f a n e))

        here : Dec (c ≡ a) → (a ≤ c) × (c < a + suc n) × (f c ≡ true)
        here (yes r) = (omega arith, omega arith, ap f r ∙ e)
        here (no r) = let w = h (omega (arith, more, one-other c a r)) in (omega (arith, w.0), omega (arith, w.1), w.2)
    go false e h = let w = h (omega (arith, ap (occurrences c) (sieve-no f a n e))) in (omega (arith, w.0), omega (arith, w.1), w.2)

pub sieve-none : (f : ℕ → Bool) (a n c : ℕ) → (((a ≤ c) × (c < a + n) × (f c ≡ true)) → ⊥) → occurrences c (sieve f a n) ≡ 0
sieve-none f a n c h = go (dec_le 1 (occurrences c (sieve f a n)))
  where
    go : Dec (1 ≤ occurrences c (sieve f a n)) → occurrences c (sieve f a n) ≡ 0
    go (yes q) = absurd (h (sieve-range f a n c q))
    go (no q) = omega arith

pub sieve-one : (f : ℕ → Bool) (a n c : ℕ) → a ≤ c → c < a + n → f c ≡ true → occurrences c (sieve f a n) ≡ 1
unfolding sieve occurrences
sieve-one f a zero c l u e = absurd (omega arith)
sieve-one f a (suc n) c l u e = go (f a) refl (ℕ_discrete c a) (λ r. sieve-one f (suc a) n c r (omega arith) e)
  where
    go : (b : Bool) → f a ≡ b → Dec (c ≡ a) → (suc a ≤ c → occurrences c (sieve f (suc a) n) ≡ 1) → occurrences c (sieve f a (suc n)) ≡ 1
    go true q (yes r) h =
        omega (arith, ap (occurrences c) (sieve-yes f a n q), one-equal c a r, sieve-none f (suc a) n c (λ w. omega (arith, w.0, r)))
    go true q (no r) h = omega (arith, ap (occurrences c) (sieve-yes f a n q), one-other c a r, h (omega arith))
    go false q (yes r) h = clash (f a) q (ap f (sym r) ∙ e)
    go false q (no r) h = ap (occurrences c) (sieve-no f a n q) ∙ h (omega arith)

-- none, where f never holds
pub sieve-empty : (f : ℕ → Bool) (a n : ℕ) → ((c : ℕ) → a ≤ c → c < a + n → f c ≡ false) → sieve f a n ≡ []
unfolding sieve
sieve-empty f a zero h = refl
sieve-empty f a (suc n) h = sieve-no f a n (h a (omega arith) (omega arith)) ∙ sieve-empty f (suc a) n (λ c l u. h c (omega arith) (omega arith))

pub sieve-ext : (f g : ℕ → Bool) (a n : ℕ) → ((c : ℕ) → a ≤ c → c < a + n → f c ≡ g c) → sieve f a n ≡ sieve g a n
unfolding sieve
sieve-ext f g a zero h = refl
sieve-ext f g a (suc n) h =
    ap₂ (λ (b : Bool) (z : List ℕ). pick b (a ∷ z) z) (h a (omega arith) (omega arith)) (sieve-ext f g (suc a) n (λ c l u. h c (omega arith) (omega arith)))

-- they rise
rising-less : (a : ℕ) (xs : List ℕ) → Rising (suc a) xs → Rising a xs
rising-less a [] h = tt
rising-less a (x ∷ xs) h = (omega (arith, h.0), h.1)

-- one more at the end
abbrev last_one : (ℕ → Bool) → ℕ → List ℕ
last_one f c = pick (f c) (c ∷ []) []

sieve-first : (f : ℕ → Bool) (a n : ℕ) (z : List ℕ) → sieve f (suc a) (suc n) ≡ sieve f (suc a) n ++ z → sieve f a (suc (suc n)) ≡ sieve f a (suc n) ++ z
sieve-first f a n z h = go (f a) refl
  where
    go : (b : Bool) → f a ≡ b → sieve f a (suc (suc n)) ≡ sieve f a (suc n) ++ z
    go true q = sieve-yes f a (suc n) q ∙ ap (λ (y : List ℕ). a ∷ y) h ∙ ap (λ (y : List ℕ). y ++ z) (sym (sieve-yes f a n q))
    go false q = sieve-no f a (suc n) q ∙ h ∙ ap (λ (y : List ℕ). y ++ z) (sym (sieve-no f a n q))

pub sieve-snoc : (f : ℕ → Bool) (a n : ℕ) → sieve f a (suc n) ≡ sieve f a n ++ pick (f (a + n)) ((a + n) ∷ []) []
unfolding sieve
sieve-snoc f a zero = ap (last_one f) {x = a} {y = a + 0} (omega arith)
sieve-snoc f a (suc n) =
    sieve-first f a n (last_one f (a + suc n))
    (sieve-snoc f (suc a) n ∙ ap (λ (z : ℕ). sieve f (suc a) n ++ last_one f z) {x = suc a + n} {y = a + suc n} (omega arith))

pub sieve-rising : (f : ℕ → Bool) (a n : ℕ) → Rising a (sieve f a n)
unfolding sieve
sieve-rising f a zero = tt
sieve-rising f a (suc n) = go (f a) refl (sieve-rising f (suc a) n)
  where
    go : (b : Bool) → f a ≡ b → Rising (suc a) (sieve f (suc a) n) → Rising a (sieve f a (suc n))
    go true e h = rw (sieve-yes f a n e) (omega arith, h)
    go false e h = rw (sieve-no f a n e) (rising-less a (sieve f (suc a) n) h)

pub sieve-le : (f : ℕ → Bool) (a n : ℕ) → length (sieve f a n) ≤ n
unfolding sieve
sieve-le f a zero = omega arith
sieve-le f a (suc n) = go (f a) refl (sieve-le f (suc a) n)
  where
    go : (b : Bool) → f a ≡ b → length (sieve f (suc a) n) ≤ n → length (sieve f a (suc n)) ≤ suc n
    go true e h = omega (arith, ap length (sieve-yes f a n e))
    go false e h = omega (arith, ap length (sieve-no f a n e))

-- ---- a list of cells in which each stands once has as many as there are
counted : (C : ℕ) (xs : List ℕ) → ((c : ℕ) → 1 ≤ occurrences c xs → (1 ≤ c) × (c ≤ C)) → sum (tabulate C (λ j. occurrences (suc j) xs)) ≡ length xs
unfolding occurrences
counted C [] h = sum-nones C (λ j. 0) (λ j. refl)
counted C (x ∷ xs) h = go x (h x (omega (arith, one_same x))) (counted C xs (λ c q. h c (omega arith)))
  where
    go : (y : ℕ) → (1 ≤ y) × (y ≤ C) → sum (tabulate C (λ j. occurrences (suc j) xs)) ≡ length xs
        → sum (tabulate C (λ j. one (eqb (suc j) y) + occurrences (suc j) xs)) ≡ suc (length xs)
    go zero w e = absurd (omega (arith, w.0))
    go (suc i) w e =
        omega (
          arith,
          sum-tabulate-one C (λ j. one (eqb (suc j) (suc i)) + occurrences (suc j) xs) (λ j. occurrences (suc j) xs) i (omega (arith, w.1))
              (λ j q. omega (arith, one-other (suc j) (suc i) (λ r. q (omega (arith, r))))),
          one_same (suc i),
        )

sum-all-ones : (n : ℕ) → sum (tabulate n (λ _. 1)) ≡ n
unfolding tabulate sum
sum-all-ones zero = refl
sum-all-ones (suc n) = omega (arith, sum-all-ones n)

pub once-length : (C : ℕ) (xs : List ℕ) → ((c : ℕ) → occurrences c xs ≡ is_cell C c) → length xs ≡ C
once-length C xs h =
    sym (counted C xs (λ c q. cell-is C c (omega (arith, h c))))
    ∙ ap sum (tabulate-ext C (λ j. occurrences (suc j) xs) (λ _. 1) (λ j l. h (suc j) ∙ cell_in C (suc j) (omega arith) (omega arith)))
    ∙ sum-all-ones C
