-- The check's verdict: what it is, and what it says. Assumes nothing.
use mathlib.Core.Bool.{Bool, true, false}
use mathlib.Core.List.{List}
use mathlib.Core.Logic.{◌⊎◌, inl, inr}
use mathlib.Core.Path.{◌≡◌, refl, sym, ◌∙◌}
use Prim.Native.Nat.{ℕ}
use native.Mathlib.Omega.{arith}
use Rattle.answers.specs.Image.{fails, holds}
use Rattle.lists.specs.Lists.{pick}
use Rattle.lists.proofs.Tests.{left}
use Rattle.image.specs.Check.{accepted, check, headed}
use Rattle.image.specs.Read.{n_of, s_of}

pub check-5 : (s : List ℕ) → headed s ≡ false → check s ≡ fails 5
unfolding check pick
check-5 s e = rw e

pub past-5 : (s : List ℕ) → accepted s ≡ true → headed s ≡ true
unfolding accepted
past-5 s a = left (headed s) _ a

pub check-holds : (s : List ℕ) → accepted s ≡ true → check s ≡ holds (n_of s) (s_of s)
unfolding check pick
check-holds s a = rw (past-5 s a, a)

pub check-held : (s : List ℕ) (n t : ℕ) → check s ≡ holds n t → accepted s ≡ true
unfolding check pick
check-held s n t e = go (headed s) (accepted s) e
  where
    go : (a b : Bool) → pick a (pick b (holds (n_of s) (s_of s)) (fails 6)) (fails 5) ≡ holds n t → b ≡ true
    go true true q = refl
    go true false q = let z : ◌≡◌ {A = ℕ} 0 1 = cc in absurd (omega arith)
    go false b q = let z : ◌≡◌ {A = ℕ} 0 1 = cc in absurd (omega arith)

-- ---- accepted, or refused by the check; never both, and by one number alone
pub accepted-or : (s : List ℕ) → (accepted s ≡ true) ⊎ ((j : ℕ) × (check s ≡ fails j))
unfolding check pick
accepted-or s = go (headed s) refl (accepted s) refl
  where
    go : (a : Bool) → headed s ≡ a → (b : Bool) → accepted s ≡ b → (accepted s ≡ true) ⊎ ((j : ℕ) × (check s ≡ fails j))
    go a p true q = inl q
    go true p false q = inr (6, rw (p, q) refl)
    go false p false q = inr (5, rw p refl)

pub not-both : (s : List ℕ) (j : ℕ) → check s ≡ fails j → accepted s ≡ true → ⊥
not-both s j e a =
    let q : holds (n_of s) (s_of s) ≡ fails j = sym (check-holds s a) ∙ e in
    let z : ◌≡◌ {A = ℕ} 0 1 = cc in
    omega arith

pub one-refusal : (s : List ℕ) (i j : ℕ) → check s ≡ fails i → check s ≡ fails j → i ≡ j
one-refusal s i j p q = let e : fails i ≡ fails j = sym p ∙ q in cc

-- it is 5 or 6
pub five-or-six : (s : List ℕ) (j : ℕ) → check s ≡ fails j → (j ≡ 5) ⊎ (j ≡ 6)
unfolding check pick
five-or-six s j e = go (headed s) (accepted s) e
  where
    go : (a b : Bool) → pick a (pick b (holds (n_of s) (s_of s)) (fails 6)) (fails 5) ≡ fails j → (j ≡ 5) ⊎ (j ≡ 6)
    go true true q = let z : ◌≡◌ {A = ℕ} 0 1 = cc in absurd (omega arith)
    go true false q = inr (let z : 6 ≡ j = cc in sym z)
    go false b q = inl (let z : 5 ≡ j = cc in sym z)
