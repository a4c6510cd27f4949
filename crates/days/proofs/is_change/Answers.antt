-- `days::is_change` meets its contract. Assumes nothing.
use mathlib.Core.Path.{◌≡◌, sym, ap, ◌∙◌}
use mathlib.Core.Bool.{Bool, ◌||◌}
use Prim.Native.Nat.{ℕ, ◌+◌, ◌-◌}
use native.Mathlib.Decide.{ℕ_discrete}
use native.Mathlib.Omega.{arith}
use lib.Dec.{eqb}
use borrow.Author.Tests.{eq-eqb, ne_eqb}
use Rattle.days.specs.Days.{is_change_day}
use Rattle.days.proofs.is_change.Goals as goal

-- a number is 23 or 25 where it is 1 away from 24
one-away : (h a : ℕ) → a ≡ (h - 24) + (24 - h) → eqb a 1 ≡ is_change_day h
unfolding is_change_day
one-away h a e = go (ℕ_discrete h 23) (ℕ_discrete h 25)
  where
    go : Dec (h ≡ 23) → Dec (h ≡ 25) → eqb a 1 ≡ (eqb h 23 || eqb h 25)
    go (yes p) q = eq-eqb a 1 (omega (arith, e, p)) ∙ sym (ap (λ (b : Bool). b || eqb h 25) (eq-eqb h 23 p))
    go (no m) (yes q) = eq-eqb a 1 (omega (arith, e, q)) ∙ sym (ap (λ (b : Bool). b || eqb h 25) (ne_eqb h 23 m) ∙ eq-eqb h 25 q)
    go (no m) (no n) =
        ne_eqb a 1 (λ (k : a ≡ 1). omega (arith, e, k, m, n)) ∙ sym (ap (λ (b : Bool). b || eqb h 25) (ne_eqb h 23 m) ∙ ne_eqb h 25 n)

pub returns : goal.returns
returns c = one-away c.args.hours c.abs_diff.result c.abs_diff.ensures
