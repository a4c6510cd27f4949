-- The days cut the hours without a gap, and the empty list gives document 01's days. Assumes nothing.
use mathlib.Core.Path.{◌≡◌, refl, ap}
use mathlib.Core.List.{List, []}
use Prim.Native.Nat.{ℕ, zero, suc, ◌+◌, ◌*◌}
use native.Mathlib.Nat.{mul-suc}
use native.Mathlib.Omega.{arith}
use Rattle.lists.specs.Lists.{sum, tabulate}
use Rattle.lists.proofs.Sums.{sum-next}
use Rattle.days.specs.Days.{day_end, day_hours, day_start}

-- ---- day 0 starts at hour 0, and each later day where the one before it ends
pub first-start : (cs : List ℕ) → day_start cs 0 ≡ 0
unfolding day_start sum tabulate
first-start cs = refl

pub next_start : (cs : List ℕ) (d : ℕ) → day_start cs (d + 1) ≡ day_end cs d
unfolding day_start day_end
next_start cs d = sum-next (day_hours cs) d

-- ---- 'An empty list gives the old answers': document 01's hours 24d and 24d + 24
twenty-fours : (d : ℕ) → sum (tabulate d (λ j. 24)) ≡ 24 * d
unfolding sum tabulate
twenty-fours zero = refl
twenty-fours (suc d) = omega (arith, mul-suc 24 d, twenty-fours d)

pub old-start : (d : ℕ) → day_start [] d ≡ 24 * d
unfolding day_start day_hours
old-start d = twenty-fours d

pub old-end : (d : ℕ) → day_end [] d ≡ 24 * d + 24
unfolding day_end day_hours
old-end d = ap (λ (z : ℕ). z + 24) (old-start d)
