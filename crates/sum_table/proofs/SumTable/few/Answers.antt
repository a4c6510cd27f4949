-- `SumTable::few` meets its contract. Assumes nothing.
use Rattle.std.proofs.Common.{ℕ, ◌*◌, ◌^◌, ◌<◌, arith}
use native.Mathlib.Nat.{lt_of_lt_of_le}
use lib.Pow.{pow_mono}
use Rattle.sum_table.proofs.SumTable.few.Goals as goal

-- no code of two coins has more than six bits
small : {s v : ℕ} → s < 3 → v < 2 ^ (3 * s) → v < 64
small {s} k l = lt_of_lt_of_le l (pow_mono {i = 3 * s} {j = 6} (omega arith))

pub bounds-self-at : goal.bounds-self-at
bounds-self-at c = omega (arith, small c.requires.0 c.requires.1)

pub bounds-self-at-2 : goal.bounds-self-at-2
bounds-self-at-2 c = omega (arith, small c.requires.0 c.requires.1)
