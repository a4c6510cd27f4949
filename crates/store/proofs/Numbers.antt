-- Numbers of two and of four bytes that fit. Assumes nothing.
use mathlib.Core.Path.{◌≡◌}
use Prim.Native.Nat.{ℕ, ◌≤◌, ◌<◌}
use native.Mathlib.Omega.{arith}
use Rattle.bits.specs.Numbers.{little, number}
use Rattle.bits.proofs.Little.{number-little}

pub number-two : (x : ℕ) → x < 65536 → number (little 2 x) ≡ x
number-two x h = number-little 2 x (omega arith)

pub number-four : (x : ℕ) → x ≤ 4294967295 → number (little 4 x) ≡ x
number-four x h = number-little 4 x (omega arith)
