-- `bits_word::low_bits` meets its contract: 1 << n is 2 ^ n, so the mask keeps the n low digits. Assumes nothing.
use mathlib.Core.Path.{◌≡◌, ◌∙◌}
use Prim.Native.Nat.{ℕ, ◌*◌, ◌%◌, ◌^◌, ◌<◌}
use native.Mathlib.Nat.{one-mul}
use native.Mathlib.Omega.{arith}
use lib.Dec.{lit<}
use lib.Pow.{shl_exact}
use lib.Bits.{and_mask}
use Rattle.bits_word.proofs.low_bits.Goals as goal

one_shl : (n : ℕ) → n < 64 → (1 * 2 ^ n) % 2 ^ 64 ≡ 2 ^ n
one_shl n h = shl_exact 1 n 64 (lit< tt) (omega arith) ∙ one-mul (2 ^ n)

pub returns : goal.returns
returns c = rw (one_shl c.args.n c.requires) (and_mask c.args.x c.args.n)
