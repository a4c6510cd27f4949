-- The pages of a list, each a window of it. Assumes nothing.
use mathlib.Core.Path.{◌≡◌, ap}
use mathlib.Core.List.{List}
use Prim.Native.Nat.{ℕ, ◌+◌, ◌*◌, ◌^◌, ◌≤◌, ◌<◌}
use native.Mathlib.Omega.{arith}
use lib.ListN.{get_or}
use Rattle.lists.specs.Lists.{sum, window}
use Rattle.lists.proofs.Sums.{sum-most}
use Rattle.image.specs.Image.{page}

pub page-window : (e : ℕ) (xs : List ℕ) (p m : ℕ) → m ≡ 2 ^ e → window xs (m * p) (2 ^ e) ≡ page e xs p
unfolding page
page-window e xs p m em = ap (λ (z : ℕ). window xs (z * p) (2 ^ e)) em

-- the sum of n counts of 32 bits
pub window-most : (xs : List ℕ) (f n s : ℕ) → ((i : ℕ) → get_or xs i 0 < 4294967296) → s ≡ sum (window xs f n) → s ≤ 4294967295 * n
unfolding window
window-most xs f n s h q = rw q (sum-most 4294967295 n (λ j. get_or xs (f + j) 0) (λ j. omega (arith, h (f + j))))
