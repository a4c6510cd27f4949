-- The claim of document 02's note 6 holds. Assumes nothing.
use mathlib.Core.List.{List}
use mathlib.Core.Path.{◌≡◌}
use Prim.Native.Nat.{ℕ, ◌+◌, ◌<◌}
use native.Mathlib.Omega.{arith}
use lib.ListN.{length, get_or}
use Rattle.lists.specs.Lists.{sum}
use Rattle.reserve.specs.Reserve.{ceil}
use Rattle.reserve.proofs.Fit.{double-64}
use Rattle.store.proofs.HourLaws.{sum-set}
use Rattle.coin_cost.specs.Cost.{CoinCost, more}
use Rattle.coin_cost.proofs.CellLaws.{coins, sharper}
use Rattle.coin_cost.proofs.CallCosts.{call-takes, change-rises}

sum_more : (xs : List ℕ) (j d : ℕ) → j < length xs → sum (more xs j d) ≡ sum xs + d
sum_more xs j d l = omega (arith, sum-set xs j (get_or xs j 0 + d) l)

pub coin-cost : CoinCost
unfolding ceil
coin-cost = record {
  forty = λ xs j d l. rw (sum_more xs j d l) (omega (arith, sharper (sum xs) d));
  lesser = λ xs j d l m. rw (sum_more xs j d l) (coins (sum xs) d m);
  twice = λ s. omega (arith, double-64 s);
  calls = call-takes;
  changes = change-rises;
}
