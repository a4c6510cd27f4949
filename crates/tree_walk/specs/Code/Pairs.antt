-- What is read of four counts on a walk's way. Assumes nothing.
use Rattle.std.specs.Prelude.{Bool, ◌≡◌, ℕ, ◌+◌, ◌-◌, ◌/◌, ◌%◌, ◌^◌}
use Rattle.lists.specs.Lists.{pick}
use Rattle.reserve.specs.Reserve.{digits}
use Rattle.tree_walk.specs.declared.pairs.Pair.{Pair}

-- one of the two pairs of four counts with sum s and left sum l, the right one where c is true, out of the word w in which their bits
-- stand behind its k high ones: its sum, the sum that is passed on the way to it, and its left count
pub record Entered (w k s l : ℕ) (c : Bool) (r : Pair) : Type 0 where
  pub sum_is : r.sum ≡ pick c (s - l) l
  pub passed_is : r.passed ≡ pick c l 0
  pub count-is : r.count ≡ w / 2 ^ (64 - (k + digits s + digits r.passed + digits r.sum)) % 2 ^ digits r.sum
