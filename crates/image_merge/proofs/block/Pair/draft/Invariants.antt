-- `image_merge::block::Pair::draft` meets its contract. Assumes nothing.
use mathlib.Core.Path.{◌≡◌}
use Prim.Native.Nat.{ℕ, ◌-◌, ◌*◌, ◌^◌, ◌≤◌, ◌<◌, min}
use lib.ListN.{get_or}
use Rattle.lists.specs.Counts.{max_count}
use Rattle.image_plan.specs.Code.Planning.{Drafted}
use Rattle.image_merge.specs.Code.{sums_of}
use Rattle.image_merge.proofs.block.Pair.draft.Given as goal

abbrev pub invariant-loop-k : goal.invariant-loop-k
invariant-loop-k l = record {
  drafted : Drafted l.fn.plan.e (sums_of l.self) l.next;
  at : l.next.done ≡ min (2 ^ (8 - l.fn.plan.e) * l.k) l.next.pages;
  small : (i : ℕ) → i < 256 * l.k → get_or (sums_of l.self) i 0 ≤ max_count;
}
