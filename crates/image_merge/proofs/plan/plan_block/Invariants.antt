-- `image_merge::plan::plan_block` meets its contract. Assumes nothing.
use mathlib.Core.Path.{◌≡◌}
use Rattle.image_plan.specs.Code.Planning.{Drafted}
use Rattle.image_merge.specs.Code.{Block}
use Rattle.image_merge.proofs.plan.plan_block.Given as goal

abbrev pub invariant-loop-page : goal.invariant-loop-page
invariant-loop-page l = record {
  drafted : (a : Block l.counts l.k l.fn.plan) → Drafted l.fn.plan.e a.zs l.next;
  at : l.next.done ≡ l.page;
}
