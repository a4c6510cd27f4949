-- `image_put::put_block` meets its contract. Assumes nothing.
use mathlib.Core.Path.{◌≡◌}
use Rattle.image_put.specs.Code.Writing.{Blocked, Laid}
use Rattle.image_put.proofs.put_block.Given as goal

abbrev pub invariant-loop-page : goal.invariant-loop-page
invariant-loop-page l = record {
  laid : (a : Blocked l.r l.k l.fn.at l.counts l.fn.out) → Laid a.xs a.first l.out l.r l.next;
  at : l.next.page ≡ l.page;
}
