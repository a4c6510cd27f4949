-- `image_write::plan::add_pages` meets its contract. Assumes nothing.
use mathlib.Core.Path.{◌≡◌}
use Rattle.image_plan.specs.Code.Planning.{Drafted}
use Rattle.image_write.proofs.plan.add_pages.Given as goal

abbrev pub invariant-loop-page : goal.invariant-loop-page
invariant-loop-page l = record { drafted : Drafted l.e l.counts l.next; at : l.next.done ≡ l.page }
