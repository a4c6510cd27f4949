-- `freeze_plan::add_parts` meets its contract. Assumes nothing.
use mathlib.Core.Path.{◌≡◌}
use Prim.Native.Nat.{ℕ}
use Rattle.store.specs.Reading.{list_in}
use Rattle.image_plan.specs.Code.Planning.{Drafted}
use Rattle.freeze_plan.proofs.add_parts.Given as goal

abbrev pub invariant-loop-page : goal.invariant-loop-page
invariant-loop-page l = record { drafted : Drafted l.fn.plan.e (list_in l.own.bytes.now) l.next; at : l.next.done ≡ l.page }
