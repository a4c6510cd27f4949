-- `image_find::find` meets its contract. The loop's invariant: the figure is reached in a page from lo to hi. Assumes nothing.
use Prim.Native.Nat.{◌+◌, ◌-◌, ◌≤◌}
use Rattle.image_find.specs.Code.Span.{Between}
use Rattle.image_find.proofs.find.Given as goal

abbrev pub invariant-loop-at : goal.invariant-loop-at
invariant-loop-at l = record { between : Between l.image.bytes.now l.q l.at; turns : l.turn + (l.at.hi - l.at.lo) ≤ l.n }

abbrev pub decreases-loop-at : goal.decreases-loop-at
decreases-loop-at l = l.at.hi - l.at.lo
