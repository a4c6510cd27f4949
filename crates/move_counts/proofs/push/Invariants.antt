-- `move_counts::push` meets its contract. The loop's invariant: the count in hand, put back, gives what was there with v before it. Assumes nothing.
use mathlib.Core.Path.{◌≡◌}
use mathlib.Core.List.{◌∷◌}
use Rattle.store.specs.Plain.{inserted}
use Rattle.move_counts.proofs.push.Given as goal

abbrev pub invariant-loop-count : goal.invariant-loop-count
invariant-loop-count l = inserted l.count-items l.count-index l.next ≡ l.v ∷ l.initial.count-items
