-- `move_counts::pull` meets its contract. The loop's invariant: what is left to do gives what all of it gives. Assumes nothing.
use mathlib.Core.Path.{◌≡◌}
use Rattle.move_counts.specs.Code.Turned.{pulled}
use Rattle.move_counts.proofs.pull.Given as goal

abbrev pub invariant-loop-k : goal.invariant-loop-k
invariant-loop-k l = pulled l.initial.counts l.j l.v ≡ pulled l.counts l.k l.v
