-- The loop's invariant: the pairs that are left move the start by as much as they would move that of an unchanged list. Assumes nothing.
use Rattle.std.proofs.Common.{◌≡◌, ◌+◌, ◌*◌, drop}
use Rattle.days.specs.Days.{day_start}
use Rattle.days.proofs.start_of.Given as goal

abbrev pub invariant-loop-day : goal.invariant-loop-day
invariant-loop-day l = l.start + day_start (drop (2 * l.day-index) l.changes) l.d ≡ day_start l.changes l.d + 24 * l.d
