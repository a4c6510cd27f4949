-- The loop's invariant: the test of the list is that of the pairs that are left. Assumes nothing.
use Rattle.std.proofs.Common.{◌≡◌, ◌*◌, ◌≤◌, drop}
use Rattle.days.specs.Days.{changes_fit}
use Rattle.days.proofs.Pairs.{fit_from}
use Rattle.days.proofs.fit.Given as goal

abbrev pub invariant-loop-day : goal.invariant-loop-day
invariant-loop-day l = (l.from ≤ 4294967296) × (changes_fit l.changes ≡ fit_from l.from (drop (2 * l.day-index) l.changes))
