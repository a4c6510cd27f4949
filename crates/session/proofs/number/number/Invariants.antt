-- `session::number::number` meets its contract. Assumes nothing.
use Rattle.std.proofs.Common.{◌≡◌, ◌≤◌, drop}
use Rattle.session.specs.Number.{number}
use Rattle.session.proofs.DigitLaws.{number_from}
use Rattle.session.proofs.number.number.Given as goal

abbrev pub invariant-loop-b : goal.invariant-loop-b
invariant-loop-b l = record { in_range : l.value ≤ 4294967295; rest : number l.s ≡ number_from l.value (drop l.b-index l.s) }
