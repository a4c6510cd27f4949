-- `match_seek::front::Front::pass_hours` meets its contract. Assumes nothing.
use mathlib.Core.Path.{◌≡◌}
use Prim.Native.Nat.{◌+◌}
use Rattle.image.specs.Read.{list_of}
use Rattle.match_seek.specs.Code.Seek.{Passing}
use Rattle.match_seek.proofs.front.Front.pass_hours.Given as goal

abbrev pub ghost-skip : goal.ghost-skip
ghost-skip g a = g.q

abbrev pub invariant-loop-count : goal.invariant-loop-count
invariant-loop-count g l = (l.next.lo ≡ l.initial.next.lo + l.count-index) × Passing (list_of l.self.image.now.bytes.now) g.q l.self.page l.next
