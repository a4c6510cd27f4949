-- `match_seek::front::Front::skip` meets its contract. Assumes nothing.
use mathlib.Core.Path.{◌≡◌}
use Prim.Native.Nat.{◌+◌, ◌*◌}
use Rattle.image.specs.Read.{list_of}
use Rattle.match_seek.specs.Code.Seek.{Passing}
use Rattle.match_seek.proofs.front.Front.skip.Given as goal

abbrev pub invariant-loop-a : goal.invariant-loop-a
invariant-loop-a g l = (l.next.lo ≡ l.fn.at.lo + 4 * l.a-index) × Passing (list_of l.self.image.now.bytes.now) g.q l.self.page l.next
