-- `match_seek::front::seek` meets its contract. Assumes nothing.
use mathlib.Core.Path.{◌≡◌}
use Prim.Native.Nat.{◌-◌}
use Rattle.image.specs.Read.{list_of}
use Rattle.sum_marks.specs.Code.Prefix.{PrefixOf}
use Rattle.match_seek.specs.Code.Seek.{Seeks}
use Rattle.match_seek.proofs.front.seek.Given as goal

abbrev pub ghost-pass : goal.ghost-pass
ghost-pass g a = g.q

abbrev pub invariant-loop-at : goal.invariant-loop-at
invariant-loop-at g l =
    Seeks (list_of l.fn.back.image.now.bytes.now) g.q l.page.first l.at × (l.back.hour ≡ l.at.lo)
    × PrefixOf l.counts l.at.want l.there × (l.back.image.now ≡ l.fn.back.image.now)

abbrev pub decreases-loop-at : goal.decreases-loop-at
decreases-loop-at g l = l.fn.back.image.now.head.hours - l.at.lo
