-- `image_match::find::find` meets its contract. Assumes nothing.
use mathlib.Core.Path.{◌≡◌}
use Prim.Native.Nat.{◌*◌, ◌^◌}
use Rattle.lists.specs.Lists.{reading}
use Rattle.image.specs.Read.{list_of}
use Rattle.match_seek.specs.Code.Seek.{Seeks}
use Rattle.match_seek.proofs.SeekLaws.{sought}
use Rattle.image_match.proofs.find.find.Given as goal

abbrev pub ghost-visit : goal.ghost-visit
ghost-visit a = sought (list_of a.back.now.image.now.bytes.now) a.page.first a.at

abbrev pub invariant-loop-p : goal.invariant-loop-p
invariant-loop-p l =
    Seeks (list_of l.image.bytes.now) l.q (2 ^ l.image.head.e * l.p) l.at × (l.back.hour ≡ l.at.lo) × (l.back.image.now ≡ l.image)
    × (l.before ≡ reading (list_of l.image.bytes.now) (2 ^ l.image.head.e * l.p))
