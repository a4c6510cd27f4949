-- `match_seek::front::Front::pass` meets its contract. Assumes nothing.
use native.Mathlib.Omega.{arith}
use Rattle.image_cursor.proofs.CursorLaws.{ahead-part, hours, page-small as pages-small, small}
use Rattle.match_seek.proofs.front.Front.pass.Goals as goal

pub low_bits-b-requires : goal.low_bits-b-requires
low_bits-b-requires g c =
    let a = c.args.self.now.image.now in
    omega (arith, small _ a.head_of a.accepted)

pub ahead-requires : goal.ahead-requires
ahead-requires g c =
    let a = c.args.self.now.image.now in
    (small _ a.head_of a.accepted, a.head_of.hours-small, omega (arith, c.requires.0.0.inside, hours _ a.head_of))

pub slice_bounds-pass_hours-end : goal.slice_bounds-pass_hours-end
slice_bounds-pass_hours-end g c =
    let a = c.args.self.now.image.now in
    omega (arith, c.ahead.ensures.room, c.low_bits-b.ensures, pages-small _ a.head_of a.accepted)

pub pass_hours-requires : goal.pass_hours-requires
pass_hours-requires g c =
    let a = c.args.self.now.image.now in
    (c.requires.0, ahead-part _ a.head_of a.accepted c.args.at.lo _ _ _ _ c.low_bits-b.ensures c.ahead.ensures (rw (c.requires.1.1, c.requires.1.0) at c.args.back.now.ready) (omega arith))
