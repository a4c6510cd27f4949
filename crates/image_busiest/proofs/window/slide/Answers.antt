-- `image_busiest::window::slide` meets its contract. Assumes nothing.
use mathlib.Core.Path.{ap₂, ◌∙◌}
use native.Mathlib.Omega.{arith}
use Rattle.image_cursor.proofs.CursorLaws.{small}
use Rattle.image_busiest.specs.Code.{later}
use Rattle.image_busiest.proofs.WindowLaws.{back-place, can-move, front-place, moves}
use Rattle.image_busiest.proofs.window.slide.Goals as goal

pub low_bits-f-requires : goal.low_bits-f-requires
low_bits-f-requires g c =
    let a = c.args.front.now.image.now in
    omega (arith, small _ a.head_of a.accepted)

pub low_bits-b-requires : goal.low_bits-b-requires
low_bits-b-requires g c =
    let a = c.args.back.now.image.now in
    omega (arith, small _ a.head_of a.accepted)

pub bounds-front-f : goal.bounds-front-f
bounds-front-f g c =
    let l = c.loop-i in
    front-place c.args.front.now c.args.back.now g.k l.i c.args.n c.args.at l.w c.requires.1 c.requires.0.1 c.loop-i-test.true l.invariant.1
    l.invariant.0 _ _ c.low_bits-f.ensures c.low_bits-b.ensures

pub bounds-back-b : goal.bounds-back-b
bounds-back-b g c =
    let l = c.loop-i in
    back-place c.args.front.now c.args.back.now g.k l.i c.args.n c.args.at l.w c.requires.1 c.requires.0.1 c.loop-i-test.true l.invariant.1
    l.invariant.0 _ _ c.low_bits-f.ensures c.low_bits-b.ensures

pub moved-w-requires : goal.moved-w-requires
moved-w-requires g c =
    let l = c.loop-i in
    rw (c.from.ensures, c.from-in-loop-i.ensures) (can-move c.args.front.now c.args.back.now g.k l.i c.args.n c.args.at l.w c.requires.1
    c.requires.0.1 c.loop-i-test.true l.invariant.1 l.invariant.0 _ _ c.low_bits-f.ensures c.low_bits-b.ensures)

pub loop-i-preserved : goal.loop-i-preserved
loop-i-preserved g c =
    let l = c.loop-i in
    moves c.args.front.now c.args.back.now g.k l.i c.args.n c.args.at l.w c.requires.1 c.requires.0.1 c.loop-i-test.true l.invariant.1
    l.invariant.0 _ _ c.low_bits-f.ensures c.low_bits-b.ensures _ (c.moved-w.ensures ∙ ap₂ (later l.w) c.from.ensures c.from-in-loop-i.ensures)
