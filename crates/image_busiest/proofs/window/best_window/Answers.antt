-- `image_busiest::window::best_window` meets its contract. Assumes nothing.
use mathlib.Core.Path.{refl, sym, ◌∙◌}
use native.Mathlib.Omega.{arith}
use Rattle.image_busiest.proofs.WindowLaws.{found, looked-first, slid, slide-ready}
use Rattle.image_busiest.proofs.window.best_window.Goals as goal

pub loop-front-init : goal.loop-front-init
loop-front-init c =
    let a = c.args.image.now in
    let f = c.read.ensures in
    let b = c.read-2.ensures in (
      looked-first _ a.accepted a.head_of c.args.k _ c.requires.1 c.first_sum-sum.ensures,
      record { same = f.1 ∙ c.new-front.ensures ∙ sym (b.1 ∙ c.new-back.ensures); behind = omega (arith, f.0); first = b.0 },
      b.1 ∙ c.new-back.ensures,
    )

pub slide-at-requires : goal.slide-at-requires
slide-at-requires c =
    let l = c.loop-front in
    slide-ready c.args.image.now c.args.k _ _ l.front l.back l.invariant.2 l.invariant.0 c.stride-n.ensures l.invariant.1 _ refl

pub loop-front-preserved : goal.loop-front-preserved
loop-front-preserved c =
    let l = c.loop-front in
    slid _ _ _ _ _ l.front l.back c.turn.new.self c.follow.new.self l.invariant.2 l.invariant.1 _ refl c.slide-at.ensures c.turn.ensures c.follow.ensures

pub returns : goal.returns
returns c =
    let a = c.args.image.now in
    let l = c.loop-front in
    found _ a.accepted a.head_of c.args.k l.at (omega (arith, c.loop-front-test.false, l.invariant.1.behind)) l.invariant.0
