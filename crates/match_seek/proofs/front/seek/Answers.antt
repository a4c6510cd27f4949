-- `match_seek::front::seek` meets its contract. Assumes nothing.
use mathlib.Core.Path.{refl, ◌∙◌}
use native.Mathlib.Omega.{arith}
use Rattle.image_cursor.proofs.CursorLaws.{hours}
use Rattle.match_page.proofs.PageLaws.{counts-small}
use Rattle.sum_marks.proofs.PrefixLaws.{prefix-first, prefix-wider}
use Rattle.match_seek.proofs.SeekLaws.{counts-long, found_here, over-missed, want-grows}
use Rattle.match_seek.proofs.front.seek.Goals as goal

pub loop-at-init : goal.loop-at-init
loop-at-init g c = (c.requires.1.0, c.requires.1.1, prefix-first _ _, refl)

pub attempt-there-requires-clause-so_far : goal.attempt-there-requires-clause-so_far
attempt-there-requires-clause-so_far g c =
    let a = c.args.back.now.image.now in
    (counts-small _ a.accepted a.head_of _ _ c.requires.0.0 c.requires.0.1.counts-are, c.loop-at.invariant.2)

pub overflow_add-end : goal.overflow_add-end
overflow_add-end g c =
    let a = c.args.back.now.image.now in
    let p = c.requires.0 in
    let l = counts-long _ _ _ p.1.counts-are p.0 in
    record { fits = omega (arith, l, c.attempt-there.ensures.prefix.inside, p.0.inside, hours _ a.head_of, a.head_of.hours-small) }

pub returns-then-there-at : goal.returns-then-there-at
returns-then-there-at g c =
    let p = c.requires.0 in
    let v = c.loop-at.invariant in
    (found_here _ _ _ p.0 _ v.0 (omega (arith, c.loop-at-test.true)) _ p.1.counts-are _ c.attempt-there.ensures c.if-there-at.true, v.3)

pub overflow_sub-result : goal.overflow_sub-result
overflow_sub-result g c = omega (arith, (returns-then-there-at g c).0.matches.some)

pub pass-next-requires : goal.pass-next-requires
pass-next-requires g c =
    let p = c.requires.0 in
    let v = c.loop-at.invariant in
    let n = over-missed _ _ _ p.0 _ v.0 c.loop-at-test.true _ p.1.counts-are _ c.attempt-there.ensures c.if-there-at.false in
    ((v.0, c.loop-at-test.true, n), (v.1, v.3))

pub turn-requires : goal.turn-requires
turn-requires g c =
    let v = c.loop-at.invariant in
    rw (v.1, v.3) (omega (arith, v.0.inside, hours _ c.args.back.now.image.now.head_of), c.pass-next.ensures.room)

pub loop-at-smaller : goal.loop-at-smaller
loop-at-smaller g c =
    let x = c.pass-next.ensures in
    omega (arith, x.on, x.seeks.inside, hours _ c.args.back.now.image.now.head_of)

pub loop-at-preserved : goal.loop-at-preserved
loop-at-preserved g c =
    let x = c.pass-next.ensures in
    let v = c.loop-at.invariant in (
      x.seeks,
      omega (arith, c.turn.ensures.0, v.1, x.on),
      prefix-wider _ _ _ _ (want-grows _ _ _ _ v.0 _ x.seeks x.on) c.attempt-there.ensures.prefix,
      c.turn.ensures.1 ∙ v.3,
    )
