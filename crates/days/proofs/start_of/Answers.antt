-- `days::start_of` meets its contract. Assumes nothing.
use Rattle.std.proofs.Common.{◌+◌, ◌*◌, arith}
use Rattle.days.proofs.Pairs.{fit}
use Rattle.days.proofs.Turns.{hours-is, no-borrow, none-left, start-below, start-more, start-same}
use Rattle.days.proofs.start_of.Goals as goal
use Rattle.days.proofs.start_of.Goals.{then-day-d, else-day-d}

pub overflow_add-start : goal.overflow_add-start
overflow_add-start c =
    let cs = c.args.changes.now in
    let l = c.loop-day in
    omega (
      arith,
      c.from.ensures,
      hours-is cs _ l.day-index c.as_chunks.ensures.front c.loop-day-test.true,
      c.type_inv.changes (2 * l.day-index + 1),
      l.invariant,
      start-below cs 0 c.args.d c.requires,
    )

pub overflow_sub-start : goal.overflow_sub-start
overflow_sub-start c =
    let l = c.loop-day in
    omega (
      arith,
      c.from.ensures,
      no-borrow _ _ l.day-index c.as_chunks.ensures.front c.loop-day-test.true c.args.d l.start c.requires l.invariant c.if-day-d.true,
    )

pub loop-day-preserved : goal.loop-day-preserved
loop-day-preserved c =
    let l = c.loop-day in
    let all = c.as_chunks.ensures.front in
    let more = c.loop-day-test.true in
    elim c.if-day-d.branch [
      | then-day-d w ↦
          omega (arith, w.start-is, w.from.ensures, start-more _ _ l.day-index all more c.args.d l.start c.requires l.invariant w.if-day-d.true)
      | else-day-d w ↦ omega (arith, w.start-is, start-same _ _ l.day-index all more c.args.d l.start c.requires l.invariant w.if-day-d.false)
    ]

pub returns : goal.returns
returns c =
    let l = c.loop-day in
    omega (arith, l.invariant, none-left _ _ l.day-index c.as_chunks.ensures.front c.loop-day-test.false (fit _ c.requires).even c.args.d)
