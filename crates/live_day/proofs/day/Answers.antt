-- `live_day::day` meets its contract. Assumes nothing.
use native.Mathlib.Omega.{arith}
use Rattle.store.specs.Reading.{list_in}
use Rattle.store.proofs.SoundFacts.{facts}
use Rattle.live_day.proofs.DayCall.{day-16, day-7, day-fits, day-is, fitting, reading-mono}
use Rattle.live_day.proofs.day.Goals as goal

pub returns-then-not-fit : goal.returns-then-not-fit
returns-then-not-fit c =
    day-16 c.args.s.is_sound c.args.d c.args.changes.now c.fit.ensures c.if-not-fit.true-raw

pub of-head-requires : goal.of-head-requires
of-head-requires c = let b = c in omega (arith, (facts b.args.s.bytes.now b.args.s.is_sound).long)

pub start_of-start-requires : goal.start_of-start-requires
start_of-start-requires c = fitting _ c.fit.ensures c.if-not-fit.false-raw

pub hours_of-requires : goal.hours_of-requires
hours_of-requires c = fitting _ c.fit.ensures c.if-not-fit.false-raw

pub overflow_add-end : goal.overflow_add-end
overflow_add-end c =
    omega (
      arith,
      day-fits c.args.changes.now c.args.d (fitting _ c.fit.ensures c.if-not-fit.false-raw) c.start_of-start.ensures
          c.hours_of.ensures,
    )

pub returns-then-head-end : goal.returns-then-head-end
returns-then-head-end c =
    day-7 c.args.s.is_sound c.args.d c.args.changes.now (fitting _ c.fit.ensures c.if-not-fit.false-raw) c.of-head.ensures
    c.start_of-start.ensures c.hours_of.ensures c.if-head-end.true

pub overflow_sub-result : goal.overflow_sub-result
overflow_sub-result c =
    omega (
      arith,
      c.reading_in.ensures,
      c.reading_in-2.ensures,
      reading-mono (list_in c.args.s.bytes.now) c.start_of-start.result c.hours_of.result,
    )

pub returns : goal.returns
returns c =
    day-is c.args.s.is_sound c.args.d c.args.changes.now (fitting _ c.fit.ensures c.if-not-fit.false-raw) c.of-head.ensures
    c.start_of-start.ensures c.hours_of.ensures _ _ c.if-head-end.false c.reading_in.ensures c.reading_in-2.ensures
