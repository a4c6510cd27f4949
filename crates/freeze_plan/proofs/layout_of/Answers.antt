-- `freeze_plan::layout_of` meets its contract. Assumes nothing.
use native.Mathlib.Omega.{arith}
use Rattle.std.proofs.Common.{rules}
use Rattle.store.specs.Reading.{list_in}
use Rattle.store.proofs.SoundFacts.{facts}
use Rattle.freeze_plan.proofs.PageEnds.{at_own, hours-are, of-own}
use Rattle.freeze_plan.proofs.layout_of.Goals as goal

pub of-h-requires : goal.of-h-requires
of-h-requires c = omega (arith, (facts c.args.s.bytes.now c.args.s.is_sound).long)

pub returns-in_err-plan : goal.returns-in_err-plan
returns-in_err-plan c =
    search (rules, c.in_err-plan.ensures _ (hours-are c.args.s.bytes.now c.args.s.is_sound c.of-h.result.hours c.of-h.ensures.hours-is))

pub add_pages-requires : goal.add_pages-requires
add_pages-requires c = (
  c.of-h.ensures.pages-is,
  at_own (c.in_ok-plan.ensures.1 _ (hours-are c.args.s.bytes.now c.args.s.is_sound c.of-h.result.hours c.of-h.ensures.hours-is)),
)

pub returns : goal.returns
returns c =
    let d = c.in_ok-plan.ensures.1 _ (hours-are c.args.s.bytes.now c.args.s.is_sound c.of-h.result.hours c.of-h.ensures.hours-is) in
    c.finish.ensures (record { e = _; xs = _; drafted = of-own d c.add_pages.ensures.0; all = c.add_pages.ensures.1 })
