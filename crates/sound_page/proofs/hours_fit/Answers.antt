-- `sound_page::hours_fit` meets its contract: each return is one case of the hours logged. Assumes nothing.
use native.Mathlib.Omega.{arith}
use Rattle.sound_page.proofs.PageTest.{Paged, hours-all, hours-none, hours-some, page-lies}
use Rattle.sound_page.proofs.hours_fit.Goals as goal

pub returns-then-first-hours : goal.returns-then-first-hours
returns-then-first-hours c =
    let g : Paged c.args.code.now c.args.s c.args.p c.args.hours = record { long = omega arith; handed = c.requires.0 } in
    hours-all g c.requires.1 c.if-first-hours.true

pub returns-then-hours-first : goal.returns-then-hours-first
returns-then-hours-first c =
    let g : Paged c.args.code.now c.args.s c.args.p c.args.hours = record { long = omega arith; handed = c.requires.0 } in
    hours-none g c.requires.1 c.if-hours-first.true

pub walk-requires : goal.walk-requires
walk-requires c =
    let g : Paged c.args.code.now c.args.s c.args.p c.args.hours = record { long = omega arith; handed = c.requires.0 } in
    (page-lies g, omega (arith, c.requires.0.small))

pub returns : goal.returns
returns c =
    let g : Paged c.args.code.now c.args.s c.args.p c.args.hours = record { long = omega arith; handed = c.requires.0 } in
    hours-some g c.requires.1 (omega arith) (omega arith) c.walk.ensures (λ r e. grind arith)
