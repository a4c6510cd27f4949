-- `sound_page::page_fits` meets its contract: each return is one of the three tests of a page's code. Assumes nothing.
use mathlib.Core.Path.{refl, sym}
use native.Mathlib.Omega.{arith}
use Rattle.sound_page.proofs.PageTest.{Paged, few, fits-hours, fits-no-rest, fits-no-tree, fits-none, holds, page-lies}
use Rattle.sound_page.proofs.page_fits.Goals as goal

pub returns-then-s-eq0 : goal.returns-then-s-eq0
returns-then-s-eq0 c =
    let g : Paged c.args.code.now c.args.s c.args.p c.args.hours = record { long = omega arith; handed = c.requires.0 } in
    fits-none g c.requires.1 (λ i. omega (arith, c.fits-code i)) c.if-s-eq0.true

pub check-requires : goal.check-requires
check-requires c =
    let g : Paged c.args.code.now c.args.s c.args.p c.args.hours = record { long = omega arith; handed = c.requires.0 } in
    page-lies g

pub returns-then-not-check : goal.returns-then-not-check
returns-then-not-check c =
    let g : Paged c.args.code.now c.args.s c.args.p c.args.hours = record { long = omega arith; handed = c.requires.0 } in
    fits-no-tree g c.requires.1 (λ i. omega (arith, c.fits-code i)) c.if-not-check.ensures

pub overflow_mul-k : goal.overflow_mul-k
overflow_mul-k c =
    let g : Paged c.args.code.now c.args.s c.args.p c.args.hours = record { long = omega arith; handed = c.requires.0 } in
    omega (arith, few g c.requires.1)

pub overflow_sub-k : goal.overflow_sub-k
overflow_sub-k c =
    let g : Paged c.args.code.now c.args.s c.args.p c.args.hours = record { long = omega arith; handed = c.requires.0 } in
    omega (arith, c.reserve_of-used.ensures, holds g c.requires.1)

pub zero_bits-requires : goal.zero_bits-requires
zero_bits-requires c =
    let g : Paged c.args.code.now c.args.s c.args.p c.args.hours = record { long = omega arith; handed = c.requires.0 } in
    let most = few g c.requires.1 in
    let room = holds g c.requires.1 in
    let used = c.reserve_of-used.ensures in
    (omega arith, omega arith, omega arith)

pub returns-then-not-zero_bits : goal.returns-then-not-zero_bits
returns-then-not-zero_bits c =
    let g : Paged c.args.code.now c.args.s c.args.p c.args.hours = record { long = omega arith; handed = c.requires.0 } in
    fits-no-rest g c.requires.1 (λ i. omega (arith, c.fits-code i)) (sym c.if-not-check.ensures)
    c.reserve_of-used.ensures c.if-not-zero_bits.ensures refl

pub hours_fit-requires : goal.hours_fit-requires
hours_fit-requires c =
    (c.requires.0, sym c.if-not-check.ensures)

pub returns : goal.returns
returns c =
    let g : Paged c.args.code.now c.args.s c.args.p c.args.hours = record { long = omega arith; handed = c.requires.0 } in
    fits-hours g c.requires.1 (λ i. omega (arith, c.fits-code i)) (sym c.if-not-check.ensures)
    c.reserve_of-used.ensures c.if-not-zero_bits.ensures refl c.hours_fit.ensures
