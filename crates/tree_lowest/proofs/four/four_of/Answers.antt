-- `tree_lowest::four::four_of` meets its contract (`Lowest`). Assumes nothing.
use mathlib.Core.Path.{refl}
use native.Mathlib.Omega.{arith}
use Rattle.tree_lowest.proofs.Lowest.{high_fits, quad, quad-above, widths, quad-left, quad-right, quad-spare, quad-last}
use Rattle.tree_lowest.proofs.four.four_of.Goals as goal

pub overflow_sub-high : goal.overflow_sub-high
overflow_sub-high c =
    high_fits _ _ _ c.requires.0 c.digits_of.ensures

pub returns-in_err-right : goal.returns-in_err-right
returns-in_err-right c =
    let q = quad c.requires c.digits_of.ensures in
    rw c.from_residual.ensures (quad-above q c.in_err-right.ensures)

pub overflow_sub-mid : goal.overflow_sub-mid
overflow_sub-mid c =
    let q = quad c.requires c.digits_of.ensures in
    omega (arith, widths q c.in_ok-right.ensures _ _ c.digits_of-first.ensures refl)

pub low_bits-a-requires : goal.low_bits-a-requires
low_bits-a-requires c =
    let q = quad c.requires c.digits_of.ensures in
    (widths q c.in_ok-right.ensures _ _ c.digits_of-first.ensures refl).1

pub returns-in_err-b : goal.returns-in_err-b
returns-in_err-b c =
    let q = quad c.requires c.digits_of.ensures in
    rw c.from_residual-in_err-b.ensures
    (quad-left q c.in_ok-right.ensures _ _ c.digits_of-first.ensures refl _ c.low_bits-a.ensures c.in_err-b.ensures)

pub overflow_sub-low : goal.overflow_sub-low
overflow_sub-low c =
    let q = quad c.requires c.digits_of.ensures in
    omega (arith, widths q c.in_ok-right.ensures _ _ c.digits_of-first.ensures c.digits_of-second.ensures)

pub low_bits-c-requires : goal.low_bits-c-requires
low_bits-c-requires c =
    let q = quad c.requires c.digits_of.ensures in
    (widths q c.in_ok-right.ensures _ _ c.digits_of-first.ensures c.digits_of-second.ensures).2

pub returns-in_err-d : goal.returns-in_err-d
returns-in_err-d c =
    let q = quad c.requires c.digits_of.ensures in
    rw c.from_residual-in_err-d.ensures
    (quad-right q c.in_ok-right.ensures _ _ c.digits_of-first.ensures c.digits_of-second.ensures
    _ _ c.low_bits-a.ensures c.in_ok-b.ensures c.low_bits-c.ensures c.in_err-d.ensures)

pub returns-then-low_bits-ne0 : goal.returns-then-low_bits-ne0
returns-then-low_bits-ne0 c =
    let q = quad c.requires c.digits_of.ensures in
    quad-spare q c.in_ok-right.ensures _ _ c.digits_of-first.ensures c.digits_of-second.ensures _ _
    c.low_bits-a.ensures c.in_ok-b.ensures c.low_bits-c.ensures _ c.in_ok-d.ensures c.low_bits.ensures c.if-low_bits-ne0.true

pub returns : goal.returns
returns c =
    let q = quad c.requires c.digits_of.ensures in
    quad-last q c.in_ok-right.ensures _ _ c.digits_of-first.ensures c.digits_of-second.ensures _ _
    c.low_bits-a.ensures c.in_ok-b.ensures c.low_bits-c.ensures _ c.in_ok-d.ensures c.low_bits.ensures c.if-low_bits-ne0.false
