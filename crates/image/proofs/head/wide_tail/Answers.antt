-- `image::head::wide_tail` meets its contract. Assumes nothing.
use native.Mathlib.Omega.{arith}
use Rattle.image.proofs.TailLaws.{wide_read, wide_short, wide-wrong}
use Rattle.image.proofs.head.wide_tail.Goals as goal
use Rattle.image.proofs.head.wide_tail.Goals.{then-total-le-NARROW_TOTAL-via-then-total-le-NARROW_TOTAL as low, then-total-le-NARROW_TOTAL-via-else-total-le-NARROW_TOTAL+then-total-gt-MAX_TOTAL as high, then-total-le-NARROW_TOTAL-via-else-total-le-NARROW_TOTAL+else-total-gt-MAX_TOTAL+then-zeros-ne0 as filled}

pub returns-then-s-lt-WIDE_SIZE : goal.returns-then-s-lt-WIDE_SIZE
returns-then-s-lt-WIDE_SIZE c = wide_short c.args.s.now c.requires c.if-s-lt-WIDE_SIZE.true

pub returns-then-total-le-NARROW_TOTAL : goal.returns-then-total-le-NARROW_TOTAL
returns-then-total-le-NARROW_TOTAL c =
    wide-wrong c.args.s.now c.requires c.if-s-lt-WIDE_SIZE.false c.get-total.ensures c.get-zeros.ensures
    (λ t. let a = t.0 in let b = t.1 in let z = t.2 in elim c.then-total-le-NARROW_TOTAL.branch [
      | low w ↦ omega arith
      | high w ↦ omega arith
      | filled w ↦ w.if-zeros-ne0.true z
    ])

pub returns : goal.returns
returns c =
    wide_read c.args.s.now c.requires c.if-s-lt-WIDE_SIZE.false c.get-total.ensures c.get-zeros.ensures c.if-total-le-NARROW_TOTAL.false
    c.if-total-gt-MAX_TOTAL.false c.if-zeros-ne0.false c.get-bits.ensures
