-- `image_check::fill_zero` meets its contract. Assumes nothing.
use mathlib.Core.Path.{◌∙◌}
use native.Mathlib.Omega.{arith}
use Rattle.image_test.proofs.CheckSteps.{fill_is}
use Rattle.image.proofs.HeadLaws.{bounds}
use Rattle.image_check.proofs.fill_zero.Goals as goal

pub overflow_add-end : goal.overflow_add-end
overflow_add-end c =
    let f = bounds _ _ c.args.image.now.opened in
    omega (arith, c.args.image.now.opened.head.code_is, f.code-at, f.few, f.head-high, c.args.image.now.opened.head.bits_small)

pub overflow_mul-spare : goal.overflow_mul-spare
overflow_mul-spare c =
    let f = bounds _ _ c.args.image.now.opened in
    omega (arith, f.long, f.few, f.head-high, c.args.image.now.opened.head.bits_small)

pub overflow_sub-spare : goal.overflow_sub-spare
overflow_sub-spare c =
    let f = bounds _ _ c.args.image.now.opened in
    omega (arith, c.args.image.now.opened.head.code_is, f.code-at, f.long)

pub zero_bits-requires : goal.zero_bits-requires
zero_bits-requires c =
    let f = bounds _ _ c.args.image.now.opened in
    let q = c.args.image.now.opened.head.code_is in
    (omega (arith, q, f.code-at, f.long), omega (arith, q, f.code-at, f.long, f.few, f.head-high, c.args.image.now.opened.head.bits_small), omega (arith, f.long, f.head-low))

pub returns : goal.returns
returns c =
    c.zero_bits.ensures ∙ fill_is _ _ c.args.image.now.opened
