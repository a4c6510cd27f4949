-- `image_check::pages_pass` meets its contract. Assumes nothing.
use mathlib.Core.Path.{◌≡◌, sym, ap, ◌∙◌}
use Prim.Native.Nat.{ℕ, ◌-◌}
use native.Mathlib.Omega.{arith}
use borrow.Author.Tests.{ne_eqb}
use Rattle.image.specs.Read.{page_count_of}
use Rattle.image_test.specs.Code.Test.{pages_from}
use Rattle.image_test.proofs.CheckSteps.{pages-done, pages-on, pages-short, pages-stop}
use Rattle.image_check.proofs.pages_pass.Goals as goal

pub loop-p-init : goal.loop-p-init
loop-p-init c =
    let s = c.args.image.now.bytes.now in
    let n : page_count_of s ≡ c.args.image.now.head.pages - 0 = omega (arith, c.args.image.now.opened.head.pages-are) in
    record { inside = omega arith; rest_is = ap (λ (k : ℕ). pages_from c.args.widest s k 0 0 0) n }

pub page_test-requires : goal.page_test-requires
page_test-requires c =
    let o = c.args.image.now.opened in
    (omega (arith, c.loop-p-test.true, o.head.pages-are), c.loop-p.invariant.inside)

pub returns-in_default : goal.returns-in_default
returns-in_default c = sym (c.loop-p.invariant.rest_is ∙ pages-stop c.in_default.ensures _ c.loop-p-test.true)

pub loop-p-preserved : goal.loop-p-preserved
loop-p-preserved c =
    let t = c.in-Some.ensures in record {
      inside = omega (arith, t.end-le, c.args.image.now.opened.head.bits_is);
      rest_is = c.loop-p.invariant.rest_is ∙ pages-on t _ c.loop-p-test.true;
    }

pub returns-then-end-image : goal.returns-then-end-image
returns-then-end-image c =
    let l = c.loop-p in
    pages-done c.args.widest _ _ c.args.image.now.opened _ l.p l.end l.root c.loop-p-test.false c.if-end-image.true ∙ sym l.invariant.rest_is

pub returns-else-end-image : goal.returns-else-end-image
returns-else-end-image c =
    let l = c.loop-p in
    ne_eqb _ _ c.if-end-image.false
    ∙ sym (l.invariant.rest_is ∙ pages-short c.args.widest _ _ c.args.image.now.opened _ l.p l.end l.root c.loop-p-test.false c.if-end-image.false)
