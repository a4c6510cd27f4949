-- `book_out::to_bcd` meets its contract. Assumes nothing.
use mathlib.Core.Path.{◌≡◌, sym, ◌∙◌}
use native.Mathlib.Omega.{arith}
use Rattle.std.specs.Prelude.{Err}
use Rattle.answers.specs.declared.refusal.Refusal.TheVariants.{Body, Header}
use Rattle.lists.proofs.Tests.{left}
use Rattle.image.proofs.CheckLaws.{check-5}
use Rattle.image_test.proofs.CheckSteps.{check-6}
use Rattle.book_out.proofs.ToLaws.{four_is, to-fails, to-past, to-wide}
use Rattle.book_out.proofs.to_bcd.Goals as goal

pub returns-in_err-image : goal.returns-in_err-image
returns-in_err-image c =
    let e : c.from_residual.result ≡ Err Header = grind arith in
    rw e (to-fails c.args.s.now c.args.book.now Header (check-5 _ c.in_err-image.ensures.0))

pub write_book-requires : goal.write_book-requires
write_book-requires c = four_is _ (sym c.passes.ensures ∙ c.if-passes.true)

pub returns-then-passes : goal.returns-then-passes
returns-then-passes c =
    rw (← c.in_ok-image.ensures)
    (c.write_book.ensures ∙ to-past c.in_ok-image.image.bytes.now c.args.book.now (left _ _ (sym c.passes.ensures ∙ c.if-passes.true)))

pub returns-then-passes-2 : goal.returns-then-passes-2
returns-then-passes-2 c =
    rw (← c.in_ok-image.ensures)
    (to-wide c.in_ok-image.image.bytes.now c.args.book.now (left _ _ (sym c.passes-2.ensures ∙ c.if-passes-2.true)) (sym c.passes.ensures ∙ c.if-passes.false))

pub returns : goal.returns
returns c =
    rw (← c.in_ok-image.ensures)
    (to-fails c.in_ok-image.image.bytes.now c.args.book.now Body (check-6 c.in_ok-image.image.opened (sym c.passes-2.ensures ∙ c.if-passes-2.false)))
