-- `book::sum_at` meets its contract. Assumes nothing.
use Rattle.std.proofs.Common.{◌∙◌, arith}
use Rattle.lists.proofs.Sums.{window-whole}
use Rattle.book.proofs.BookLaws.{length-listed}
use Rattle.book.specs.Book.{list_of_book}
use Rattle.book.proofs.HourLaws.{sum_more, sum-start}
use Rattle.book.proofs.sum_at.Goals as goal

pub loop-i-init : goal.loop-i-init
loop-i-init c = (sum-start _ _, omega arith)

pub loop-i-preserved : goal.loop-i-preserved
loop-i-preserved c =
    let l = c.loop-i in (
      sum_more _ c.args.from l.i l.total c.from-total.result l.invariant.0 (c.from-total.ensures ∙ c.hour_at.ensures.0),
      omega (arith, c.from-total.ensures, c.hour_at.ensures.1),
    )

pub returns : goal.returns
returns c =
    let a = c.args in
    let l = c.loop-i in
    let n = length-listed a.book.now in
    (l.invariant.0 ∙ window-whole (list_of_book a.book.now) a.from l.i a.n (omega arith) (λ g. omega (arith, n)), omega arith)
