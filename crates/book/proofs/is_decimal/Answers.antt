-- `book::is_decimal` meets its contract. Assumes nothing.
use Rattle.std.proofs.Common.{sym, ◌∙◌, arith}
use Rattle.book.proofs.HourLaws.{even, odd, rest_end, rest-on}
use Rattle.book.proofs.is_decimal.Goals as goal

pub returns-then-book-ne0 : goal.returns-then-book-ne0
returns-then-book-ne0 c = odd c.args.book.now c.if-book-ne0.true

pub loop-b-init : goal.loop-b-init
loop-b-init c = even c.args.book.now (omega arith)

pub loop-b-preserved : goal.loop-b-preserved
loop-b-preserved c =
    let l = c.loop-b in
    l.invariant ∙ rest-on c.args.book.now l.b-index l.worst c.fault.result c.max-worst.result (omega arith) c.fault.ensures c.max-worst.ensures

pub returns : goal.returns
returns c = sym (c.loop-b.invariant ∙ rest_end c.args.book.now c.loop-b.b-index c.loop-b.worst (omega arith))
