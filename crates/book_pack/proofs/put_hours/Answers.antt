-- `book_pack::put_hours` meets its contract. Assumes nothing.
use Rattle.std.proofs.Common.{arith}
use Rattle.book.proofs.BookLaws.{four-at}
use Rattle.book_pack.proofs.Packing.{hour-more, none-put}
use Rattle.book_pack.proofs.put_hours.Goals as goal

pub loop-i-init : goal.loop-i-init
loop-i-init c = none-put c.args.book.now c.args.counts.now c.args.from

pub put_hour-requires : goal.put_hour-requires
put_hour-requires c = (omega arith, four-at c.args.counts.now c.requires.1 c.loop-i.i)

pub loop-i-preserved : goal.loop-i-preserved
loop-i-preserved c =
    let a = c.args in
    let l = c.loop-i in
    hour-more a.book.now l.book c.put_hour.new.book a.counts.now a.from l.i (omega arith) (omega arith) l.invariant c.put_hour.ensures
