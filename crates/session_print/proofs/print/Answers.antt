use Rattle.std.proofs.Common.{ap}
use Rattle.session_print.specs.Printed.{printed}
use Rattle.session_print.proofs.PrintLaws.{prints, refused-put}
use Rattle.session_print.proofs.print.Goals as goal

pub returns-in-Number : goal.returns-in-Number
unfolding printed
returns-in-Number c =
    let e = c.put_number.ensures in
    prints (ap printed c.in-Number.is) (e.end, e.bytes)

pub returns-in-Done : goal.returns-in-Done
unfolding printed
returns-in-Done c =
    let e = c.put.ensures in
    prints (ap printed c.in-Done.is) (e.end, e.bytes)

pub returns-in-Refused : goal.returns-in-Refused
unfolding printed
returns-in-Refused c =
    let p = c.put-end in
    let q = c.put_number-in-Refused in
    prints (ap printed c.in-Refused.is)
    (refused-put c.args.out.now c.args.at c.in-Refused.k p.new.out q.new.out p.result q.result c.requires p.ensures.bytes p.ensures.end
    (rw c.from.ensures at q.ensures.bytes) (rw c.from.ensures at q.ensures.end))

pub returns-in-Unknown : goal.returns-in-Unknown
unfolding printed
returns-in-Unknown c =
    let e = c.put-in-Unknown.ensures in
    prints (ap printed c.in-Unknown.is) (e.end, e.bytes)
