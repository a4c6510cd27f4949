-- `session_print::put_number` meets its contract. Assumes nothing.
use Rattle.std.proofs.Common.{◌≡◌, ◌∙◌, arith}
use Rattle.session_print.specs.Printed.{decimal}
use Rattle.session_print.proofs.DecimalLaws.{same_digits}
use Rattle.session_print.proofs.PrintLaws.{number_put}
use Rattle.session_print.proofs.put_number.Goals as goal

pub returns : goal.returns
returns c =
    let a = c.args in
    let p = c.put-end in
    let q = c.put in
    let shown : c.as_bytes-digits.result.now ≡ decimal a.n =
    c.as_bytes-digits.ensures.value ∙ c.format.ensures.text ∙ same_digits a.n (omega arith) in
    let r = number_put a.out.now a.at a.n _ p.new.out q.new.out p.result q.result (omega arith) shown p.ensures.bytes p.ensures.end
    q.ensures.bytes q.ensures.end in
    record { end = r.0; bytes = r.1 }
