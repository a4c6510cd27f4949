-- `replies::renew` meets its contract. Assumes nothing.
use Rattle.std.proofs.Common.{rules}
use Rattle.replies.proofs.TurnLaws.{renew-it}
use Rattle.replies.proofs.renew.Goals.{then-is_ok, else-is_ok}
use Rattle.replies.proofs.renew.Goals as goal

pub returns : goal.returns
returns c =
    let a = c.args in
    let k = c.size_of-n in
    let f = c.fresh-answer in
    renew-it a.pages a.cells a.store.now a.used k.result c.if-is_ok.response_to f.new.s f.result c.response_to.result c.requires k.ensures.bytes
    k.ensures.most f.ensures f.auto.s
    (λ e. elim c.if-is_ok.branch [ then-is_ok w ↦ w.response_to-is | else-is_ok w ↦ search rules ])
    (λ e. elim c.if-is_ok.branch [ then-is_ok w ↦ search rules | else-is_ok w ↦ w.response_to-is ]) c.response_to.ensures
