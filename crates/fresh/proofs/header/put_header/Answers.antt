-- `fresh::header::put_header` meets its contract. Assumes nothing.
use Rattle.fresh.proofs.FreshBytes.{headed-is}
use Rattle.fresh.proofs.header.put_header.Goals as goal

pub returns : goal.returns
returns c =
    let a = c.args in
    headed-is a.s.now _ _ _ _ _ _ _ a.h c.requires
    c.put.ensures c.put-2.ensures
    c.put-3.ensures c.put-4.ensures
    c.put-5.ensures c.put-6.ensures c.put-7.ensures
