-- `image_write::length` meets its contract. Assumes nothing.
use Rattle.std.proofs.Common.{rules}
use Rattle.image_put.proofs.Answering.{length-no, length-yes}
use Rattle.image_write.proofs.length.Goals as goal

pub returns-in_err-r : goal.returns-in_err-r
returns-in_err-r c = search (rules, length-no)

pub returns : goal.returns
returns c = length-yes _ _ _ c.in_ok-r.ensures _ c.size.ensures
