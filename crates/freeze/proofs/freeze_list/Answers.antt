-- `freeze::freeze_list` meets its contract. Assumes nothing.
use Rattle.std.proofs.Common.{rules}
use Rattle.image_put.proofs.Answering.{room, write-no, write-short, write-yes}
use Rattle.freeze.proofs.freeze_list.Goals as goal

pub returns-in_err-r : goal.returns-in_err-r
returns-in_err-r c = search (rules, write-no)

pub returns-in_err-n : goal.returns-in_err-n
returns-in_err-n c = search (rules, write-short _ _ _ c.in_ok-r.ensures _ _ c.in_err-n.ensures)

pub put_image-requires : goal.put_image-requires
put_image-requires c = room _ _ _ c.in_ok-r.ensures _ _ c.in_ok-n.ensures

pub returns : goal.returns
returns c = write-yes _ _ _ c.in_ok-r.ensures _ _ _ c.in_ok-n.ensures c.put_image.ensures
