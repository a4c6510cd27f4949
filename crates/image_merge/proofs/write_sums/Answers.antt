-- `image_merge::write_sums` meets its contract. Assumes nothing.
use mathlib.Core.Path.{sym, ◌∙◌}
use Rattle.std.proofs.Common.{rules}
use Rattle.image_put.proofs.Answering.{room, write-short, write-yes}
use Rattle.image_merge.proofs.MergeLaws.{counts-yes}
use Rattle.image_merge.proofs.PlanLaws.{no-layout}
use Rattle.image_merge.proofs.write_sums.Goals as goal

pub returns-in_err-r : goal.returns-in_err-r
returns-in_err-r c = search (rules, no-layout c.args.e c.args.pair.now c.args.out.now _ c.in_err-r.ensures)

pub returns-in_err-n : goal.returns-in_err-n
returns-in_err-n c =
    let m = c.in_ok-r.ensures in
    search (rules, write-short _ _ _ (m.1, m.2) _ _ c.in_err-n.ensures ∙ sym (counts-yes c.args.e _ _ c.args.out.now m.0))

pub put_blocks-requires : goal.put_blocks-requires
put_blocks-requires c =
    let m = c.in_ok-r.ensures in
    room _ _ _ (m.1, m.2) _ _ c.in_ok-n.ensures

pub returns : goal.returns
returns c =
    let m = c.in_ok-r.ensures in
    write-yes _ _ _ (m.1, m.2) _ _ _ c.in_ok-n.ensures c.put_blocks.ensures ∙ sym (counts-yes c.args.e _ _ c.args.out.now m.0)
