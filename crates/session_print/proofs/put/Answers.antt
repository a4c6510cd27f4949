-- `session_print::put` meets its contract. Assumes nothing.
use Rattle.std.proofs.Common.{◌≡◌, ◌+◌, ◌-◌, length, arith, drop-drop}
use Rattle.lists.specs.Lists.{splice}
use Rattle.session_print.proofs.put.Goals as goal

pub returns-clause-bytes : goal.returns-clause-bytes
unfolding splice
returns-clause-bytes c =
    let n : c.args.at + length c.args.text.now - c.args.at ≡ length c.args.text.now = omega arith in
    rw (n, c.copy_from_slice.ensures.after, drop-drop)
