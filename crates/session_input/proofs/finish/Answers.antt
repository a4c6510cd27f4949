-- `session_input::finish` meets its contract. Assumes nothing.
use mathlib.Core.Path.{sym}
use Rattle.session_input.proofs.GatherLaws.{ends-none, ends-line}
use Rattle.session_input.proofs.finish.Goals as goal

pub returns-then-held-eq0 : goal.returns-then-held-eq0
returns-then-held-eq0 c =
    let a = c.args in
    let k = c.min-held in
    sym (ends-none a.line.now a.len k.result k.ensures c.if-held-eq0.true)

pub returns : goal.returns
returns c =
    let a = c.args in
    let k = c.min-held in
    ends-line a.line.now a.len k.result k.ensures c.if-held-eq0.false c.parse.result c.parse.ensures
