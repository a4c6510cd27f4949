-- `session_input::gather` meets its contract. Assumes nothing.
use Rattle.session_input.proofs.GatherLaws.{gathers-end, gathers-more, gathers-full}
use Rattle.session_input.proofs.gather.Goals as goal

pub returns-then-byte-eq10 : goal.returns-then-byte-eq10
returns-then-byte-eq10 c =
    let a = c.args in
    let k = c.min-held in
    gathers-end a.line.now a.len a.byte k.result k.ensures c.parse.result c.if-byte-eq10.true c.parse.ensures

pub returns-then-held-line : goal.returns-then-held-line
returns-then-held-line c =
    let a = c.args in
    let k = c.min-held in
    gathers-more a.line.now a.len a.byte k.result k.ensures c.if-byte-eq10.false c.if-held-line.true

pub returns : goal.returns
returns c =
    let a = c.args in
    let k = c.min-held in
    gathers-full a.line.now a.len a.byte k.result k.ensures c.if-byte-eq10.false c.if-held-line.false
