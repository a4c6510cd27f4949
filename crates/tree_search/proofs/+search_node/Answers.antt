-- `tree_search::search_node` meets its contract, h falling at each call. Assumes nothing.
use mathlib.Core.Path.{ap}
use native.Mathlib.Omega.{arith}
use Rattle.tree.proofs.Rooting.{halved, inner}
use Rattle.tree_search.specs.Code.Answers.{index_of}
use Rattle.tree_search.proofs.SeekSteps.{seek-leaf, seek-bad, chosen, goes_on}
use Rattle.tree_search.proofs.+search_node.Goals as goal

pub returns-then-h-eq0 : goal.returns-then-h-eq0
returns-then-h-eq0 t c = ap index_of (seek-leaf _ _ _ _ _ _ c.if-h-eq0.true)

pub returns-in_default : goal.returns-in_default
returns-in_default t c = ap index_of (seek-bad _ _ _ _ _ _ c.if-h-eq0.false c.in_default.ensures)

pub overflow_sub-q : goal.overflow_sub-q
overflow_sub-q t c =
    let i = inner c.if-h-eq0.false c.in-Some.ensures in
    let onward = goes_on c.requires.0 i c.args.q c.args.n c.power.ensures
    (chosen _ c.either-passed.ensures c.either-hours.ensures c.either-sum.ensures c.either-start.ensures) in
    onward.few

pub overflow_add-n : goal.overflow_add-n
overflow_add-n t c =
    let i = inner c.if-h-eq0.false c.in-Some.ensures in
    let onward = goes_on c.requires.0 i c.args.q c.args.n c.power.ensures
    (chosen _ c.either-passed.ensures c.either-hours.ensures c.either-sum.ensures c.either-start.ensures) in
    omega (arith, onward.room, c.requires.1, halved _ i.high)

pub search_node-requires : goal.search_node-requires
search_node-requires t c =
    let i = inner c.if-h-eq0.false c.in-Some.ensures in
    let onward = goes_on c.requires.0 i c.args.q c.args.n c.power.ensures
    (chosen _ c.either-passed.ensures c.either-hours.ensures c.either-sum.ensures c.either-start.ensures) in
    (omega (arith, i.high), (onward.lies, omega (arith, onward.room, c.requires.1, halved _ i.high)))

pub returns : goal.returns
returns t c =
    let i = inner c.if-h-eq0.false c.in-Some.ensures in
    let onward = goes_on c.requires.0 i c.args.q c.args.n c.power.ensures
    (chosen _ c.either-passed.ensures c.either-hours.ensures c.either-sum.ensures c.either-start.ensures) in
    rw onward.same at c.search_node.ensures
