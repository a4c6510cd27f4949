-- `tree_walk::by_index::walk_node` meets its contract, h falling at each call. Assumes nothing.
use mathlib.Core.Path.{ap, ◌∙◌}
use native.Mathlib.Omega.{arith}
use Rattle.tree.proofs.OneWord.{four-fits, loaded}
use Rattle.tree.proofs.Rooting.{inner, left-lies, right-lies}
use Rattle.tree_walk.proofs.WalkSteps.{kept, walk_none, walk-leaf, walk-bad, walk-low, walk-high}
use Rattle.tree_walk.specs.Code.Answers.{number_of}
use Rattle.tree_walk.proofs.LowPairs.{of-height, walk-height}
use Rattle.tree_walk.proofs.by_index.+walk_node.Goals as goal

pub returns-then-s-eq0 : goal.returns-then-s-eq0
returns-then-s-eq0 t c = ap number_of (walk_none _ _ _ _ _ _ _ c.if-s-eq0.true)

pub walk_four-requires : goal.walk_four-requires
walk_four-requires t c =
    let w = c.one_word.ensures c.if-one_word.true in
    (omega (arith, four-fits c.args.s w.1), c.requires.1, c.requires.2)

pub returns-then-one_word : goal.returns-then-one_word
returns-then-one_word t c =
    let w = c.one_word.ensures c.if-one_word.true in
    c.unwrap_or-then-one_word.ensures
    ∙ ap number_of
    (c.walk_four.ensures _ _ (loaded (of-height w.0 c.requires.0) (four-fits c.args.s w.1) c.load.ensures) ∙ walk-height _ _ _ _ _ _ w.0)

pub returns-then-h-eq0 : goal.returns-then-h-eq0
returns-then-h-eq0 t c = ap number_of (walk-leaf _ _ _ _ _ _ _ c.if-h-eq0.true)

pub returns-in_default : goal.returns-in_default
returns-in_default t c = ap number_of (walk-bad _ _ _ _ _ _ _ c.if-h-eq0.false c.in_default.ensures)

pub walk_node-requires : goal.walk_node-requires
walk_node-requires t c =
    let i = inner c.if-h-eq0.false c.in-Some.ensures in
    let k = kept c.args.keep c.in-Some.r.left c.requires.2 in (
      omega (arith, i.high),
      (left-lies c.requires.0 i, omega (arith, c.requires, i.root.left_le, k), c.requires.2),
    )

pub returns-then-j-half : goal.returns-then-j-half
returns-then-j-half t c =
    c.walk_node.ensures
    ∙ ap number_of (walk-low (inner c.if-h-eq0.false c.in-Some.ensures) _ _ _ c.power-half.ensures (omega (arith, c.if-j-half.true)))

pub overflow_mul-keep : goal.overflow_mul-keep
overflow_mul-keep t c =
    let i = inner c.if-h-eq0.false c.in-Some.ensures in
    let k = kept c.args.keep c.in-Some.r.left c.requires.2 in
    omega (arith, c.requires, i.root.left_le, k)

pub overflow_add-acc : goal.overflow_add-acc
overflow_add-acc t c =
    let i = inner c.if-h-eq0.false c.in-Some.ensures in
    let k = kept c.args.keep c.in-Some.r.left c.requires.2 in
    omega (arith, c.requires, i.root.left_le, k)

pub walk_node-requires-2 : goal.walk_node-requires-2
walk_node-requires-2 t c =
    let i = inner c.if-h-eq0.false c.in-Some.ensures in
    let k = kept c.args.keep c.in-Some.r.left c.requires.2 in (
      omega (arith, i.high),
      (right-lies c.requires.0 i, omega (arith, c.requires, i.root.left_le, k), c.requires.2),
    )

pub returns : goal.returns
returns t c =
    c.walk_node-2.ensures
    ∙ ap number_of (walk-high (inner c.if-h-eq0.false c.in-Some.ensures) _ _ _ c.power-half.ensures (omega (arith, c.if-j-half.false)))
