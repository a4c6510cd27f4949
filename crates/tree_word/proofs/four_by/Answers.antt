-- `tree_word::four_by` meets its contract. Assumes nothing.
use native.Mathlib.Omega.{arith}
use Rattle.tree_word.proofs.FourCounts.{Fields, LeftRead, fields, read, left_le, wide, four_fit, four-written}
use Rattle.tree_word.proofs.four_by.Goals as goal
use Rattle.tree_word.proofs.four_by.Goals.{After-part-left, After-width-g}

left : (g : _) (c : After-part-left g) → LeftRead c.args.w.bits c.args.w.sum c.width-t.result c.part-left.result
left g c = read c.args.w.code c.requires.few.0 (c.requires.width_is _ _ (omega arith) c.width-t.ensures) c.part-left.ensures

parts : (g : _) (c : After-width-g g)
    → Fields c.args.w.bits c.args.w.sum c.width-t.result c.part-left.result c.width-f.result c.width-g.result
parts g c =
    let r = read c.args.w.code c.requires.few.0 (c.requires.width_is _ _ (omega arith) c.width-t.ensures) c.part-left.ensures in
    fields r (c.requires.width_is _ _ (left_le r) c.width-f.ensures) (c.requires.width_is _ _ (omega arith) c.width-g.ensures)

pub overflow_sub-right : goal.overflow_sub-right
overflow_sub-right g c = left_le (left g (goal.at.overflow_sub-right g c).After-part-left)

pub width-f-requires : goal.width-f-requires
width-f-requires g c = c.requires.width _ (left_le (left g (goal.at.width-f-requires g c).After-part-left))

pub part-first-requires : goal.part-first-requires
part-first-requires g c = omega (arith, wide (parts g (goal.at.part-first-requires g c).After-width-g))

pub overflow_add-t : goal.overflow_add-t
overflow_add-t g c = omega (arith, wide (parts g (goal.at.overflow_add-t g c).After-width-g))

pub part-third-requires : goal.part-third-requires
part-third-requires g c = omega (arith, wide (parts g (goal.at.part-third-requires g c).After-width-g))

pub overflow_cast-out : goal.overflow_cast-out
overflow_cast-out g c =
    omega (arith, four_fit (parts g (goal.at.overflow_cast-out g c).After-width-g) _ _ c.part-first.ensures c.part-third.ensures)

pub overflow_sub-out : goal.overflow_sub-out
overflow_sub-out g c =
    omega (arith, four_fit (parts g (goal.at.overflow_sub-out g c).After-width-g) _ _ c.part-first.ensures c.part-third.ensures)

pub overflow_cast-out-2 : goal.overflow_cast-out-2
overflow_cast-out-2 g c =
    omega (arith, four_fit (parts g (goal.at.overflow_cast-out-2 g c).After-width-g) _ _ c.part-first.ensures c.part-third.ensures)

pub overflow_cast-out-3 : goal.overflow_cast-out-3
overflow_cast-out-3 g c =
    omega (arith, four_fit (parts g (goal.at.overflow_cast-out-3 g c).After-width-g) _ _ c.part-first.ensures c.part-third.ensures)

pub overflow_sub-out-2 : goal.overflow_sub-out-2
overflow_sub-out-2 g c =
    omega (arith, four_fit (parts g (goal.at.overflow_sub-out-2 g c).After-width-g) _ _ c.part-first.ensures c.part-third.ensures)

pub overflow_cast-out-4 : goal.overflow_cast-out-4
overflow_cast-out-4 g c =
    omega (arith, four_fit (parts g (goal.at.overflow_cast-out-4 g c).After-width-g) _ _ c.part-first.ensures c.part-third.ensures)

pub returns : goal.returns
returns g c =
    four-written (parts g (goal.at.returns g c).After-width-g) _ _ c.part-first.ensures c.part-third.ensures c.args.out.now c.args.from
    (omega (arith, c.requires.few.1))
