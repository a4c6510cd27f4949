-- `freeze_plan::parts::part_sums` meets its contract, h falling at each call: the sums of the left half's parts, then those of the right
-- half's. Assumes nothing.
use mathlib.Core.Path.{◌∙◌}
use native.Mathlib.Omega.{arith}
use Rattle.freeze_plan.proofs.PartSums.{above, both-summed, branch-some, left-branch, left_le, low, more, none-summed, one-room, one-summed, right-branch}
use Rattle.freeze_plan.proofs.parts.+part_sums.Goals as goal

pub returns-then-sum-eq0 : goal.returns-then-sum-eq0
returns-then-sum-eq0 t c a = none-summed a c.if-sum-eq0.true

pub offset_bounds-out-i : goal.offset_bounds-out-i
offset_bounds-out-i t c = omega (arith, one-room c.requires c.if-h-e.true)

pub bounds-out-i : goal.bounds-out-i
bounds-out-i t c = one-room c.requires c.if-h-e.true

pub returns-then-h-e : goal.returns-then-h-e
returns-then-h-e t c a = one-summed a c.if-h-e.true

pub overflow_sub-down : goal.overflow_sub-down
overflow_sub-down t c = (above c.requires c.if-h-e.false).0

pub root_by_shifts-requires : goal.root_by_shifts-requires
root_by_shifts-requires t c = (above c.requires c.if-h-e.false).1

pub unwrap-r-requires : goal.unwrap-r-requires
unwrap-r-requires t c = branch-some c.requires c.if-h-e.false _ c.root_by_shifts.ensures

pub overflow_mul-i : goal.overflow_mul-i
overflow_mul-i t c = omega (arith, low c.requires c.if-h-e.false)

pub part_sums-requires : goal.part_sums-requires
part_sums-requires t c =
    (omega (arith, (above c.requires c.if-h-e.false).0), left-branch c.requires c.if-h-e.false _ c.root_by_shifts.ensures c.unwrap-r.ensures)

pub overflow_sub-sum : goal.overflow_sub-sum
overflow_sub-sum t c = omega (arith, left_le c.requires c.if-h-e.false _ c.root_by_shifts.ensures c.unwrap-r.ensures)

pub overflow_mul-i-2 : goal.overflow_mul-i-2
overflow_mul-i-2 t c = omega (arith, low c.requires c.if-h-e.false)

pub overflow_add-i : goal.overflow_add-i
overflow_add-i t c = omega (arith, low c.requires c.if-h-e.false)

pub part_sums-requires-2 : goal.part_sums-requires-2
part_sums-requires-2 t c = (
  omega (arith, (above c.requires c.if-h-e.false).0),
  right-branch c.requires c.if-h-e.false _ c.root_by_shifts.ensures c.unwrap-r.ensures c.part_sums.auto.out
      (c.part_sums.ensures (left-branch c.requires c.if-h-e.false _ c.root_by_shifts.ensures c.unwrap-r.ensures)),
)

pub shape_of-out : goal.shape_of-out
shape_of-out t c = c.part_sums-2.auto.out ∙ c.part_sums.auto.out

pub returns : goal.returns
returns t c a =
    let l = c.part_sums.ensures (left-branch a c.if-h-e.false _ c.root_by_shifts.ensures c.unwrap-r.ensures) in
    both-summed (more a c.if-h-e.false) l
    (c.part_sums-2.ensures (right-branch a c.if-h-e.false _ c.root_by_shifts.ensures c.unwrap-r.ensures c.part_sums.auto.out l))
