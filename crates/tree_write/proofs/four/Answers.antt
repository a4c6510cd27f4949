-- `tree_write::four` meets its contract: its three fields, put at once or in turn, are the tree of the four counts (`Fours`).
-- Assumes nothing.
use mathlib.Core.Path.{refl}
use Prim.Native.Nat.{◌+◌}
use native.Mathlib.Omega.{arith}
use Rattle.tree_write.proofs.Fours as fours
use Rattle.tree_write.proofs.Writing.{some-digits}
use Rattle.tree_write.proofs.four.Goals as goal
use Rattle.tree_write.proofs.four.Goals.{After-digits_of-second}

pub overflow_sub-s : goal.overflow_sub-s
overflow_sub-s c =
    let begun = fours.begin c.requires.lies.0 c.requires.lies.1 c.requires.blank c.count_at-a.ensures c.count_at.ensures refl in
    fours.left_le begun

-- the four counts, and their fields
begun : (c : After-digits_of-second)
    → fours.Four c.args.counts.now c.args.out.now c.args.at c.args.from c.args.s c.count_at-a.result c.count_at.result c.count_at-c.result
begun c = fours.begin c.requires.lies.0 c.requires.lies.1 c.requires.blank c.count_at-a.ensures c.count_at.ensures c.count_at-c.ensures

widths : (c : After-digits_of-second)
    → fours.Fields c.args.out.now c.args.at c.digits_of-t.result c.digits_of-first.result c.digits_of-second.result
    (c.count_at-a.result + c.count_at.result) c.count_at-a.result c.count_at-c.result
widths c = fours.fields (begun c) _ _ _ c.digits_of-t.ensures c.digits_of-first.ensures c.digits_of-second.ensures

pub joined-requires : goal.joined-requires
joined-requires c =
    let known = begun (goal.at.joined-requires c).After-digits_of-second in
    let w = widths (goal.at.joined-requires c).After-digits_of-second in (
      omega (arith, w.narrow),
      w.a-fits,
      fours.left-shift known _ _ _ c.digits_of-t.ensures c.digits_of-first.ensures
          c.digits_of-second.ensures c.if-t-le19.true,
    )

pub joined-fields-requires : goal.joined-fields-requires
joined-fields-requires c =
    let known = begun (goal.at.joined-fields-requires c).After-digits_of-second in
    let w = widths (goal.at.joined-fields-requires c).After-digits_of-second in
    (omega (arith, w.narrow), w.c-fits, fours.front-shift known _ _ _ c.digits_of-t.ensures c.digits_of-first.ensures c.digits_of-second.ensures c.if-t-le19.true _ c.joined.ensures)

pub overflow_add-t : goal.overflow_add-t
overflow_add-t c = omega (arith, (widths (goal.at.overflow_add-t c).After-digits_of-second).narrow)

pub overflow_add-t-then-t-le19 : goal.overflow_add-t-then-t-le19
overflow_add-t-then-t-le19 c = omega (arith, (widths (goal.at.overflow_add-t-then-t-le19 c).After-digits_of-second).narrow)

pub add_field-requires : goal.add_field-requires
add_field-requires c =
    let known = begun (goal.at.add_field-requires c).After-digits_of-second in
    let w = widths (goal.at.add_field-requires c).After-digits_of-second in
    let x = c.joined in
    let v = c.joined-fields in
    let few = c.if-t-le19.true in record {
      width_bound = (
        omega (arith, w.inside),
        omega (arith, w.inside),
        omega (arith, some-digits c.args.s c.digits_of-t.result c.digits_of-t.ensures c.requires.lies.3),
        omega (arith, w.narrow, few),
      );
      v_bound = (fours.number_fits known _ _ _ c.digits_of-t.ensures c.digits_of-first.ensures c.digits_of-second.ensures _ _ x.ensures v.ensures, omega arith);
      out_value = fours.empty-before known _ _ _ c.digits_of-t.ensures c.digits_of-first.ensures c.digits_of-second.ensures _ _ x.ensures v.ensures;
    }

pub returns-then-t-le19 : goal.returns-then-t-le19
returns-then-t-le19 c =
    let known = begun (goal.at.returns-then-t-le19 c).After-digits_of-second in
    let p = c.add_field in
    let x = c.joined in
    let v = c.joined-fields in
    fours.at_once known _ _ _ c.digits_of-t.ensures c.digits_of-first.ensures c.digits_of-second.ensures _ _ x.ensures v.ensures p.new.out p.ensures

pub overflow_cast-next : goal.overflow_cast-next
overflow_cast-next c = omega (arith, (widths (goal.at.overflow_cast-next c).After-digits_of-second).narrow)

pub overflow_add-next : goal.overflow_add-next
overflow_add-next c =
    let w = widths (goal.at.overflow_add-next c).After-digits_of-second in
    omega (arith, w.narrow, w.inside)

pub put_field-requires : goal.put_field-requires
put_field-requires c =
    let w = widths (goal.at.put_field-requires c).After-digits_of-second in
    record { width_bound = (omega (arith, w.inside), omega (arith, w.inside), omega (arith, w.narrow)); v_bound = w.left-fits; in_bounds = omega arith }

pub put_field-requires-2 : goal.put_field-requires-2
put_field-requires-2 c =
    let w = widths (goal.at.put_field-requires-2 c).After-digits_of-second in
    let e = c.put_field.auto.out in
    record { width_bound = (omega (arith, w.inside, e), omega (arith, w.inside), omega (arith, w.narrow)); v_bound = w.a-fits; in_bounds = omega (arith, e) }

pub overflow_cast-first : goal.overflow_cast-first
overflow_cast-first c = omega (arith, (widths (goal.at.overflow_cast-first c).After-digits_of-second).narrow)

pub overflow_add-next-2 : goal.overflow_add-next-2
overflow_add-next-2 c =
    let w = widths (goal.at.overflow_add-next-2 c).After-digits_of-second in
    omega (arith, w.narrow, w.inside)

pub put_field-requires-3 : goal.put_field-requires-3
put_field-requires-3 c =
    let w = widths (goal.at.put_field-requires-3 c).After-digits_of-second in
    let e = c.put_field.auto.out in
    let g = c.put_field-2.auto.out in
    record { width_bound = (omega (arith, w.inside, e, g), omega (arith, w.inside), omega (arith, w.narrow)); v_bound = w.c-fits; in_bounds = omega (arith, e, g) }

pub returns : goal.returns
returns c =
    let known = begun (goal.at.returns c).After-digits_of-second in
    let three = c.put_field-3 in
    let two = c.put_field-2 in
    let one = c.put_field in
    fours.in-turn known _ _ _ c.digits_of-t.ensures c.digits_of-first.ensures c.digits_of-second.ensures one.new.out two.new.out three.new.out one.ensures two.ensures three.ensures
