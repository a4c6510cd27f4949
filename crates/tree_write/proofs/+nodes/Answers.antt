-- `tree_write::nodes` meets its contract: field, left subtree and right subtree are three splices in a row, which are one in zero bits
-- (`written`). The measure is h. Assumes nothing.
use mathlib.Core.Path.{sym, ap, ◌∙◌}
use Prim.Native.Nat.{ℕ, ◌-◌, ◌^◌}
use native.Mathlib.Omega.{arith}
use lib.Pow.{pow_mono}
use Rattle.lists.specs.Lists.{splice, sum, window}
use Rattle.bits.specs.Bits.{bits}
use Rattle.tree.specs.Tree.{tree}
use Rattle.tree_write.proofs.Writing.{plan, some-digits, leaf-written, none_written, field-blank, left-blank, right-blank, written}
use Rattle.tree_write.proofs.+nodes.Goals as goal
use Rattle.tree_write.proofs.+nodes.Goals.{then-h-eq0-via-then-h-eq0, then-h-eq0-via-else-h-eq0+then-s-eq0}
use mathlib.Core.List.{List}

pub returns-then-h-eq0 : goal.returns-then-h-eq0
returns-then-h-eq0 t c =
    let a = c.args in
    let o : List ℕ = bits a.out.now in
    let xs : List ℕ = window a.counts.now a.from (2 ^ a.h) in
    elim c.then-h-eq0.branch [
      | then-h-eq0-via-then-h-eq0 w ↦ leaf-written o xs a.at a.h w.if-h-eq0.true
      | then-h-eq0-via-else-h-eq0+then-s-eq0 w ↦ none_written o xs a.at a.h a.s c.requires.lies.1 w.if-s-eq0.true
    ]

pub four-requires : goal.four-requires
four-requires t c =
    let h = c.if-h-eq2.true in
    record {
      lies = (
        rw (sym h) c.requires.lies.0,
        c.requires.lies.1 ∙ ap (λ (z : ℕ). sum (window c.args.counts.now c.args.from (2 ^ z))) h,
        omega (arith, c.requires.lies.2, ap (λ (z : ℕ). 2 ^ z) h),
        omega (arith, c.if-s-eq0.false),
      );
      blank = rw (sym h) c.requires.blank;
    }

pub returns-then-h-eq2 : goal.returns-then-h-eq2
returns-then-h-eq2 t c =
    let f = c.four in
    let h = c.if-h-eq2.true in
    let a = c.args in
    f.ensures ∙ ap (λ (k : ℕ). splice (bits a.out.now) a.at (tree k (window a.counts.now a.from (2 ^ k)))) (sym h)

pub reserve_of-requires : goal.reserve_of-requires
reserve_of-requires t c = omega (arith, plan c.if-h-eq0.false c.requires.lies.0 c.requires.lies.1 c.power-half.ensures c.sum_of-left.ensures)

pub overflow_add-second : goal.overflow_add-second
overflow_add-second t c = omega (arith, plan c.if-h-eq0.false c.requires.lies.0 c.requires.lies.1 c.power-half.ensures c.sum_of-left.ensures)

pub add_field-requires : goal.add_field-requires
add_field-requires t c =
    let p = plan c.if-h-eq0.false c.requires.lies.0 c.requires.lies.1 c.power-half.ensures c.sum_of-left.ensures in
    let w = c.digits_of-t in
    let y = c.requires.blank in
    let l = some-digits c.args.s w.result w.ensures (omega (arith, c.if-s-eq0.false)) in record {
      width_bound = (omega arith, omega arith, l, omega arith);
      v_bound = (rw w.ensures (omega (arith, p.fits)), omega arith);
      out_value = field-blank p y w.result c.reserve_of.result w.ensures
          c.reserve_of.ensures;
    }

pub nodes-requires : goal.nodes-requires
nodes-requires t c =
    let p = plan c.if-h-eq0.false c.requires.lies.0 c.requires.lies.1 c.power-half.ensures c.sum_of-left.ensures in
    let w = c.digits_of-t in
    let i = c.reserve_of in
    let f = c.add_field in (
      omega arith,
      (
        (omega (arith, f.auto.out), p.left_is, omega (arith, p.next, c.requires.lies.2)),
        left-blank p c.requires.blank w.result i.result w.ensures i.ensures f.new.out f.ensures,
      ),
    )

pub overflow_sub-s : goal.overflow_sub-s
overflow_sub-s t c = (plan c.if-h-eq0.false c.requires.lies.0 c.requires.lies.1 c.power-half.ensures c.sum_of-left.ensures).left_le

pub nodes-requires-2 : goal.nodes-requires-2
nodes-requires-2 t c =
    let p = plan c.if-h-eq0.false c.requires.lies.0 c.requires.lies.1 c.power-half.ensures c.sum_of-left.ensures in
    let w = c.digits_of-t in
    let i = c.reserve_of in
    let f = c.add_field in
    let g = c.nodes in (
      omega arith,
      (
        (omega (arith, f.auto.out, g.auto.out), p.right_is, omega (arith, p.next, c.requires.lies.2)),
        right-blank p c.requires.blank w.result i.result w.ensures i.ensures f.new.out f.ensures g.new.out g.ensures f.auto.out,
      ),
    )

pub returns : goal.returns
returns t c =
    let w = c.digits_of-t in
    let i = c.reserve_of in
    let f = c.add_field in
    let g = c.nodes in
    let r = c.nodes-2 in
    written (plan c.if-h-eq0.false c.requires.lies.0 c.requires.lies.1 c.power-half.ensures c.sum_of-left.ensures) c.requires.blank w.result i.result w.ensures i.ensures f.new.out f.ensures g.new.out g.ensures
    f.auto.out
    r.new.out r.ensures
