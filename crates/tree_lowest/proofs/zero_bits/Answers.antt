-- `tree_lowest::zero_bits` meets its contract. Assumes nothing.
use mathlib.Core.Path.{◌≡◌, sym, ap₂, ◌∙◌}
use Prim.Native.Nat.{◌+◌, ◌-◌}
use native.Mathlib.Omega.{arith}
use Rattle.bits.specs.Bits.{bits}
use Rattle.tree.specs.Code.Exact.{clear}
use Rattle.tree.proofs.Clearing.{clear-on, clear-not, clear_none}
use Rattle.tree_lowest.proofs.zero_bits.Goals as goal

pub returns-then-get_field-ne0 : goal.returns-then-get_field-ne0
returns-then-get_field-ne0 c =
    let l = c.loop-done in
    let v = c.get_field in
    let pre = c.requires in
    sym (l.invariant.1 ∙ clear-not _ _ _ _ c.min-k.result v.result (omega arith) pre.0 v.ensures c.if-get_field-ne0.true)

pub loop-done-preserved : goal.loop-done-preserved
loop-done-preserved c =
    let l = c.loop-done in
    let v = c.get_field in
    let pre = c.requires in
    (omega arith, l.invariant.1 ∙ clear-on _ _ _ _ _ v.result (omega arith) pre.0 v.ensures c.if-get_field-ne0.false)

pub returns : goal.returns
returns c = clear_none _ _ _ (omega arith) ∙ sym c.loop-done.invariant.1
