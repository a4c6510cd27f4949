-- `reserve::reserve_at` meets its contract. Assumes nothing.
use Rattle.std.proofs.Common.{◌∙◌}
use Rattle.std.proofs.Math.Nat.{min_comm}
use Rattle.reserve.proofs.Bounds.{bounded, one-formula}
use Rattle.reserve.proofs.reserve_at.Goals as goal

pub formula-requires : goal.formula-requires
formula-requires c =
    let a = c.args in
    let p = c.requires in
    bounded a.h a.t a.s _ _ p.0 p.1 p.2 (c.min-m.ensures ∙ min_comm a.t a.h) c.power.ensures

pub returns : goal.returns
returns c =
    let a = c.args in
    let p = c.requires in
    one-formula a.h a.t a.s _ _ _ p.1 p.2 (c.min-m.ensures ∙ min_comm a.t a.h) c.power.ensures c.formula.ensures
