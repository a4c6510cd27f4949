-- `ReserveTable::reserve` meets its contract: seven digits or more are above h. Assumes nothing.
use Rattle.std.proofs.Common.{ℕ, ◌≡◌, ◌≤◌, arith, min}
use Rattle.reserve.specs.Reserve.{digits}
use Rattle.reserve.proofs.Bounds.{bounded, one-formula}
use Rattle.reserve.proofs.Exact.{digits-ge}
use Rattle.reserve_table.proofs.ReserveTable.reserve.Goals as goal

smaller : (h s t : ℕ) → h ≤ 7 → 64 ≤ s → t ≡ digits s → h ≡ min h t
smaller h s t a b e = omega (arith, digits-ge s 7 (omega arith))

pub formula-requires : goal.formula-requires
formula-requires c =
    let a = c.args in
    let t = c.digits_of-t in
    bounded a.h t.result a.s a.h c.power.result (omega arith) (omega arith) t.ensures
    (smaller a.h a.s t.result (omega arith) (omega arith) t.ensures) c.power.ensures

pub returns : goal.returns
returns c =
    let a = c.args in
    let t = c.digits_of-t in
    one-formula a.h t.result a.s a.h c.power.result _ (omega arith) t.ensures
    (smaller a.h a.s t.result (omega arith) (omega arith) t.ensures) c.power.ensures c.formula.ensures
