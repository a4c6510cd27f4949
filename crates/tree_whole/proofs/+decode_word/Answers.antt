-- `tree_whole::decode_word` meets its contract. Assumes nothing.
use mathlib.Core.Path.{sym}
use Prim.Native.Nat.{◌-◌}
use native.Mathlib.Omega.{arith}
use Rattle.bits.specs.Bits.{field}
use Rattle.reserve.proofs.Exact.{digits_le}
use Rattle.tree_whole.specs.Code.FitsWord.{FitsWord}
use Rattle.tree_word.proofs.Decoding.{height-written}
use Rattle.tree_word.proofs.Empty.{zeros-written}
use Rattle.tree_whole.proofs.SmallTrees.{below, half-is, up}
use Rattle.tree_word.proofs.WordHalves.{Top, short, left_le, room, behind, left-exact, right-exact, word-written}
use Rattle.tree_whole.proofs.+decode_word.Goals as goal
use Rattle.tree_whole.proofs.+decode_word.Goals.{After-part-left}

read : (t : _) (c : After-part-left t) → Top (c.args.h - 1) c.args.s c.args.w c.digits-t.result c.part-left.result
read t c = below c.requires.0 c.requires.1 c.digits-t.ensures c.part-left.ensures

pub returns-then-h-eq4 : goal.returns-then-h-eq4
returns-then-h-eq4 t c =
    let a = c.args in
    height-written a.h a.s 4 (field 64 a.w) 0 a.out.now _ a.from c.if-h-eq4.true c.sixteen.ensures

pub returns-then-s-eq0 : goal.returns-then-s-eq0
returns-then-s-eq0 t c =
    let a = c.args in
    zeros-written a.out.now _ (field 64 a.w) a.from _ a.h a.s 0 c.power.ensures c.if-s-eq0.true c.zeros.ensures

pub part-left-requires : goal.part-left-requires
part-left-requires t c =
    omega (arith, c.digits-t.ensures, digits_le c.args.s 6 c.requires.0.few)

pub overflow_shl-w : goal.overflow_shl-w
overflow_shl-w t c =
    let q = read t (goal.at.overflow_shl-w t c).After-part-left in
    omega (arith, short q)

pub decode_word-requires : goal.decode_word-requires
decode_word-requires t c =
    let half = half-is c.requires.0 in
    let q = read t (goal.at.decode_word-requires t c).After-part-left in
    let f : FitsWord (c.args.h - 1) c.part-left.result = omega (arith, c.requires.0, c.if-h-eq4.false, left_le q, room q) in
    (omega (arith, c.requires.0.least), (f, left-exact q, omega (arith, c.requires.2, half)))

pub reserve-requires : goal.reserve-requires
reserve-requires t c =
    let q = read t (goal.at.reserve-requires t c).After-part-left in
    let f : FitsWord (c.args.h - 1) c.part-left.result = omega (arith, c.requires.0, c.if-h-eq4.false, left_le q, room q) in
    (omega (arith, f), omega (arith, c.requires.0), f.few)

pub overflow_add-k : goal.overflow_add-k
overflow_add-k t c =
    let q = read t (goal.at.overflow_add-k t c).After-part-left in
    omega (arith, behind q _ _ c.reserve.ensures (left_le q))

pub overflow_cast-k : goal.overflow_cast-k
overflow_cast-k t c =
    let q = read t (goal.at.overflow_cast-k t c).After-part-left in
    omega (arith, behind q _ _ c.reserve.ensures (left_le q))

pub overflow_shl-w-2 : goal.overflow_shl-w-2
overflow_shl-w-2 t c =
    let q = read t (goal.at.overflow_shl-w-2 t c).After-part-left in
    omega (arith, behind q _ _ c.reserve.ensures (left_le q))

pub overflow_sub-s : goal.overflow_sub-s
overflow_sub-s t c =
    let q = read t (goal.at.overflow_sub-s t c).After-part-left in
    left_le q

pub overflow_add-from : goal.overflow_add-from
overflow_add-from t c =
    let half = half-is c.requires.0 in
    omega (arith, half, c.requires.2, c.power-2.ensures)

pub decode_word-requires-2 : goal.decode_word-requires-2
decode_word-requires-2 t c =
    let half = half-is c.requires.0 in
    let q = read t (goal.at.decode_word-requires-2 t c).After-part-left in
    let f : FitsWord (c.args.h - 1) (c.args.s - c.part-left.result) = omega (arith, c.requires.0, c.if-h-eq4.false, left_le q, room q) in
    (omega (arith, c.requires.0.least), (f, right-exact q _ c.reserve.ensures, omega (arith, c.requires.2, half, c.power-2.ensures)))

pub returns : goal.returns
returns t c =
    let q = read t (goal.at.returns t c).After-part-left in
    let a = c.args in
    height-written a.h a.s _ (field 64 a.w) 0 a.out.now _ a.from (sym (up c.requires.0))
    (word-written q _ c.reserve.ensures a.out.now _ _ a.from _ c.power-2.ensures (rw (up c.requires.0) (omega (arith, c.requires.2)))
    c.decode_word.ensures c.decode_word-2.ensures)
