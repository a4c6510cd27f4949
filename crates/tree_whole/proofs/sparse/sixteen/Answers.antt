-- `tree_whole::sparse::sixteen` meets its contract. Assumes nothing.
use mathlib.Core.Path.{refl}
use native.Mathlib.Omega.{arith}
use Rattle.bits.specs.Bits.{field}
use Rattle.tree_word.proofs.Decoding.{joined-written}
use Rattle.tree_word.proofs.Empty.{zeros-written}
use Rattle.tree_whole.proofs.sparse.sixteen.Goals as goal

pub returns-then-w-eq0 : goal.returns-then-w-eq0
returns-then-w-eq0 c =
    let a = c.args in
    zeros-written a.out.now _ (field 64 a.w.bits) a.from 16 4 a.w.sum 0 refl c.if-w-eq0.true c.zeros.ensures

pub returns : goal.returns
returns c =
    let a = c.args in
    let r = c.halves.result in
    joined-written 3 r.0.sum r.1.sum (field 64 r.0.bits) (field 64 r.1.bits) c.halves.ensures.counts a.out.now _ _ a.from 8 refl (omega (arith, c.requires.1))
    c.eight_sparse.ensures c.eight_sparse-2.ensures
