-- `tree_word::eight` meets its contract. Assumes nothing.
use mathlib.Core.Path.{refl}
use Rattle.bits.specs.Bits.{field}
use Rattle.tree_word.proofs.Empty.{zeros-written}
use Rattle.tree_word.proofs.eight.Goals as goal

pub returns-then-w-eq0 : goal.returns-then-w-eq0
returns-then-w-eq0 c =
    let a = c.args in
    zeros-written a.out.now _ (field 64 a.w.bits) a.from 8 3 a.w.sum 0 refl c.if-w-eq0.true c.zeros.ensures
