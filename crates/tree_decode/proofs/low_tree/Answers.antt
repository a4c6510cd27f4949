-- `tree_decode::low_tree` meets its contract. Assumes nothing.
use mathlib.Core.Path.{◌≡◌, subst}
use Prim.Native.Nat.{ℕ, ◌+◌, ◌^◌, ◌≤◌}
use native.Mathlib.Omega.{arith}
use Rattle.lists.specs.Counts.{max_count}
use Rattle.bits.specs.Bits.{bits}
use Rattle.tree.proofs.OneWord.{four-fits}
use Rattle.tree_word.proofs.Decoding.{one-count}
use Rattle.tree_decode.proofs.Limits.{one-fits}
use Rattle.tree_decode.proofs.Halving.{of-height}
use Rattle.tree_decode.proofs.low_tree.Goals as goal

-- the tree's counts are within the page, by its height
room : (h f : ℕ) {k : ℕ} → f + 2 ^ h ≤ 256 → h ≡ k → f + 2 ^ k ≤ 256
room h f l e = subst (λ (j : ℕ). f + 2 ^ j ≤ 256) e l

pub word-requires : goal.word-requires
word-requires c =
    let few = c.one_word.ensures c.if-one_word.true in
    (omega arith, (of-height few.0 c.requires.0, four-fits c.args.s few.1))

pub overflow_cast-out : goal.overflow_cast-out
overflow_cast-out c =
    omega (arith, one-fits max_count c.args.h _ _ _ (omega arith) c.requires.0.fits)

pub returns-in_default : goal.returns-in_default
returns-in_default c =
    let a = c.args in
    let low : a.h ≡ 0 = omega arith in
    one-count a.out.now (bits a.b.now.now) a.from a.h a.s a.at low (omega (arith, room a.h a.from c.requires.2 low))
