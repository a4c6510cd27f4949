-- `tree_decode::two` meets its contract. Assumes nothing.
use mathlib.Core.Path.{◌≡◌, refl}
use Prim.Native.Nat.{ℕ, ◌+◌, ◌-◌}
use native.Mathlib.Omega.{arith}
use lib.ListN.{length-set}
use Rattle.lists.specs.Counts.{max_count}
use Rattle.tree_word.proofs.Decoding.{both_halves, one-count}
use Rattle.tree_decode.proofs.Limits.{one-fits}
use Rattle.tree_decode.proofs.Halving.{read, root-some, first-half, second-half}
use Rattle.tree_decode.proofs.two.Goals as goal

high : ◌≡◌ {A = ℕ} 1 0 → ⊥
high e = omega arith

pub unwrap-left-requires : goal.unwrap-left-requires
unwrap-left-requires c =
    root-some c.requires.0 high _ c.root_by_shifts.ensures

pub overflow_cast-out : goal.overflow_cast-out
overflow_cast-out c =
    omega (arith, one-fits max_count 0 _ _ _ refl (first-half c.requires.0 high _ c.root_by_shifts.ensures c.unwrap-left.ensures).fits)

pub overflow_cast-out-2 : goal.overflow_cast-out-2
overflow_cast-out-2 c =
    omega (arith, one-fits max_count 0 _ _ _ refl (second-half c.requires.0 high _ c.root_by_shifts.ensures c.unwrap-left.ensures).fits)

pub returns : goal.returns
returns c =
    let a = c.args in
    let l = c.unwrap-left.result.left in
    both_halves (read c.requires.0 high _ c.root_by_shifts.ensures c.unwrap-left.ensures).node a.out.now _ _ a.from 1 refl (omega arith)
    (one-count a.out.now _ a.from 0 l _ refl (omega arith))
    (one-count _ _ (a.from + 1) 0 (a.s - l) _ refl (omega (arith, length-set a.out.now a.from l)))
