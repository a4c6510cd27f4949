-- `tree_decode::twos` meets its contract. Assumes nothing.
use mathlib.Core.Path.{◌≡◌, refl}
use Prim.Native.Nat.{ℕ}
use native.Mathlib.Omega.{arith}
use Rattle.tree_word.proofs.Decoding.{both_halves}
use Rattle.tree_decode.proofs.Halving.{read, root-some, first-half, second-half}
use Rattle.tree_decode.proofs.twos.Goals as goal

high : ◌≡◌ {A = ℕ} 2 0 → ⊥
high e = omega arith

pub unwrap-r-requires : goal.unwrap-r-requires
unwrap-r-requires c =
    root-some c.requires.0 high _ c.root_by_shifts.ensures

pub two-requires : goal.two-requires
two-requires c =
    (first-half c.requires.0 high _ c.root_by_shifts.ensures c.unwrap-r.ensures, omega (arith, c.requires.1))

pub two-requires-2 : goal.two-requires-2
two-requires-2 c =
    (second-half c.requires.0 high _ c.root_by_shifts.ensures c.unwrap-r.ensures, omega (arith, c.requires.1))

pub returns : goal.returns
returns c =
    let a = c.args in
    both_halves (read c.requires.0 high _ c.root_by_shifts.ensures c.unwrap-r.ensures).node a.out.now _ _ a.from 2 refl (omega (arith, c.requires.1)) c.two.ensures c.two-2.ensures
