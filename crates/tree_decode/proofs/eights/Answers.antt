-- `tree_decode::eights` meets its contract. Assumes nothing.
use mathlib.Core.Path.{◌≡◌, refl}
use Prim.Native.Nat.{ℕ}
use native.Mathlib.Omega.{arith}
use Rattle.tree.proofs.OneWord.{few-digits, eight_fits}
use Rattle.tree_word.proofs.Decoding.{both_halves}
use Rattle.tree_decode.proofs.Halving.{read, root-some, first-half, second-half}
use Rattle.tree_decode.proofs.eights.Goals as goal

high : ◌≡◌ {A = ℕ} 3 0 → ⊥
high e = omega arith

pub word-requires : goal.word-requires
word-requires c = (omega arith, (c.requires.0, eight_fits c.args.s (omega (arith, c.if-s-lt256.true))))

pub fours-requires : goal.fours-requires
fours-requires c =
    (c.requires.0, few-digits {s = c.args.s} c.if-s-lt524288.true _ (omega arith), c.requires.1)

pub unwrap-r-requires : goal.unwrap-r-requires
unwrap-r-requires c =
    root-some c.requires.0 high _ c.root_by_shifts.ensures

pub twos-requires : goal.twos-requires
twos-requires c =
    (first-half c.requires.0 high _ c.root_by_shifts.ensures c.unwrap-r.ensures, omega (arith, c.requires.1))

pub twos-requires-2 : goal.twos-requires-2
twos-requires-2 c =
    (second-half c.requires.0 high _ c.root_by_shifts.ensures c.unwrap-r.ensures, omega (arith, c.requires.1))

pub returns : goal.returns
returns c =
    let a = c.args in
    both_halves (read c.requires.0 high _ c.root_by_shifts.ensures c.unwrap-r.ensures).node a.out.now _ _ a.from 4 refl (omega (arith, c.requires.1)) c.twos.ensures c.twos-2.ensures
