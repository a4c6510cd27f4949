-- `tree_decode::fours` meets its contract. Assumes nothing.
use mathlib.Core.Path.{◌≡◌, refl, ap, ◌∙◌}
use Prim.Native.Nat.{ℕ, ◌+◌}
use native.Mathlib.Omega.{arith}
use Rattle.lists.specs.Lists.{splice}
use Rattle.tree.proofs.OneWord.{fewer_digits, four-fits}
use Rattle.tree_word.proofs.Decoding.{both_halves}
use Rattle.tree_decode.proofs.Halving.{read, root-le, root-some, first-half, second-half}
use Rattle.tree_decode.proofs.fours.Goals as goal

high : ◌≡◌ {A = ℕ} 3 0 → ⊥
high e = omega arith

pub unwrap-r-requires : goal.unwrap-r-requires
unwrap-r-requires c = root-some c.requires.0 high _ c.root_by_shifts.ensures

pub word-requires : goal.word-requires
word-requires c =
    let l = root-le c.requires.0 high _ c.root_by_shifts.ensures c.unwrap-r.ensures in
    (omega arith, (first-half c.requires.0 high _ c.root_by_shifts.ensures c.unwrap-r.ensures, four-fits _ (fewer_digits c.requires.1 _ l)))

pub four-requires : goal.four-requires
four-requires c =
    let l = root-le c.requires.0 high _ c.root_by_shifts.ensures c.unwrap-r.ensures in
    (fewer_digits c.requires.1 _ (omega (arith, l, c.word.ensures.sum)), omega (arith, c.requires.2))

pub word-requires-2 : goal.word-requires-2
word-requires-2 c =
    (omega arith, (second-half c.requires.0 high _ c.root_by_shifts.ensures c.unwrap-r.ensures, four-fits _ (fewer_digits c.requires.1 _ (omega arith))))

pub four-requires-2 : goal.four-requires-2
four-requires-2 c = (fewer_digits c.requires.1 _ (omega (arith, c.word-2.ensures.sum)), omega (arith, c.requires.2))

pub returns : goal.returns
returns c =
    let a = c.args in
    both_halves (read c.requires.0 high _ c.root_by_shifts.ensures c.unwrap-r.ensures).node a.out.now _ _ a.from 4 refl (omega (arith, c.requires.2))
    (c.four.ensures ∙ ap (splice a.out.now a.from) c.word.ensures.counts) (c.four-2.ensures ∙ ap (splice _ (a.from + 4)) c.word-2.ensures.counts)
