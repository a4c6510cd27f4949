-- `tree_walk::by_index::walk_eight` meets its contract. Assumes nothing.
use mathlib.Core.Path.{refl, ◌∙◌}
use native.Mathlib.Omega.{arith}
use Rattle.reserve.proofs.Fit.{fit_all}
use Rattle.tree.proofs.OneWord.{eight_fits, loaded, left-read, left_word, right-word}
use Rattle.tree_walk.proofs.WalkSteps.{kept, walk-low, walk-high}
use Rattle.tree_walk.proofs.LowPairs.{eight-room, walk-above, inner}
use Rattle.tree_walk.proofs.by_index.walk_eight.Goals as goal

pub part-left-requires : goal.part-left-requires
part-left-requires c =
    omega (arith, fit_all 2 c.args.s 0 c.args.s (omega arith), eight_fits c.args.s c.requires.1, c.digits_of-t.ensures)

pub returns-in_err-right : goal.returns-in_err-right
returns-in_err-right c =
    let word = loaded c.requires.0 (eight_fits c.args.s c.requires.1) c.load-w.ensures in
    let left_is = left-read word _ _ c.digits_of-t.ensures c.part-left.ensures in
    rw c.from_residual.ensures (walk-above 2 _ _ _ _ left_is (omega (arith, c.in_err-right.ensures)) _ _ _)

pub walk_four-requires : goal.walk_four-requires
walk_four-requires c =
    let room = eight-room c.requires.1 c.in_ok-right.ensures.0 in (
      omega (arith, room, c.digits_of-t.ensures),
      omega (arith, c.requires.2, c.in_ok-right.ensures.0),
      c.requires.3,
    )

pub returns-then-j-lt4 : goal.returns-then-j-lt4
returns-then-j-lt4 c =
    let word = loaded c.requires.0 (eight_fits c.args.s c.requires.1) c.load-w.ensures in
    let left_is = left-read word _ _ c.digits_of-t.ensures c.part-left.ensures in
    c.walk_four.ensures _ _ (left_word word _ c.in_ok-right.ensures.0 _ (omega (arith, c.digits_of-t.ensures)))
    ∙ walk-low (inner 2 _ _ _ _ left_is c.in_ok-right.ensures.0) _ _ _ {m = 4} refl c.if-j-lt4.true

pub overflow_cast-k : goal.overflow_cast-k
overflow_cast-k c =
    let room = eight-room c.requires.1 c.in_ok-right.ensures.0 in
    omega (arith, room, c.reserve_of.ensures)

pub overflow_add-k : goal.overflow_add-k
overflow_add-k c =
    let room = eight-room c.requires.1 c.in_ok-right.ensures.0 in
    omega (arith, room, c.reserve_of.ensures, c.digits_of-t.ensures)

pub walk_four-requires-2 : goal.walk_four-requires-2
walk_four-requires-2 c =
    let room = eight-room c.requires.1 c.in_ok-right.ensures.0 in
    rw c.in_ok-right.ensures.1 (
      omega (arith, room, c.reserve_of.ensures, c.digits_of-t.ensures),
      omega (arith, kept _ c.part-left.result c.requires.3, c.in_ok-right.ensures.0, c.requires.2),
      c.requires.3,
    )

pub returns : goal.returns
returns c =
    let word = loaded c.requires.0 (eight_fits c.args.s c.requires.1) c.load-w.ensures in
    let left_is = left-read word _ _ c.digits_of-t.ensures c.part-left.ensures in
    (rw c.in_ok-right.ensures.1 at c.walk_four-2.ensures) _ _ (right-word word _ c.in_ok-right.ensures.0 _ (omega (arith, c.reserve_of.ensures, c.digits_of-t.ensures)))
    ∙ walk-high (inner 2 _ _ _ _ left_is c.in_ok-right.ensures.0) _ _ _ {m = 4} refl c.if-j-lt4.false
