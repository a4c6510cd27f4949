-- `tree_search::search_four` meets its contract. Assumes nothing.
use mathlib.Core.Path.{◌≡◌}
use Prim.Native.Nat.{◌≤◌}
use native.Mathlib.Omega.{arith}
use Rattle.bits.specs.Bits.{bits}
use Rattle.tree.specs.Read.{left_of}
use Rattle.tree.specs.Code.InWord.{InWord}
use Rattle.tree.proofs.OneWord.{four-fits, loaded, left-read}
use Rattle.tree_walk.proofs.LowPairs.{pick-le}
use Rattle.tree_search.proofs.SeekPairs.{seek-above, passed-le, seek-two-bad, seek-two}
use Rattle.tree_search.proofs.search_four.Goals as goal

pub returns-then-s-left : goal.returns-then-s-left
returns-then-s-left c =
    let low : InWord (bits c.args.b.now) c.args.at 2 c.args.s c.load-w.result 0 = loaded c.requires.0 (four-fits c.args.s c.requires.1) c.load-w.ensures in
    let left_is : left_of c.args.s (bits c.args.b.now) c.args.at ≡ c.part-left.result = left-read low _ _ c.digits_of.ensures c.part-left.ensures in
    seek-above 1 _ _ _ _ left_is c.if-s-left.true _ _

pub one_pair-p-requires : goal.one_pair-p-requires
one_pair-p-requires c =
    (c.if-s-left.false, omega (arith, four-fits c.args.s c.requires.1))

pub returns-then-p : goal.returns-then-p
returns-then-p c =
    let low : InWord (bits c.args.b.now) c.args.at 2 c.args.s c.load-w.result 0 = loaded c.requires.0 (four-fits c.args.s c.requires.1) c.load-w.ensures in
    let left_is : left_of c.args.s (bits c.args.b.now) c.args.at ≡ c.part-left.result = left-read low _ _ c.digits_of.ensures c.part-left.ensures in
    seek-two-bad c.requires.0 low _ left_is c.if-s-left.false _ _ c.one_pair-p.ensures c.if-p.true

pub overflow_add-result : goal.overflow_add-result
overflow_add-result c =
    let z : c.either.result ≤ 2 = rw c.either.ensures (pick-le _ (omega arith) (omega arith)) in
    omega (arith, c.requires.2)

pub overflow_sub-q : goal.overflow_sub-q
overflow_sub-q c =
    let low : InWord (bits c.args.b.now) c.args.at 2 c.args.s c.load-w.result 0 = loaded c.requires.0 (four-fits c.args.s c.requires.1) c.load-w.ensures in
    let left_is : left_of c.args.s (bits c.args.b.now) c.args.at ≡ c.part-left.result = left-read low _ _ c.digits_of.ensures c.part-left.ensures in
    passed-le c.requires.0 low _ left_is c.if-s-left.false _ c.args.n c.one_pair-p.ensures

pub overflow_add-result-2 : goal.overflow_add-result-2
overflow_add-result-2 c =
    let y : c.either.result ≤ 2 = rw c.either.ensures (pick-le _ (omega arith) (omega arith)) in
    let z : c.either-2.result ≤ 2 = rw c.either-2.ensures (pick-le _ (omega arith) (omega arith)) in
    omega (arith, c.requires.2)

pub returns : goal.returns
returns c =
    let low : InWord (bits c.args.b.now) c.args.at 2 c.args.s c.load-w.result 0 = loaded c.requires.0 (four-fits c.args.s c.requires.1) c.load-w.ensures in
    let left_is : left_of c.args.s (bits c.args.b.now) c.args.at ≡ c.part-left.result = left-read low _ _ c.digits_of.ensures c.part-left.ensures in
    seek-two c.requires.0 low _ left_is c.if-s-left.false _ _ c.one_pair-p.ensures c.if-p.false _ _
    c.either.ensures c.either-2.ensures
