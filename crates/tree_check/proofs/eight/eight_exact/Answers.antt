-- `tree_check::eight::eight_exact` meets its contract. Assumes nothing.
use mathlib.Core.Path.{refl, sym, ◌∙◌}
use Prim.Native.Nat.{◌+◌, ◌≤◌}
use native.Mathlib.Omega.{arith}
use Rattle.reserve.proofs.Exact.{digits_le}
use Rattle.tree_check.proofs.EightInWord.{Eight, eight, eight-above, eight-last, eight-left-not, eight-room, eight-spare-not, left_lt, own-small, right_lt}
use Rattle.tree_check.proofs.eight.eight_exact.Goals as goal
use Rattle.tree_check.proofs.eight.eight_exact.Goals.{After-part-left, After-reserve-rest}

pub part-left-requires : goal.part-left-requires
part-left-requires c =
    omega (arith, c.digits_of-t.ensures, digits_le c.args.s 9 (omega (arith, c.requires.2)))

-- the word, once its left sum is read
word : (c : After-part-left) → Eight c.args.b.now c.args.at c.args.s c.args.r c.load-w.result c.digits_of-t.result c.part-left.result
word c = eight c.requires c.load-w.ensures c.digits_of-t.ensures c.part-left.ensures

-- both fours' bits are the tree's, which one load has
fours : (c : After-reserve-rest) → (c.digits_of-t.result + c.reserve-own.result + c.reserve-rest.result ≤ c.args.r) × (c.args.r ≤ 57)
fours c =
    eight-room (eight c.requires c.load-w.ensures c.digits_of-t.ensures c.part-left.ensures) c.if-s-left.false _ _
    c.reserve-own.ensures c.reserve-rest.ensures

pub returns-then-s-left : goal.returns-then-s-left
returns-then-s-left c =
    let read = word (goal.at.returns-then-s-left c).After-part-left in
    eight-above read c.if-s-left.true

pub overflow_cast-own : goal.overflow_cast-own
overflow_cast-own c =
    let read = word (goal.at.overflow_cast-own c).After-part-left in
    omega (arith, own-small read c.if-s-left.false _ c.reserve-own.ensures)

pub overflow_cast-rest : goal.overflow_cast-rest
overflow_cast-rest c = omega (arith, fours (goal.at.overflow_cast-rest c).After-reserve-rest)

pub overflow_add-second : goal.overflow_add-second
overflow_add-second c = omega (arith, fours (goal.at.overflow_add-second c).After-reserve-rest)

pub overflow_add-spare : goal.overflow_add-spare
overflow_add-spare c = omega (arith, fours (goal.at.overflow_add-spare c).After-reserve-rest)

pub overflow_cast-r : goal.overflow_cast-r
overflow_cast-r c = omega (arith, fours (goal.at.overflow_cast-r c).After-reserve-rest)

pub overflow_sub-r : goal.overflow_sub-r
overflow_sub-r c = omega (arith, fours (goal.at.overflow_sub-r c).After-reserve-rest)

pub part-requires : goal.part-requires
part-requires c = omega (arith, fours (goal.at.part-requires c).After-reserve-rest)

pub returns-then-part-ne0 : goal.returns-then-part-ne0
returns-then-part-ne0 c =
    let read = word (goal.at.returns-then-part-ne0 c).After-part-left in
    eight-spare-not read c.if-s-left.false _ _ c.reserve-own.ensures c.reserve-rest.ensures _ _ refl c.part.ensures c.if-part-ne0.true

pub part-requires-2 : goal.part-requires-2
part-requires-2 c = omega (arith, fours (goal.at.part-requires-2 c).After-reserve-rest)

pub four_exact-requires : goal.four_exact-requires
four_exact-requires c =
    let read = word (goal.at.four_exact-requires c).After-part-left in
    let room = fours (goal.at.four_exact-requires c).After-reserve-rest in
    (c.reserve-own.ensures, omega (arith, room), left_lt read c.if-s-left.false _ _ c.reserve-own.ensures c.reserve-rest.ensures _ c.part-2.ensures, omega (arith, c.if-s-left.false, c.requires.2))

pub returns-then-not-four_exact : goal.returns-then-not-four_exact
returns-then-not-four_exact c =
    let read = word (goal.at.returns-then-not-four_exact c).After-part-left in
    eight-left-not read c.if-s-left.false _ _ c.reserve-own.ensures c.reserve-rest.ensures _ c.part-2.ensures (sym c.four_exact.ensures ∙ c.if-not-four_exact.true)

pub part-requires-3 : goal.part-requires-3
part-requires-3 c = omega (arith, fours (goal.at.part-requires-3 c).After-reserve-rest)

pub four_exact-requires-2 : goal.four_exact-requires-2
four_exact-requires-2 c =
    let read = word (goal.at.four_exact-requires-2 c).After-part-left in
    let room = fours (goal.at.four_exact-requires-2 c).After-reserve-rest in
    (c.reserve-rest.ensures, omega (arith, room), right_lt read c.if-s-left.false _ _ c.reserve-own.ensures c.reserve-rest.ensures _ c.part-3.ensures, omega (arith, c.requires.2))

pub returns : goal.returns
returns c =
    let read = word (goal.at.returns c).After-part-left in
    c.four_exact-2.ensures
    ∙ eight-last read c.if-s-left.false _ _ c.reserve-own.ensures c.reserve-rest.ensures _ _ refl c.part.ensures c.if-part-ne0.false _ _ c.part-2.ensures
    (sym c.four_exact.ensures ∙ c.if-not-four_exact.false) c.part-3.ensures
