-- `tree_lowest::low_within` meets its contract. Assumes nothing.
use mathlib.Core.Path.{◌≡◌, sym, ap, ◌∙◌}
use Prim.Native.Nat.{ℕ}
use native.Mathlib.Omega.{arith}
use borrow.Author.Tests.{lt-leb}
use Rattle.reserve.specs.Reserve.{reserve}
use Rattle.tree_lowest.proofs.Lowest.{own-lt, own-pair-not, own-pair-within, own-four-not, own-four-within}
use Rattle.tree_lowest.proofs.low_within.Goals as goal

pub returns-then-v-s : goal.returns-then-v-s
returns-then-v-s c =
    c.both_within.ensures
    ∙ own-pair-within c.args.b.now c.args.at c.args.h c.args.s _ _ c.requires.0 c.requires.1 c.get_field-v.ensures c.args.widest
    c.if-h-eq1.true c.if-v-s.true

pub returns-else-v-s : goal.returns-else-v-s
returns-else-v-s c =
    lt-leb _ _ c.if-v-s.false
    ∙ own-pair-not c.args.b.now c.args.at c.args.h c.args.s _ _ c.requires.0 c.requires.1 c.get_field-v.ensures c.args.widest
    c.if-h-eq1.true c.if-v-s.false

pub four_of-requires : goal.four_of-requires
four_of-requires c =
    let e : c.args.h ≡ 2 = omega arith in (
      c.requires.1 ∙ ap (λ (k : ℕ). reserve k c.args.s) e,
      c.requires.2,
      own-lt c.args.b.now c.args.at c.args.h c.args.s _ _
          c.requires.0 c.requires.1 c.get_field-v.ensures,
      c.requires.0.total,
    )

pub returns-in_default : goal.returns-in_default
returns-in_default c =
    own-four-not c.args.b.now c.args.at c.args.h c.args.s _ _ c.requires.0 c.requires.1 c.get_field-v.ensures c.args.widest
    (omega arith) c.in_default.ensures

pub returns-then-both_within : goal.returns-then-both_within
returns-then-both_within c =
    let all = own-four-within c.args.b.now c.args.at c.args.h c.args.s _ _ c.requires.0 c.requires.1 c.get_field-v.ensures c.args.widest
    (omega arith) c.in-Some.f c.in-Some.ensures in
    c.both_within-then-both_within.ensures ∙ rw (sym c.both_within-2.ensures ∙ c.if-both_within.true) at all

pub returns-else-both_within : goal.returns-else-both_within
returns-else-both_within c =
    let all = own-four-within c.args.b.now c.args.at c.args.h c.args.s _ _ c.requires.0 c.requires.1 c.get_field-v.ensures c.args.widest
    (omega arith) c.in-Some.f c.in-Some.ensures in
    c.if-both_within.false ∙ rw (sym c.both_within-2.ensures ∙ c.if-both_within.false) at all
