-- `move_page::move_page` meets its contract. Assumes nothing.
use mathlib.Core.Path.{◌≡◌, sym, ap, ap₂, ◌∙◌}
use mathlib.Core.List.{List}
use Prim.Native.Nat.{ℕ, ◌+◌, ◌-◌}
use native.Mathlib.Omega.{arith}
use lib.ListN.{get_or}
use Rattle.lists.specs.Lists.{sum}
use Rattle.move_counts.specs.Code.Turned.{turned}
use Rattle.move_page.specs.Code.Move.{counts_after}
use Rattle.move_page.proofs.PageMoved.{can-rewrite, moved-now, of-page, out-low, pages-low, size_is, sum-now}
use Rattle.move_page.proofs.move_page.Goals.{After-turn}
use Rattle.move_page.proofs.move_page.Goals as goal

-- the counts that are written
turned-now : (c : After-turn) → c.turn.new.counts ≡ counts_after c.args.s.now c.args.c
turned-now c = c.turn.ensures ∙ ap (λ (z : List ℕ). turned c.args.c.edit z c.args.c.at c.args.c.count) c.counts-counts.ensures

-- the sum that is written
sum-is : (c : After-turn) → c.get-before.result - c.from.result + c.from-2.result
    ≡ c.get-before.result - get_or c.counts-counts.result c.leaves_at-leaves.result 0 + c.args.c.count
sum-is c = ap₂ (λ (a b : ℕ). c.get-before.result - a + b) c.from.ensures c.from-2.ensures

pub entry_at-requires : goal.entry_at-requires
entry_at-requires c = omega (arith, pages-low c.requires, c.requires.inside)

pub get-before-requires-clause-in_bounds : goal.get-before-requires-clause-in_bounds
get-before-requires-clause-in_bounds c = omega (arith, size_is c.requires, c.entry_at.ensures)

pub invariant_of-entry : goal.invariant_of-entry
invariant_of-entry c = record { of_page = of-page c.requires c.entry_at.ensures c.get-before.ensures.is }

pub overflow_sub-sum : goal.overflow_sub-sum
overflow_sub-sum c =
    omega (
      arith,
      c.from.ensures,
      out-low c.requires c.entry_at.ensures c.get-before.ensures.is c.counts-counts.ensures c.leaves_at-leaves.ensures.0,
    )

pub code_of-code-requires : goal.code_of-code-requires
code_of-code-requires c =
    let q = c.requires in
    let a = (goal.at.code_of-code-requires c).After-turn in
    let n = sum-is a ∙ sum-now q c.entry_at.ensures c.get-before.ensures.is c.counts-counts.ensures c.leaves_at-leaves.ensures.0 in
    (n ∙ sym (ap sum (turned-now a)), omega (arith, n, q.fits))

pub rewrite-requires : goal.rewrite-requires
rewrite-requires c =
    let a = (goal.at.rewrite-requires c).After-turn in
    can-rewrite c.requires c.entry_at.ensures c.get-before.ensures.is c.counts-counts.ensures c.leaves_at-leaves.ensures.0
    (turned-now a) (sum-is a) c.code_of-code.ensures

pub returns : goal.returns
returns c =
    let a = (goal.at.returns c).After-turn in
    moved-now c.requires c.entry_at.ensures c.get-before.ensures.is c.counts-counts.ensures c.leaves_at-leaves.ensures.0
    (turned-now a) (sum-is a) c.code_of-code.ensures c.rewrite.ensures
