-- `store::total::page_sums` meets its contract. The loop's invariant: the sum of the pages that were passed. Assumes nothing.
use mathlib.Core.Path.{◌≡◌, sym, ap, ◌∙◌}
use Prim.Native.Nat.{ℕ, ◌+◌}
use native.Mathlib.Omega.{arith}
use Rattle.lists.specs.Lists.{sum, tabulate}
use Rattle.bits.specs.Numbers.{number_at}
use Rattle.store.specs.Reading.{sum_in}
use Rattle.lists.proofs.Sums.{sum-next}
use borrow.Author.Rules.{rules}
use Rattle.store.proofs.total.page_sums.Goals as goal

pub loop-p-init : goal.loop-p-init
unfolding sum tabulate
loop-p-init c = search rules

pub loop-p-preserved : goal.loop-p-preserved
unfolding sum_in
loop-p-preserved c =
    let s = c.args.s.now in
    let l = c.loop-p in (
      ap (λ (z : ℕ). l.all + z) (c.get-all.ensures.is ∙ ap (λ (a : ℕ). number_at s a 4) c.entry_at.ensures)
          ∙ ap (λ (z : ℕ). z + sum_in s l.p) l.invariant.0
          ∙ sym (sum-next (sum_in s) l.p),
      omega (arith, c.get-all.ensures.small),
    )

pub returns : goal.returns
returns c =
    let a = c.args in
    let l = c.loop-p in
    let e : l.p ≡ a.pages = omega arith in
    l.invariant.0 ∙ ap (λ (n : ℕ). sum (tabulate n (sum_in a.s.now))) e
