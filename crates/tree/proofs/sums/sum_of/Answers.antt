-- `tree::sums::sum_of` meets its contract. Assumes nothing.
use mathlib.Core.Path.{ap, ◌∙◌}
use Prim.Native.Nat.{ℕ, ◌+◌, ◌-◌}
use native.Mathlib.Omega.{arith}
use Rattle.lists.proofs.Sums.{window-whole}
use Rattle.tree.proofs.Windows.{window-none, window_more}
use Rattle.tree.proofs.sums.sum_of.Goals as goal

pub loop-i-init : goal.loop-i-init
loop-i-init c = record { within = omega arith; total_is = window-none c.args.counts.now c.args.from; small = omega arith }

pub loop-i-preserved : goal.loop-i-preserved
loop-i-preserved c =
    let i = c.loop-i.i in
    record {
      within = omega arith;
      total_is =
          ap (λ (z : ℕ). c.loop-i.total + z) c.from-total.ensures
          ∙ window_more c.args.counts.now c.args.from i c.loop-i.total (omega arith) c.loop-i.invariant.total_is;
      small = omega (arith, c.type_inv.counts i);
    }

pub returns : goal.returns
returns c =
    c.loop-i.invariant.total_is
    ∙ window-whole c.args.counts.now c.args.from (c.loop-i.i - c.args.from) c.args.n (omega arith) (λ l. omega (arith, l))
