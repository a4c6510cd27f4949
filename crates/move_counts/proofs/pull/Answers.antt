-- `move_counts::pull` meets its contract. Assumes nothing.
use mathlib.Core.Path.{◌≡◌, sym, ap, ◌∙◌}
use Prim.Native.Nat.{ℕ}
use native.Mathlib.Omega.{arith}
use Rattle.move_counts.specs.Code.Turned.{pulled}
use Rattle.move_counts.proofs.Turning.{pull-last, pull-on}
use Rattle.move_counts.proofs.pull.Goals as goal

pub loop-k-preserved : goal.loop-k-preserved
loop-k-preserved c =
    let l = c.loop-k in
    l.invariant ∙ pull-on l.counts l.k c.args.v (omega arith) (omega arith)

pub returns : goal.returns
returns c =
    let l = c.loop-k in
    let e : l.k ≡ 63 = omega arith in
    sym (l.invariant ∙ ap (λ (z : ℕ). pulled l.counts z c.args.v) e ∙ pull-last l.counts c.args.v (omega arith))
