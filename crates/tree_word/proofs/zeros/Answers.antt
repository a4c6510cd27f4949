-- `tree_word::zeros` meets its contract. Assumes nothing.
use mathlib.Core.Path.{◌≡◌, ap, ◌∙◌}
use Prim.Native.Nat.{ℕ, ◌+◌, ◌-◌}
use native.Mathlib.Omega.{arith}
use lib.ListN.{length, length-replicate, replicate}
use Rattle.lists.specs.Lists.{part}
use Rattle.lists.proofs.Parts.{put_mid-splice}
use Rattle.tree_word.proofs.zeros.Goals as goal

pub returns : goal.returns
returns c =
    let a = c.args in
    let n : length (part a.out.now a.from (a.from + a.n - a.from)) ≡ a.n = omega arith in
    put_mid-splice _ _ _ _ _ (c.fill.ensures.after (λ y e. e) ∙ ap (λ (z : ℕ). replicate z 0) n) (omega (arith, length-replicate {A = ℕ} a.n 0))
