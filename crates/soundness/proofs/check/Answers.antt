-- `soundness::check` meets its contract: its two parts are `check-is`. Assumes nothing.
use mathlib.Core.Path.{sym, ap, ◌∙◌}
use mathlib.Core.Bool.{Bool, ◌&&◌}
use native.Mathlib.Omega.{arith}
use Rattle.soundness.specs.Code.Chains.{all_chains_fit}
use Rattle.soundness.proofs.Checked.{check-is}
use Rattle.soundness.proofs.check.Goals as goal

pub returns-then-not-head_fits : goal.returns-then-not-head_fits
returns-then-not-head_fits c =
    let s = c.args.s.now in
    sym (ap (λ (b : Bool). b && all_chains_fit s) (sym c.head_fits.ensures ∙ c.if-not-head_fits.true))
    ∙ check-is s (λ i. omega (arith, c.type_inv.s i))

pub chains_fit-requires : goal.chains_fit-requires
chains_fit-requires c = sym c.head_fits.ensures ∙ c.if-not-head_fits.false

pub returns : goal.returns
returns c =
    let s = c.args.s.now in
    c.chains_fit.ensures
    ∙ sym (ap (λ (b : Bool). b && all_chains_fit s) (sym c.head_fits.ensures ∙ c.if-not-head_fits.false))
    ∙ check-is s (λ i. omega (arith, c.type_inv.s i))
