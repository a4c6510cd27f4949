-- `image_check::passes` meets its contract. Assumes nothing.
use mathlib.Core.Path.{sym, ◌∙◌}
use Rattle.image.proofs.HeadLaws.{never}
use Rattle.image_test.proofs.CheckSteps.{test-fails, test-last}
use Rattle.image_check.proofs.passes.Goals as goal
use Rattle.image_check.proofs.passes.Goals.{then-pages_pass, else-pages_pass}

pub returns-then-rest_zero : goal.returns-then-rest_zero
returns-then-rest_zero c =
    elim c.if-pages_pass.branch [
      | then-pages_pass w ↦
          c.fill_zero.ensures
          ∙ test-last c.requires c.args.image.now.opened c.args.image.now.each (sym c.pages_pass.ensures ∙ w.if-pages_pass.true)
          (sym w.rest_zero.ensures ∙ sym w.value-is ∙ c.if-rest_zero.true)
      | else-pages_pass w ↦ absurd (never (sym w.if-pages_pass.false ∙ sym w.value-is ∙ c.if-rest_zero.true))
    ]

pub returns-else-rest_zero : goal.returns-else-rest_zero
returns-else-rest_zero c =
    c.if-rest_zero.false
    ∙ elim c.if-pages_pass.branch [
      | then-pages_pass w ↦ test-fails c.requires c.args.image.now.opened c.args.image.now.each 1 (sym w.rest_zero.ensures ∙ sym w.value-is ∙ c.if-rest_zero.false)
      | else-pages_pass w ↦ test-fails c.requires c.args.image.now.opened c.args.image.now.each 0 (sym c.pages_pass.ensures ∙ w.if-pages_pass.false)
    ]
