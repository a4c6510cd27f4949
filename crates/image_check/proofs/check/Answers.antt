-- `image_check::check` meets its contract. Assumes nothing.
use mathlib.Core.Path.{◌≡◌, sym, ap₂, ◌∙◌}
use native.Mathlib.Omega.{arith}
use Rattle.std.specs.Prelude.{Err}
use Rattle.answers.specs.Image.{holds, ruled}
use Rattle.image.proofs.CheckLaws.{check-holds}
use Rattle.image_check.proofs.check.Goals as goal

pub returns-in_err-head : goal.returns-in_err-head
unfolding ruled
returns-in_err-head c =
    let e : c.from_residual.result ≡ Err c.in_err-head.field-0.0 = grind arith in
    rw e (sym c.in_err-head.ensures)

pub returns : goal.returns
unfolding ruled
returns c =
    let a = c.in_ok-head.field-0 in
    rw (← c.in_ok-head.ensures) (ap₂ holds a.head_of.hours-is a.head_of.total-is ∙ sym (check-holds _ a.accepted))
