-- `image_busiest::among` meets its contract. Assumes nothing.
use mathlib.Core.Logic.{inl, inr}
use native.Mathlib.Omega.{arith}
use Rattle.image_cursor.proofs.CursorLaws.{hours}
use Rattle.image_busiest.specs.Busiest.{no-such-run, the-run}
use Rattle.image_busiest.proofs.among.Goals.{then-k-eq0-via-then-k-eq0, then-k-eq0-via-else-k-eq0+then-image-k}
use Rattle.image_busiest.proofs.among.Goals as goal

pub returns-then-k-eq0 : goal.returns-then-k-eq0
returns-then-k-eq0 c =
    let a = c.args.image.now in
    elim c.then-k-eq0.branch [
      | then-k-eq0-via-then-k-eq0 w ↦ no-such-run a.accepted (inl w.if-k-eq0.true)
      | then-k-eq0-via-else-k-eq0+then-image-k w ↦ no-such-run a.accepted (inr (omega (arith, hours _ a.head_of, w.if-image-k.true)))
    ]

pub returns : goal.returns
returns c = the-run c.args.image.now.accepted (omega (arith, c.if-k-eq0.false)) _ _ c.best_window-w.ensures
