-- `image::head::tail_of` meets its contract. Assumes nothing.
use mathlib.Core.Path.{◌∙◌}
use Rattle.image.proofs.TailLaws.{no-edition}
use Rattle.image.proofs.head.tail_of.Goals as goal

pub returns-in_err-numbered : goal.returns-in_err-numbered
returns-in_err-numbered c =
    let n = rw c.in_err-numbered.was at c.numbered.ensures in
    rw c.from_residual.ensures (no-edition c.args.s.now (λ b e. n b (c.requires.1 ∙ e)))
