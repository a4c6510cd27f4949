-- `image_busiest::busiest` meets its contract. Assumes nothing.
use Rattle.std.proofs.lemmas.Result.{err_from_is_err_and}
use Rattle.image_busiest.specs.Busiest.{not-accepted}
use Rattle.image_busiest.proofs.busiest.Goals as goal

pub returns-in_err-image : goal.returns-in_err-image
returns-in_err-image c =
    let p = err_from_is_err_and c.from_residual.result c.from_residual.ensures.1 in
    rw (p.1, p.2) (not-accepted _ c.in_err-image.ensures)
