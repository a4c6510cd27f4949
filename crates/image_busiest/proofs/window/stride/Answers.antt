-- `image_busiest::window::stride` meets its contract. Assumes nothing.
use native.Mathlib.Omega.{arith}
use Rattle.image_cursor.proofs.CursorLaws.{small}
use Rattle.image_busiest.proofs.window.stride.Goals as goal

pub ahead-requires : goal.ahead-requires
ahead-requires c =
    let a = c.args.image.now in
    (small _ a.head_of a.accepted, a.head_of.hours-small, omega (arith, c.requires))

pub ahead-requires-2 : goal.ahead-requires-2
ahead-requires-2 c =
    let a = c.args.image.now in
    (small _ a.head_of a.accepted, a.head_of.hours-small, omega (arith, c.requires))
