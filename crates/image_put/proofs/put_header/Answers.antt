use mathlib.Core.Bool.{false, true}
use mathlib.Core.Path.{◌≡◌, sym, ap, ◌∙◌}
use native.Mathlib.Omega.{arith}
use Rattle.image.specs.Image.{wide}
use Rattle.image.specs.Code.Head.{is_wide}
use Rattle.image.proofs.Editions.{header-least}
use Rattle.image_put.proofs.Writing.{header-put}
use Rattle.image_put.proofs.put_header.Goals as goal

pub put_front-requires : goal.put_front-requires
put_front-requires c =
    (omega (arith, c.requires.0, header-least (wide c.args.r.total)), c.requires.1)

pub returns-in-Narrow : goal.returns-in-Narrow
returns-in-Narrow c =
    let r = c.args.r in
    let w : false ≡ wide r.total = sym (ap is_wide c.in-Narrow.is) ∙ c.for_total-edition.ensures in
    header-put c.args.out.now _ _ _ r.e r.hours r.total r.bits w c.requires.0 (rw c.in-Narrow.is at c.put_front.ensures) c.put_narrow.ensures

pub returns-in-Wide : goal.returns-in-Wide
returns-in-Wide c =
    let r = c.args.r in
    let w : true ≡ wide r.total = sym (ap is_wide c.in-Wide.is) ∙ c.for_total-edition.ensures in
    header-put c.args.out.now _ _ _ r.e r.hours r.total r.bits w c.requires.0 (rw c.in-Wide.is at c.put_front.ensures) c.put_wide.ensures
