-- `image_query::page_with` meets its contract. Assumes nothing.
use native.Mathlib.Omega.{arith}
use lib.Pow.{pow_pos}
use Rattle.image.proofs.HeadLaws.{bounds}
use Rattle.image_query.proofs.page_with.Goals as goal

pub power-requires : goal.power-requires
power-requires c = omega (arith, (bounds _ _ c.args.image.now.opened).e-high)

pub nonzero_div-result : goal.nonzero_div-result
nonzero_div-result c = omega (arith, c.power.ensures, pow_pos c.args.image.now.head.e)
