-- `image_put::begin` meets its contract. Assumes nothing.
use mathlib.Core.Path.{refl}
use Rattle.std.proofs.Common.{rules}
use Rattle.image_put.proofs.PagesLaid.{begun, ends}
use Rattle.image_put.proofs.begin.Goals as goal

pub put_header-requires : goal.put_header-requires
put_header-requires c =
    let g = ends c.requires.room in
    (g.long, g.e-most)

pub returns : goal.returns
returns c = (
  refl,
  λ a. begun c.args.out.now c.put_header.new.out a.room (λ i. search rules) c.put_header.auto.out
      c.put_header.ensures,
)
