-- `image_write::put::put_image` meets its contract. Assumes nothing.
use mathlib.Core.Path.{◌≡◌}
use Rattle.image_put.specs.Code.Writing.{Laid}
use Rattle.image_write.proofs.put.put_image.Given as goal

abbrev pub invariant-loop-page : goal.invariant-loop-page
invariant-loop-page l = record { laid : Laid l.counts l.fn.out l.out l.r l.at; at : l.at.page ≡ l.page }
