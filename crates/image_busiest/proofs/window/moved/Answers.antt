-- `image_busiest::window::moved` meets its contract. Assumes nothing.
use Rattle.image_busiest.proofs.WindowLaws.{later-new, later-old}
use Rattle.image_busiest.proofs.window.moved.Goals as goal

pub returns-then-w-sum : goal.returns-then-w-sum
returns-then-w-sum c = later-new _ _ _ c.if-w-sum.true

pub returns-else-w-sum : goal.returns-else-w-sum
returns-else-w-sum c = later-old _ _ _ c.if-w-sum.false
