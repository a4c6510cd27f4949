-- `image_busiest::window::best_window` meets its contract. Assumes nothing.
use mathlib.Core.Path.{◌≡◌}
use Prim.Native.Nat.{◌-◌}
use Rattle.image_busiest.specs.Code.{AtEnds, Looked}
use Rattle.image_busiest.proofs.window.best_window.Given as goal

abbrev pub ghost-slide : goal.ghost-slide
ghost-slide a = a.front.now.hour - a.back.now.hour

abbrev pub invariant-loop-front : goal.invariant-loop-front
invariant-loop-front l = Looked l.image.bytes.now l.k l.at × AtEnds l.k l.at l.front l.back × (l.back.image.now ≡ l.image)

abbrev pub decreases-loop-front : goal.decreases-loop-front
decreases-loop-front l = l.image.head.hours - l.at.first
