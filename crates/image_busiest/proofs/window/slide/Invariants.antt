-- `image_busiest::window::slide` meets its contract. Assumes nothing.
use mathlib.Core.Path.{◌≡◌}
use Prim.Native.Nat.{◌+◌}
use Rattle.image_busiest.specs.Code.{Looked}
use Rattle.image_busiest.proofs.window.slide.Given as goal

abbrev pub invariant-loop-i : goal.invariant-loop-i
invariant-loop-i g l = (l.w.first ≡ l.fn.at.first + l.i) × Looked l.back.image.now.bytes.now g.k l.w
