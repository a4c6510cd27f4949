-- `image_cursor::cursor::Cursor::new` meets its contract. Assumes nothing.
use mathlib.Core.Path.{refl}
use native.Mathlib.Omega.{arith}
use Rattle.image_cursor.proofs.CursorLaws.{ready-end}
use Rattle.image_cursor.proofs.cursor.Cursor.new.Goals as goal

pub invariant_of-result : goal.invariant_of-result
invariant_of-result c = record { ready = ready-end _ c.args.image.now.head_of _ _ (omega arith) refl }
