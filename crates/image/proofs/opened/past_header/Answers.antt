-- `image::opened::past_header` meets its contract. Assumes nothing.
use native.Mathlib.Omega.{arith}
use Rattle.image.proofs.CheckLaws.{past-5}
use Rattle.image.proofs.opened.past_header.Goals as goal

pub invariant_of-result : goal.invariant_of-result
invariant_of-result c =
    record { opened = record { head = c.requires.1; passed = past-5 _ c.requires.0 }; each = λ i. omega (arith, c.type_inv.bytes i) }
