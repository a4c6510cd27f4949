-- `image_find::guess` meets its contract. Assumes nothing.
use native.Mathlib.Omega.{arith}
use Rattle.image_find.proofs.SearchSteps.{guess_small}
use Rattle.image_find.proofs.guess.Goals as goal

pub overflow_mul-k : goal.overflow_mul-k
overflow_mul-k c =
    record { fits = guess_small _ _ (omega (arith, c.requires)) (omega (arith, c.requires)) }
