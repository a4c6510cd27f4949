-- `freeze_put::put_image` meets its contract. Assumes nothing.
use native.Mathlib.Omega.{arith}
use Rattle.store.proofs.SoundFacts.{facts}
use Rattle.freeze_put.proofs.put_image.Goals as goal

pub of-requires : goal.of-requires
of-requires c = omega (arith, (facts c.args.s.bytes.now c.args.s.is_sound).long)
