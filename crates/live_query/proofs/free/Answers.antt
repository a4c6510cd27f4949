-- `live_query::free` meets its contract. Assumes nothing.
use native.Mathlib.Omega.{arith}
use Rattle.store.proofs.SoundFacts.{facts}
use Rattle.live_page.proofs.Questions.{free-is}
use Rattle.live_query.proofs.free.Goals as goal

pub of-head-requires : goal.of-head-requires
of-head-requires c = omega (arith, (facts c.args.s.bytes.now c.args.s.is_sound).long)

pub returns : goal.returns
returns c = free-is c.args.s.is_sound c.of-head.ensures
