-- `live_query::count` meets its contract. Assumes nothing.
use native.Mathlib.Omega.{arith}
use Rattle.store.proofs.SoundFacts.{facts}
use Rattle.live_page.proofs.Questions.{count-7, count-is}
use Rattle.live_query.proofs.count.Goals as goal

pub of-head-requires : goal.of-head-requires
of-head-requires c = omega (arith, (facts c.args.s.bytes.now c.args.s.is_sound).long)

pub returns-then-head-i : goal.returns-then-head-i
returns-then-head-i c = count-7 c.args.s.is_sound c.of-head.ensures _ c.if-head-i.true

pub returns : goal.returns
returns c =
    count-is c.args.s.is_sound c.of-head.ensures _ _ c.if-head-i.false c.count_in.ensures
