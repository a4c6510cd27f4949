-- `live_search::reach` meets its contract. Assumes nothing.
use mathlib.Core.Path.{ap, ◌∙◌}
use Prim.Native.Nat.{ℕ}
use native.Mathlib.Omega.{arith}
use Rattle.lists.specs.Lists.{reached}
use Rattle.store.specs.Reading.{list_in}
use Rattle.store.proofs.SoundFacts.{facts}
use Rattle.live_page.proofs.Questions.{reach-8, reach-is}
use Rattle.live_search.proofs.reach.Goals as goal

pub of-requires : goal.of-requires
of-requires c = omega (arith, (facts c.args.s.bytes.now c.args.s.is_sound).long)

pub total-requires : goal.total-requires
total-requires c = c.of.ensures.pages-is

pub returns-then-total-q : goal.returns-then-total-q
returns-then-total-q c =
    reach-8 c.args.s.is_sound c.args.q c.total.result c.total.ensures (omega (arith, c.from-q.ensures, c.if-total-q.true))

pub returns : goal.returns
returns c =
    let e = c.from-q.ensures in
    reach-is c.args.s.is_sound c.args.q c.total.result c.total.ensures c.reach_in.result
    (omega (arith, e, c.if-total-q.false)) (c.reach_in.ensures ∙ ap (λ (q : ℕ). reached q (list_in c.args.s.bytes.now)) e)
