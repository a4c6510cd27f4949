-- `live_query::count_in` meets its contract. Assumes nothing.
use mathlib.Core.Path.{ap₂, ◌∙◌}
use Prim.Native.Nat.{ℕ}
use native.Mathlib.Omega.{arith}
use lib.ListN.{get_or}
use Rattle.store.specs.Plain.{page}
use Rattle.store.specs.Reading.{list_in}
use Rattle.store.proofs.SoundFacts.{facts}
use Rattle.store.proofs.HourLaws.{page-hour}
use Rattle.live_page.proofs.PageTree.{page-same}
use Rattle.live_query.proofs.count_in.Goals as goal

pub entry_of-page-requires : goal.entry_of-page-requires
entry_of-page-requires c = omega (arith, (facts c.args.s.bytes.now c.args.s.is_sound).hours-fit, c.of-spot.ensures.0)

pub returns : goal.returns
returns c =
    let xs = list_in c.args.s.bytes.now in
    let spot = c.of-spot in
    c.count_of.ensures ∙ page-same c.entry_of-page.ensures (λ x. get_or x spot.result.index 0)
    ∙ ap₂ (λ (p j : ℕ). get_or (page xs p) j 0) spot.ensures.0 spot.ensures.1 ∙ page-hour xs c.args.i
