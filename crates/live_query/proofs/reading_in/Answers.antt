-- `live_query::reading_in` meets its contract. Assumes nothing.
use mathlib.Core.Path.{◌≡◌, ap, ◌∙◌}
use Prim.Native.Nat.{ℕ, ◌+◌, ◌-◌, ◌*◌}
use native.Mathlib.Omega.{arith}
use lib.ListN.{get_or}
use Rattle.lists.specs.Lists.{reading as reading_of}
use Rattle.store.specs.Reading.{list_in}
use Rattle.store.proofs.SoundFacts.{facts}
use Rattle.pages.proofs.Prefix.{before-fits}
use Rattle.live_page.proofs.PageSums.{reading-behind}
use Rattle.live_page.proofs.PageTree.{page-same}
use Rattle.live_query.proofs.reading_in.Goals as goal

pub before-all-requires : goal.before-all-requires
before-all-requires c = omega (arith, (facts c.args.s.bytes.now c.args.s.is_sound).hours-fit, c.of-spot.ensures.0)

pub returns-then-spot-eq0 : goal.returns-then-spot-eq0
returns-then-spot-eq0 c =
    let xs = list_in c.args.s.bytes.now in
    let e : 64 * c.of-spot.result.page ≡ c.args.i = omega (arith, c.of-spot.ensures.0, c.of-spot.ensures.1) in
    c.before-all.ensures ∙ ap (reading_of xs) e

pub entry_of-page-requires : goal.entry_of-page-requires
entry_of-page-requires c = omega (arith, (facts c.args.s.bytes.now c.args.s.is_sound).hours-fit, c.of-spot.ensures.0, c.of-spot.ensures.1)

pub sum_through-requires : goal.sum_through-requires
sum_through-requires c = (
  omega (arith, c.of-spot.ensures.1),
  omega (arith, before-fits c.args.s.bytes.now c.args.s.is_sound (64 * c.of-spot.result.page), c.before-all.ensures),
)

pub returns : goal.returns
returns c =
    let xs = list_in c.args.s.bytes.now in
    let j : ℕ = c.of-spot.result.index - 1 in
    let w = c.sum_through.ensures ∙ page-same c.entry_of-page.ensures (λ x. c.before-all.result + reading_of x j + get_or x j 0) in
    reading-behind xs c.args.i c.of-spot.result.page j c.sum_through.result (omega (arith, c.of-spot.ensures.1))
    (omega (arith, c.of-spot.ensures.0, c.of-spot.ensures.1)) (omega (arith, w, c.before-all.ensures))
