-- `store::total::total` meets its contract. Assumes nothing.
use mathlib.Core.Path.{ap, ◌∙◌}
use Prim.Native.Nat.{ℕ}
use native.Mathlib.Omega.{arith}
use Rattle.lists.specs.Lists.{sum, tabulate}
use Rattle.store.specs.Reading.{sum_in}
use Rattle.store.proofs.SoundFacts.{facts}
use Rattle.store.proofs.TotalLaws.{total-all}
use Rattle.store.proofs.total.total.Goals as goal

pub page_sums-requires : goal.page_sums-requires
page_sums-requires c =
    let f = facts c.args.s.bytes.now c.args.s.is_sound in
    (omega (arith, c.requires, f.pages-high), omega (arith, c.requires, f.long))

pub returns : goal.returns
returns c =
    let s = c.args.s in
    c.page_sums.ensures ∙ ap (λ (z : ℕ). sum (tabulate z (sum_in s.bytes.now))) c.requires ∙ total-all s.bytes.now s.is_sound
