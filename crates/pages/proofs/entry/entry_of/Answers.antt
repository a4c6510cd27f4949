-- `pages::entry::entry_of` meets its contract. Assumes nothing.
use mathlib.Core.Path.{ap, ◌∙◌}
use native.Mathlib.Omega.{arith}
use Rattle.store.specs.Layout.{cells_start}
use Rattle.store.proofs.SoundFacts.{facts, sound-holds, sum-read}
use Rattle.pages.proofs.entry.entry_of.Goals as goal

pub entry_at-requires : goal.entry_at-requires
entry_at-requires c = omega (arith, (facts c.args.s.bytes.now c.args.s.is_sound).pages-high)

pub get-sum-requires-clause-in_bounds : goal.get-sum-requires-clause-in_bounds
get-sum-requires-clause-in_bounds c = omega (arith, (facts c.args.s.bytes.now c.args.s.is_sound).long, c.entry_at.ensures)

pub get-requires-clause-in_bounds : goal.get-requires-clause-in_bounds
get-requires-clause-in_bounds c = omega (arith, (facts c.args.s.bytes.now c.args.s.is_sound).long)

pub cells_from-requires : goal.cells_from-requires
cells_from-requires c = omega (arith, c.get.ensures.small)

pub invariant_of-result : goal.invariant_of-result
invariant_of-result c =
    let a = c.args in
    record {
      of_page = record {
        holds = sound-holds a.s.bytes.now a.s.is_sound;
        base-is = c.cells_from.ensures ∙ ap cells_start c.get.ensures.is;
        inside = c.requires;
        sum_is = sum-read a.s.bytes.now a.p _ _ c.entry_at.ensures c.get-sum.ensures.is;
        cells_is = c.cells_of.ensures.0;
      };
    }
