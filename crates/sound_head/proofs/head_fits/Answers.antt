-- `sound_head::head_fits` meets its contract: past the shape the total is left. Assumes nothing.
use mathlib.Core.Path.{sym, ap, ◌∙◌}
use Prim.Native.Nat.{ℕ}
use native.Mathlib.Omega.{arith}
use lib.Dec.{leb}
use Rattle.lists.specs.Lists.{sum, tabulate}
use Rattle.store.specs.Limits.{max_total}
use Rattle.store.specs.Reading.{sum_in}
use Rattle.store.proofs.ShapeLaws.{shaped}
use Rattle.sound_head.proofs.HeadTest.{head-last, head-no}
use Rattle.sound_head.proofs.head_fits.Goals as goal

pub returns-then-not-shape_fits : goal.returns-then-not-shape_fits
returns-then-not-shape_fits c = head-no c.args.s.now (sym c.if-not-shape_fits.ensures)

pub of-h-requires : goal.of-h-requires
of-h-requires c = omega (arith, (shaped c.args.s.now (sym c.if-not-shape_fits.ensures)).fitting.long)

pub page_sums-requires : goal.page_sums-requires
page_sums-requires c =
    let w = (shaped c.args.s.now (sym c.if-not-shape_fits.ensures)).fitting in
    let h = c.of-h.ensures in
    (omega (arith, h.pages-is, w.limits.pages-high), omega (arith, h.pages-is, w.long))

pub returns : goal.returns
returns c =
    let s = c.args.s.now in
    ap (λ (z : ℕ). leb z max_total) (c.page_sums.ensures ∙ ap (λ (n : ℕ). sum (tabulate n (sum_in s))) c.of-h.ensures.pages-is)
    ∙ head-last s (sym c.if-not-shape_fits.ensures)
