-- `sound_head::shape_fits` meets its contract: each return is one of the shape's tests. Assumes nothing.
use mathlib.Core.Path.{sym, ap₂, subst₂, ◌∙◌}
use native.Mathlib.Omega.{arith}
use Rattle.store.specs.Fitting.{Fitting, fits}
use Rattle.store.proofs.LimitLaws.{fitting}
use Rattle.sound_head.proofs.HeadTest.{pair-number, shape-last, shape-no, unfit}
use Rattle.sound_head.proofs.shape_fits.Goals as goal

pub returns-then-s-lt-SIZE : goal.returns-then-s-lt-SIZE
returns-then-s-lt-SIZE c =
    let s = c.args.s.now in
    shape-no s (λ h. omega (arith, h.fitting.long, c.if-s-lt-SIZE.true))

pub returns-then-get : goal.returns-then-get
returns-then-get c =
    let s = c.args.s.now in
    shape-no s (λ h. c.if-get.true (c.get.ensures.is ∙ pair-number s 0 1 h.edition))

pub returns-then-get-ne0 : goal.returns-then-get-ne0
returns-then-get-ne0 c =
    let s = c.args.s.now in
    shape-no s (λ h. c.if-get-ne0.true (c.get-2.ensures.is ∙ pair-number s 10 0 h.gap))

pub returns-then-not-fits : goal.returns-then-not-fits
returns-then-not-fits c =
    let s = c.args.s.now in
    let h = c.of-h.ensures in
    unfit s (sym (ap₂ (fits s) h.pages-is h.cells_is) ∙ sym c.if-not-fits.ensures)

pub returns : goal.returns
returns c =
    let h = c.of-h.ensures in
    let s = c.args.s.now in
    let f = fitting s _ _ (sym c.if-not-fits.ensures) in
    shape-last s (omega (arith, c.if-s-lt-SIZE.false)) h.pages-is h.hours-is (sym c.get.ensures.is ∙ c.if-get.false)
    (sym c.get-2.ensures.is ∙ c.if-get-ne0.false) (subst₂ (Fitting s) h.pages-is h.cells_is f)
