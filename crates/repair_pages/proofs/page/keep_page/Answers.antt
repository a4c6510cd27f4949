-- `repair_pages::keep_page` meets its contract. Assumes nothing.
use mathlib.Core.Path.{refl}
use native.Mathlib.Omega.{arith}
use Rattle.repair_pages.proofs.PageSteps.{chain-no, chain-yes, code-no, page-yes, total-no}
use Rattle.repair_pages.proofs.page.keep_page.Goals as goal

pub returns-then-total-sum : goal.returns-then-total-sum
returns-then-total-sum c =
    let a = c.args in
    total-no a.cells.now.bytes.now c.requires a.marks.now c.entry_at-entry.ensures c.get-sum.ensures refl c.if-total-sum.true

pub returns-then-not-chain_fits : goal.returns-then-not-chain_fits
returns-then-not-chain_fits c =
    let a = c.args in
    chain-no a.cells.now.bytes.now c.requires a.marks.now c.entry_at-entry.ensures c.get-sum.ensures c.cells_of-k.ensures.0
    c.if-not-chain_fits.ensures refl

pub returns-then-not-page_fits : goal.returns-then-not-page_fits
returns-then-not-page_fits c =
    let a = c.args in
    code-no a.cells.now.bytes.now c.requires a.marks.now c.entry_at-entry.ensures c.get-sum.ensures c.cells_of-k.ensures.0
    c.if-not-chain_fits.ensures refl c.if-not-page_fits.ensures refl

pub mark_chain-requires-clause-kept : goal.mark_chain-requires-clause-kept
mark_chain-requires-clause-kept c =
    let a = c.args in
    chain-yes a.cells.now.bytes.now c.requires a.marks.now c.entry_at-entry.ensures c.get-sum.ensures c.cells_of-k.ensures.0
    c.if-not-chain_fits.ensures refl

pub returns : goal.returns
returns c =
    let a = c.args in
    page-yes a.cells.now.bytes.now c.requires a.marks.now c.entry_at-entry.ensures c.get-sum.ensures c.cells_of-k.ensures.0
    c.if-not-chain_fits.ensures refl c.if-not-page_fits.ensures refl (omega (arith, c.if-total-sum.false)) _ c.mark_chain.ensures
