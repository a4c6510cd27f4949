-- `pages::entry::Entry::code` meets its contract: the page's chain can be walked, and its cells hold the page's code (`gathered`).
-- Assumes nothing.
use native.Mathlib.Omega.{arith}
use Rattle.pages.proofs.SoundPage.{base-low, few, gathered, page-steps, pages-few}
use Rattle.pages.proofs.entry.Entry.code.Goals as goal

pub entry_at-requires : goal.entry_at-requires
entry_at-requires c = omega (arith, pages-few c.args.self.now.of_page, c.args.self.now.of_page.inside)

pub copy_chain-requires : goal.copy_chain-requires
copy_chain-requires c =
    let o = c.args.self.now.of_page in
    (base-low o, omega (arith, few o), page-steps o _ c.entry_at.ensures)

pub returns : goal.returns
returns c =
    let w = c.copy_chain in
    gathered c.args.self.now.of_page _ w.new.out c.entry_at.ensures w.ensures
