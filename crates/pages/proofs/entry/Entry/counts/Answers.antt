-- `pages::entry::Entry::counts` meets its contract. Assumes nothing.
use mathlib.Core.Path.{sym}
use native.Mathlib.Omega.{arith}
use lib.Seq.{length-take-le}
use Rattle.tree_decode.proofs.Limits.{small-fits}
use Rattle.store.specs.Plain.{page}
use Rattle.store.specs.Reading.{list_in}
use Rattle.store.proofs.Holds.{page-length}
use Rattle.pages.proofs.Coding.{code-exact, decoded, lies}
use Rattle.pages.proofs.SoundPage.{sum_same, sum-small}
use Rattle.pages.proofs.entry.Entry.counts.Goals as goal

pub decode-requires : goal.decode-requires
decode-requires c =
    let g = c.code-code in
    let a = c.args.self.now in
    let xs = list_in a.bytes.now in
    let y = lies g.result a.sum (omega arith) (sum-small a.of_page) in
    let x = code-exact g.result (page xs a.page) _ a.sum (page-length xs a.page) (sum_same a.of_page) g.ensures.code_is in
    record { code = record { lies = y; code = x; fits = small-fits y x (omega (arith, sum-small a.of_page)) }; room = omega arith }

pub slice_bounds-copy_from_slice-end-2 : goal.slice_bounds-copy_from_slice-end-2
slice_bounds-copy_from_slice-end-2 c = sym (length-take-le 64 c.decode.new.out (omega arith))

pub copy_from_slice-requires : goal.copy_from_slice-requires
copy_from_slice-requires c = sym (length-take-le 64 c.decode.new.out (omega arith))

pub returns : goal.returns
returns c =
    let d = c.decode in
    let g = c.code-code in
    let a = c.args.self.now in
    let xs = list_in a.bytes.now in
    decoded g.result (page xs a.page) _ a.sum (page-length xs a.page) (sum_same a.of_page) g.ensures.code_is _ _ _ d.ensures c.copy_from_slice.ensures.after
