-- `image_page::PageAt::start` meets its contract. Assumes nothing.
use mathlib.Core.Path.{ap, ◌∙◌}
use Prim.Native.Nat.{ℕ, ◌+◌, ◌*◌}
use native.Mathlib.Omega.{arith}
use Rattle.bits.specs.Numbers.{number_at}
use Rattle.image.specs.Read.{start_of}
use Rattle.image_page.proofs.AcceptedPage.{accepted-page}
use Rattle.image_page.proofs.PageAt.start.Goals as goal

pub table_at-requires : goal.table_at-requires
table_at-requires c =
    let i = c.args.self.now in
    let g = accepted-page _ i.places.now.accepted i.p i.inside in
    (omega (arith, i.places.now.places.entries-are, g.head-high), omega (arith, g.few))

pub get-requires-clause-in_bounds : goal.get-requires-clause-in_bounds
get-requires-clause-in_bounds c =
    let i = c.args.self.now in
    let g = accepted-page _ i.places.now.accepted i.p i.inside in
    omega (arith, g.entry_in, c.table_at.ensures, i.places.now.places.entries-are)

pub returns : goal.returns
unfolding start_of
returns c =
    let i = c.args.self.now in
    c.get.ensures.is ∙ ap (λ (z : ℕ). number_at i.places.now.bytes.now z 4)
    (c.table_at.ensures ∙ ap (λ (z : ℕ). z + 4 * i.p) i.places.now.places.entries-are)
