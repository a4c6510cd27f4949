-- `image_page::PageAt::root` meets its contract. Assumes nothing.
use mathlib.Core.Path.{ap₂, ◌∙◌}
use Prim.Native.Nat.{ℕ, ◌+◌}
use native.Mathlib.Omega.{arith}
use Rattle.lists.specs.Lists.{part}
use Rattle.bits.specs.Bits.{bits, value}
use Rattle.image.specs.Read.{root_at}
use Rattle.image_page.proofs.AcceptedPage.{accepted-page, roots}
use Rattle.image_page.proofs.PageAt.root.Goals as goal

pub overflow_add-self : goal.overflow_add-self
overflow_add-self c =
    let i = c.args.self.now in
    let g = accepted-page _ i.places.now.accepted i.p i.inside in
    omega (arith, g.end_low, g.code-low, i.places.now.places.code_is, c.start.ensures)

pub get_field-requires : goal.get_field-requires
get_field-requires c =
    let i = c.args.self.now in
    let g = accepted-page _ i.places.now.accepted i.p i.inside in
    let q = i.places.now.places in
    omega (arith, g.end_low, g.code-low, g.end-in, g.narrow, g.entry_in, g.head-low, q.code_is, q.width_is, c.start.ensures)

pub returns-clause-bytes : goal.returns-clause-bytes
unfolding root_at
returns-clause-bytes c =
    let i = c.args.self.now.places.now in
    c.get_field.ensures
    ∙ ap₂ (λ (x y : ℕ). value (part (bits i.bytes.now) x y)) (ap₂ ◌+◌ i.places.code_is c.start.ensures) i.places.width_is

pub returns-clause-list : goal.returns-clause-list
returns-clause-list c =
    let i = c.args.self.now in
    returns-clause-bytes c ∙ roots _ i.places.now.accepted _ i.inside
