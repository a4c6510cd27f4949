-- `image_page::PageAt::unpack` meets its contract. Assumes nothing.
use mathlib.Core.List.{List}
use mathlib.Core.Path.{◌≡◌}
use Prim.Native.Nat.{ℕ, ◌+◌}
use native.Mathlib.Omega.{arith}
use Rattle.image.specs.Read.{start_of, tree_at}
use Rattle.image_page.specs.Code.Places.{PlacesOf}
use Rattle.image_page.proofs.AcceptedPage.{accepted-page, counts-fit, decoded, numbers, tree-coded, tree-lies}
use Rattle.image_page.proofs.PageAt.unpack.Goals as goal

pub overflow_add-tree : goal.overflow_add-tree
overflow_add-tree c =
    let i = c.args.self.now in
    let g = accepted-page _ i.places.now.accepted i.p i.inside in
    omega (arith, g.end_low, g.code-low, i.places.now.places.code_is, c.start.ensures)

pub overflow_add-tree-2 : goal.overflow_add-tree-2
overflow_add-tree-2 c =
    let i = c.args.self.now in
    let g = accepted-page _ i.places.now.accepted i.p i.inside in
    let q = i.places.now.places in
    omega (arith, g.end_low, g.code-low, q.code_is, q.width_is, c.start.ensures)

tree : (s : List ℕ) (p : ℕ) {entries code w r : ℕ} → PlacesOf s entries code w → r ≡ start_of s p → code + r + w ≡ tree_at s p
unfolding tree_at
tree s p q e = omega (arith, q.code_is, q.width_is, e)

pub decode-requires : goal.decode-requires
decode-requires c =
    let i = c.args.self.now.places.now in
    let n = numbers i.accepted i.page c.args.self.now.inside c.requires.0 (tree _ _ i.places c.start.ensures) in
    record { code = record { lies = tree-lies n; code = tree-coded n; fits = counts-fit n }; room = c.requires.1 }

pub returns : goal.returns
returns c =
    let i = c.args.self.now.places.now in
    decoded (numbers i.accepted i.page c.args.self.now.inside c.requires.0 (tree _ _ i.places c.start.ensures)) c.args.from _ _ c.decode.ensures
