-- A page's bytes: how many, and that they say its counts. Assumes nothing.
use mathlib.Core.Path.{◌≡◌, refl, ap, ◌∙◌}
use mathlib.Core.List.{List, ◌++◌}
use Prim.Native.Nat.{ℕ, ◌+◌, ◌-◌, ◌*◌, ◌/◌, ◌≤◌}
use native.Mathlib.Omega.{arith}
use lib.ListN.{length, replicate}
use lib.Seq.{take_at}
use Rattle.lists.specs.Lists.{sum, fill}
use Rattle.bits.specs.Bits.{bits}
use Rattle.bits.proofs.Packing.{length-pack, bits-pack, length-fill, bits-fill}
use Rattle.reserve.specs.Reserve.{ceil, reserve}
use Rattle.reserve.proofs.Fit.{most}
use Rattle.tree.specs.Tree.{tree}
use Rattle.tree.specs.Read.{counts}
use Rattle.tree.proofs.Shape.{length-tree, bits-tree, counts-tree}
use Rattle.store.specs.Limits.{max_total}
use Rattle.store.specs.PageCode.{cells, page_bytes, counts_in_page}

-- 'none for sum 0'
pub cells-none : cells 0 ≡ 0
unfolding cells ceil reserve
cells-none = refl

-- as the code computes it
pub cells_is : (s : ℕ) → (reserve 6 s + 239) / 240 ≡ cells s
unfolding cells ceil
cells_is s = omega arith

pub cells-most : (s : ℕ) → s ≤ max_total → cells s ≤ 8
unfolding cells ceil
cells-most s l = omega (arith, most s (omega arith))

-- the cells hold the code
pub cells-hold : (s : ℕ) → reserve 6 s ≤ 240 * cells s
unfolding cells ceil
cells-hold s = omega arith

pub length-page : (xs : List ℕ) → length (page_bytes xs) ≡ 30 * cells (sum xs)
unfolding page_bytes
length-page xs = length-pack (30 * cells (sum xs)) (fill (240 * cells (sum xs)) (tree 6 xs))

-- the bits of a page's bytes: its tree, and zeros
pub page-bits : (xs : List ℕ) → bits (page_bytes xs) ≡ fill (240 * cells (sum xs)) (tree 6 xs)
unfolding page_bytes
page-bits xs =
    let k : ℕ = cells (sum xs) in
    let n : length (fill (240 * k) (tree 6 xs)) ≡ 240 * k = length-fill (240 * k) (tree 6 xs)
    (omega (arith, length-tree 6 xs, cells-hold (sum xs))) in
    bits-pack (30 * k) (fill (240 * k) (tree 6 xs)) (omega arith) (bits-fill (240 * k) (tree 6 xs) (bits-tree 6 xs))

-- what is read is what was written
pub counts-page : (xs : List ℕ) → length xs ≡ 64 → counts_in_page (sum xs) (page_bytes xs) ≡ xs
unfolding counts_in_page fill
counts-page xs l =
    let Z : List ℕ = replicate (240 * cells (sum xs) - length (tree 6 xs)) 0 in
    ap (λ (b : List ℕ). counts 6 (sum xs) b 0) (page-bits xs)
    ∙ counts-tree 6 xs (tree 6 xs ++ Z) 0 l (take_at (tree 6 xs) Z (reserve 6 (sum xs)) (length-tree 6 xs))
