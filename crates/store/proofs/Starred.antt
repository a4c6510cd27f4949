-- Document 01, 'Checked examples': the starred ones, as one table. Assumes nothing.
use mathlib.Core.Path.{◌≡◌, refl}
use mathlib.Core.Bool.{Bool, true, ◌&&◌}
use mathlib.Core.List.{List, [], ◌∷◌}
use Prim.Native.Nat.{ℕ}
use Rattle.lists.specs.Lists.{fill, same, sum}
use Rattle.bits.specs.Bits.{field}
use Rattle.reserve.specs.Reserve.{ceil, reserve}
use Rattle.tree.specs.Tree.{tree}
use Rattle.store.specs.PageCode.{cells}

-- what the definitions give, and what document 01 prints
pub record Row : Type 0 where
  pub given : List ℕ
  pub printed : List ℕ

row : List ℕ → List ℕ → Row
row g p = record { given = g; printed = p }

pub table : List Row
unfolding row
table =
    row (reserve 1 1 ∷ []) (1 ∷ [])
    ∷ row (reserve 1 2 ∷ []) (2 ∷ [])
    ∷ row (reserve 2 3 ∷ []) (5 ∷ [])
    ∷ row (reserve 2 6 ∷ []) (8 ∷ [])
    ∷ row (reserve 3 5 ∷ []) (12 ∷ [])
    ∷ row (reserve 6 1 ∷ []) (6 ∷ [])
    ∷ row (reserve 6 31 ∷ []) (117 ∷ [])
    ∷ row (reserve 6 32 ∷ []) (120 ∷ [])
    ∷ row (reserve 6 122 ∷ cells 122 ∷ []) (240 ∷ 1 ∷ [])
    ∷ row (reserve 6 123 ∷ cells 123 ∷ []) (241 ∷ 2 ∷ [])
    ∷ row (reserve 6 4294967295 ∷ cells 4294967295 ∷ []) (1820 ∷ 8 ∷ [])
    ∷ row (tree 2 (1 ∷ 0 ∷ 2 ∷ 0 ∷ [])) (0 ∷ 1 ∷ 1 ∷ 1 ∷ 0 ∷ [])
    ∷ []

pub right : List Row → Bool
right [] = true
right (x ∷ xs) = same x.given x.printed && right xs

pub starred : right table ≡ true
unfolding table row right same cells ceil reserve tree fill field sum
starred = refl
