-- How sharp the figures of document 02's note 6 are. Assumes nothing.
use mathlib.Core.List.{List, [], ◌∷◌, ◌++◌}
use mathlib.Core.Path.{◌≡◌, refl}
use Prim.Native.Nat.{ℕ, ◌+◌, ◌*◌, ◌≤◌}
use native.Mathlib.Omega.{arith}
use lib.ListN.{replicate}
use Rattle.lists.specs.Lists.{sum, tabulate}
use Rattle.reserve.specs.Reserve.{ceil, reserve}
use Rattle.store.specs.PageCode.{cells}
use Rattle.store.specs.Plain.{need, page}
use Rattle.store.specs.Limits.{max_total}

-- 122 may stand for 40 (`sharper`), 123 may not: 123 coins in an empty page take two cells
pub not-123 : ((s d : ℕ) → cells (s + d) ≤ cells s + ceil d 123) → ⊥
unfolding cells ceil reserve
not-123 h = let l : 2 ≤ 1 = h 0 123 in omega arith

-- eight are taken: all the coins of a store in an empty page
pub not-seven : ((s d : ℕ) → s + d ≤ max_total → cells (s + d) ≤ cells s + 7) → ⊥
unfolding cells ceil reserve
not-seven h = let l : 8 ≤ 7 = h 0 max_total (omega arith) in omega arith

-- beyond document 01's limit of coins eight do not suffice: the least number of coins that takes nine
pub nine-beyond : (cells 13634816812 ≡ 8) × (cells 13634816813 ≡ 9)
unfolding cells ceil reserve
nine-beyond = (refl, refl)

-- 63 more bits are reserved: 120 for 32 coins, 183 for 64
pub not-62 : ((s : ℕ) → reserve 6 (2 * s) ≤ reserve 6 s + 62) → ⊥
unfolding reserve
not-62 h = let l : 183 ≤ 182 = h 32 in omega arith

-- ---- an hour put in before others moves a count over each page's end, so that its own coins say nothing of the cells: two pages of 122
-- coins, of which the last hour of the first has one
unfoldable pub borders : List ℕ
borders = 121 ∷ (replicate 62 0 ++ (1 ∷ 122 ∷ []))

-- an hour without coins before hour 0, and page 1 has 123
pub insert-takes : need (0 ∷ borders) 2 ≡ need borders 2 + 1
unfolding borders need page cells ceil reserve tabulate sum
insert-takes = refl
