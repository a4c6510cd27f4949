-- The free chain of a store, walked with marks, and what is left of it where a walk stands. Assumes nothing.
use Rattle.std.specs.Prelude.{Bool, ◌&&◌, List, ℕ, suc, ◌*◌, get_or, replicate}
use Rattle.lists.specs.Lists.{same, tabulate}
use Rattle.bits.specs.Numbers.{number_at}
use Rattle.store.specs.Reading.{chain_from, code_in}
use Rattle.store.specs.Code.Checked.{ends-well, walk_marks}

-- every cell, 1 to C, has its mark
unfoldable pub every_cell_marked : ℕ → List ℕ → Bool
every_cell_marked C m = same (tabulate C (λ j. get_or m (suc j) 0)) (replicate C 1)

-- n cells of the free chain from the link at a on, walked with the marks m: then every cell is marked; and the n cells are clear
unfoldable pub free_from : List ℕ → ℕ → ℕ → ℕ → List ℕ → ℕ → Bool
free_from s base C n m a = ends-well (walk_marks s base C n m a) (every_cell_marked C) && same (code_in s base (chain_from s base n (number_at s a 2))) (replicate (30 * n) 0)

-- the whole free chain, with the marks m of the pages' chains
unfoldable pub free_chain_fits : List ℕ → ℕ → ℕ → List ℕ → Bool
free_chain_fits s base C m = free_from s base C (number_at s 8 2) m 6
