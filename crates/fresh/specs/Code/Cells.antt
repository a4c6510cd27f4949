-- Cells that are linked one to the next. Assumes nothing.
use Rattle.std.specs.Prelude.{List, ℕ, zero, suc, ◌+◌}
use Rattle.store.specs.Layout.{cell_at}
use Rattle.store.specs.Code.Links.{put}

-- each of the cells 1 to k linked to the next
unfoldable pub chained : List ℕ → ℕ → ℕ → List ℕ
chained s base zero = s
chained s base (suc k) = put (chained s base k) (cell_at base (suc k)) 2 (suc k + 1)
