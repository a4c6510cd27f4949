-- The chains of a store, walked with marks. Assumes nothing.
use Rattle.std.specs.Prelude.{Bool, List, ℕ, replicate}
use Rattle.store.specs.Layout.{cells_start}
use Rattle.store.specs.Reading.{cells_of, hours_in, page_count_of}
use Rattle.store.specs.Code.Checked.{check_pages, ends-well, marks_length}
use Rattle.sound_free.specs.Code.Free.{free_chain_fits}

-- the pages' chains, walked with no marks at first, and then the free chain
unfoldable pub all_chains_fit : List ℕ → Bool
all_chains_fit s =
    let P = page_count_of s in
    let C = cells_of s in
    ends-well (check_pages s P C (hours_in s) P 0 (replicate marks_length 0)) (free_chain_fits s (cells_start P) C)
