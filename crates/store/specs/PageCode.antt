-- Document 01, 'The live store': a page of 64 counts as the bytes of its cells. Assumes nothing.
use Rattle.std.specs.Prelude.{List, ℕ, ◌*◌}
use Rattle.lists.specs.Lists.{sum, fill}
use Rattle.bits.specs.Bits.{bits}
use Rattle.bits.specs.Pack.{pack}
use Rattle.reserve.specs.Reserve.{ceil, reserve}
use Rattle.tree.specs.Tree.{tree}
use Rattle.tree.specs.Read.{counts}

-- 'A page of sum s has ceil(R(64, s) / 240) cells, none for sum 0' (`cells-none`)
unfoldable pub cells : ℕ → ℕ
cells s = ceil (reserve 6 s) 240

-- 'Its code runs along its chain, unused bits zero': the page's tree filled up with zeros to 240 bits for each cell, 30 bytes each
unfoldable pub page_bytes : List ℕ → List ℕ
page_bytes xs = pack (30 * cells (sum xs)) (fill (240 * cells (sum xs)) (tree 6 xs))

-- the bytes of eight cells' code, which every page has room in (`cells-most`)
abbrev pub page_room : ℕ
page_room = 8 * 30

-- the counts that bytes say of a page of sum s, whatever the bytes are
unfoldable pub counts_in_page : ℕ → List ℕ → List ℕ
counts_in_page s bytes = counts 6 s (bits bytes) 0
