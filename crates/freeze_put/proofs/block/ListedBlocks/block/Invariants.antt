-- `freeze_put::block::ListedBlocks::block` meets its contract. Assumes nothing.
use mathlib.Core.Path.{◌≡◌}
use Rattle.lists.specs.Lists.{splice}
use Rattle.lists.proofs.Blocks.{row}
use Rattle.store.specs.Reading.{list_in}
use Rattle.freeze_put.proofs.block.ListedBlocks.block.Given as goal

abbrev pub invariant-loop-j : goal.invariant-loop-j
invariant-loop-j l = l.counts ≡ splice l.initial.counts 0 (row 64 (list_in l.self.store.bytes.now) l.first l.j)
