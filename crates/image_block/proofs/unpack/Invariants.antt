-- `image_block::unpack` meets its contract. Assumes nothing.
use mathlib.Core.Path.{◌≡◌}
use Rattle.lists.specs.Lists.{splice}
use Rattle.image.specs.Read.{list_of}
use Rattle.lists.proofs.Blocks.{row}
use Rattle.image_block.proofs.unpack.Given as goal

abbrev pub invariant-loop-j : goal.invariant-loop-j
invariant-loop-j l = l.counts ≡ splice l.initial.counts 0 (row l.m (list_of l.image.bytes.now) l.first l.j)
