-- `live_repair::drop_pages` meets its contract. Assumes nothing.
use mathlib.Core.Path.{◌≡◌}
use lib.ListN.{length, drop}
use Rattle.live_repair.specs.Code.Writing.{dropped}
use Rattle.live_repair.proofs.write.drop_pages.Given as goal

abbrev pub invariant-loop-p : goal.invariant-loop-p
invariant-loop-p l = (length l.s ≡ length l.initial.s) × (dropped l.initial.s l.lost ≡ dropped l.s (drop l.p-index l.lost))
