-- `live_search::page_of` meets its contract. The loop's invariant: the pages before do not reach the figure. Assumes nothing.
use Prim.Native.Nat.{◌-◌}
use Rattle.store.specs.Reading.{list_in, page_count_of}
use Rattle.live_search.proofs.SpotLaws.{Going}
use Rattle.live_search.proofs.page_of.Given as goal

abbrev pub invariant-loop-before : goal.invariant-loop-before
invariant-loop-before l = Going (list_in l.s.bytes.now) (page_count_of l.s.bytes.now) l.q l.page l.before l.all

abbrev pub decreases-loop-before : goal.decreases-loop-before
decreases-loop-before l = page_count_of l.s.bytes.now - l.page
