-- `dialogue::feed` meets its contract. Assumes nothing.
use mathlib.Core.Path.{◌≡◌}
use lib.ListN.{length, take}
use Rattle.dialogue.specs.Feed.{Feeds, stand}
use Rattle.dialogue.proofs.feed.Given as goal

abbrev pub invariant-loop-byte : goal.invariant-loop-byte
invariant-loop-byte l =
    (length l.store ≡ length l.initial.store) × (length l.line ≡ length l.initial.line) × (length l.out ≡ length l.initial.out)
    × Feeds (take l.byte-index l.chunk) (stand l.initial.next l.initial.store l.initial.line) 0 l.initial.out (stand l.next l.store l.line) l.next.said l.out
