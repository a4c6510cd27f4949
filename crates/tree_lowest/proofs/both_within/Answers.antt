-- `tree_lowest::both_within` meets its contract. Assumes nothing.
use mathlib.Core.Path.{sym}
use mathlib.Core.Bool.{and-true}
use lib.Dec.{leb}
use borrow.Author.Tests.{le-leb, lt-leb}
use Rattle.lists.specs.Counts.{within}
use Rattle.lists.specs.Lists.{every}
use Rattle.tree_lowest.proofs.both_within.Goals as goal

pub returns-then-x-widest : goal.returns-then-x-widest
unfolding within every
returns-then-x-widest c =
    let a = c.args in
    sym (rw (le-leb a.x a.widest c.if-x-widest.true, and-true (leb a.y a.widest)))

pub returns-else-x-widest : goal.returns-else-x-widest
unfolding within every
returns-else-x-widest c = rw (lt-leb _ _ c.if-x-widest.false)
