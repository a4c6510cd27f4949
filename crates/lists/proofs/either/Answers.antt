-- `lists::either` meets its contract. Assumes nothing.
use Rattle.lists.specs.Lists.{pick}
use Rattle.lists.proofs.either.Goals as goal

pub returns-then-c : goal.returns-then-c
unfolding pick
returns-then-c c = rw c.if-c.true

pub returns-else-c : goal.returns-else-c
unfolding pick
returns-else-c c = rw c.if-c.false
