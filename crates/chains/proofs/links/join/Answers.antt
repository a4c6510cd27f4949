-- `chains::links::join` meets its contract. Assumes nothing.
use Rattle.store.specs.Code.Links.{joined}
use Rattle.chains.proofs.links.join.Goals as goal

pub returns : goal.returns
unfolding joined
returns c = cc
