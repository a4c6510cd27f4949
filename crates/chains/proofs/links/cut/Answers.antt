-- `chains::links::cut` meets its contract. Assumes nothing.
use Rattle.store.specs.Code.Links.{cut}
use Rattle.chains.proofs.links.cut.Goals as goal

pub returns : goal.returns
unfolding cut
returns c = cc
