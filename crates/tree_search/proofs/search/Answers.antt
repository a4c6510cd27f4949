-- `tree_search::search` meets its contract. Assumes nothing.
use Rattle.tree.proofs.SearchLaws.{seek-positive}
use Rattle.tree_search.proofs.SeekSteps.{none-found, some-found}
use Rattle.tree_search.proofs.search.Goals as goal

pub returns-then-index-eq-NOWHERE : goal.returns-then-index-eq-NOWHERE
returns-then-index-eq-NOWHERE c = none-found _ _ (seek-positive _ c.args.s _ _ _) c.search_node-index.ensures c.if-index-eq-NOWHERE.true

pub returns : goal.returns
returns c = some-found _ _ c.search_node-index.ensures c.if-index-eq-NOWHERE.false
