-- `live::append` meets its contract. Assumes nothing.
use Rattle.store.specs.Plain.{Append}
use Rattle.coin_cost.specs.Cost.{by_append}
use Rattle.coin_cost.proofs.CallCosts.{with-cost}
use Rattle.live.proofs.append.Goals as goal

pub returns-clause-takes_at_most : goal.returns-clause-takes_at_most
returns-clause-takes_at_most c = (with-cost (Append c.args.v) (by_append c.args.v _) c.append.ensures).1
