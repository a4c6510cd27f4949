-- `live::set` meets its contract. Assumes nothing.
use Rattle.store.specs.Plain.{Set}
use Rattle.coin_cost.specs.Cost.{by-set}
use Rattle.coin_cost.proofs.CallCosts.{with-cost}
use Rattle.live.proofs.set.Goals as goal

pub returns-clause-takes_at_most : goal.returns-clause-takes_at_most
returns-clause-takes_at_most c = (with-cost (Set c.args.i c.args.v) (by-set c.args.i c.args.v _) c.set.ensures).1
