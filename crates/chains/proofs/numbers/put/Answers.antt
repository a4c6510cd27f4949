-- `chains::numbers::put` meets its contract. Assumes nothing.
use Rattle.store.proofs.Writes.{put-splice}
use mathlib.Core.Path.{◌∙◌}
use Rattle.chains.proofs.numbers.put.Goals as goal

pub returns : goal.returns
returns g c =
    let a = c.args in
    c.put.ensures ∙ put-splice a.s.now a.at g.row.N a.v c.requires.in_bounds
