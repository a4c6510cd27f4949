-- `tree_narrow::nodes` meets its contract. Assumes nothing.
use mathlib.Core.Path.{◌∙◌}
use Rattle.tree_narrow.proofs.NodeSteps.{exact-few, leaf-narrow}
use Rattle.tree_narrow.proofs.nodes.Goals as goal

pub returns-then-h-eq0 : goal.returns-then-h-eq0
returns-then-h-eq0 c = leaf-narrow _ _ _ _ _ c.if-h-eq0.true

pub returns-then-s-widest : goal.returns-then-s-widest
returns-then-s-widest c =
    c.nodes.ensures ∙ exact-few c.args.widest c.requires.0 c.if-s-widest.true
