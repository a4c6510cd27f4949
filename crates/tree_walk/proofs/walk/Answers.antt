-- `tree_walk::walk` meets its contract: the walk down begins with nothing before it. Assumes nothing.
use mathlib.Core.Bool.{Bool, true, false}
use Prim.Native.Nat.{◌≤◌}
use native.Mathlib.Omega.{arith}
use Rattle.std.specs.Int.{from_bool}
use Rattle.tree.proofs.WalkLaws.{walk-most}
use Rattle.tree_walk.proofs.WalkSteps.{none-found, found-le, some-found}
use Rattle.tree_walk.proofs.walk.Goals as goal

one : (keep : Bool) → from_bool keep ≤ 1
one true = omega arith
one false = omega arith

pub returns-then-found : goal.returns-then-found
returns-then-found c =
    none-found (omega (arith, c.requires.0.total)) (one c.args.keep) _ _ (walk-most _ c.args.s _ _ _) (rw c.from.ensures at c.walk_node-found.ensures)
    c.if-found.true

pub overflow_add-result : goal.overflow_add-result
overflow_add-result c =
    let le = found-le (omega (arith, c.requires.0.total)) (one c.args.keep) _ (walk-most _ c.args.s _ _ _) (rw c.from.ensures at c.walk_node-found.ensures)
    c.if-found.false in
    omega (arith, le, c.requires.1)

pub returns : goal.returns
returns c =
    some-found (omega (arith, c.requires.0.total)) (one c.args.keep) _ _ (walk-most _ c.args.s _ _ _) (rw c.from.ensures at c.walk_node-found.ensures)
    c.if-found.false
