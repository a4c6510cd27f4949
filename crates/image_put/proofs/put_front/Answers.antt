use mathlib.Core.Path.{ap, ◌∙◌}
use Prim.Native.Nat.{ℕ}
use native.Mathlib.Omega.{arith}
use lib.ListN.{length-set}
use Rattle.lists.specs.Lists.{splice}
use Rattle.image_put.specs.Code.Writing.{head_front}
use Rattle.image_put.proofs.Writing.{front-put}
use Rattle.image_put.proofs.put_front.Goals as goal

pub bounds-out-1 : goal.bounds-out-1
bounds-out-1 c = simp length-set (omega arith)

pub bounds-out-2 : goal.bounds-out-2
bounds-out-2 c = simp length-set (omega arith)

pub bounds-out-3 : goal.bounds-out-3
bounds-out-3 c = simp length-set (omega arith)

pub put-requires-clause-in_bounds : goal.put-requires-clause-in_bounds
put-requires-clause-in_bounds c = simp length-set (omega arith)

pub shape_of-out : goal.shape_of-out
shape_of-out c = omega (arith, simp length-set at c.put.auto.out)

pub returns : goal.returns
returns c =
    front-put c.args.out.now c.put.new.out _ c.args.r.e c.args.r.hours c.requires.0 c.put.ensures
    ∙ ap (λ (d : ℕ). splice c.args.out.now 0 (head_front d c.args.r.e c.args.r.hours)) c.number.ensures
