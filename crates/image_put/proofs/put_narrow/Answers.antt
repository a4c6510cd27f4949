use native.Mathlib.Omega.{arith}
use Rattle.image_put.proofs.Writing.{narrow-put}
use Rattle.image_put.proofs.put_narrow.Goals as goal

pub put-requires-2-clause-in_bounds : goal.put-requires-2-clause-in_bounds
put-requires-2-clause-in_bounds c = omega (arith, c.put.auto.out)

pub shape_of-out : goal.shape_of-out
shape_of-out c = omega (arith, c.put-2.auto.out, c.put.auto.out)

pub returns : goal.returns
returns c =
    narrow-put c.args.out.now c.put.new.out c.put-2.new.out c.args.r.total c.args.r.bits c.requires c.put.ensures c.put-2.ensures
