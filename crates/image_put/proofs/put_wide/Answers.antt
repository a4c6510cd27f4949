use native.Mathlib.Omega.{arith}
use Rattle.image_put.proofs.Writing.{wide-put}
use Rattle.image_put.proofs.put_wide.Goals as goal

pub put-requires-2-clause-in_bounds : goal.put-requires-2-clause-in_bounds
put-requires-2-clause-in_bounds c = omega (arith, c.put.auto.out)

pub put-requires-3-clause-in_bounds : goal.put-requires-3-clause-in_bounds
put-requires-3-clause-in_bounds c = omega (arith, c.put-2.auto.out, c.put.auto.out)

pub shape_of-out : goal.shape_of-out
shape_of-out c =
    omega (arith, c.put-3.auto.out, c.put-2.auto.out, c.put.auto.out)

pub returns : goal.returns
returns c =
    wide-put c.args.out.now c.put.new.out c.put-2.new.out c.put-3.new.out c.args.r.total c.args.r.bits c.requires c.put.ensures c.put-2.ensures
    c.put-3.ensures
