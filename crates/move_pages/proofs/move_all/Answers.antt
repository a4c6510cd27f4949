-- `move_pages::move_all` meets its contract. Assumes nothing.
use native.Mathlib.Omega.{arith}
use Rattle.move_pages.proofs.PassSteps.{all-begins, all-ends, all-turns, header-in}
use Rattle.move_pages.proofs.move_all.Goals as goal

pub put-requires-clause-in_bounds : goal.put-requires-clause-in_bounds
put-requires-clause-in_bounds c = header-in c.requires.0

pub pass-requires : goal.pass-requires
pass-requires c =
    (c.args.s.now, c.requires.0, all-begins c.requires.0 c.put.ensures)

pub pass-requires-2 : goal.pass-requires-2
pass-requires-2 c =
    let z = c.args.s.now in
    let h = c.requires.0 in
    let turns = all-turns h (c.pass.ensures z h (all-begins h c.put.ensures)) in
    (z, h, turns)

pub put-requires-2-clause-in_bounds : goal.put-requires-2-clause-in_bounds
put-requires-2-clause-in_bounds c =
    omega (arith, header-in c.requires.0, c.pass-2.auto.s, c.pass.auto.s, c.put.auto.s)

pub returns : goal.returns
returns c =
    let z = c.args.s.now in
    let h = c.requires.0 in
    let turns = all-turns h (c.pass.ensures z h (all-begins h c.put.ensures)) in
    all-ends h (c.pass-2.ensures z h turns) c.requires.1 c.put-2.ensures
