-- `match_seek::front::first_above` meets its contract. Assumes nothing.
use native.Mathlib.Omega.{arith}
use Rattle.match_seek.proofs.AboveLaws.{bit-small, first_of}
use Rattle.match_seek.proofs.front.first_above.Goals as goal

pub overflow_add-past : goal.overflow_add-past
overflow_add-past c = omega (arith, bit-small _ _ c.either.ensures, bit-small _ _ c.either-2.ensures)

pub overflow_add-past-2 : goal.overflow_add-past-2
overflow_add-past-2 c = omega (arith, bit-small _ _ c.either.ensures, bit-small _ _ c.either-2.ensures, bit-small _ _ c.either-3.ensures)

pub overflow_add-result-2 : goal.overflow_add-result-2
overflow_add-result-2 c = omega (arith, bit-small _ _ c.either.ensures, bit-small _ _ c.either-2.ensures, bit-small _ _ c.either-3.ensures)

pub returns : goal.returns
returns c =
    let a = c.requires in
    first_of _ _ _ _ _ _ a.0 a.1 a.2 _ _ _ _ _ _
    record {
      one = c.either.ensures;
      two = c.either-2.ensures;
      three = c.either-3.ensures;
      late_is = c.either-late.ensures;
      later-is = c.either-later.ensures;
      want_is = c.either-4.ensures;
    }
