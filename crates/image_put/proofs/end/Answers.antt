-- `image_put::end` meets its contract: header, pages and zeros are the image (`ended`). Assumes nothing.
use mathlib.Core.Path.{◌≡◌}
use Prim.Native.Nat.{◌+◌, ◌*◌, ◌/◌}
use native.Mathlib.Omega.{arith}
use Rattle.image_put.proofs.PagesLaid.{ended, ends}
use Rattle.image_put.proofs.end.Goals as goal

pub next_multiple_of-requires-clause-fits : goal.next_multiple_of-requires-clause-fits
next_multiple_of-requires-clause-fits c = omega (arith, ends c.requires.so_far.room)

pub overflow_add-r : goal.overflow_add-r
overflow_add-r c = omega (arith, ends c.requires.so_far.room)

pub clear_bits-requires : goal.clear_bits-requires
clear_bits-requires c =
    omega (arith, ends c.requires.so_far.room, c.requires.so_far.long)

pub returns : goal.returns
returns c =
    let e : c.next_multiple_of.result ≡ 8 * ((c.args.r.bits + 7) / 8) = omega (arith, c.next_multiple_of.ensures) in
    λ a. ended c.clear_bits.new.out a.so_far a.all (λ i. omega (arith, c.type_inv.out i)) (rw e at c.clear_bits.ensures)
