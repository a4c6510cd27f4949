-- `book_pack::put_hour` meets its contract. Assumes nothing.
use mathlib.Core.Path.{◌≡◌, ap, ◌∙◌}
use Prim.Native.Nat.{◌*◌, ◌/◌, ◌%◌, ◌-◌}
use native.Mathlib.Omega.{arith}
use Rattle.book.specs.Book.{packed_byte}
use Rattle.book_pack.proofs.Packing.{hour-two}
use Rattle.book_pack.proofs.put_hour.Goals as goal

pub returns : goal.returns
returns c =
    let n = c.args.count in
    let low : n - 100 * (n / 100) ≡ n % 100 = omega arith in
    hour-two c.args.book.now c.args.at n _ _ c.requires.0 c.packed.ensures (c.packed-2.ensures ∙ ap packed_byte low)
