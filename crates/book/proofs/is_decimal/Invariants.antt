-- The loop's invariant: the answer is that of the worst fault so far and of the bytes that are left. Assumes nothing.
use Rattle.std.proofs.Common.{◌≡◌, ◌&&◌, drop, eqb, map}
use Rattle.lists.specs.Lists.{every}
use Rattle.book.specs.Book.{decimal, decimal_byte}
use Rattle.book.proofs.is_decimal.Given as goal

abbrev pub invariant-loop-b : goal.invariant-loop-b
invariant-loop-b l = decimal l.book ≡ (eqb l.worst 0 && every (map decimal_byte (drop l.b-index l.book)))
