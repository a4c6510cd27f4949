-- `bits::numbers::get` meets its contract. Assumes nothing.
use Rattle.std.proofs.Common.{ap, arith, take, drop, replicate, ◌∙◌}
use Rattle.std.proofs.Padding.{drop-replicate}
use Rattle.bits.proofs.Little.{number-read}
use Rattle.bits.proofs.numbers.get.Goals as goal

pub returns : goal.returns
returns g c = number-read c.args.s.now (λ i. omega (arith, c.type_inv.s i)) c.args.at g.row.N _ c.copy_from_slice.new.self (drop g.row.N (replicate 8 0)) c.requires.width c.requires.in_bounds
    (c.copy_from_slice.ensures.after ∙ ap (λ n. take n (drop c.args.at c.args.s.now)) (omega arith)) (drop-replicate g.row.N 8 0) c.from_le_bytes.ensures
