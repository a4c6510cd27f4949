-- `book::hour_at` meets its contract. Assumes nothing.
use Rattle.std.proofs.Common.{ℕ, ◌+◌, ◌*◌, sym, ap₂, ◌∙◌, arith}
use Rattle.book.proofs.BookLaws.{hour-in}
use Rattle.book.proofs.hour_at.Goals as goal

pub returns : goal.returns
returns c =
    let a = c.args in
    let u = c.unpacked-high.ensures in
    let v = c.unpacked-low.ensures in
    (ap₂ (λ (y z : ℕ). 100 * y + z) u.0 v.0 ∙ sym (hour-in a.book.now a.i c.requires), omega (arith, u.1, v.1))
