-- `book::hours` meets its contract. Assumes nothing.
use Rattle.std.proofs.Common.{ℕ, ◌≡◌, ◌-◌, ap, arith, drop, length, replicate, take, rules, ◌∙◌}
use lib.ListN.{length-take, length-drop}
use Rattle.lists.specs.Lists.{window}
use Rattle.book.specs.Book.{list_of_book}
use Rattle.book.proofs.BookLaws.{length-listed}
use Rattle.book.proofs.HourLaws.{hours-put}
use Rattle.book.proofs.hours.Goals as goal

pub returns : goal.returns
returns c =
    let a = c.args in
    let l = c.loop-i in
    let own = c.within-own.result in
    let xs = list_of_book a.book.now in
    let n = length-listed a.book.now in
    let k : ℕ = length l.counts - own in
    let long : length (take k (drop own l.counts)) ≡ k = omega (arith, length-take k (drop own l.counts), length-drop own l.counts) in
    hours-put l.counts c.fill.new.self xs a.from own k (λ j h. l.invariant j (omega arith))
    (c.fill.ensures.after (search rules) ∙ ap (λ (z : ℕ). replicate z 0) long) (omega arith) (λ h. omega (arith, n))
    ∙ ap (window xs a.from) l.auto.counts
