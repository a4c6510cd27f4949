-- `book_in::from_bcd` meets its contract: each refusal is one law. Assumes nothing.
use mathlib.Core.Path.{sym, ◌∙◌}
use Rattle.book_in.proofs.FromLaws.{from-14, from-e-high, from-e-low, from_list}
use Rattle.book_in.proofs.from_bcd.Goals.{then-e-lt2-via-then-e-lt2, then-e-lt2-via-else-e-lt2+then-e-gt8}
use Rattle.book_in.proofs.from_bcd.Goals as goal

pub returns-then-e-lt2 : goal.returns-then-e-lt2
returns-then-e-lt2 c =
    let a = c.args in
    elim c.then-e-lt2.branch [
      | then-e-lt2-via-then-e-lt2 w ↦ from-e-low a.e a.book.now a.out.now w.if-e-lt2.true
      | then-e-lt2-via-else-e-lt2+then-e-gt8 w ↦ from-e-high a.e a.book.now a.out.now w.if-e-lt2.false w.if-e-gt8.true
    ]

pub returns-then-not-is_decimal : goal.returns-then-not-is_decimal
returns-then-not-is_decimal c =
    from-14 c.args.e c.args.book.now c.args.out.now c.if-e-lt2.false c.if-e-gt8.false (sym c.is_decimal.ensures ∙ c.if-not-is_decimal.true)

pub returns : goal.returns
returns c =
    c.write_list.ensures
    ∙ from_list c.args.e c.args.book.now c.args.out.now c.if-e-lt2.false c.if-e-gt8.false (sym c.is_decimal.ensures ∙ c.if-not-is_decimal.false)
