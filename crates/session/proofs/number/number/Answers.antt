-- `session::number::number` meets its contract. Assumes nothing.
use Rattle.std.proofs.Common.{◌≡◌, ◌+◌, ◌-◌, ◌*◌, sym, ◌∙◌, arith, rules, get_or}
use Rattle.session.proofs.DigitLaws.{number-all, number-none, from_end, at_other, at-digit, at-over, digit-test}
use Rattle.session.proofs.number.number.Goals as goal

pub returns-then-is_empty : goal.returns-then-is_empty
returns-then-is_empty c = sym (number-none c.args.s.now (search rules))

pub loop-b-init : goal.loop-b-init
loop-b-init c = record { in_range = omega arith; rest = number-all c.args.s.now (λ e. search rules) }

pub returns-then-not-is_ascii_digit : goal.returns-then-not-is_ascii_digit
returns-then-not-is_ascii_digit c =
    let l = c.loop-b in
    sym (l.invariant.rest ∙ at_other l.value c.args.s.now l.b-index c.loop-b-test.true (digit-test _ _ c.if-not-is_ascii_digit.ensures.value))

pub returns-in_err-checked_mul : goal.returns-in_err-checked_mul
returns-in_err-checked_mul c =
    let l = c.loop-b in
    c.from_residual.ensures
    ∙ sym (l.invariant.rest
    ∙ at-over l.value c.args.s.now l.b-index c.loop-b-test.true (digit-test _ _ c.if-not-is_ascii_digit.ensures.value) (omega (arith, c.in_err-checked_mul.ensures)))

pub returns-in_err-value : goal.returns-in_err-value
returns-in_err-value c =
    let l = c.loop-b in
    c.from_residual-in_err-value.ensures
    ∙ sym (l.invariant.rest
    ∙ at-over l.value c.args.s.now l.b-index c.loop-b-test.true (digit-test _ _ c.if-not-is_ascii_digit.ensures.value)
    (omega (arith, c.in_err-value.ensures, c.in_ok-checked_mul.ensures, c.from.ensures)))

pub loop-b-preserved : goal.loop-b-preserved
loop-b-preserved c =
    let l = c.loop-b in
    let v = c.in_ok-value.value in
    let e : v ≡ 10 * l.value + (get_or c.args.s.now l.b-index 0 - 48) = omega (arith, c.in_ok-value.ensures, c.in_ok-checked_mul.ensures, c.from.ensures) in
    record {
      in_range = omega (arith, c.in_ok-value.ensures);
      rest = rw e (l.invariant.rest ∙ at-digit l.value c.args.s.now l.b-index c.loop-b-test.true (digit-test _ _ c.if-not-is_ascii_digit.ensures.value));
    }

pub returns : goal.returns
returns c = sym (c.loop-b.invariant.rest ∙ from_end c.loop-b.value c.args.s.now c.loop-b.b-index c.loop-b.invariant.in_range (omega arith) (omega arith))
