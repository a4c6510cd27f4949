-- `days::fit` meets its contract. Assumes nothing.
use Rattle.std.proofs.Common.{ℕ, ◌≡◌, ◌+◌, ◌*◌, ◌%◌, ap, arith, drop, length, rules, sym, ◌∙◌}
use Rattle.days.proofs.Pairs.{fit_from, fit_is, fit-odd}
use Rattle.days.proofs.Turns.{all-fits, day-is, pair_fits, too-early, wrong-hours}
use Rattle.days.proofs.fit.Goals as goal
use Rattle.days.proofs.fit.Goals.{then-day-from-via-then-day-from, then-day-from-via-else-day-from+then-not-is_change}

pub returns-then-changes-ne0 : goal.returns-then-changes-ne0
returns-then-changes-ne0 c = sym (fit-odd c.args.changes.now (λ (e : length c.args.changes.now % 2 ≡ 0). c.if-changes-ne0.true e))

pub loop-day-init : goal.loop-day-init
loop-day-init c = (omega arith, fit_is c.args.changes.now (omega arith))

pub returns-then-day-from : goal.returns-then-day-from
returns-then-day-from c =
    let cs = c.args.changes.now in
    let l = c.loop-day in
    let all = c.as_chunks.ensures.front in
    let more = c.loop-day-test.true in
    elim c.then-day-from.branch [
      | then-day-from-via-then-day-from w ↦
          too-early cs _ l.day-index all more l.from l.invariant.1 (omega (arith, w.if-day-from.true, c.from-day.ensures))
      | then-day-from-via-else-day-from+then-not-is_change w ↦
          wrong-hours cs _ l.day-index all more l.from l.invariant.1 (search rules)
    ]

pub loop-day-preserved : goal.loop-day-preserved
loop-day-preserved c =
    let cs = c.args.changes.now in
    let l = c.loop-day in
    let all = c.as_chunks.ensures.front in
    let more = c.loop-day-test.true in (
      omega (arith, c.from-day.ensures, day-is cs _ l.day-index all more, c.type_inv.changes (2 * l.day-index)),
      pair_fits cs _ l.day-index all more l.from l.invariant.1 (omega (arith, c.if-day-from.false, c.from-day.ensures)) (search rules)
          ∙ ap (λ (z : ℕ). fit_from (z + 1) (drop (2 * (l.day-index + 1)) cs)) (sym c.from-day.ensures),
    )

pub returns : goal.returns
returns c =
    let l = c.loop-day in
    sym (l.invariant.1 ∙ all-fits c.args.changes.now _ l.day-index c.as_chunks.ensures.front c.loop-day-test.false c.if-changes-ne0.false l.from)
