-- `sound_free::is_clear` meets its contract. Assumes nothing.
use Rattle.std.proofs.Common.{ℕ, ◌+◌, ◌-◌, bit_or, take, drop, ap, ◌∙◌, arith, rules, tests}
use Rattle.std.proofs.lemmas.Iterator.{YieldsList-from_slice}
use Rattle.std.proofs.lemmas.Iterator.Consumers.{fold_from_yields_List}
use Rattle.lists.specs.Lists.{part}
use Rattle.sound_free.proofs.Blocks.{or-clear}
use Rattle.sound_free.proofs.is_clear.Goals as goal

pub returns : goal.returns
returns c =
    let s = c.args.cells.now.bytes.now in
    let from = c.args.at + 2 in
    let code = c.iter.ensures.rest ∙ ap (λ (n : ℕ). take n (drop from s)) {x = c.args.at + 32 - from} {y = 30} (omega arith) in
    or-clear s from (omega arith)
    (fold_from_yields_List _ bit_or 0 c.fold.result c.fold.ensures.ran (YieldsList-from_slice (part s from 30) code) (λ a x b q k. search (rules, tests)))
