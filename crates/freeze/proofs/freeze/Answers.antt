-- `freeze::freeze` meets its contract. Assumes nothing.
use mathlib.Core.List.{List}
use mathlib.Core.Path.{ap, ◌∙◌}
use Prim.Native.Nat.{ℕ}
use Rattle.std.proofs.Common.{rules}
use Rattle.image.specs.Calls.{write_call}
use Rattle.store.specs.Reading.{list_in}
use Rattle.freeze.proofs.Freezing.{freeze-sound, turned_down}
use Rattle.freeze.proofs.freeze.Goals as goal

pub returns-in_err-sound : goal.returns-in_err-sound
returns-in_err-sound c =
    search (rules, turned_down c.args.e c.args.s.now c.args.out.now c.in_err-sound.field-0.0 c.in_err-sound.ensures.unsound)

pub returns : goal.returns
returns c =
    let s = c.in_ok-sound in
    c.freeze_list.ensures ∙ ap (λ (z : List ℕ). write_call c.args.e (list_in z) c.args.out.now) s.ensures.found
    ∙ freeze-sound _ _ _ s.ensures.unsound
