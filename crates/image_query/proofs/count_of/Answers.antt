-- `image_query::count_of` meets its contract. Assumes nothing.
use mathlib.Core.Path.{◌≡◌, refl, ap, ◌∙◌}
use mathlib.Core.Bool.{Bool, true, false}
use Prim.Native.Nat.{ℕ}
use native.Mathlib.Omega.{arith}
use lib.Dec.{leb}
use Rattle.std.specs.Bool.{then_some}
use Rattle.std.specs.Option.{ok_or}
use Rattle.std.specs.Prelude.{Option, Some, None}
use Rattle.lists.specs.Counts.{max_count}
use Rattle.lists.specs.Lists.{pick}
use Rattle.answers.specs.declared.refusal.Refusal.TheVariants.{Body}
use Rattle.answers.specs.Image.{given, refused, told}
use Rattle.image_query.specs.Code.Walk.{count_answered}
use Rattle.image_query.proofs.count_of.Goals as goal

-- the way's count, if it is no wider
narrowed : (way r : Option ℕ) → (way ≡ None → r ≡ None) → ((n : ℕ) → way ≡ Some n → r ≡ then_some (leb n max_count) n)
    → told (ok_or r Body) ≡ count_answered way
unfolding told count_answered pick
narrowed None r h k = rw (h refl) refl
narrowed (Some n) r h k = rw (k n refl) (go (leb n max_count))
  where
    go : (b : Bool) → told (ok_or (then_some b n) Body) ≡ pick b (given n) (refused 6)
    go true = refl
    go false = refl

pub returns : goal.returns
returns c = ap told c.ok_or.ensures.value ∙ narrowed c.args.way c.filter.result (λ e. grind arith) (λ n e. grind arith)
