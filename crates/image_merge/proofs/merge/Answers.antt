-- `image_merge::merge` meets its contract. Assumes nothing.
use mathlib.Core.List.{List}
use mathlib.Core.Path.{◌≡◌, ap₂, subst, ◌∙◌}
use mathlib.Core.Bool.{true}
use Prim.Native.Nat.{ℕ}
use Rattle.std.proofs.Common.{rules}
use Rattle.image.specs.Check.{accepted}
use Rattle.image_merge.specs.Merge.{merge_call}
use Rattle.image_merge.proofs.MergeLaws.{e-high, e-low, first-no, past_all, second-no}
use Rattle.image_merge.proofs.merge.Goals.{then-e-lt2-via-then-e-lt2, then-e-lt2-via-else-e-lt2+then-e-gt8}
use Rattle.image_merge.proofs.merge.Goals as goal

pub returns-then-e-lt2 : goal.returns-then-e-lt2
returns-then-e-lt2 c =
    let a = c.args in
    elim c.then-e-lt2.branch [
      | then-e-lt2-via-then-e-lt2 w ↦ e-low a.e a.a.now a.b.now a.out.now w.if-e-lt2.true
      | then-e-lt2-via-else-e-lt2+then-e-gt8 w ↦ e-high a.e a.a.now a.b.now a.out.now w.if-e-lt2.false w.if-e-gt8.true
    ]

pub returns-in_err-first : goal.returns-in_err-first
returns-in_err-first c = search (rules, first-no)

pub returns-in_err-second : goal.returns-in_err-second
returns-in_err-second c =
    let one : accepted c.args.a.now ≡ true = subst (λ (s : List ℕ). accepted s ≡ true) c.in_ok-first.ensures c.in_ok-first.first.accepted in
    search (rules, second-no)

pub returns : goal.returns
returns c =
    let a = c.in_ok-first.first in
    let b = c.in_ok-second.second in
    c.write_sums.ensures ∙ past_all c.args.e a.bytes.now b.bytes.now c.args.out.now c.if-e-lt2.false c.if-e-gt8.false a.accepted b.accepted
    ∙ ap₂ (λ (x y : List ℕ). merge_call c.args.e x y c.args.out.now) c.in_ok-first.ensures c.in_ok-second.ensures
