-- The sum of the first hours of an accepted image, by the way to the last of them. Assumes nothing.
use mathlib.Core.Bool.{true}
use mathlib.Core.List.{List}
use mathlib.Core.Path.{◌≡◌, ap, ◌∙◌}
use Prim.Native.Nat.{ℕ, ◌+◌, ◌-◌, ◌*◌, ◌≤◌, ◌<◌}
use native.Mathlib.Omega.{arith}
use Rattle.std.specs.Prelude.{Some}
use lib.ListN.{length, get_or}
use Rattle.lists.specs.Lists.{reading}
use Rattle.tree.specs.Read.{found}
use Rattle.tree_walk.specs.Code.Answers.{walk_answer}
use Rattle.image.specs.Check.{accepted}
use Rattle.image.specs.Code.Head.{HeadOf}
use Rattle.image.specs.Query.{look}
use Rattle.image.specs.Read.{e_of, list_of}
use Rattle.image.specs.declared.head.Head.{Head}
use Rattle.image.proofs.Accepted.{accepted-only, length-list}
use Rattle.image.proofs.QueryLaws.{look_is}
use Rattle.runs.specs.Runs.{run_sum}
use Rattle.runs.proofs.PrefixSums.{reading-next}

module _ (s : List ℕ) (a : accepted s ≡ true) {h : Head} (o : HeadOf s h) where
  -- the way finds the reading at the hour and its count
  look-finds : (i : ℕ) → i < length (list_of s) → look s i ≡ found (reading (list_of s) i) (get_or (list_of s) i 0)
  look-finds i l = ap (λ (z : List ℕ). look z i) (accepted-only s a).bytes ∙ look_is (e_of s) (list_of s) (accepted-only s a).limits i l

  to_last : (k : ℕ) → k < length (list_of s) → walk_answer 0 1 (look s k) ≡ Some (run_sum (list_of s) 0 (k + 1))
  unfolding walk_answer
  to_last k l =
      let x : ℕ = reading (list_of s) k in
      let c : ℕ = get_or (list_of s) k 0 in
      ap (walk_answer 0 1) (look-finds k l)
      ∙ ap Some {x = 0 + 1 * x + c} {y = run_sum (list_of s) 0 (k + 1)} (omega (arith, reading-next (list_of s) k l))

  pub first-sum-is : (k : ℕ) → 1 ≤ k → k ≤ h.hours → walk_answer 0 1 (look s (k - 1)) ≡ Some (run_sum (list_of s) 0 k)
  first-sum-is k g l =
      let z : k - 1 + 1 ≡ k = omega arith in
      to_last (k - 1) (omega (arith, length-list s, o.hours-is)) ∙ ap (λ (n : ℕ). Some (run_sum (list_of s) 0 n)) z
