-- The plan of the sums, and what it comes to. Assumes nothing.
use mathlib.Core.Bool.{true}
use mathlib.Core.List.{List}
use mathlib.Core.Path.{◌≡◌, refl, sym, subst, ◌∙◌}
use Prim.Native.Nat.{ℕ, ◌≤◌, max}
use native.Mathlib.Omega.{arith}
use lib.ListN.{length}
use Rattle.lists.specs.Counts.{max_count, within}
use Rattle.answers.specs.Image.{told}
use Rattle.lists.specs.Lists.{tabulate}
use Rattle.lists.proofs.Sums.{sum-nones}
use Rattle.lists.proofs.Tables.{length-tabulate}
use Rattle.answers.specs.declared.refusal.Refusal.{Refusal}
use Rattle.image_plan.specs.declared.Layout.{Layout}
use Rattle.std.specs.Prelude.{Result, Ok, Err}
use Rattle.image.specs.Calls.{result_of, unwritten}
use Rattle.image.specs.Image.{Limits}
use Rattle.image.specs.Read.{list_of}
use Rattle.image.specs.declared.opened.Accepted.{Accepted}
use Rattle.image.proofs.Accepted.{accepted-only, length-list}
use Rattle.image.proofs.CallLaws.{length-within}
use Rattle.image_plan.specs.Code.Planning.{Begun, Drafted, Planned}
use Rattle.image_plan.specs.declared.Plan.{Plan}
use Rattle.image_put.proofs.Answering.{write-no}
use Rattle.image_merge.specs.Code.{Merging, merged, sums_of}
use Rattle.image_merge.specs.declared.block.Pair.{Pair}
use Rattle.image_merge.proofs.MergeLaws.{counts-yes}
use Rattle.image_merge.proofs.SumLaws.{length-sums}

-- N of the sums
pub hours-are : (p : Pair) (n : ℕ) → n ≡ max p.a.now.head.hours p.b.now.head.hours → (length (sums_of p) ≡ n) × (n ≤ 65536)
hours-are p n e =
    let a : Accepted = p.a.now in
    let b : Accepted = p.b.now in
    let xs : List ℕ = list_of a.bytes.now in
    let ys : List ℕ = list_of b.bytes.now in
    let q : length (sums_of p) ≡ n = omega (arith, length-sums xs ys, length-list a.bytes.now, length-list b.bytes.now, a.head_of.hours-is, b.head_of.hours-is) in
    (q, omega (arith, length-sums xs ys, (accepted-only a.bytes.now a.accepted).limits.hours, (accepted-only b.bytes.now b.accepted).limits.hours))

-- a plan of so many hours is not refused: a list of zeros has an image
pub not-refused : (e n : ℕ) (k : Refusal) → 2 ≤ e → e ≤ 8 → n ≤ 65536 → Begun e n (Err k) → ⊥
not-refused e n k l u h b =
    let f : ℕ → ℕ = λ i. 0 in
    let zs : List ℕ = tabulate n f in
    let m : Limits e zs = record {
      e-low = l;
      e-high = u;
      hours = omega (arith, length-tabulate n f);
      total = omega (arith, sum-nones n f (λ j. refl));
    } in
    let x = length-within e zs m in
    let y = b zs (length-tabulate n f) in
    let z : ◌≡◌ {A = ℕ} 0 1 = cc in
    omega arith

-- its e is that of the list
pub own-e : {e : ℕ} {xs : List ℕ} {r : Plan} → Drafted e xs r → Drafted r.e xs r
own-e {xs = xs} {r} d = subst (λ (z : ℕ). Drafted z xs r) (sym d.e-is) d

-- what the plan comes to
pub merging_of : (e : ℕ) (q : Pair) (p : Result Layout Refusal) → within max_count (sums_of q) ≡ true → Planned e (sums_of q) p → Merging e q p
unfolding told unwritten
merging_of e q (Ok r) w h = (w, h.0, h.1)
merging_of e q (Err k) w h =
    λ out. counts-yes e (list_of q.a.now.bytes.now) (list_of q.b.now.bytes.now) out w ∙ sym (write-no e (sums_of q) out k h)

-- no layout
pub no-layout : (e : ℕ) (q : Pair) (out : List ℕ) (k : Refusal) → Merging e q (Err k) → result_of (Err k) out ≡ merged e q out
unfolding told unwritten
no-layout e q out k h = sym (h out)
