-- What a call that makes an image answers, case by case. Assumes nothing.
use mathlib.Core.Path.{◌≡◌, sym, ap, ap₂, ◌∙◌, subst}
use mathlib.Core.List.{List}
use Prim.Native.Nat.{ℕ, ◌<◌}
use native.Mathlib.Omega.{arith}
use lib.ListN.{length}
use borrow.Author.Tests.{lt-leb}
use Rattle.std.specs.Prelude.{Ok, Err}
use Rattle.lists.specs.Lists.{pick, splice}
use Rattle.answers.specs.Image.{told, Reply, given}
use Rattle.answers.specs.declared.refusal.Refusal.{Refusal}
use Rattle.image.specs.Calls.{length_call, put, put_after, result_of, unwritten, write_call}
use Rattle.image.specs.Image.{Limits, image}
use Rattle.image_plan.specs.Code.Planning.{Fitting, Laying, LayoutOf, Planned}
use Rattle.image_put.specs.Code.Writing.{Room}
use Rattle.image_plan.specs.declared.Layout.{Layout}
use Rattle.image.proofs.CallLaws.{length-within, write-put}
use Rattle.image_put.proofs.Writing.{splice_front}

-- no layout
pub length-no : (e : ℕ) (xs : List ℕ) (k : Refusal) → Planned e xs (Err k) → told (Err k) ≡ length_call e xs
unfolding told
length-no e xs k h = sym h

pub write-no : (e : ℕ) (xs out : List ℕ) (k : Refusal) → Planned e xs (Err k) → result_of (Err k) out ≡ write_call e xs out
unfolding told write_call put_after unwritten
write-no e xs out k h = sym (ap (λ (r : Reply). put_after r out (image e xs)) h)

-- a layout
module _ (e : ℕ) (xs : List ℕ) (r : Layout) (h : Planned e xs (Ok r)) where
  laying : Laying r
  laying =
      let i : e ≡ r.e = sym h.1.e-is in
      record { xs = xs; limits = subst (λ (y : ℕ). Limits y xs) i h.0; layout = subst (λ (y : ℕ). LayoutOf y xs r) i h.1 }

  -- and the size that it gives
  abbrev Sizes : ℕ → Type 0
  Sizes n = (a : Laying r) → n ≡ length (image r.e a.xs)

  sized : (n : ℕ) → Sizes n → n ≡ length (image e xs)
  unfolding laying
  sized n s = s laying ∙ ap (λ (y : ℕ). length (image y xs)) h.1.e-is

  pub length-yes : (n : ℕ) → Sizes n → told (Ok n) ≡ length_call e xs
  unfolding told
  length-yes n s = ap given (sized n s) ∙ sym (length-within e xs h.0)

  -- a buffer that is too short
  pub write-short : (out : List ℕ) (k : Refusal) → ((a : Laying r) → Fitting (length (image r.e a.xs)) (length out) (Err k))
      → result_of (Err k) out ≡ write_call e xs out
  unfolding told write_call put_after put pick unwritten laying
  write-short out k f =
      let short : length out < length (image e xs) = omega (arith, (f laying).1, ap (λ (y : ℕ). length (image y xs)) h.1.e-is) in
      ap (λ (j : Refusal). result_of (Err j) out) (f laying).0
      ∙ sym (rw (length-within e xs h.0, lt-leb (length (image e xs)) (length out) short))

  -- one with room
  pub room : (out : List ℕ) (n : ℕ) → ((a : Laying r) → Fitting (length (image r.e a.xs)) (length out) (Ok n)) → Room xs r out
  unfolding laying
  room out n f = record { limits = laying.limits; layout = laying.layout; enough = (f laying).1 }

  pub write-yes : (out now : List ℕ) (n : ℕ) → ((a : Laying r) → Fitting (length (image r.e a.xs)) (length out) (Ok n))
      → now ≡ splice out 0 (image r.e xs) → result_of (Ok n) now ≡ write_call e xs out
  unfolding told laying
  write-yes out now n f q =
      let same : r.e ≡ e = h.1.e-is in
      let long : length (image r.e xs) ≡ length (image e xs) = ap (λ (y : ℕ). length (image y xs)) same in
      ap₂ (λ (k : ℕ) (b : List ℕ). record { reply = given k; bytes = b }) {x = n} {y = length (image e xs)} ((f laying).0 ∙ long)
      (q ∙ ap (λ (y : ℕ). splice out 0 (image y xs)) same ∙ splice_front out (image e xs))
      ∙ sym (write-put e xs out h.0 (omega (arith, (f laying).1, long)))
