-- Demand 2 for images: accepted exactly when, one list only, and what the queries answer on an accepted image. Assumes nothing.
use mathlib.Core.Path.{◌≡◌, refl, sym, ap, ap₂, ◌∙◌, subst}
use mathlib.Core.Bool.{Bool, true, false}
use mathlib.Core.List.{List}
use mathlib.Core.Logic.{◌↔◌}
use Prim.Native.Nat.{ℕ, ◌≤◌}
use native.Mathlib.Omega.{arith}
use lib.ListN.{length, get_or, take}
use lib.Dec.{leb, ltb}
use borrow.Author.Tests.{le-ltb, leb-false, lt-ltb, ltb-false}
use Rattle.lists.specs.Counts.{max_count}
use Rattle.lists.specs.Lists.{pick, reached, sum}
use Rattle.image.specs.Check.{accepted, check, headed}
use Rattle.answers.specs.Image.{fails, holds, Reply, given, refused}
use Rattle.image.specs.Image.{IsImage, Limits, image}
use Rattle.image.specs.Query.{count, ended, look, reading, reading_at, the_count}
use Rattle.image.specs.Reach.{Reach, above-total, any-index, damage, header-wrong, smallest}
use Rattle.image.specs.Read.{e_of, list_of, n_of, s_of}
use Rattle.image.proofs.ReadLaws.{e-is, headed-image, n-is, s-is}
use Rattle.image.proofs.Accepted.{accepted-only, length-list}
use Rattle.image.proofs.HeadLaws.{never}
use Rattle.image.proofs.QueryLaws.{ended_is, look_is, reading-at}
use Rattle.image_back.proofs.ListBack.{accepted-image, list-is}

-- ---- accepted exactly when there is a list whose image the bytes are
pub accepted-if : (s : List ℕ) (e : ℕ) (xs : List ℕ) → IsImage s e xs → accepted s ≡ true
accepted-if s e xs i = ap accepted i.bytes ∙ accepted-image e xs i.limits i.counts

pub accepted-exactly : (s : List ℕ) → (accepted s ≡ true) ↔ ((e : ℕ) × (xs : List ℕ) × IsImage s e xs)
accepted-exactly s = ((λ h. (e_of s, list_of s, accepted-only s h)), (λ w. accepted-if s w.0 w.1 w.2))

-- the list is the one that is read, and e the header's: there is no other
pub reads-back : (s : List ℕ) (e : ℕ) (xs : List ℕ) → IsImage s e xs → (e ≡ e_of s) × (xs ≡ list_of s)
reads-back s e xs i = (sym (ap e_of i.bytes ∙ e-is e xs), sym (ap list_of i.bytes ∙ list-is e xs i.limits))

pub one_list : (s : List ℕ) (e₁ e₂ : ℕ) (xs₁ xs₂ : List ℕ) → IsImage s e₁ xs₁ → IsImage s e₂ xs₂
    → (e₁ ≡ e₂) × (xs₁ ≡ xs₂)
one_list s e₁ e₂ xs₁ xs₂ i j =
    ((reads-back s e₁ xs₁ i).0 ∙ sym (reads-back s e₂ xs₂ j).0, (reads-back s e₁ xs₁ i).1 ∙ sym (reads-back s e₂ xs₂ j).1)

-- check answers N and S of the list whose image the bytes are
pub check-holds : (s : List ℕ) (n t : ℕ) → check s ≡ holds n t → IsImage s (e_of s) (list_of s) × (n ≡ length (list_of s)) × (t ≡ s_of s)
unfolding check pick
check-holds s n t = go (headed s) (accepted s) refl
  where
    not-holds : (k : ℕ) → fails k ≡ holds n t → ⊥
    not-holds k e = let z : ◌≡◌ {A = ℕ} 0 1 = cc in omega arith

    go : (a b : Bool) → accepted s ≡ b → pick a (pick b (holds (n_of s) (s_of s)) (fails 6)) (fails 5) ≡ holds n t
        → IsImage s (e_of s) (list_of s) × (n ≡ length (list_of s)) × (t ≡ s_of s)
    go true true q e = (accepted-only s q, (let z : n_of s ≡ n = cc in sym z ∙ sym (length-list s)), (let z : s_of s ≡ t = cc in sym z))
    go true false q e = absurd (not-holds 6 e)
    go false b q e = absurd (not-holds 5 e)

-- ---- on the image of a list
module _ (e : ℕ) (xs : List ℕ) (m : Limits e xs) (few : (i : ℕ) → get_or xs i 0 ≤ max_count) where
  abbrev S : List ℕ
  S = image e xs

  pub count-is : (i : ℕ) → count S i ≡ pick (leb (length xs) i) (refused 7) (given (get_or xs i 0))
  unfolding count pick the_count
  count-is i = rw (headed-image e xs m, n-is e xs m) (go (leb (length xs) i) refl)
    where
      go : (b : Bool) → leb (length xs) i ≡ b → pick b (refused 7) (the_count (ended (look S i))) ≡ pick b (refused 7) (given (get_or xs i 0))
      go true q = refl
      go false q =
          let l = leb-false (length xs) i q in
          ap the_count (ended_is e xs m few i l ∙ look_is e xs m i l)

  pub reading-is : (i : ℕ) → reading S i ≡ pick (ltb (length xs) i) (refused 7) (given (sum (take i xs)))
  unfolding reading pick
  reading-is i = rw (headed-image e xs m, n-is e xs m) (go (ltb (length xs) i) refl)
    where
      go : (b : Bool) → ltb (length xs) i ≡ b → pick b (refused 7) (reading_at S i) ≡ pick b (refused 7) (given (sum (take i xs)))
      go true q = refl
      go false q = reading-at e xs m few i (ltb-false (length xs) i q)

  pub check-is : check S ≡ holds (length xs) (sum xs)
  unfolding check pick
  check-is = rw (headed-image e xs m, accepted-image e xs m few) (ap₂ holds (n-is e xs m) (s-is e xs m))

  pub reach-is : (q : ℕ) (r : Reply) → Reach S q r → r ≡ pick (ltb (sum xs) q) (refused 8) (given (reached q xs))
  unfolding pick
  reach-is q r = go
    where
      go : {r : Reply} → Reach S q r → r ≡ pick (ltb (sum xs) q) (refused 8) (given (reached q xs))
      go (header-wrong w) = absurd (never (sym w ∙ headed-image e xs m))
      go (above-total w l) = sym (ap (λ (b : Bool). pick b (refused 8) (given (reached q xs))) (lt-ltb (sum xs) q (omega (arith, s-is e xs m))))
      go (smallest a l) =
          ap (λ (z : List ℕ). given (reached q z)) (list-is e xs m)
          ∙ sym (ap (λ (b : Bool). pick b (refused 8) (given (reached q xs))) (le-ltb (sum xs) q (omega (arith, s-is e xs m))))
      go (damage w l a) = absurd (never (sym a ∙ accepted-image e xs m few))
      go (any-index w l a i k) = absurd (never (sym a ∙ accepted-image e xs m few))

-- ---- the same for bytes that check accepts: xs is the list that they say
module _ (s : List ℕ) (a : accepted s ≡ true) where
  abbrev I : IsImage s (e_of s) (list_of s)
  I = accepted-only s a

  abbrev X : List ℕ
  X = list_of s

  pub count-accepted : (i : ℕ) → count s i ≡ pick (leb (length X) i) (refused 7) (given (get_or X i 0))
  count-accepted i = ap (λ (z : List ℕ). count z i) I.bytes ∙ count-is (e_of s) X I.limits I.counts i

  pub reading-accepted : (i : ℕ) → reading s i ≡ pick (ltb (length X) i) (refused 7) (given (sum (take i X)))
  reading-accepted i = ap (λ (z : List ℕ). reading z i) I.bytes ∙ reading-is (e_of s) X I.limits I.counts i

  pub reach-accepted : (q : ℕ) (r : Reply) → Reach s q r → r ≡ pick (ltb (sum X) q) (refused 8) (given (reached q X))
  reach-accepted q r h = reach-is (e_of s) X I.limits I.counts q r (subst (λ (z : List ℕ). Reach z q r) I.bytes h)

  pub check-accepted : check s ≡ holds (length X) (sum X)
  check-accepted = ap check I.bytes ∙ check-is (e_of s) X I.limits I.counts
