-- A list of reasons decides how a call ends. Assumes nothing.
use mathlib.Core.Path.{◌≡◌, refl, sym, ap, ◌∙◌, subst}
use mathlib.Core.Bool.{Bool, true, false}
use mathlib.Core.List.{List, [], ◌∷◌}
use mathlib.Core.Logic.{◌⊎◌, inl, inr}
use Prim.Native.Nat.{ℕ}
use Rattle.lists.specs.Lists.{pick}
use Rattle.words.specs.End.{End, refusal}
use Rattle.demands.specs.Reasons.{Reason, Wins, ◌when◌}
use Rattle.demands.specs.Demand1.{Gives, Kind}
use Rattle.demands.proofs.ReasonTests.{Denies, Tells}

-- What an answer is by a list of reasons: the refusal of the first that fits, or what else may stand there, and where none fits a result of
-- the kind K
unfoldable pub Decided : (ℕ → End → Type 0) → Kind → List Reason → End → Type 0
Decided M K [] a = Gives K a
Decided M K (r ∷ rs) a = (r.fits × ((a ≡ refusal r.number) ⊎ M r.number a)) ⊎ ((r.fits → ⊥) × Decided M K rs a)

same_number : {j k : ℕ} → refusal j ≡ refusal k → j ≡ k
same_number e = cc

module _ (M : ℕ → End → Type 0) (K : Kind) where
  -- the first that fits wins, and is what the call ends in
  pub wins-of : ((k : ℕ) (a : End) → M k a → Gives K a) → (rs : List Reason) (k : ℕ) → Decided M K rs (refusal k) → Wins k rs
  unfolding Decided
  wins-of g [] k d = d
  wins-of g (r ∷ rs) k (inl (f, inl e)) = inl (same_number e, f)
  wins-of g (r ∷ rs) k (inl (f, inr m)) = absurd (g r.number (refusal k) m)
  wins-of g (r ∷ rs) k (inr (n, d)) = inr (n, wins-of g rs k d)

  pub refuses-of : (rs : List Reason) (k : ℕ) (a : End) → Wins k rs → Decided M K rs a → (a ≡ refusal k) ⊎ M k a
  unfolding Decided
  refuses-of [] k a w d = absurd w
  refuses-of (r ∷ rs) k a (inl (e, f)) (inl (h, inl q)) = inl (q ∙ ap refusal (sym e))
  refuses-of (r ∷ rs) k a (inl (e, f)) (inl (h, inr m)) = inr (subst (λ (z : ℕ). M z a) (sym e) m)
  refuses-of (r ∷ rs) k a (inl (e, f)) (inr (n, d)) = absurd (n f)
  refuses-of (r ∷ rs) k a (inr (n, w)) (inl (f, q)) = absurd (n f)
  refuses-of (r ∷ rs) k a (inr (n, w)) (inr (m, d)) = refuses-of rs k a w d

  -- an answer that is no refusal
  pub gives_of : ((k : ℕ) (a : End) → M k a → Gives K a) → (rs : List Reason) (a : End) → ((k : ℕ) → a ≡ refusal k → ⊥) → Decided M K rs a → Gives K a
  unfolding Decided
  gives_of g [] a n d = d
  gives_of g (r ∷ rs) a n (inl (f, inl e)) = absurd (n r.number e)
  gives_of g (r ∷ rs) a n (inl (f, inr m)) = g r.number a m
  gives_of g (r ∷ rs) a n (inr (m, d)) = gives_of g rs a n d

  -- ---- one reason after another
  pub none_left : (a : End) → Gives K a → Decided M K [] a
  unfolding Decided
  none_left a g = g

  pub fits-first : {k : ℕ} {F : Type 0} {a : End} (rs : List Reason) → F → a ≡ refusal k → Decided M K (k when F ∷ rs) a
  unfolding Decided
  fits-first rs f e = inl (f, inl e)

  pub passed : {F : Type 0} (k : ℕ) (rs : List Reason) (a : End) → (F → ⊥) → Decided M K rs a → Decided M K (k when F ∷ rs) a
  unfolding Decided
  passed k rs a n d = inr (n, d)

  -- a choice between a refusal and what is left, by a test that holds where the reason fits, and by one that does not
  pub where-true : {X : Type 0} {k : ℕ} {F : Type 0} {b : Bool} (f : X → End) (rs : List Reason) (x y : X) → Tells b F → f x ≡ refusal k
      → (b ≡ false → Decided M K rs (f y)) → Decided M K (k when F ∷ rs) (f (pick b x y))
  unfolding pick
  where-true {b = true} f rs x y t e d = fits-first rs (t.0 refl) e
  where-true {k = k} {b = false} f rs x y t e d = passed k rs (f y) (t.1 refl) (d refl)

  pub where-false : {X : Type 0} {k : ℕ} {F : Type 0} {b : Bool} (f : X → End) (rs : List Reason) (x y : X) → Denies b F → f y ≡ refusal k
      → (b ≡ true → Decided M K rs (f x)) → Decided M K (k when F ∷ rs) (f (pick b x y))
  unfolding pick
  where-false {k = k} {b = true} f rs x y t e d = passed k rs (f x) (t.1 refl) (d refl)
  where-false {b = false} f rs x y t e d = fits-first rs (t.0 refl) e
