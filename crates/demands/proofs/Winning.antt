-- The first reason that fits, by its place in a row whose numbers differ. Assumes nothing.
use mathlib.Core.Bool.{Bool, true, false, ◌&&◌, not, true≢false}
use mathlib.Core.List.{List, [], ◌∷◌}
use mathlib.Core.Logic.{inl, inr, ◌↔◌}
use mathlib.Core.Path.{◌≡◌, sym, ap, ◌∙◌}
use Prim.Native.Nat.{ℕ, zero, suc}
use lib.Dec.{eqb}
use borrow.Author.Tests.{eq-eqb, eqb-true}
use Rattle.lists.proofs.Tests.{left, right}
use Rattle.demands.specs.Reasons.{NoneFits, Reason, Wins}

-- where none fits none wins
pub none-wins : (rs : List Reason) (k : ℕ) → NoneFits rs → Wins k rs → ⊥
none-wins [] k n w = w
none-wins (r ∷ rs) k n (inl (e, f)) = n.0 f
none-wins (r ∷ rs) k n (inr (m, w)) = none-wins rs k n.1 w

-- the reason at place n fits, and none before it does
abbrev pub Place : ℕ → List Reason → Type 0
Place n [] = ⊥
Place zero (r ∷ rs) = r.fits
Place (suc n) (r ∷ rs) = (r.fits → ⊥) × Place n rs

-- k is no number of the row; k is the number at place n, and there alone
unfoldable pub without : ℕ → List Reason → Bool
without k [] = true
without k (r ∷ rs) = not (eqb k r.number) && without k rs

unfoldable pub stands : ℕ → ℕ → List Reason → Bool
stands k n [] = false
stands k zero (r ∷ rs) = eqb k r.number && without k rs
stands k (suc n) (r ∷ rs) = not (eqb k r.number) && stands k n rs

other : (k j : ℕ) → not (eqb k j) ≡ true → k ≡ j → ⊥
other k j e q = true≢false (sym e ∙ ap not (eq-eqb k j q))

pub absent : (k : ℕ) (rs : List Reason) → without k rs ≡ true → Wins k rs → ⊥
unfolding without
absent k [] e w = w
absent k (r ∷ rs) e (inl (q, f)) = other k r.number (left (not (eqb k r.number)) (without k rs) e) q
absent k (r ∷ rs) e (inr (m, w)) = absent k rs (right (not (eqb k r.number)) (without k rs) e) w

at_place : (k n : ℕ) (rs : List Reason) → stands k n rs ≡ true → Wins k rs → Place n rs
unfolding stands
at_place k n [] e w = w
at_place k zero (r ∷ rs) e (inl (q, f)) = f
at_place k zero (r ∷ rs) e (inr (m, w)) = absurd (absent k rs (right (eqb k r.number) (without k rs) e) w)
at_place k (suc n) (r ∷ rs) e (inl (q, f)) = absurd (other k r.number (left (not (eqb k r.number)) (stands k n rs) e) q)
at_place k (suc n) (r ∷ rs) e (inr (m, w)) = (m, at_place k n rs (right (not (eqb k r.number)) (stands k n rs) e) w)

from_place : (k n : ℕ) (rs : List Reason) → stands k n rs ≡ true → Place n rs → Wins k rs
unfolding stands
from_place k n [] e p = p
from_place k zero (r ∷ rs) e p = inl (eqb-true k r.number (left (eqb k r.number) (without k rs) e), p)
from_place k (suc n) (r ∷ rs) e p = inr (p.0, from_place k n rs (right (not (eqb k r.number)) (stands k n rs) e) p.1)

pub wins-at : (k n : ℕ) (rs : List Reason) → stands k n rs ≡ true → Wins k rs ↔ Place n rs
wins-at k n rs e = (at_place k n rs e, from_place k n rs e)
