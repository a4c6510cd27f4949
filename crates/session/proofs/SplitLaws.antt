-- A list cut at each byte of a kind. Assumes nothing.
use mathlib.Core.Path.{◌≡◌, refl, ap, ◌∙◌}
use mathlib.Core.List.{List, [], ◌∷◌}
use mathlib.Core.Logic.{◌⊎◌, inl, inr}
use Prim.Native.Nat.{ℕ, zero, suc, ◌<◌}
use native.Mathlib.Nat.{not-suc-le-zero, le_of_suc-le-suc}
use native.Mathlib.Omega.{arith}
use native.Mathlib.Decide.{ℕ_discrete}
use lib.ListN.{length, get_or, take, drop}
use borrow.Author.Tests.{eq-eqb, ne_eqb}
use Rattle.lists.specs.Lists.{pick}
use Rattle.session.specs.Line.{on_first, split_on}

-- the bytes before k are others than c
abbrev pub Free : ℕ → List ℕ → ℕ → Type 0
Free c s k = (j : ℕ) → j < k → get_or s j 0 ≡ c → ⊥

-- one byte more
module _ (c b : ℕ) (s : List ℕ) where
  pub split-cut : b ≡ c → split_on c (b ∷ s) ≡ [] ∷ split_on c s
  unfolding split_on pick
  split-cut e = rw (eq-eqb b c e)

  pub split-more : (b ≡ c → ⊥) → split_on c (b ∷ s) ≡ on_first b (split_on c s)
  unfolding split_on pick
  split-more h = rw (ne_eqb b c h)

  later : (k : ℕ) → Free c (b ∷ s) (suc k) → Free c s k
  later k h j l e = h (suc j) (omega arith) e

pub split-none : (c : ℕ) (s : List ℕ) → Free c s (length s) → split_on c s ≡ s ∷ []
unfolding split_on on_first
split-none c [] h = refl
split-none c (b ∷ s) h = split-more c b s (h 0 (omega arith)) ∙ ap (on_first b) (split-none c s (later c b s (length s) h))

pub split-first : (c : ℕ) (s : List ℕ) (k : ℕ) → k < length s → Free c s k → get_or s k 0 ≡ c → split_on c s ≡ take k s ∷ split_on c (drop (suc k) s)
unfolding on_first
split-first c [] k l h e = absurd (not-suc-le-zero l)
split-first c (b ∷ s) zero l h e = split-cut c b s e
split-first c (b ∷ s) (suc k) l h e =
    split-more c b s (h 0 (omega arith)) ∙ ap (on_first b) (split-first c s k (le_of_suc-le-suc l) (later c b s k h) e)

-- there is a first part
pub record Parts (c : ℕ) (s : List ℕ) : Type 0 where
  pub head : List ℕ
  pub tail : List (List ℕ)
  pub are : split_on c s ≡ head ∷ tail

pub parts : (c : ℕ) (s : List ℕ) → Parts c s
unfolding split_on on_first
parts c [] = record { head = []; tail = []; are = refl }
parts c (b ∷ s) = go (ℕ_discrete b c) (parts c s)
  where
    go : Dec (b ≡ c) → Parts c s → Parts c (b ∷ s)
    go (yes e) p = record { head = []; tail = split_on c s; are = split-cut c b s e }
    go (no h) p = record { head = b ∷ p.head; tail = p.tail; are = split-more c b s h ∙ ap (on_first b) p.are }

-- the first c in a list
pub record First (c : ℕ) (s : List ℕ) : Type 0 where
  pub place : ℕ
  pub within : place < length s
  pub before : Free c s place
  pub found : get_or s place 0 ≡ c

pub first_or_none : (c : ℕ) (s : List ℕ) → First c s ⊎ Free c s (length s)
first_or_none c [] = inr (λ j l e. not-suc-le-zero l)
first_or_none c (b ∷ s) = go (ℕ_discrete b c) (first_or_none c s)
  where
    here : b ≡ c → First c (b ∷ s)
    here e = record { place = 0; within = omega arith; before = λ j l q. not-suc-le-zero l; found = e }

    there : (b ≡ c → ⊥) → (k : ℕ) → Free c s k → Free c (b ∷ s) (suc k)
    there h k f zero l e = h e
    there h k f (suc j) l e = f j (le_of_suc-le-suc l) e

    go : Dec (b ≡ c) → First c s ⊎ Free c s (length s) → First c (b ∷ s) ⊎ Free c (b ∷ s) (suc (length s))
    go (yes e) f = inl (here e)
    go (no h) (inl f) =
        inl (record { place = suc f.place; within = omega (arith, f.within); before = there h f.place f.before; found = f.found })
    go (no h) (inr f) = inr (there h (length s) f)
