-- A letter and its numbers. Assumes nothing.
use mathlib.Core.Path.{◌≡◌, refl, sym, ◌∙◌}
use mathlib.Core.Bool.{Bool, true, false}
use mathlib.Core.List.{List, [], ◌∷◌}
use Prim.Native.Nat.{ℕ}
use borrow.Author.Tests.{ne_eqb}
use Rattle.lists.specs.Lists.{pick}
use Rattle.session.specs.Line.{none, one, two, by_letter}
use Rattle.std.specs.Prelude.{Option, Some, None}
use Rattle.session.specs.declared.line.Command.{Command}

pick_same : {A : Type 0} (b : Bool) (x : A) → pick b x x ≡ x
unfolding pick
pick_same true x = refl
pick_same false x = refl

pick_no : {A : Type 0} (x y : A) → pick false x y ≡ y
unfolding pick
pick_no x y = refl

-- a letter that takes other numbers
module _ (l : ℕ) where
  pub none_other : (l ≡ 102 → ⊥) → by_letter l [] ≡ None
  unfolding by_letter none one two
  none_other f = simp (ne_eqb l 102 f, pick_no, pick_same)

  pub one-other : (x : ℕ) → (l ≡ 97 → ⊥) → (l ≡ 103 → ⊥) → (l ≡ 114 → ⊥) → (l ≡ 119 → ⊥) → (l ≡ 100 → ⊥) → by_letter l (Some x ∷ []) ≡ None
  unfolding by_letter none one two
  one-other x a g r w d = simp (ne_eqb l 97 a, ne_eqb l 103 g, ne_eqb l 114 r, ne_eqb l 119 w, ne_eqb l 100 d, pick_no, pick_same)

  pub two-other : (x y : ℕ) → (l ≡ 110 → ⊥) → (l ≡ 115 → ⊥) → by_letter l (Some x ∷ Some y ∷ []) ≡ None
  unfolding by_letter none one two
  two-other x y n s = simp (ne_eqb l 110 n, ne_eqb l 115 s, pick_no, pick_same)

-- no letter takes these numbers
pub record Fails (ns : List (Option ℕ)) : Type 0 where
  pub no_none : (c : Command) → none c ns ≡ None
  pub no_one : (f : ℕ → Command) → one f ns ≡ None
  pub no-two : (f : ℕ → ℕ → Command) → two f ns ≡ None

pub fails : (l : ℕ) (ns : List (Option ℕ)) → Fails ns → by_letter l ns ≡ None
unfolding by_letter
fails l ns h = simp (h.no_none, h.no_one, h.no-two, pick_same)

pub wrong_first : (ns : List (Option ℕ)) → Fails (None ∷ ns)
unfolding none one two
wrong_first [] = record { no_none = λ c. refl; no_one = λ f. refl; no-two = λ f. refl }
wrong_first (n ∷ []) = record { no_none = λ c. refl; no_one = λ f. refl; no-two = λ f. refl }
wrong_first (n ∷ m ∷ ns) = record { no_none = λ c. refl; no_one = λ f. refl; no-two = λ f. refl }

pub wrong_second : (n : Option ℕ) → Fails (n ∷ None ∷ [])
unfolding none one two
wrong_second (Some x) = record { no_none = λ c. refl; no_one = λ f. refl; no-two = λ f. refl }
wrong_second None = record { no_none = λ c. refl; no_one = λ f. refl; no-two = λ f. refl }

pub three : (n m l : Option ℕ) (ns : List (Option ℕ)) → Fails (n ∷ m ∷ l ∷ ns)
unfolding none one two
three n m l ns = record { no_none = λ c. refl; no_one = λ f. refl; no-two = λ f. refl }

-- what a function answers that was given no number where r is what the part says
pub single-wrong : (l : ℕ) {r n : Option ℕ} → r ≡ None → r ≡ n → None ≡ by_letter l (n ∷ [])
single-wrong l w e = rw (sym e ∙ w) (sym (fails l _ (wrong_first [])))

pub first-wrong : (l : ℕ) {r n : Option ℕ} (m : Option ℕ) → r ≡ None → r ≡ n → None ≡ by_letter l (n ∷ m ∷ [])
first-wrong l m w e = rw (sym e ∙ w) (sym (fails l _ (wrong_first (m ∷ []))))

pub second-wrong : (l : ℕ) (n : Option ℕ) {r m : Option ℕ} → r ≡ None → r ≡ m → None ≡ by_letter l (n ∷ m ∷ [])
second-wrong l n w e = rw (sym e ∙ w) (sym (fails l _ (wrong_second n)))
