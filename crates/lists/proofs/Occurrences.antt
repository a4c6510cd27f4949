-- How often a number stands in a list. Assumes nothing.
use mathlib.Core.Path.{◌≡◌, refl, sym, ap, ap₂, ◌∙◌}
use mathlib.Core.List.{List, [], ◌∷◌, ◌++◌}
use Prim.Native.Nat.{ℕ, zero, suc, ◌+◌, ◌≤◌, ◌<◌}
use native.Mathlib.Nat.{not-suc-le-zero, le_of_suc-le-suc}
use native.Mathlib.Omega.{arith}
use lib.ListN.{length, get_or, take, drop, set, length-append, take-append-drop}
use lib.Dec.{eqb}
use borrow.Author.Tests.{eq-eqb, ne_eqb}
use Rattle.lists.specs.Lists.{tabulate, concat, sum, one, occurrences}
use Rattle.lists.proofs.Tables.{get_d_tabulate, length-tabulate}

pub one_same : (c : ℕ) → one (eqb c c) ≡ 1
unfolding one
one_same c = ap one (eq-eqb c c refl)

pub one-other : (c d : ℕ) → (c ≡ d → ⊥) → one (eqb c d) ≡ 0
unfolding one
one-other c d h = ap one (ne_eqb c d h)

pub one-equal : (c d : ℕ) → c ≡ d → one (eqb c d) ≡ 1
unfolding one
one-equal c d e = ap one (eq-eqb c d e)

pub occurrences-append : (c : ℕ) (xs ys : List ℕ) → occurrences c (xs ++ ys) ≡ occurrences c xs + occurrences c ys
unfolding occurrences
occurrences-append c [] ys = omega arith
occurrences-append c (x ∷ xs) ys = omega (arith, occurrences-append c xs ys)

pub occurrences-split : (c k : ℕ) (xs : List ℕ) → occurrences c (take k xs) + occurrences c (drop k xs) ≡ occurrences c xs
occurrences-split c k xs = sym (occurrences-append c (take k xs) (drop k xs)) ∙ ap (occurrences c) (take-append-drop k xs)

pub occurrences-concat-set : (c : ℕ) (css : List (List ℕ)) (p : ℕ) (ys : List ℕ) → p < length css
    → occurrences c (concat (set css p ys)) + occurrences c (get_or css p []) ≡ occurrences c (concat css) + occurrences c ys
unfolding concat
occurrences-concat-set c [] p ys h = absurd (not-suc-le-zero h)
occurrences-concat-set c (cs ∷ css) zero ys h = omega (arith, occurrences-append c cs (concat css), occurrences-append c ys (concat css))
occurrences-concat-set c (cs ∷ css) (suc p) ys h =
    omega (arith, occurrences-append c cs (concat css), occurrences-append c cs (concat (set css p ys)), occurrences-concat-set c css p ys (le_of_suc-le-suc h))

pub length-concat-set : (css : List (List ℕ)) (p : ℕ) (ys : List ℕ) → p < length css
    → length (concat (set css p ys)) + length (get_or css p []) ≡ length (concat css) + length ys
unfolding concat
length-concat-set [] p ys h = absurd (not-suc-le-zero h)
length-concat-set (cs ∷ css) zero ys h = omega (arith, length-append cs (concat css), length-append ys (concat css))
length-concat-set (cs ∷ css) (suc p) ys h =
    omega (arith, length-append cs (concat css), length-append cs (concat (set css p ys)), length-concat-set css p ys (le_of_suc-le-suc h))

pub length-concat : (css : List (List ℕ)) (f : ℕ → ℕ) → ((p : ℕ) → p < length css → length (get_or css p []) ≡ f p)
    → length (concat css) ≡ sum (tabulate (length css) f)
unfolding concat tabulate sum
length-concat [] f h = refl
length-concat (cs ∷ css) f h =
    length-append cs (concat css) ∙ ap₂ ◌+◌ (h 0 (omega arith)) (length-concat css (λ p. f (suc p)) (λ p l. h (suc p) (omega arith)))

-- one more at the end changes no other place
pub get_d-snoc : (xs : List ℕ) (v h : ℕ) → (h ≡ length xs → ⊥) → get_or (xs ++ v ∷ []) h 0 ≡ get_or xs h 0
get_d-snoc [] v zero e = absurd (e refl)
get_d-snoc [] v (suc h) e = refl
get_d-snoc (x ∷ xs) v zero e = refl
get_d-snoc (x ∷ xs) v (suc h) e = get_d-snoc xs v h (λ q. e (ap suc q))

pub occurrences-get_d-concat : (c : ℕ) (css : List (List ℕ)) (p : ℕ) → p < length css → occurrences c (get_or css p []) ≤ occurrences c (concat css)
unfolding concat
occurrences-get_d-concat c [] p h = absurd (not-suc-le-zero h)
occurrences-get_d-concat c (cs ∷ css) zero h = omega (arith, occurrences-append c cs (concat css))
occurrences-get_d-concat c (cs ∷ css) (suc p) h = omega (arith, occurrences-append c cs (concat css), occurrences-get_d-concat c css p (le_of_suc-le-suc h))

pub occurrences-tabulate : (d n : ℕ) (f : ℕ → List ℕ) (p : ℕ) → p < n → occurrences d (f p) ≤ occurrences d (concat (tabulate n f))
occurrences-tabulate d n f p l =
    omega (arith, occurrences-get_d-concat d (tabulate n f) p (omega (arith, length-tabulate n f)), ap (occurrences d) (get_d_tabulate n f p [] l))
