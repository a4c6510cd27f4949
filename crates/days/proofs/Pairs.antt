-- A list of changed days pair by pair, each day above those before it: what the test finds, and what it makes of the hours.
-- Assumes nothing.
use mathlib.Core.Path.{◌≡◌, refl, sym, ap, ◌∙◌}
use mathlib.Core.Bool.{Bool, true, false, ◌&&◌, ◌||◌, and-true, true≢false}
use mathlib.Core.List.{List, [], ◌∷◌, map}
use Prim.Native.Nat.{ℕ, zero, suc, ◌+◌, ◌*◌, ◌%◌, ◌≤◌, ◌<◌}
use native.Mathlib.Decide.{ℕ_discrete}
use native.Mathlib.Numerals.{add-one}
use native.Mathlib.Omega.{arith}
use lib.ListN.{length, drop}
use lib.Dec.{leb, eqb, leb-zero}
use borrow.Author.Tests.{eq-eqb, eqb-true, leb-true, ne_eqb}
use Rattle.lists.specs.Lists.{every, pick, sum}
use Rattle.lists.proofs.Sums.{sum-least, sum-most, sum-tabulate-one}
use Rattle.lists.proofs.Tables.{tabulate-ext}
use Rattle.lists.proofs.Tests.{every-no, left, right}
use Rattle.days.specs.Days.{changes_fit, day_hours, day_numbers, day_start, hours_given, is_change_day, rises}

-- the pairs of a list fit, and their days are a or above
unfoldable pub fit_from : ℕ → List ℕ → Bool
fit_from a [] = true
fit_from a (x ∷ []) = false
fit_from a (x ∷ h ∷ rest) = leb a x && (is_change_day h && fit_from (x + 1) rest)

pub data Pairs : ℕ → List ℕ → Type 0 where
  none : {a : ℕ} → Pairs a []
  pair : {a x h : ℕ} {rest : List ℕ} → a ≤ x → 23 ≤ h → h ≤ 25 → Pairs (x + 1) rest → Pairs a (x ∷ h ∷ rest)

is-change : (h : ℕ) → is_change_day h ≡ true → (23 ≤ h) × (h ≤ 25)
unfolding is_change_day
is-change h e = go (eqb h 23) refl (eqb h 25) refl e
  where
    go : (p : Bool) → eqb h 23 ≡ p → (q : Bool) → eqb h 25 ≡ q → (p || q) ≡ true → (23 ≤ h) × (h ≤ 25)
    go true u q v w = omega (arith, eqb-true h 23 u)
    go false u true v w = omega (arith, eqb-true h 25 v)
    go false u false v w = let z : ◌≡◌ {A = ℕ} 0 1 = cc in omega arith

pub pairs_of : (a : ℕ) (cs : List ℕ) → fit_from a cs ≡ true → Pairs a cs
unfolding fit_from
pairs_of a [] e = none
pairs_of a (x ∷ []) e = let z : ◌≡◌ {A = ℕ} 0 1 = cc in absurd (omega arith)
pairs_of a (x ∷ h ∷ rest) e =
    let more = right (leb a x) (is_change_day h && fit_from (x + 1) rest) e in
    let hours = is-change h (left (is_change_day h) (fit_from (x + 1) rest) more) in
    pair (leb-true a x (left (leb a x) (is_change_day h && fit_from (x + 1) rest) e)) hours.0 hours.1
    (pairs_of (x + 1) rest (right (is_change_day h) (fit_from (x + 1) rest) more))

lower : {a b : ℕ} {cs : List ℕ} → b ≤ a → Pairs a cs → Pairs b cs
lower l none = none
lower {a} {b} l (pair {x} m p q more) = let k : b ≤ x = omega arith in pair k p q more

-- the pairs from one on
pub pairs-drop : {a : ℕ} {cs : List ℕ} → Pairs a cs → (i : ℕ) → i % 2 ≡ 0 → Pairs 0 (drop i cs)
pairs-drop w zero e = lower (omega arith) w
pairs-drop w (suc zero) e = absurd (omega (arith, e))
pairs-drop none (suc (suc i)) e = none
pairs-drop {a} (pair {x} {h} {rest} m p q more) (suc (suc i)) e = pairs-drop {a = x + 1} more i (omega (arith, e))

-- ---- hours and starts
pub other-day : (x h d : ℕ) (rest : List ℕ) → (x ≡ d → ⊥) → day_hours (x ∷ h ∷ rest) d ≡ day_hours rest d
unfolding day_hours pick
other-day x h d rest n = go (eqb x d) refl
  where
    go : (b : Bool) → eqb x d ≡ b → pick b h (day_hours rest d) ≡ day_hours rest d
    go true e = absurd (n (eqb-true x d e))
    go false e = refl

pub this-day : (x h : ℕ) (rest : List ℕ) → day_hours (x ∷ h ∷ rest) x ≡ h
unfolding day_hours pick
this-day x h rest = rw (eq-eqb x x refl)

-- a day before those of the list
day-before : {a : ℕ} {cs : List ℕ} → Pairs a cs → (d : ℕ) → d < a → day_hours cs d ≡ 24
unfolding day_hours
day-before none d l = refl
day-before (pair {x} {h} {rest} m p q more) d l = other-day x h d rest (λ (e : x ≡ d). omega arith) ∙ day-before more d (omega arith)

hours-or : (x h d : ℕ) (rest : List ℕ) → h ≤ 25 → day_hours rest d ≤ 25 → day_hours (x ∷ h ∷ rest) d ≤ 25
unfolding day_hours pick
hours-or x h d rest l m = go (eqb x d)
  where
    go : (b : Bool) → pick b h (day_hours rest d) ≤ 25
    go true = l
    go false = m

pub hours-most : {a : ℕ} {cs : List ℕ} → Pairs a cs → (d : ℕ) → day_hours cs d ≤ 25
unfolding day_hours
hours-most none d = omega arith
hours-most (pair {x} {h} {rest} m p q more) d = hours-or x h d rest q (hours-most more d)

hours-and : (x h d : ℕ) (rest : List ℕ) → 23 ≤ h → 23 ≤ day_hours rest d → 23 ≤ day_hours (x ∷ h ∷ rest) d
unfolding day_hours pick
hours-and x h d rest l m = go (eqb x d)
  where
    go : (b : Bool) → 23 ≤ pick b h (day_hours rest d)
    go true = l
    go false = m

hours-least : {a : ℕ} {cs : List ℕ} → Pairs a cs → (d : ℕ) → 23 ≤ day_hours cs d
unfolding day_hours
hours-least none d = omega arith
hours-least (pair {x} {h} {rest} m p q more) d = hours-and x h d rest p (hours-least more d)

pub start-least : {a : ℕ} {cs : List ℕ} → Pairs a cs → (d : ℕ) → 23 * d ≤ day_start cs d
unfolding day_start
start-least {a} {cs} w d = sum-least 23 d (day_hours cs) (hours-least w)

pub start-most : {a : ℕ} {cs : List ℕ} → Pairs a cs → (d : ℕ) → day_start cs d ≤ 25 * d
unfolding day_start
start-most {a} {cs} w d = sum-most 25 d (day_hours cs) (hours-most w)

-- one pair more before the list: a day before d moves its start, any other does not
pub start-moved : (a x h : ℕ) (rest : List ℕ) → Pairs a (x ∷ h ∷ rest) → (d : ℕ) → x < d → day_start (x ∷ h ∷ rest) d + 24 ≡ day_start rest d + h
unfolding day_start
start-moved a x h rest (pair m p q more) d l =
    let s = sum-tabulate-one d (day_hours (x ∷ h ∷ rest)) (day_hours rest) x l
    (λ j n. other-day x h j rest (λ (e : x ≡ j). n (sym e))) in
    omega (arith, s, this-day x h rest, day-before more x (omega arith))

pub start-stays : (x h : ℕ) (rest : List ℕ) (d : ℕ) → d ≤ x → day_start (x ∷ h ∷ rest) d ≡ day_start rest d
unfolding day_start
start-stays x h rest d l =
    ap sum (tabulate-ext d (day_hours (x ∷ h ∷ rest)) (day_hours rest) (λ j k. other-day x h j rest (λ (e : x ≡ j). omega arith)))

-- ---- the three tests of `changes_fit`, pair by pair
rises-from : (a : ℕ) (xs : List ℕ) → Bool
rises-from a [] = true
rises-from a (x ∷ xs) = leb a x && rises (x ∷ xs)

rises_next : (a : ℕ) (xs : List ℕ) → rises (a ∷ xs) ≡ rises-from (a + 1) xs
unfolding rises rises-from
rises_next a [] = refl
rises_next a (x ∷ xs) = ap (λ (z : ℕ). leb z x && rises (x ∷ xs)) (sym (add-one a))

rises-all : (xs : List ℕ) → rises-from 0 xs ≡ rises xs
unfolding rises rises-from
rises-all [] = refl
rises-all (x ∷ xs) = ap (λ (b : Bool). b && rises (x ∷ xs)) (leb-zero x)

parted : (a : ℕ) (cs : List ℕ) → length cs % 2 ≡ 0 → fit_from a cs ≡ (rises-from a (day_numbers cs) && every (map is_change_day (hours_given cs)))
unfolding fit_from day_numbers hours_given every rises-from
parted a [] e = refl
parted a (x ∷ []) e = absurd (omega (arith, e))
parted a (x ∷ h ∷ rest) e =
    ap (λ (b : Bool). leb a x && (is_change_day h && b)) (parted (x + 1) rest (omega (arith, e)))
    ∙ swapped (leb a x) (is_change_day h) (rises-from (x + 1) (day_numbers rest)) (every (map is_change_day (hours_given rest)))
    ∙ ap (λ (b : Bool). (leb a x && b) && (is_change_day h && every (map is_change_day (hours_given rest)))) (sym (rises_next x (day_numbers rest)))
  where
    swapped : (p q r s : Bool) → (p && (q && (r && s))) ≡ ((p && r) && (q && s))
    swapped true true r s = refl
    swapped true false true s = refl
    swapped true false false s = refl
    swapped false q r s = refl

pub fit_is : (cs : List ℕ) → length cs % 2 ≡ 0 → changes_fit cs ≡ fit_from 0 cs
unfolding changes_fit every
fit_is cs e =
    let fine = every (map is_change_day (hours_given cs)) in
    ap (λ (b : Bool). b && (rises (day_numbers cs) && (fine && true))) (eq-eqb (length cs % 2) 0 e)
    ∙ ap (λ (b : Bool). rises (day_numbers cs) && b) (and-true fine)
    ∙ ap (λ (b : Bool). b && fine) (sym (rises-all (day_numbers cs)))
    ∙ sym (parted 0 cs e)

pub fit-odd : (cs : List ℕ) → (length cs % 2 ≡ 0 → ⊥) → changes_fit cs ≡ false
unfolding changes_fit
fit-odd cs n = every-no (eqb (length cs % 2) 0 ∷ rises (day_numbers cs) ∷ every (map is_change_day (hours_given cs)) ∷ []) 0 (ne_eqb (length cs % 2) 0 n)

fit-even : (cs : List ℕ) → changes_fit cs ≡ true → length cs % 2 ≡ 0
fit-even cs e = go (ℕ_discrete (length cs % 2) 0)
  where
    go : Dec (length cs % 2 ≡ 0) → length cs % 2 ≡ 0
    go (yes q) = q
    go (no n) = absurd (true≢false (sym e ∙ fit-odd cs n))

-- what a list that fits is
pub record Fit (cs : List ℕ) : Type 0 where
  pub even : length cs % 2 ≡ 0
  pub pairs : Pairs 0 cs

pub fit : (cs : List ℕ) → changes_fit cs ≡ true → Fit cs
fit cs e = let q = fit-even cs e in record { even = q; pairs = pairs_of 0 cs (sym (fit_is cs q) ∙ e) }
