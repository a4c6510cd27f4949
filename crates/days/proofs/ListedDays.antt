-- Document 02, note 4: 'Days in the list have the hours it gives, others 24', pair by pair; and a list that does not fit, in facts.
-- Assumes nothing.
use mathlib.Core.Path.{◌≡◌, refl, sym, ap, ◌∙◌}
use mathlib.Core.Bool.{Bool, true, false, ◌&&◌, ◌||◌, true≢false}
use mathlib.Core.List.{List, [], ◌∷◌}
use mathlib.Core.Logic.{◌⊎◌, inl, inr, ◌↔◌}
use Prim.Native.Nat.{ℕ, zero, suc, ◌+◌, ◌*◌, ◌%◌, ◌≤◌, ◌<◌}
use native.Mathlib.Decide.{ℕ_discrete}
use native.Mathlib.Omega.{arith}
use lib.ListN.{length, get_or}
use lib.Dec.{leb, eqb}
use borrow.Author.Tests.{eqb-false, eqb-true, leb-false, leb-true}
use Rattle.lists.proofs.Tests.{left, right}
use Rattle.days.specs.Days.{ChangesWrong, changes_fit, day_hours, is_change_day}
use Rattle.days.proofs.Pairs.{Pairs, fit, fit_is, fit_from, none, other-day, pair, this-day}

-- an entry behind the first pair, read behind it
behind : (x h i j : ℕ) (rest : List ℕ) → i ≡ suc (suc j) → get_or (x ∷ h ∷ rest) i 0 ≡ get_or rest j 0
behind x h i j rest e = ap (λ (z : ℕ). get_or (x ∷ h ∷ rest) z 0) e

-- ---- 'Days in the list have the hours it gives'
in_pairs : {a : ℕ} {cs : List ℕ} → Pairs a cs → (k : ℕ) → 2 * k + 1 < length cs
    → (day_hours cs (get_or cs (2 * k) 0) ≡ get_or cs (2 * k + 1) 0) × (a ≤ get_or cs (2 * k) 0)
in_pairs none k l = absurd (omega arith)
in_pairs (pair {x = x} {h = h} {rest = rest} m p q more) zero l = (this-day x h rest, m)
in_pairs (pair {x = x} {h = h} {rest = rest} m p q more) (suc k) l =
    let r = in_pairs more k (omega arith) in
    let day = behind x h (2 * suc k) (2 * k) rest (omega arith) in
    let hours = behind x h (2 * suc k + 1) (2 * k + 1) rest (omega arith) in (
      ap (day_hours (x ∷ h ∷ rest)) day
          ∙ other-day x h (get_or rest (2 * k) 0) rest (λ (e : x ≡ get_or rest (2 * k) 0). omega (arith, r.1))
          ∙ r.0
          ∙ sym hours,
      omega (arith, m, r.1, day),
    )

pub listed-hours : (cs : List ℕ) → changes_fit cs ≡ true → (k : ℕ) → 2 * k + 1 < length cs → day_hours cs (get_or cs (2 * k) 0) ≡ get_or cs (2 * k + 1) 0
listed-hours cs e k l = (in_pairs (fit cs e).pairs k l).0

-- 'others 24'
pub other-hours : (cs : List ℕ) (d : ℕ) → ((k : ℕ) → 2 * k + 1 < length cs → get_or cs (2 * k) 0 ≡ d → ⊥) → day_hours cs d ≡ 24
unfolding day_hours
other-hours [] d n = refl
other-hours (x ∷ []) d n = refl
other-hours (x ∷ h ∷ rest) d n =
    other-day x h d rest (n 0 (omega arith))
    ∙ other-hours rest d (λ k l e. n (suc k) (omega arith) (behind x h (2 * suc k) (2 * k) rest (omega arith) ∙ e))

-- ---- 'a list with an odd number of entries, or whose day numbers don't rise strictly or whose hours are neither 23 nor 25'
no_change : (h : ℕ) → is_change_day h ≡ false → (h ≡ 23 → ⊥) × (h ≡ 25 → ⊥)
unfolding is_change_day
no_change h e = go (eqb h 23) refl (eqb h 25) refl e
  where
    go : (p : Bool) → eqb h 23 ≡ p → (q : Bool) → eqb h 25 ≡ q → (p || q) ≡ false → (h ≡ 23 → ⊥) × (h ≡ 25 → ⊥)
    go true u q v w = absurd (true≢false w)
    go false u true v w = absurd (true≢false w)
    go false u false v w = (eqb-false h 23 u, eqb-false h 25 v)

a-change : (h : ℕ) → is_change_day h ≡ true → (h ≡ 23 → ⊥) → (h ≡ 25 → ⊥) → ⊥
unfolding is_change_day
a-change h e = go (eqb h 23) refl (eqb h 25) refl e
  where
    go : (p : Bool) → eqb h 23 ≡ p → (q : Bool) → eqb h 25 ≡ q → (p || q) ≡ true → (h ≡ 23 → ⊥) → (h ≡ 25 → ⊥) → ⊥
    go true u q v w m n = m (eqb-true h 23 u)
    go false u true v w m n = n (eqb-true h 25 v)
    go false u false v w m n = true≢false (sym w)

-- one pair more before a wrong list
later : (x h : ℕ) (rest : List ℕ) → ChangesWrong rest → ChangesWrong (x ∷ h ∷ rest)
later x h rest (inl e) = inl (omega (arith, e))
later x h rest (inr (inl (k, l, m))) =
    inr (inl (
      suc k,
      omega arith,
      omega (arith, m, behind x h (2 * suc k) (2 * k) rest (omega arith), behind x h (2 * suc k + 2) (2 * k + 2) rest (omega arith)),
    ))
later x h rest (inr (inr (k, l, m, n))) =
    let e = behind x h (2 * suc k + 1) (2 * k + 1) rest (omega arith) in
    inr (inr (suc k, omega arith, λ q. m (sym e ∙ q), λ q. n (sym e ∙ q)))

-- where a list whose days are to be a or above goes wrong: at its first day, or later
abbrev WrongFrom : ℕ → List ℕ → Type 0
WrongFrom a cs = ((1 ≤ length cs) × (get_or cs 0 0 < a)) ⊎ ChangesWrong cs

wrong-next : (a x h : ℕ) (rest : List ℕ) → WrongFrom (x + 1) rest → WrongFrom a (x ∷ h ∷ rest)
wrong-next a x h rest (inl (l, m)) = inr (inr (inl (0, omega arith, omega (arith, m))))
wrong-next a x h rest (inr w) = inr (later x h rest w)

wrong-pair : (a x h : ℕ) (rest : List ℕ) → (fit_from (x + 1) rest ≡ false → WrongFrom (x + 1) rest) → (p : Bool) → leb a x ≡ p
    → (c : Bool) → is_change_day h ≡ c → (p && (c && fit_from (x + 1) rest)) ≡ false → WrongFrom a (x ∷ h ∷ rest)
wrong-pair a x h rest more false u c v q = inl (omega arith, leb-false a x u)
wrong-pair a x h rest more true u false v q = let n = no_change h v in inr (inr (inr (0, omega arith, n.0, n.1)))
wrong-pair a x h rest more true u true v q = wrong-next a x h rest (more q)

wrong-from : (a : ℕ) (cs : List ℕ) → length cs % 2 ≡ 0 → fit_from a cs ≡ false → WrongFrom a cs
unfolding fit_from
wrong-from a [] e q = absurd (true≢false q)
wrong-from a (x ∷ []) e q = absurd (omega (arith, e))
wrong-from a (x ∷ h ∷ rest) e q =
    wrong-pair a x h rest (λ r. wrong-from (x + 1) rest (omega (arith, e)) r) (leb a x) refl (is_change_day h) refl q

-- a pair that is wrong, or the list behind it
first-or-rest : (x h : ℕ) (rest : List ℕ) → ChangesWrong (x ∷ h ∷ rest)
    → ((1 ≤ length rest) × (get_or rest 0 0 ≤ x)) ⊎ (((h ≡ 23 → ⊥) × (h ≡ 25 → ⊥)) ⊎ ChangesWrong rest)
first-or-rest x h rest (inl e) = inr (inr (inl (omega (arith, e))))
first-or-rest x h rest (inr (inl (zero, l, m))) = inl (omega arith, m)
first-or-rest x h rest (inr (inl (suc k, l, m))) =
    inr (inr (inr (inl (
      k,
      omega arith,
      omega (arith, m, behind x h (2 * suc k) (2 * k) rest (omega arith), behind x h (2 * suc k + 2) (2 * k + 2) rest (omega arith)),
    ))))
first-or-rest x h rest (inr (inr (zero, l, m, n))) = inr (inl (m, n))
first-or-rest x h rest (inr (inr (suc k, l, m, n))) =
    let e = behind x h (2 * suc k + 1) (2 * k + 1) rest (omega arith) in
    inr (inr (inr (inr (k, omega arith, λ q. m (e ∙ q), λ q. n (e ∙ q)))))

from_first : (a : ℕ) (cs : List ℕ) → fit_from a cs ≡ true → 1 ≤ length cs → a ≤ get_or cs 0 0
unfolding fit_from
from_first a [] e l = absurd (omega arith)
from_first a (x ∷ []) e l = absurd (true≢false (sym e))
from_first a (x ∷ h ∷ rest) e l = leb-true a x (left (leb a x) (is_change_day h && fit_from (x + 1) rest) e)

right-pair : (x h : ℕ) (rest : List ℕ) → is_change_day h ≡ true → fit_from (x + 1) rest ≡ true → (ChangesWrong rest → ⊥)
    → ((1 ≤ length rest) × (get_or rest 0 0 ≤ x)) ⊎ (((h ≡ 23 → ⊥) × (h ≡ 25 → ⊥)) ⊎ ChangesWrong rest) → ⊥
right-pair x h rest c f r (inl (l, m)) = omega (arith, from_first (x + 1) rest f l, m)
right-pair x h rest c f r (inr (inl (m, n))) = a-change h c m n
right-pair x h rest c f r (inr (inr v)) = r v

right-from : (a : ℕ) (cs : List ℕ) → fit_from a cs ≡ true → ChangesWrong cs → ⊥
unfolding fit_from
right-from a [] e (inl q) = omega (arith, q)
right-from a [] e (inr (inl (k, l, m))) = omega arith
right-from a [] e (inr (inr (k, l, m, n))) = omega arith
right-from a (x ∷ []) e w = true≢false (sym e)
right-from a (x ∷ h ∷ rest) e w =
    let more = right (leb a x) (is_change_day h && fit_from (x + 1) rest) e in
    right-pair x h rest (left (is_change_day h) (fit_from (x + 1) rest) more) (right (is_change_day h) (fit_from (x + 1) rest) more)
    (λ v. right-from (x + 1) rest (right (is_change_day h) (fit_from (x + 1) rest) more) v) (first-or-rest x h rest w)

pub wrong-exactly : (cs : List ℕ) → (changes_fit cs ≡ false) ↔ ChangesWrong cs
wrong-exactly cs = (found (ℕ_discrete (length cs % 2) 0), λ w. refuted (changes_fit cs) refl w)
  where
    found : Dec (length cs % 2 ≡ 0) → changes_fit cs ≡ false → ChangesWrong cs
    found (no n) q = inl (omega (arith, n))
    found (yes e) q = whole (wrong-from 0 cs e (sym (fit_is cs e) ∙ q))
      where
        whole : WrongFrom 0 cs → ChangesWrong cs
        whole (inl (l, m)) = absurd (omega arith)
        whole (inr w) = w

    refuted : (b : Bool) → changes_fit cs ≡ b → ChangesWrong cs → changes_fit cs ≡ false
    refuted false e w = e
    refuted true e w = absurd (right-from 0 cs (sym (fit_is cs (fit cs e).even) ∙ e) w)
