-- What one turn of each loop over the list does. Assumes nothing.
use mathlib.Core.Path.{◌≡◌, refl, sym, ap, ap₂, ◌∙◌}
use mathlib.Core.Bool.{Bool, true, false, cond, ◌&&◌, and-false}
use mathlib.Core.List.{List, [], ◌∷◌}
use Prim.Native.Nat.{ℕ, zero, suc, ◌+◌, ◌-◌, ◌*◌, ◌/◌, ◌%◌, ◌≤◌, ◌<◌}
use native.Mathlib.Numerals.{add-one}
use native.Mathlib.Omega.{arith}
use lib.ListN.{length, drop, drop_of_length-le, get_or, take}
use lib.Dec.{leb, eqb}
use lib.Seq.{drop-cons}
use borrow.Author.Tests.{le-leb, lt-leb}
use Rattle.std.specs.List.{find}
use Rattle.std.specs.Option.{option_map_or}
use Rattle.std.specs.Prelude.{Some}
use Rattle.std.specs.Simd.{first_chunks}
use Rattle.lists.specs.Lists.{pick}
use Rattle.lists.proofs.Parts.{chunk-at, length-chunks}
use Rattle.days.specs.Days.{changes_fit, day_hours, day_start, is_change_day}
use Rattle.days.proofs.DayLaws.{old-start}
use Rattle.days.proofs.Pairs.{fit, fit_from, pairs-drop, start-least, start-most, start-moved, start-stays}

-- the start of day d by the pairs from the i-th on
pub start-below : (cs : List ℕ) (i d : ℕ) → changes_fit cs ≡ true → day_start (drop (2 * i) cs) d ≤ 25 * d
start-below cs i d e = start-most (pairs-drop (fit cs e).pairs (2 * i) (omega arith)) d

-- the pairs ps of the list cs, the i-th of them next
module _ (cs : List ℕ) (ps : List (List ℕ)) (i : ℕ) (all : ps ≡ first_chunks 2 (length cs / 2) cs) (l : i < length ps) where
  abbrev pub day : ℕ
  day = get_or (get_or ps i []) 0 0

  abbrev pub hours : ℕ
  hours = get_or (get_or ps i []) 1 0

  abbrev rest : List ℕ
  rest = drop (2 * (i + 1)) cs

  within : i < length cs / 2
  within = omega (arith, ap length all, length-chunks 2 (length cs / 2) cs)

  two : drop (2 * i) cs ≡ get_or cs (2 * i) 0 ∷ get_or cs (2 * i + 1) 0 ∷ rest
  two =
      let n : suc (2 * i + 1) ≡ 2 * (i + 1) = omega arith in
      drop-cons cs (2 * i) 0 (omega (arith, within))
      ∙ ap (λ (z : List ℕ). get_or cs (2 * i) 0 ∷ z) (ap (λ (z : ℕ). drop z cs) (sym (add-one (2 * i)))
      ∙ drop-cons cs (2 * i + 1) 0 (omega (arith, within)) ∙ ap (λ (z : ℕ). get_or cs (2 * i + 1) 0 ∷ drop z cs) n)

  one : get_or ps i [] ≡ get_or cs (2 * i) 0 ∷ get_or cs (2 * i + 1) 0 ∷ []
  one = ap (λ (z : List (List ℕ)). get_or z i []) all ∙ chunk-at 2 (length cs / 2) i cs within ∙ ap (take 2) two

  pub day-is : day ≡ get_or cs (2 * i) 0
  day-is = ap (λ (z : List ℕ). get_or z 0 0) one

  pub hours-is : hours ≡ get_or cs (2 * i + 1) 0
  hours-is = ap (λ (z : List ℕ). get_or z 1 0) one

  at_pair : drop (2 * i) cs ≡ day ∷ hours ∷ rest
  at_pair = two ∙ ap₂ (λ (x y : ℕ). x ∷ y ∷ rest) (sym day-is) (sym hours-is)

  -- the test of the list: what is still to test
  module _ (from : ℕ) (e : changes_fit cs ≡ fit_from from (drop (2 * i) cs)) where
    here : changes_fit cs ≡ (leb from day && (is_change_day hours && fit_from (day + 1) rest))
    unfolding fit_from
    here = e ∙ ap (fit_from from) at_pair

    pub too-early : day < from → false ≡ changes_fit cs
    too-early k = sym (here ∙ ap (λ (b : Bool). b && (is_change_day hours && fit_from (day + 1) rest)) (lt-leb from day k))

    pub wrong-hours : is_change_day hours ≡ false → false ≡ changes_fit cs
    wrong-hours k = sym (here ∙ ap (λ (b : Bool). leb from day && (b && fit_from (day + 1) rest)) k ∙ and-false (leb from day))

    pub pair_fits : from ≤ day → is_change_day hours ≡ true → changes_fit cs ≡ fit_from (day + 1) rest
    pair_fits k h =
        here
        ∙ ap (λ (b : Bool). b && (is_change_day hours && fit_from (day + 1) rest)) (le-leb from day k)
        ∙ ap (λ (b : Bool). b && fit_from (day + 1) rest) h

  module _ (d : ℕ) where
    -- its start: by how much the pair moves it
    moved : changes_fit cs ≡ true → day < d → day_start (drop (2 * i) cs) d + 24 ≡ day_start rest d + hours
    moved e k =
        ap (λ (z : List ℕ). day_start z d + 24) at_pair
        ∙ start-moved 0 day hours rest (rw at_pair at (pairs-drop (fit cs e).pairs (2 * i) (omega arith))) d k

    stays : d ≤ day → day_start (drop (2 * i) cs) d ≡ day_start rest d
    stays k = ap (λ (z : List ℕ). day_start z d) at_pair ∙ start-stays day hours rest d k

    module _ (start : ℕ) (e : changes_fit cs ≡ true) (q : start + day_start (drop (2 * i) cs) d ≡ day_start cs d + 24 * d) where
      pub no-borrow : day < d → 24 ≤ start + hours
      no-borrow k = omega (arith, q, moved e k, start-least (fit cs e).pairs d, start-below cs (i + 1) d e)

      pub start-more : day < d → start + hours - 24 + day_start rest d ≡ day_start cs d + 24 * d
      start-more k = omega (arith, q, moved e k, no-borrow k)

      pub start-same : d ≤ day → start + day_start rest d ≡ day_start cs d + 24 * d
      start-same k = omega (arith, q, stays k)

-- no pair is left of a list of pairs
module _ (cs : List ℕ) (ps : List (List ℕ)) (i : ℕ) (all : ps ≡ first_chunks 2 (length cs / 2) cs) (l : length ps ≤ i) (even : length cs % 2 ≡ 0) where
  ended : drop (2 * i) cs ≡ []
  ended = drop_of_length-le cs (omega (arith, ap length all, length-chunks 2 (length cs / 2) cs))

  pub all-fits : (from : ℕ) → fit_from from (drop (2 * i) cs) ≡ true
  unfolding fit_from
  all-fits from = ap (fit_from from) ended

  pub none-left : (d : ℕ) → day_start (drop (2 * i) cs) d ≡ 24 * d
  none-left d = ap (λ (z : List ℕ). day_start z d) ended ∙ old-start d

-- the pair of day d, if the list has it, says its hours
pub named : (d k : ℕ) (cs : List ℕ) → length cs ≡ 2 * k
    → option_map_or (λ (p : List ℕ). get_or p 1 0) (find (λ (p : List ℕ). eqb (get_or p 0 0) d) (first_chunks 2 k cs)) 24 ≡ day_hours cs d
unfolding day_hours pick
named d zero [] q = refl
named d zero (x ∷ cs) q = absurd (omega arith)
named d (suc k) [] q = absurd (omega arith)
named d (suc k) (x ∷ []) q = absurd (omega arith)
named d (suc k) (x ∷ h ∷ more) q = go (eqb x d) (named d k more (omega (arith, q)))
  where
    later : ℕ
    later = option_map_or (λ (p : List ℕ). get_or p 1 0) (find (λ (p : List ℕ). eqb (get_or p 0 0) d) (first_chunks 2 k more)) 24

    go : (b : Bool) → later ≡ day_hours more d
        → option_map_or (λ (p : List ℕ). get_or p 1 0) (cond b (Some (x ∷ h ∷ [])) (find (λ (p : List ℕ). eqb (get_or p 0 0) d) (first_chunks 2 k more))) 24
        ≡ pick b h (day_hours more d)
    go true r = refl
    go false r = r
