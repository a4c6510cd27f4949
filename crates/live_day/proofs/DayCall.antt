-- The day call on a sound store, in the numbers that the code has. Assumes nothing.
use mathlib.Core.Path.{◌≡◌, sym, ap, ap₂, ◌∙◌}
use mathlib.Core.Bool.{Bool, true, false, not}
use mathlib.Core.List.{List}
use Prim.Native.Nat.{ℕ, ◌+◌, ◌-◌, ◌*◌, ◌≤◌, ◌<◌}
use native.Mathlib.Omega.{arith}
use lib.ListN.{length, take}
use lib.Seq.{take-take}
use borrow.Author.Tests.{not-false, not-true}
use Rattle.lists.specs.Lists.{reading, sum}
use Rattle.lists.proofs.Sums.{sum-take-le}
use Rattle.answers.specs.Store.{answered, refused}
use Rattle.days.specs.Days.{changes_fit, day_end, day_hours, day_start}
use Rattle.days.proofs.Pairs.{fit, hours-most, start-most}
use Rattle.store.specs.Plain.{Day, tell}
use Rattle.store.specs.Reading.{list_in, read}
use Rattle.store.specs.Sound.{sound}
use Rattle.store.specs.Call.{Called}
use Rattle.store.specs.Code.Head.{HeadOf}
use Rattle.store.specs.declared.header.Header.{Header}
use Rattle.store.proofs.CallLaws.{answered-as, refused_as}
use Rattle.store.proofs.DayLaws.{not-over, over, wrong-list}
use Rattle.store.proofs.SoundFacts.{facts}

-- what the test of the list answers
pub fitting : (cs : List ℕ) {t : Bool} → t ≡ changes_fit cs → not t ≡ false → changes_fit cs ≡ true
fitting cs {t} e f = sym e ∙ not-false t f

module _ {s : List ℕ} (e : sound s ≡ true) (d : ℕ) (cs : List ℕ) where
  pub day-16 : {t : Bool} → t ≡ changes_fit cs → not t ≡ true → Called (Day d cs) s (refused 16) s
  day-16 {t} w f = refused_as (Day d cs) s 16 e (wrong-list d cs (read s).plain (sym w ∙ not-true t f))

  module _ (f : changes_fit cs ≡ true) {H : Header} (h : HeadOf s H) {start more : ℕ} (a : start ≡ day_start cs d) (b : more ≡ day_hours cs d) where
    abbrev xs : List ℕ
    xs = list_in s

    hours : H.hours ≡ length xs
    hours = h.hours-is ∙ (facts s e).hours-are

    end_is : start + more ≡ day_end cs d
    unfolding day_end
    end_is = ap₂ ◌+◌ a b

    pub day-7 : H.hours < start + more → Called (Day d cs) s (refused 7) s
    day-7 l = refused_as (Day d cs) s 7 e (not-over d cs (read s).plain f (omega (arith, hours, end_is)))

    -- a day's readings, the later one first
    pub day-is : (r q : ℕ) → start + more ≤ H.hours → r ≡ reading xs (start + more) → q ≡ reading xs start → Called (Day d cs) s (answered (r - q)) s
    day-is r q l u v =
        answered-as (Day d cs) s (r - q) e
        (over d cs (read s).plain f (omega (arith, hours, end_is))
        ∙ ap (λ (n : ℕ). tell n (read s).plain) (sym (ap₂ ◌-◌ (u ∙ ap (reading xs) end_is) (v ∙ ap (reading xs) a))))

-- a day's numbers fit 64 bits
pub day-fits : (cs : List ℕ) (d : ℕ) {start more : ℕ} → changes_fit cs ≡ true → start ≡ day_start cs d → more ≡ day_hours cs d → start + more ≤ 25 * d + 25
day-fits cs d f a b = omega (arith, start-most (fit cs f).pairs d, hours-most (fit cs f).pairs d)

-- readings rise
pub reading-mono : (xs : List ℕ) (i k : ℕ) → reading xs i ≤ reading xs (i + k)
reading-mono xs i k = omega (arith, sum-take-le i (take (i + k) xs), ap sum (take-take i (i + k) xs (omega arith)))
