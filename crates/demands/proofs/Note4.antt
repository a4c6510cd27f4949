-- Document 02, note 4, in its own words, of the word that C gets. Assumes nothing.
use mathlib.Core.Bool.{Bool, true, false}
use mathlib.Core.List.{List, []}
use mathlib.Core.Logic.{◌⊎◌, ◌↔◌}
use mathlib.Core.Path.{◌≡◌, refl, sym, ap, ◌∙◌}
use Prim.Native.Nat.{ℕ, suc, ◌+◌, ◌-◌, ◌*◌, ◌%◌, ◌^◌, ◌≤◌, ◌<◌}
use native.Mathlib.Decide.{dec_le}
use native.Mathlib.Numerals.{add-one}
use native.Mathlib.Omega.{arith}
use lib.ListN.{length, get_or, take}
use lib.Seq.{take-add}
use Rattle.lists.specs.Lists.{part, reading, sum}
use Rattle.lists.proofs.Sums.{sum-append}
use Rattle.days.specs.Days.{ChangesWrong, changes_fit, day_end, day_hours, day_start}
use Rattle.days.proofs.DayLaws.{first-start, next_start, old-end, old-start}
use Rattle.days.proofs.ListedDays.{listed-hours, other-hours, wrong-exactly}
use Rattle.answers.specs.Store.{answered, refused}
use Rattle.store.specs.Items.{Items}
use Rattle.store.specs.Plain.{Day, Outcome, Plain, step}
use Rattle.store.specs.Reading.{list_in, read}
use Rattle.store.specs.Sound.{sound}
use Rattle.store.specs.Call.{call}
use Rattle.store.proofs.CallLaws.{call-10, sound-call}
use Rattle.store.proofs.DayLaws.{not-over, over, wrong-list}
use Rattle.hourlog_c.specs.Export.{Answers}
use Rattle.hourlog_c.specs.Public.{Live}
use Rattle.demands.specs.Reasons.{plain_reasons, reasons}
use Rattle.demands.proofs.Sentences1.{day-word, meets, minus-at}
use Rattle.demands.proofs.Winning.{stands, without}

-- ---- 'Days in the list have the hours it gives, others 24'
fits : (cs : List ℕ) → (ChangesWrong cs → ⊥) → changes_fit cs ≡ true
fits cs n = go (changes_fit cs) refl
  where
    go : (b : Bool) → changes_fit cs ≡ b → changes_fit cs ≡ true
    go true e = e
    go false e = absurd (n ((wrong-exactly cs).0 e))

module _ (cs : List ℕ) where
  -- the pair at 2k names its day and gives its hours, of any list that is not wrong
  pub hours-given : (ChangesWrong cs → ⊥) → (k : ℕ) → 2 * k + 1 < length cs → day_hours cs (get_or cs (2 * k) 0) ≡ get_or cs (2 * k + 1) 0
  hours-given n = listed-hours cs (fits cs n)

  pub others-24 : (d : ℕ) → ((k : ℕ) → 2 * k + 1 < length cs → get_or cs (2 * k) 0 ≡ d → ⊥) → day_hours cs d ≡ 24
  others-24 = other-hours cs

  -- ---- 'Day d starts after the hours of all days before it'
  pub first-day : day_start cs 0 ≡ 0
  first-day = first-start cs

  pub next-day : (d : ℕ) → day_start cs (suc d) ≡ day_start cs d + day_hours cs d
  unfolding day_end
  next-day d = ap (day_start cs) (sym (add-one d)) ∙ next_start cs d

-- 'An empty list gives the old answers'
pub old-days : (d : ℕ) → (day_start [] d ≡ 24 * d) × (day_end [] d ≡ 24 * d + 24)
old-days d = (old-start d, old-end d)

-- ---- the call
stretch-sum : (xs : List ℕ) (a n : ℕ) → reading xs (a + n) - reading xs a ≡ sum (part xs a n)
stretch-sum xs a n = omega (arith, ap sum (take-add a n xs), sum-append (take a xs) (part xs a n))

not-told : {k n : ℕ} → refused k ≡ answered n → ⊥
not-told e = let z : ◌≡◌ {A = ℕ} 0 1 = cc in omega arith

same-told : {m n : ℕ} → answered m ≡ answered n → m ≡ n
same-told e = cc

day-told : (d : ℕ) (cs : List ℕ) (L : Plain) (w : ℕ) → (step (Day d cs) L).answer ≡ answered w
    → w ≡ sum (part L.counts (day_start cs d) (day_hours cs d))
unfolding day_end
day-told d cs L w q = go (changes_fit cs) refl (dec_le (day_end cs d) (length L.counts))
  where
    go : (b : Bool) → changes_fit cs ≡ b → Dec (day_end cs d ≤ length L.counts) → w ≡ sum (part L.counts (day_start cs d) (day_hours cs d))
    go false e k = absurd (not-told (sym (ap (λ (o : Outcome). o.answer) (wrong-list d cs L e)) ∙ q))
    go true e (no m) = absurd (not-told (sym (ap (λ (o : Outcome). o.answer) (not-over d cs L e (omega arith))) ∙ q))
    go true e (yes l) =
        sym (same-told (sym (ap (λ (o : Outcome). o.answer) (over d cs L e l)) ∙ q)) ∙ stretch-sum L.counts (day_start cs d) (day_hours cs d)

module _ (s : List ℕ) (d : ℕ) (cs : List ℕ) (w : ℕ) (t : List (List ℕ)) (a : Answers (Live (Day d cs) s) w t) where
  -- 'It refuses with 16, right after 10, a list with an odd number of entries, or whose day numbers don't rise strictly or whose hours are neither
  -- 23 nor 25', and then alone
  pub refused-16 : (w ≡ 2 ^ 64 - 16)
      ↔ (Items s
      × ((length cs % 2 ≡ 1)
      ⊎ (((k : ℕ) × (2 * k + 2 < length cs) × (get_or cs (2 * k + 2) 0 ≤ get_or cs (2 * k) 0))
      ⊎ ((k : ℕ) × (2 * k + 1 < length cs) × (get_or cs (2 * k + 1) 0 ≡ 23 → ⊥) × (get_or cs (2 * k + 1) 0 ≡ 25 → ⊥)))))
  unfolding reasons plain_reasons without stands
  refused-16 =
      let m = minus-at (Live (Day d cs) s) w t 16 1 (omega arith) (omega arith) (λ x. omega (arith, x.3)) refl a in
      (λ q. (meets (Day d cs) s w t a (m.0 q).0, (m.0 q).1), λ x. m.1 (λ n. n x.0, x.1))

  -- '7 now stands for a day whose end is above N'
  pub refused-7 : (w ≡ 2 ^ 64 - 7) ↔ (Items s × (ChangesWrong cs → ⊥) × (length (list_in s) < day_end cs d))
  unfolding reasons plain_reasons without stands
  refused-7 =
      let m = minus-at (Live (Day d cs) s) w t 7 2 (omega arith) (omega arith) (λ x. omega (arith, x.3)) refl a in
      (λ q. (meets (Day d cs) s w t a (m.0 q).0, (m.0 q).1.0, (m.0 q).1.1), λ x. m.1 (λ n. n x.0, (x.1, x.2)))

  -- any other word is the sum of the day's hours, from its start to its end
  pub sum-of-day : w < 2 ^ 63 → w ≡ sum (part (list_in s) (day_start cs d) (day_hours cs d))
  sum-of-day l = sound-day (sound s) refl (day-word w l t d cs s a)
    where
      sound-day : (b : Bool) → sound s ≡ b → (call (Day d cs) s).answer ≡ answered w → w ≡ sum (part (list_in s) (day_start cs d) (day_hours cs d))
      sound-day false e q = absurd (not-told ((call-10 (Day d cs) s e).answer ∙ q))
      sound-day true e q = day-told d cs (read s).plain w ((sound-call (Day d cs) s e).answer ∙ q)
