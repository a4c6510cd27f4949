-- Document 02, note 1, in its own words, of the word that C gets. Assumes nothing.
use mathlib.Core.Bool.{true}
use mathlib.Core.List.{List}
use mathlib.Core.Logic.{◌⊎◌, inl, inr, ⊎_elim, ◌↔◌}
use mathlib.Core.Path.{◌≡◌, refl}
use Prim.Native.Nat.{ℕ, ◌+◌, ◌-◌, ◌^◌, ◌≤◌, ◌<◌}
use native.Mathlib.Omega.{arith}
use lib.ListN.{length}
use Rattle.lists.specs.Lists.{part, sum}
use Rattle.image.specs.Check.{accepted}
use Rattle.image.specs.Read.{list_of, n_of}
use Rattle.answers.specs.Stretch.{Run}
use Rattle.image.proofs.Accepted.{length-list}
use Rattle.runs.specs.Runs.{Busiest}
use Rattle.image_busiest.specs.Busiest.{BusiestCall, the-run}
use Rattle.hourlog_c.specs.Export.{Answers}
use Rattle.hourlog_c.specs.Public.{ImageBusiest, ImageReach}
use Rattle.words.specs.ReadBack.{busiest_first, busiest_sum}
use Rattle.demands.specs.Reasons.{NoHeader, NoImage, reasons}
use Rattle.demands.proofs.ReasonTests.{accepted-passes, past-6}
use Rattle.demands.proofs.Sentences1.{busiest-word, minus-at}
use Rattle.demands.proofs.Winning.{stands, without}

-- the run of a busiest answer
run_of : (s : List ℕ) (k f t : ℕ) → BusiestCall s k (Run f t) → Busiest (list_of s) k f t
run_of s k f t (the-run a l _ _ b) = b

-- ---- 'Over an image that the full check accepts': a word that is no refusal names a run
module _ (s : List ℕ) (k w : ℕ) (t : List (List ℕ)) (a : Answers (ImageBusiest s k) w t) (l : w < 2 ^ 63) where
  the-busiest : Busiest (list_of s) k (busiest_first w) (busiest_sum w)
  the-busiest = run_of s k (busiest_first w) (busiest_sum w) (busiest-word w l t s k a)

  -- 'the run of exactly k successive hours': it lies in the list, and the sum is that of its hours
  pub of-k-hours : (busiest_first w + k ≤ length (list_of s)) × (busiest_sum w ≡ sum (part (list_of s) (busiest_first w) k))
  of-k-hours = (the-busiest.inside, the-busiest.total-is)

  -- 'No other run of k hours may hold more'
  pub none-holds-more : (j : ℕ) → j + k ≤ length (list_of s) → sum (part (list_of s) j k) ≤ busiest_sum w
  none-holds-more j h = the-busiest.most j h

  -- 'the earliest run on a tie'
  pub earlier-holds-less : (j : ℕ) → j < busiest_first w → sum (part (list_of s) j k) < busiest_sum w
  earlier-holds-less j h = the-busiest.earliest j h

-- ---- 'It refuses after 5 and 6 with 13 if k is 0 or above N', and then alone
module _ (s : List ℕ) (k w : ℕ) (t : List (List ℕ)) (a : Answers (ImageBusiest s k) w t) where
  pub refused-13 : (w ≡ 2 ^ 64 - 13) ↔ ((accepted s ≡ true) × ((k ≡ 0) ⊎ (length (list_of s) < k)))
  unfolding reasons without stands
  refused-13 =
      let m = minus-at (ImageBusiest s k) w t 13 2 (omega arith) (omega arith) (λ x. omega (arith, x.3)) refl a in (
        λ q. let x = (m.0 q).1 in (past-6 s x.0, ⊎_elim inl (λ (l : n_of s < k). inr (omega (arith, length-list s))) x.1),
        λ x. let p = accepted-passes s x.0 in
            m.1 (p.0, (p.1, ⊎_elim inl (λ (l : length (list_of s) < k). inr (omega (arith, length-list s))) x.1)),
      )

  -- '5 and 6 of an image that must be accepted are those of the full check': whatever k is
  pub refused-5 : (w ≡ 2 ^ 64 - 5) ↔ NoHeader s
  unfolding reasons without stands
  refused-5 = minus-at (ImageBusiest s k) w t 5 0 (omega arith) (omega arith) (λ x. omega (arith, x.3)) refl a

  pub refused-6 : (w ≡ 2 ^ 64 - 6) ↔ ((NoHeader s → ⊥) × NoImage s)
  unfolding reasons without stands
  refused-6 = minus-at (ImageBusiest s k) w t 6 1 (omega arith) (omega arith) (λ x. no-reach x.2) refl a
    where
      no-reach : {i : List ℕ} {p : ℕ} → ImageBusiest s k ≡ ImageReach i p → ⊥
      no-reach e = let z : ◌≡◌ {A = ℕ} 0 1 = cc in omega arith
