-- Document 02, note 7, in its own words, of the word that C gets. Assumes nothing.
use mathlib.Core.Bool.{true}
use mathlib.Core.List.{List}
use mathlib.Core.Logic.{◌↔◌}
use mathlib.Core.Path.{◌≡◌, refl, sym, subst, ◌∙◌}
use Prim.Native.Nat.{ℕ, ◌+◌, ◌-◌, ◌^◌, ◌≤◌, ◌<◌}
use native.Mathlib.Omega.{arith}
use lib.ListN.{length}
use Rattle.lists.specs.Lists.{part, sum}
use Rattle.image.specs.Check.{accepted}
use Rattle.image.specs.Read.{list_of}
use Rattle.answers.specs.Bag.{Bag, Run, None}
use Rattle.runs.specs.Runs.{FirstMatch, NoMatch}
use Rattle.image_match.specs.Match.{MatchCall, none, the-run}
use Rattle.image_match.proofs.AnswerLaws.{one_answer}
use Rattle.hourlog_c.specs.Export.{Answers}
use Rattle.hourlog_c.specs.Public.{ImageMatch, ImageReach}
use Rattle.words.specs.End.{no_such_run, end_of_bag}
use Rattle.words.specs.ReadBack.{Reads, matched_first, matched_hours}
use Rattle.demands.specs.Reasons.{NoHeader, NoImage, reasons}
use Rattle.demands.proofs.ReasonTests.{accepted-passes, past-6}
use Rattle.demands.proofs.Sentences1.{match-word, minus-at, none-word}
use Rattle.demands.proofs.Winning.{stands, without}

-- the run of an answer, and that there is none
run_of : (s : List ℕ) (q f n : ℕ) → MatchCall s q (Run f n) → FirstMatch (list_of s) q f n
run_of s q f n (the-run a l _ _ m) = m

none_of : (s : List ℕ) (q : ℕ) → MatchCall s q None → NoMatch (list_of s) q
none_of s q (none a l m) = m

-- ---- 'Over an accepted image': a word that is no refusal
module _ (s : List ℕ) (q w : ℕ) (t : List (List ℕ)) (a : Answers (ImageMatch s q) w t) (l : w < 2 ^ 63) where
  module _ (h : 1 ≤ matched_hours w) where
    found : FirstMatch (list_of s) q (matched_first w) (matched_hours w)
    found = run_of s q (matched_first w) (matched_hours w) (match-word w l t s q a h)

    -- 'a run of successive hours, one at least, with sum exactly q'
    pub sums-to-q : (matched_first w + matched_hours w ≤ length (list_of s)) × (sum (part (list_of s) (matched_first w) (matched_hours w)) ≡ q)
    sums-to-q = (found.matches.inside, found.matches.sum_is)

    -- 'the earliest first hour'
    pub none-starts-earlier : (j n : ℕ) → 1 ≤ n → j + n ≤ length (list_of s) → sum (part (list_of s) j n) ≡ q → matched_first w ≤ j
    none-starts-earlier j n g i e = found.earliest j n (record { some = g; inside = i; sum_is = e })

    -- 'then the fewest hours'
    pub none-is-shorter : (n : ℕ) → 1 ≤ n → matched_first w + n ≤ length (list_of s) → sum (part (list_of s) (matched_first w) n) ≡ q → matched_hours w ≤ n
    none-is-shorter n g i e = found.fewest n (record { some = g; inside = i; sum_is = e })

  -- 'Otherwise say none, and only if no such run is there'
  pub none-only-if : matched_hours w ≡ 0 → (j n : ℕ) → 1 ≤ n → j + n ≤ length (list_of s) → sum (part (list_of s) j n) ≡ q → ⊥
  none-only-if h j n g i e = none_of s q (none-word w l t s q a h) j n (record { some = g; inside = i; sum_is = e })

-- ---- 'It refuses with 17, after 5 and 6, a q of 0', and then alone
no-bag : (r : Bag) → r ≡ None → no_such_run ≡ end_of_bag r
unfolding end_of_bag
no-bag r e = rw e

module _ (s : List ℕ) (q w : ℕ) (t : List (List ℕ)) (a : Answers (ImageMatch s q) w t) where
  pub refused-17 : (w ≡ 2 ^ 64 - 17) ↔ ((accepted s ≡ true) × (q ≡ 0))
  unfolding reasons without stands
  refused-17 =
      let m = minus-at (ImageMatch s q) w t 17 2 (omega arith) (omega arith) (λ x. omega (arith, x.3)) refl a in (
        λ e. let x = (m.0 e).1 in (past-6 s x.0, x.1),
        λ x. let p = accepted-passes s x.0 in m.1 (p.0, (p.1, x.1)),
      )

  pub refused-5 : (w ≡ 2 ^ 64 - 5) ↔ NoHeader s
  unfolding reasons without stands
  refused-5 = minus-at (ImageMatch s q) w t 5 0 (omega arith) (omega arith) (λ x. omega (arith, x.3)) refl a

  pub refused-6 : (w ≡ 2 ^ 64 - 6) ↔ ((NoHeader s → ⊥) × NoImage s)
  unfolding reasons without stands
  refused-6 = minus-at (ImageMatch s q) w t 6 1 (omega arith) (omega arith) (λ x. no-reach x.2) refl a
    where
      no-reach : {i : List ℕ} {p : ℕ} → ImageMatch s q ≡ ImageReach i p → ⊥
      no-reach e = let z : ◌≡◌ {A = ℕ} 0 1 = cc in omega arith

  -- none is said where no such run is there
  pub none-if : accepted s ≡ true → 1 ≤ q → ((j n : ℕ) → 1 ≤ n → j + n ≤ length (list_of s) → sum (part (list_of s) j n) ≡ q → ⊥) → w ≡ 0
  none-if c h g =
      let d = a.ends.0 in
      let e = one_answer s q d.0 None d.1 (none c h (λ j n m. g j n m.some m.inside m.sum_is)) in
      let r = subst (λ z. Reads z w) (d.2 ∙ sym (no-bag d.0 e)) a.reads in
      r.1
