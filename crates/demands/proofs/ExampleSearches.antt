-- Lines of the three calls on images whose definitions are relations: reach, busiest and match. The word that a line gives is the only one that
-- is allowed; the runs of hours that a definition speaks of are looked at one by one. Assumes nothing.
use mathlib.Core.Bool.{Bool, true, false, not, true≢false}
use mathlib.Core.List.{List, [], ◌∷◌}
use mathlib.Core.Logic.{inl, inr}
use mathlib.Core.Path.{◌≡◌, refl, sym, ap, ◌∙◌, subst}
use Prim.Native.Nat.{ℕ, zero, suc, ◌+◌, ◌≤◌, ◌<◌}
use native.Mathlib.Decide.{dec_le}
use native.Mathlib.Nat.{le_of_suc-le-suc, not-suc-le-zero}
use native.Mathlib.Omega.{arith}
use lib.Dec.{leb, ltb, eqb}
use lib.ListN.{length}
use borrow.Author.Tests.{eqb-false, eqb-true, leb-true, ltb-false, ltb-true, not-true}
use Rattle.lists.specs.Lists.{every, pick, reached, tabulate}
use Rattle.lists.proofs.Tests.{each, left, right}
use Rattle.answers.specs.Image.{Reply, fails, given, refused as turned}
use Rattle.answers.specs.Bag.{Bag, None, Run as BagRun, Refused as NoBag}
use Rattle.answers.specs.Stretch.{Stretch, Run, Refused as NoStretch}
use Rattle.image.specs.Check.{accepted, check, headed}
use Rattle.image.specs.Reach.{Reach, above-total, any-index, damage, header-wrong, smallest}
use Rattle.image.specs.Read.{list_of, n_of, s_of}
use Rattle.runs.specs.Runs.{Busiest, FirstMatch, Matches, NoMatch, run_sum}
use Rattle.image_busiest.specs.Busiest.{BusiestCall, no-such-run, not-accepted, the-run}
use Rattle.image_busiest.proofs.AnswerLaws.{one_answer}
use Rattle.image_match.specs.Match.{MatchCall, no-coins, none as no_run, not-accepted as no-image, the-run as the-hours}
use Rattle.image_match.proofs.AnswerLaws.{one_answer as one-bag}
use Rattle.words.specs.End.{End, no_such_run, end_of_bag, end_of_image, end_of_stretch, refusal, the_hours, the_number, the_run}
use Rattle.words.specs.Words.{word_of}
use Rattle.hourlog_c.specs.Public.{Ends, ImageBusiest, ImageMatch, ImageReach}
use Rattle.demands.proofs.ExampleForms.{Leaves, Line, calls, same_first, same_rest, words}

-- the full check accepts the bytes i, and they say the list xs
pub record Is (i xs : List ℕ) : Type 0 where
  pub accepts : accepted i ≡ true
  pub says : list_of i ≡ xs

-- ---- reach, on bytes that the full check accepts: figures, and their words
abbrev Reaches : List ℕ → List (Line ℕ) → Type 0
Reaches i [] = Unit {0}
Reaches i (l ∷ ls) = Leaves (ImageReach i l.asked) l.word (i ∷ []) × Reaches i ls

pub record Reaching (i : List ℕ) (ls : List (Line ℕ)) : Type 0 where
  pub lines : Reaches i ls

-- where the only answer is r
only : (i : List ℕ) (p w : ℕ) (r : Reply) → ((s : Reply) → Reach i p s → s ≡ r) → word_of (end_of_image r) ≡ w → Leaves (ImageReach i p) w (i ∷ [])
only i p w r h e = record {
  only = λ v u a.
      let d = a.ends.0 in
      (a.word ∙ ap word_of (d.2 ∙ ap end_of_image (h d.0 d.1)) ∙ e, a.ends.1);
}

-- a wrong header is refused 5; a figure above the total 8, whatever the body is; on accepted bytes any other figure is reached
five : (i : List ℕ) (p : ℕ) → headed i ≡ false → (r : Reply) → Reach i p r → r ≡ turned 5
unfolding accepted
five i p h _ (header-wrong w) = refl
five i p h _ (above-total w l) = absurd (true≢false (sym w ∙ h))
five i p h _ (smallest a l) = absurd (true≢false (sym (left (headed i) _ a) ∙ h))
five i p h _ (damage w l a) = absurd (true≢false (sym w ∙ h))
five i p h _ (any-index w l a k m) = absurd (true≢false (sym w ∙ h))

eight : (i : List ℕ) (p : ℕ) → headed i ≡ true → s_of i < p → (r : Reply) → Reach i p r → r ≡ turned 8
eight i p h g _ (header-wrong w) = absurd (true≢false (sym h ∙ w))
eight i p h g _ (above-total w l) = refl
eight i p h g _ (smallest a l) = absurd (omega arith)
eight i p h g _ (damage w l a) = absurd (omega arith)
eight i p h g _ (any-index w l a k m) = absurd (omega arith)

index : (i : List ℕ) (p : ℕ) → accepted i ≡ true → p ≤ s_of i → (r : Reply) → Reach i p r → r ≡ given (reached p (list_of i))
unfolding accepted
index i p h g _ (header-wrong w) = absurd (true≢false (sym (left (headed i) _ h) ∙ w))
index i p h g _ (above-total w l) = absurd (omega arith)
index i p h g _ (smallest a l) = refl
index i p h g _ (damage w l a) = absurd (true≢false (sym h ∙ a))
index i p h g _ (any-index w l a k m) = absurd (true≢false (sym h ∙ a))

-- the word of a figure p, where the bytes say the total t and the list xs
unfoldable pub reach_word : ℕ → List ℕ → ℕ → ℕ
reach_word t xs p = word_of (end_of_image (pick (ltb t p) (turned 8) (given (reached p xs))))

line : {i xs : List ℕ} (p : ℕ) → Is i xs → Leaves (ImageReach i p) (reach_word (s_of i) xs p) (i ∷ [])
unfolding reach_word accepted pick
line {i} {xs} p h = go (ltb (s_of i) p) refl
  where
    go : (b : Bool) → ltb (s_of i) p ≡ b → Leaves (ImageReach i p) (word_of (end_of_image (pick b (turned 8) (given (reached p xs))))) (i ∷ [])
    go true e = only i p _ (turned 8) (eight i p (left (headed i) _ h.accepts) (ltb-true (s_of i) p e)) refl
    go false e =
        only i p _ (given (reached p xs))
        (λ r w. index i p h.accepts (ltb-false (s_of i) p e) r w ∙ ap (λ (z : List ℕ). given (reached p z)) h.says) refl

unfoldable pub reach_words : ℕ → List ℕ → List ℕ → List ℕ
reach_words t xs [] = []
reach_words t xs (p ∷ ps) = reach_word t xs p ∷ reach_words t xs ps

reaches : (i xs : List ℕ) (ls : List (Line ℕ)) → Is i xs → reach_words (s_of i) xs (calls ls) ≡ words ls → Reaches i ls
unfolding reach_words
reaches i xs [] h e = tt
reaches i xs (l ∷ ls) h e =
    (subst (λ (w : ℕ). Leaves (ImageReach i l.asked) w (i ∷ [])) (same_first e) (line l.asked h), reaches i xs ls h (same_rest e))

pub reaching : {i xs : List ℕ} {ls : List (Line ℕ)} → Is i xs → reach_words (s_of i) xs (calls ls) ≡ words ls → Reaching i ls
reaching {i} {xs} {ls} h e = record { lines = reaches i xs ls h e }

pub reach-5 : {i : List ℕ} {p w : ℕ} → headed i ≡ false → word_of (refusal 5) ≡ w → Leaves (ImageReach i p) w (i ∷ [])
unfolding end_of_image
reach-5 {i} {p} {w} h = only i p w (turned 5) (five i p h)

pub reach-8 : {i : List ℕ} {p w : ℕ} → headed i ≡ true → ltb (s_of i) p ≡ true → word_of (refusal 8) ≡ w → Leaves (ImageReach i p) w (i ∷ [])
unfolding end_of_image
reach-8 {i} {p} {w} h l = only i p w (turned 8) (eight i p h (ltb-true (s_of i) p l))

-- 'On an image that check doesn't accept, reach past refusals 5 and 8 may give refusal 6 or any index from 0 to N', and none above N
abbrev pub May : List ℕ → ℕ → End → Type 0
May i p a = Ends (ImageReach i p) a (i ∷ [])

module _ (i : List ℕ) (p : ℕ) (h : headed i ≡ true) (l : leb p (s_of i) ≡ true) (n : accepted i ≡ false) where
  pub may-refuse : May i p (refusal 6)
  unfolding end_of_image
  may-refuse = ((turned 6, damage h (leb-true p (s_of i) l) n, refl), refl)

  pub may-give : (k : ℕ) → leb k (n_of i) ≡ true → May i p (the_number k)
  unfolding end_of_image
  may-give k m = ((given k, any-index h (leb-true p (s_of i) l) n k (leb-true k (n_of i) m), refl), refl)

no_such : (i : List ℕ) (p k : ℕ) → accepted i ≡ false → n_of i < k → (r : Reply) → Reach i p r → the_number k ≡ end_of_image r → ⊥
unfolding end_of_image
no_such i p k n g _ (header-wrong w) e = let z : ◌≡◌ {A = ℕ} 0 1 = cc in omega arith
no_such i p k n g _ (above-total w l) e = let z : ◌≡◌ {A = ℕ} 0 1 = cc in omega arith
no_such i p k n g _ (smallest a l) e = absurd (true≢false (sym a ∙ n))
no_such i p k n g _ (damage w l a) e = let z : ◌≡◌ {A = ℕ} 0 1 = cc in omega arith
no_such i p k n g _ (any-index w l a j m) e = let z : k ≡ j = cc in omega arith

pub never-gives : (i : List ℕ) (p k : ℕ) → accepted i ≡ false → ltb (n_of i) k ≡ true → May i p (the_number k) → ⊥
never-gives i p k n g d = no_such i p k n (ltb-true (n_of i) k g) d.0.0 d.0.1 d.0.2

-- ---- tests of runs
every-at : (n : ℕ) (f : ℕ → Bool) → every (tabulate n f) ≡ true → (j : ℕ) → j < n → f j ≡ true
unfolding every tabulate
every-at zero f e j l = absurd (not-suc-le-zero l)
every-at (suc n) f e zero l = left (f 0) (every (tabulate n (λ k. f (suc k)))) e
every-at (suc n) f e (suc j) l = every-at n (λ k. f (suc k)) (right (f 0) (every (tabulate n (λ k. f (suc k)))) e) j (le_of_suc-le-suc l)

-- the run of k hours from f on has the sum t, none has more, and none before it as much
unfoldable pub busiest_tests : List ℕ → ℕ → ℕ → ℕ → List Bool
busiest_tests xs k f t =
    leb (f + k) (length xs)
    ∷ eqb t (run_sum xs f k)
    ∷ every (tabulate (suc (length xs)) (λ j. leb (run_sum xs j k) t))
    ∷ every (tabulate f (λ j. ltb (run_sum xs j k) t))
    ∷ []

is-busiest : (xs : List ℕ) (k f t : ℕ) → every (busiest_tests xs k f t) ≡ true → Busiest xs k f t
unfolding busiest_tests
is-busiest xs k f t e =
    let w = each (busiest_tests xs k f t) e in
    record {
      inside = leb-true (f + k) (length xs) w.0;
      total-is = eqb-true t (run_sum xs f k) w.1.0;
      most = λ (j : ℕ) (l : j + k ≤ length xs).
          leb-true (run_sum xs j k) t (every-at (suc (length xs)) (λ i. leb (run_sum xs i k) t) w.1.1.0 j (omega arith));
      earliest = λ (j : ℕ) (l : j < f). ltb-true (run_sum xs j k) t (every-at f (λ i. ltb (run_sum xs i k) t) w.1.1.1.0 j l);
    }

-- no run from an hour before n on has the sum q
unfoldable pub none_earlier : List ℕ → ℕ → ℕ → Bool
none_earlier xs q n = every (tabulate n (λ j. every (tabulate (suc (length xs)) (λ m. not (eqb (run_sum xs j m) q)))))

none_before : (xs : List ℕ) (q n : ℕ) → none_earlier xs q n ≡ true → (j m : ℕ) → j < n → Matches xs q j m → ⊥
unfolding none_earlier
none_before xs q n e j m l w =
    let r = every-at n (λ i. every (tabulate (suc (length xs)) (λ k. not (eqb (run_sum xs i k) q)))) e j l in
    let s = every-at (suc (length xs)) (λ k. not (eqb (run_sum xs j k) q)) r m (omega (arith, w.inside)) in
    eqb-false (run_sum xs j m) q (not-true (eqb (run_sum xs j m) q) s) w.sum_is

-- the run of n hours from f on has the sum q, no earlier one has, and no shorter one from f on
unfoldable pub match_tests : List ℕ → ℕ → ℕ → ℕ → List Bool
match_tests xs q f n =
    leb 1 n ∷ leb (f + n) (length xs) ∷ eqb (run_sum xs f n) q ∷ none_earlier xs q f ∷ every (tabulate n (λ m. not (eqb (run_sum xs f m) q))) ∷ []

is-match : (xs : List ℕ) (q f n : ℕ) → every (match_tests xs q f n) ≡ true → FirstMatch xs q f n
unfolding match_tests
is-match xs q f n e =
    let w = each (match_tests xs q f n) e in
    record {
      matches = record {
        some = leb-true 1 n w.0;
        inside = leb-true (f + n) (length xs) w.1.0;
        sum_is = eqb-true (run_sum xs f n) q w.1.1.0;
      };
      earliest = λ j m k. no-earlier w.1.1.1.0 j m k (dec_le f j);
      fewest = λ m k. no-shorter w.1.1.1.1.0 m k (dec_le n m);
    }
  where
    no-earlier : none_earlier xs q f ≡ true → (j m : ℕ) → Matches xs q j m → Dec (f ≤ j) → f ≤ j
    no-earlier t j m k (yes l) = l
    no-earlier t j m k (no l) = absurd (none_before xs q f t j m (omega arith) k)

    no-shorter : every (tabulate n (λ m. not (eqb (run_sum xs f m) q))) ≡ true → (m : ℕ) → Matches xs q f m → Dec (n ≤ m) → n ≤ m
    no-shorter t m k (yes l) = l
    no-shorter t m k (no l) =
        let s = every-at n (λ i. not (eqb (run_sum xs f i) q)) t m (omega arith) in
        absurd (eqb-false (run_sum xs f m) q (not-true (eqb (run_sum xs f m) q) s) k.sum_is)

is_none : (xs : List ℕ) (q : ℕ) → none_earlier xs q (length xs) ≡ true → NoMatch xs q
is_none xs q e j m w = none_before xs q (length xs) e j m (omega (arith, w.some, w.inside)) w

-- ---- busiest
the-stretch : (i : List ℕ) (k w : ℕ) (r : Stretch) → BusiestCall i k r → word_of (end_of_stretch r) ≡ w → Leaves (ImageBusiest i k) w (i ∷ [])
the-stretch i k w r h e = record {
  only = λ v u a.
      let d = a.ends.0 in
      (a.word ∙ ap word_of (d.2 ∙ ap end_of_stretch (one_answer i k d.0 r d.1 h)) ∙ e, a.ends.1);
}

pub busiest : {i xs : List ℕ} {k w : ℕ} (f t : ℕ) → Is i xs → leb 1 k ≡ true → every (busiest_tests xs k f t) ≡ true → word_of (the_run f t) ≡ w
    → Leaves (ImageBusiest i k) w (i ∷ [])
unfolding end_of_stretch
busiest {i} {xs} {k} {w} f t h l e =
    the-stretch i k w (Run f t)
    (the-run h.accepts (leb-true 1 k l) f t (subst (λ (z : List ℕ). Busiest z k f t) (sym h.says) (is-busiest xs k f t e)))

-- '13 if k is 0 or above N'
pub no-hours : {i xs : List ℕ} {k w : ℕ} → Is i xs → k ≡ 0 → word_of (refusal 13) ≡ w → Leaves (ImageBusiest i k) w (i ∷ [])
unfolding end_of_stretch
no-hours {i} {xs} {k} {w} h z = the-stretch i k w (NoStretch 13) (no-such-run h.accepts (inl z))

pub too-many-hours : {i xs : List ℕ} {k w : ℕ} → Is i xs → ltb (length xs) k ≡ true → word_of (refusal 13) ≡ w → Leaves (ImageBusiest i k) w (i ∷ [])
unfolding end_of_stretch
too-many-hours {i} {xs} {k} {w} h l =
    the-stretch i k w (NoStretch 13) (no-such-run h.accepts (inr (omega (arith, ap length h.says, ltb-true (length xs) k l))))

pub busiest-fails : {i : List ℕ} {k w : ℕ} (j : ℕ) → check i ≡ fails j → word_of (refusal j) ≡ w → Leaves (ImageBusiest i k) w (i ∷ [])
unfolding end_of_stretch
busiest-fails {i} {k} {w} j h = the-stretch i k w (NoStretch j) (not-accepted j h)

-- ---- match
the-bag : (i : List ℕ) (q w : ℕ) (r : Bag) → MatchCall i q r → word_of (end_of_bag r) ≡ w → Leaves (ImageMatch i q) w (i ∷ [])
the-bag i q w r h e = record {
  only = λ v u a.
      let d = a.ends.0 in
      (a.word ∙ ap word_of (d.2 ∙ ap end_of_bag (one-bag i q d.0 r d.1 h)) ∙ e, a.ends.1);
}

pub matched : {i xs : List ℕ} {q w : ℕ} (f n : ℕ) → Is i xs → leb 1 q ≡ true → every (match_tests xs q f n) ≡ true → word_of (the_hours f n) ≡ w
    → Leaves (ImageMatch i q) w (i ∷ [])
unfolding end_of_bag
matched {i} {xs} {q} {w} f n h l e =
    the-bag i q w (BagRun f n)
    (the-hours h.accepts (leb-true 1 q l) f n (subst (λ (z : List ℕ). FirstMatch z q f n) (sym h.says) (is-match xs q f n e)))

pub unmatched : {i xs : List ℕ} {q w : ℕ} → Is i xs → leb 1 q ≡ true → none_earlier xs q (length xs) ≡ true → word_of no_such_run ≡ w
    → Leaves (ImageMatch i q) w (i ∷ [])
unfolding end_of_bag
unmatched {i} {xs} {q} {w} h l e =
    the-bag i q w None (no_run h.accepts (leb-true 1 q l) (subst (λ (z : List ℕ). NoMatch z q) (sym h.says) (is_none xs q e)))

-- '17 .. a q of 0'
pub no-coins-asked : {i xs : List ℕ} {q w : ℕ} → Is i xs → q ≡ 0 → word_of (refusal 17) ≡ w → Leaves (ImageMatch i q) w (i ∷ [])
unfolding end_of_bag
no-coins-asked {i} {xs} {q} {w} h z = the-bag i q w (NoBag 17) (no-coins h.accepts z)

pub match-fails : {i : List ℕ} {q w : ℕ} (j : ℕ) → check i ≡ fails j → word_of (refusal j) ≡ w → Leaves (ImageMatch i q) w (i ∷ [])
unfolding end_of_bag
match-fails {i} {q} {w} j h = the-bag i q w (NoBag j) (no-image j h)
