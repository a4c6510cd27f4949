-- Every call ends as its reasons say: in the refusal of the first that fits, and where none fits in a result of its kind. Assumes nothing.
use mathlib.Core.Path.{◌≡◌, refl, sym, ◌∙◌, subst}
use mathlib.Core.Bool.{Bool, true, false, ◌&&◌}
use mathlib.Core.List.{List, [], ◌∷◌, ◌++◌}
use mathlib.Core.Logic.{inl, inr, ⊎_elim}
use Prim.Native.Nat.{ℕ, zero, suc, ◌+◌, ◌-◌, ◌*◌, ◌/◌, ◌^◌, ◌≤◌, ◌<◌}
use native.Mathlib.Omega.{arith}
use lib.ListN.{length, get_or, set}
use lib.Dec.{leb}
use borrow.Author.Tests.{le-leb, leb-true}
use Rattle.lists.specs.Counts.{max_count, within}
use Rattle.lists.specs.Lists.{pick, sum}
use Rattle.lists.proofs.CountLaws.{within-at, within-not}
use Rattle.lists.proofs.Tests.{left, right}
use Rattle.tree.specs.Read.{Found, damaged, found}
use Rattle.store.specs.Limits.{max_total}
use Rattle.store.specs.Plain.{Append, Call, Count, Day, Free, Insert, Outcome, Plain, Reach as ReachOf, Reading, Set, Strike}
use Rattle.store.specs.Plain.{change, inserted, step, struck}
use Rattle.store.specs.Reading.{list_in, read}
use Rattle.store.specs.Sound.{sound}
use Rattle.store.specs.Call.{Result, call, fresh_call}
use Rattle.store.proofs.Inserting.{sum-struck}
use Rattle.store.proofs.SoundFacts.{facts}
use Rattle.store.proofs.StepLaws.{Change, change-is, done, over, short}
use Rattle.image.specs.Calls.{Result as ImageResult, length_call, past, put, put_after, unwritten, write_call}
use Rattle.image.specs.Check.{accepted, check, headed}
use Rattle.answers.specs.Image.{Reply, Verdict, fails, given, holds, refused}
use Rattle.image.specs.Image.{image}
use Rattle.image.specs.Query.{count, ended, look, reading, reading_at, the_count, the_reading}
use Rattle.image.specs.Reach.{Reach, above-total, any-index, damage, header-wrong, smallest}
use Rattle.image.specs.Read.{list_of, n_of, s_of}
use Rattle.image.proofs.Accepted.{accepted-only, length-list}
use Rattle.image.proofs.CheckLaws.{accepted-or, check-holds, past-5}
use Rattle.repair.specs.Repair.{Outcome as Repaired, repair_call}
use Rattle.freeze.specs.Freeze.{freeze_call}
use Rattle.freeze.proofs.Freezing.{only-page-size}
use Rattle.answers.specs.Bag.{Bag}
use Rattle.answers.specs.Stretch.{Stretch}
use Rattle.image_busiest.specs.Busiest.{BusiestCall, no-such-run, not-accepted, the-run}
use Rattle.image_match.specs.Match.{MatchCall, no-coins, none, not-accepted as no-image, the-run as the-hours}
use Rattle.book.specs.Book.{book_of, decimal, list_of_book}
use Rattle.image_merge.specs.Merge.{merge_call, merge_lists, sums}
use Rattle.image_merge.proofs.MergeLaws.{count_no, counts-yes}
use Rattle.image_merge.proofs.SumLaws.{get-sums, length-sums, sum-sums}
use Rattle.book.proofs.BookLaws.{length-book, length-listed}
use Rattle.book_in.specs.FromBook.{from_call}
use Rattle.book_in.proofs.FromLaws.{only-long}
use Rattle.book_out.specs.ToBook.{book_put, to_call}
use Rattle.hourlog_c.specs.Public.{Fresh, Freeze, ImageBusiest, ImageCheck, ImageCount, ImageFromBcd, ImageLength, ImageMatch, ImageReach}
use Rattle.hourlog_c.specs.Public.{ImageMerge, ImageReading, ImageToBcd, ImageWrite, Live, Repair}
use Rattle.words.specs.End.{End, end_of_bag, end_of_check, end_of_image, end_of_store, end_of_stretch, refusal, the_number}
use Rattle.demands.specs.Reasons.{Damage, NoHeader, NoImage, NoPageSize, OverImage, OverSums, Reason, Short, TooWide, Unsound, ◌when◌, plain_reasons}
use Rattle.demands.specs.Reasons.{reasons}
use Rattle.demands.specs.Demand1.{Kind, a_number, cells_moved, first_and_sum, hours_and_total, hours_or_none, row}
use Rattle.demands.proofs.ReasonTests.{Denies, at_most, below, book, changes, clauses, damage-exactly, header, narrow, not-above}
use Rattle.demands.proofs.ReasonTests.{not_found, page-size, repairs, sizes, written}
use Rattle.demands.proofs.Deciding.{Decided, fits-first, none_left, passed, where-false, where-true}

-- ---- the live calls
module _ (M : ℕ → End → Type 0) where
  abbrev said : Outcome → End
  said o = end_of_store o.answer

  change-decided : (L : Plain) (ys : List ℕ) → Decided M cells_moved (3 when (max_total < sum ys) ∷ 12 when Short L ys ∷ []) (said (change L ys))
  unfolding change end_of_store
  change-decided L ys =
      where-true M cells_moved said _ _ _ (below max_total (sum ys)) refl (λ _.
      where-true M cells_moved said _ _ _ (below _ _) refl (λ _. none_left M cells_moved _ refl))

  -- a strike has a lower total: never 3
  strike-decided : (L : Plain) (i : ℕ) → sum L.counts ≤ max_total
      → Decided M cells_moved (12 when Short L (struck L.counts i) ∷ []) (said (change L (struck L.counts i)))
  unfolding end_of_store
  strike-decided L i t = go (change-is L (struck L.counts i))
    where
      go : {o : Outcome} → Change L (struck L.counts i) o → Decided M cells_moved (12 when Short L (struck L.counts i) ∷ []) (said o)
      go (over x) = absurd (omega (arith, sum-struck L.counts i))
      go (short x y) = fits-first M cells_moved _ y refl
      go (done x y) = passed M cells_moved _ _ _ (λ (z : Short L (struck L.counts i)). omega arith) (none_left M cells_moved _ refl)

  step-decided : (c : Call) (s : List ℕ) (L : Plain) → sum L.counts ≤ max_total
      → Decided M (row (Live c s)).gives (plain_reasons c L) (said (step c L))
  unfolding step row plain_reasons inserted struck end_of_store
  step-decided (Append v) s L t = where-true M cells_moved said _ _ _ (at_most _ _) refl (λ _. change-decided L (L.counts ++ v ∷ []))
  step-decided (Set i v) s L t = where-true M cells_moved said _ _ _ (at_most _ _) refl (λ _. change-decided L (set L.counts i v))
  step-decided (Insert i v) s L t =
      where-true M cells_moved said _ _ _ (below _ _) refl (λ _.
      where-true M cells_moved said _ _ _ (at_most _ _) refl (λ _. change-decided L (inserted L.counts i v)))
  step-decided (Strike i) s L t = where-true M cells_moved said _ _ _ (at_most _ _) refl (λ _. strike-decided L i t)
  step-decided (Count i) s L t = where-true M a_number said _ _ _ (at_most _ _) refl (λ _. none_left M a_number _ refl)
  step-decided (Reading i) s L t = where-true M a_number said _ _ _ (below _ _) refl (λ _. none_left M a_number _ refl)
  step-decided (ReachOf p) s L t = where-true M a_number said _ _ _ (below _ _) refl (λ _. none_left M a_number _ refl)
  step-decided (Day d cs) s L t =
      where-true M a_number said _ _ _ (changes cs) refl (λ _.
      where-true M a_number said _ _ _ (below _ _) refl (λ _. none_left M a_number _ refl))
  step-decided Free s L t = none_left M a_number _ refl

  pub live-decided : (c : Call) (s : List ℕ) → (sound s ≡ false → Unsound s)
      → Decided M (row (Live c s)).gives (reasons (Live c s)) (end_of_store (call c s).answer)
  unfolding call reasons end_of_store
  live-decided c s h =
      where-false M (row (Live c s)).gives (λ (r : Result). end_of_store r.answer) _ _ _ (clauses s h) refl (λ e.
      step-decided c s (read s).plain (facts s e).total-fits)

  pub fresh-decided : (s : List ℕ) (P C : ℕ) → Decided M a_number (reasons (Fresh s P C)) (end_of_store (fresh_call s P C).answer)
  unfolding fresh_call reasons end_of_store
  fresh-decided s P C =
      where-false M a_number (λ (r : Result). end_of_store r.answer) _ _ _ (sizes s P C) refl (λ _. none_left M a_number _ refl)

  pub repair-decided : (s b : List ℕ) → Decided M a_number (reasons (Repair s b)) (end_of_store (repair_call s b).answer)
  unfolding repair_call reasons end_of_store
  repair-decided s b =
      where-false M a_number (λ (r : Repaired). end_of_store r.answer) _ _ _ (repairs s (length b)) refl (λ _. none_left M a_number _ refl)

  -- ---- the calls that make an image
  put-decided : (out i : List ℕ) → Decided M a_number (4 when (length out < length i) ∷ []) (end_of_image (put out i).reply)
  unfolding put unwritten end_of_image
  put-decided out i =
      where-false M a_number (λ (r : ImageResult). end_of_image r.reply) _ _ _ (not-above (length i) (length out)) refl (λ _. none_left M a_number _ refl)

  length-tried : (f : Reply → End) → ((k : ℕ) → f (refused k) ≡ refusal k) → (e : ℕ) (xs : List ℕ) (rs : List Reason)
      → Decided M a_number rs (f (given (length (image e xs))))
      → Decided M a_number (1 when NoPageSize e ∷ 2 when (65536 < length xs) ∷ 3 when OverImage xs ∷ rs) (f (length_call e xs))
  unfolding length_call
  length-tried f h e xs rs d =
      where-false M a_number f _ _ _ (page-size e) (h 1) (λ _.
      where-false M a_number f _ _ _ (not-above (length xs) 65536) (h 2) (λ _.
      where-false M a_number f _ _ _ (not-above (sum xs) (2 ^ 40 - 1)) (h 3) (λ _. d)))

  pub length-decided : (xs : List ℕ) (e : ℕ) → Decided M a_number (reasons (ImageLength xs e)) (end_of_image (length_call e xs))
  unfolding reasons end_of_image
  length-decided xs e = length-tried end_of_image (λ k. refl) e xs [] (none_left M a_number _ refl)

  -- what write answers, by what length does
  abbrev putting : List ℕ → List ℕ → Reply → End
  putting out i r = end_of_image (put_after r out i).reply

  put_refused : (out i : List ℕ) (k : ℕ) → putting out i (refused k) ≡ refusal k
  unfolding put_after unwritten end_of_image
  put_refused out i k = refl

  put-given : (out i : List ℕ) (n : ℕ) → Decided M a_number (4 when (length out < length i) ∷ []) (putting out i (given n))
  unfolding put_after
  put-given out i n = put-decided out i

  pub write-decided : (xs : List ℕ) (e : ℕ) (out : List ℕ) → Decided M a_number (reasons (ImageWrite xs e out)) (end_of_image (write_call e xs out).reply)
  unfolding reasons write_call
  write-decided xs e out =
      length-tried (putting out (image e xs)) (put_refused out (image e xs)) e xs _ (put-given out (image e xs) (length (image e xs)))

  pub freeze-decided : (s : List ℕ) (e : ℕ) (out : List ℕ) → (sound s ≡ false → Unsound s)
      → Decided M a_number (reasons (Freeze s e out)) (end_of_image (freeze_call e s out).reply)
  unfolding freeze_call write_call reasons unwritten end_of_image
  freeze-decided s e out h =
      where-false M a_number (λ (r : ImageResult). end_of_image r.reply) _ _ _ (clauses s h) refl (λ q.
      let i = image e (list_in s) in
      let left : List Reason = 1 when NoPageSize e ∷ 4 when (length out < length i) ∷ [] in
      subst (λ (r : Reply). Decided M a_number left (putting out i r)) (sym (only-page-size e s q))
      (where-false M a_number (putting out i) _ _ _ (page-size e) (put_refused out i 1) (λ _. put-given out i (length i))))

  -- ---- 5, and 6 of the full check
  fails-decided : (K : Kind) (s : List ℕ) (j : ℕ) (rs : List Reason) → check s ≡ fails j
      → Decided M K (5 when NoHeader s ∷ 6 when NoImage s ∷ rs) (refusal j)
  unfolding check pick
  fails-decided K s j rs = go (headed s) refl (accepted s) refl
    where
      number : {i : ℕ} → fails i ≡ fails j → refusal j ≡ refusal i
      number e = cc

      go : (a : Bool) → headed s ≡ a → (b : Bool) → accepted s ≡ b → pick a (pick b (holds (n_of s) (s_of s)) (fails 6)) (fails 5) ≡ fails j
          → Decided M K (5 when NoHeader s ∷ 6 when NoImage s ∷ rs) (refusal j)
      go false p b q e = fits-first M K _ ((header s).0 p) (number e)
      go true p false q e = passed M K _ _ _ ((header s).1 p) (fits-first M K _ ((written s).0 q) (number e))
      go true p true q e = let z : ◌≡◌ {A = ℕ} 0 1 = cc in absurd (omega arith)

  past-check : (K : Kind) (s : List ℕ) (rs : List Reason) (a : End) → accepted s ≡ true → Decided M K rs a
      → Decided M K (5 when NoHeader s ∷ 6 when NoImage s ∷ rs) a
  past-check K s rs a q d = passed M K _ _ _ ((header s).1 (past-5 s q)) (passed M K _ _ _ ((written s).1 q) d)

  pub check-decided : (s : List ℕ) → Decided M hours_and_total (reasons (ImageCheck s)) (end_of_check (check s))
  unfolding check reasons end_of_check
  check-decided s =
      where-false M hours_and_total end_of_check _ _ _ (header s) refl (λ _.
      where-false M hours_and_total end_of_check _ _ _ (written s) refl (λ _. none_left M hours_and_total _ refl))

  -- ---- the questions to an image
  count-found : (s : List ℕ) (i : ℕ) → Decided M a_number (6 when Damage s i ∷ []) (end_of_image (the_count (ended (look s i))))
  unfolding the_count end_of_image
  count-found s i = go (ended (look s i)) refl
    where
      go : (f : Found) → ended (look s i) ≡ f → Decided M a_number (6 when Damage s i ∷ []) (end_of_image (the_count f))
      go damaged q = fits-first M a_number _ ((damage-exactly s i).0 q) refl
      go (found x c) q = passed M a_number _ _ _ (λ d. not_found (sym q ∙ (damage-exactly s i).1 d)) (none_left M a_number _ refl)

  reading-found : (s : List ℕ) (i : ℕ) → Decided M a_number (6 when ((1 ≤ i) × Damage s (i - 1)) ∷ []) (end_of_image (reading_at s i))
  unfolding reading_at the_reading end_of_image
  reading-found s zero = passed M a_number _ _ _ (λ (w : (1 ≤ 0) × Damage s (0 - 1)). omega (arith, w.0)) (none_left M a_number _ refl)
  reading-found s (suc i) = go (ended (look s i)) refl
    where
      back : suc i - 1 ≡ i
      back = omega arith

      go : (f : Found) → ended (look s i) ≡ f → Decided M a_number (6 when ((1 ≤ suc i) × Damage s (suc i - 1)) ∷ []) (end_of_image (the_reading f))
      go damaged q = fits-first M a_number _ (omega arith, subst (Damage s) (sym back) ((damage-exactly s i).0 q)) refl
      go (found x c) q =
          passed M a_number _ _ _
          (λ (w : (1 ≤ suc i) × Damage s (suc i - 1)). not_found (sym q ∙ (damage-exactly s i).1 (subst (Damage s) back w.1)))
          (none_left M a_number _ refl)

  pub count-decided : (s : List ℕ) (i : ℕ) → Decided M a_number (reasons (ImageCount s i)) (end_of_image (count s i))
  unfolding count reasons end_of_image
  count-decided s i =
      where-false M a_number end_of_image _ _ _ (header s) refl (λ _.
      where-true M a_number end_of_image _ _ _ (at_most (n_of s) i) refl (λ _. count-found s i))

  pub reading-decided : (s : List ℕ) (i : ℕ) → Decided M a_number (reasons (ImageReading s i)) (end_of_image (reading s i))
  unfolding reading reasons end_of_image
  reading-decided s i =
      where-false M a_number end_of_image _ _ _ (header s) refl (λ _.
      where-true M a_number end_of_image _ _ _ (below (n_of s) i) refl (λ _. reading-found s i))

  pub busiest-decided : (s : List ℕ) (k : ℕ) (a : Stretch) → BusiestCall s k a → Decided M first_and_sum (reasons (ImageBusiest s k)) (end_of_stretch a)
  unfolding reasons end_of_stretch
  busiest-decided s k _ (not-accepted j p) = fails-decided first_and_sum s j _ p
  busiest-decided s k _ (no-such-run q o) =
      past-check first_and_sum s _ _ q
      (fits-first M first_and_sum _ (⊎_elim inl (λ (l : length (list_of s) < k). inr (omega (arith, length-list s))) o) refl)
  busiest-decided s k _ (the-run q l f t b) =
      past-check first_and_sum s _ _ q
      (passed M first_and_sum _ _ _ (⊎_elim (λ (e : k ≡ 0). omega arith) (λ (h : n_of s < k). omega (arith, length-list s, b.inside)))
      (none_left M first_and_sum _ refl))

  pub match-decided : (s : List ℕ) (q : ℕ) (a : Bag) → MatchCall s q a → Decided M hours_or_none (reasons (ImageMatch s q)) (end_of_bag a)
  unfolding reasons end_of_bag
  match-decided s q _ (no-image j p) = fails-decided hours_or_none s j _ p
  match-decided s q _ (no-coins c z) = past-check hours_or_none s _ _ c (fits-first M hours_or_none _ z refl)
  match-decided s q _ (the-hours c l f n m) =
      past-check hours_or_none s _ _ c (passed M hours_or_none _ _ _ (λ (e : q ≡ 0). omega arith) (none_left M hours_or_none _ refl))
  match-decided s q _ (none c l m) =
      past-check hours_or_none s _ _ c (passed M hours_or_none _ _ _ (λ (e : q ≡ 0). omega arith) (none_left M hours_or_none _ refl))

  -- ---- books
  pub from-decided : (b : List ℕ) (e : ℕ) (out : List ℕ) → Decided M a_number (reasons (ImageFromBcd b e out)) (end_of_image (from_call e b out).reply)
  unfolding from_call write_call reasons unwritten end_of_image
  from-decided b e out =
      let result : ImageResult → End = λ (r : ImageResult). end_of_image r.reply in
      where-false M a_number result _ _ _ (page-size e) refl (λ p.
      where-false M a_number result _ _ _ (book b) refl (λ q. long-or-put p q))
    where
      i : List ℕ
      i = image e (list_of_book b)

      long-test : Denies (leb (length (list_of_book b)) 65536) (65536 < length b / 2)
      long-test =
          let t = not-above (length (list_of_book b)) 65536 in
          (λ r. let l = t.0 r in omega (arith, length-listed b), λ r (h : 65536 < length b / 2). t.1 r (omega (arith, length-listed b)))

      long-or-put : (leb 2 e && leb e 8) ≡ true → decimal b ≡ true
          → Decided M a_number (2 when (65536 < length b / 2) ∷ 4 when (length out < length i) ∷ []) (putting out i (length_call e (list_of_book b)))
      long-or-put p q =
          subst (λ (r : Reply). Decided M a_number (2 when (65536 < length b / 2) ∷ 4 when (length out < length i) ∷ []) (putting out i r))
          (sym (only-long e b (leb-true 2 e (left (leb 2 e) (leb e 8) p)) (leb-true e 8 (right (leb 2 e) (leb e 8) p)) q))
          (where-false M a_number (putting out i) _ _ _ long-test (put_refused out i 2) (λ _. put-given out i (length i)))

  -- ---- 5 and 6 of an image that must be accepted
  behind-check : (s out : List ℕ) (r : ImageResult) (rs : List Reason) → (accepted s ≡ true → Decided M a_number rs (end_of_image r.reply))
      → Decided M a_number (5 when NoHeader s ∷ 6 when NoImage s ∷ rs) (end_of_image (past (check s) out r).reply)
  unfolding past unwritten end_of_image
  behind-check s out r rs d =
      ⊎_elim
      (λ (q : accepted s ≡ true).
      subst (λ (v : Verdict). Decided M a_number (5 when NoHeader s ∷ 6 when NoImage s ∷ rs) (end_of_image (past v out r).reply)) (sym (check-holds s q))
      (past-check a_number s rs _ q (d q)))
      (λ (w : (j : ℕ) × (check s ≡ fails j)).
      subst (λ (v : Verdict). Decided M a_number (5 when NoHeader s ∷ 6 when NoImage s ∷ rs) (end_of_image (past v out r).reply)) (sym w.1)
      (fails-decided a_number s w.0 rs w.1))
      (accepted-or s)

  abbrev book_left : List ℕ → List ℕ → List Reason
  book_left s out = 15 when TooWide s ∷ 4 when (length out < 2 * n_of s) ∷ []

  book-decided : (s out : List ℕ) → Decided M a_number (book_left s out) (end_of_image (book_put (list_of s) out).reply)
  unfolding book_put put unwritten end_of_image
  book-decided s out =
      let result : ImageResult → End = λ (r : ImageResult). end_of_image r.reply in
      where-false M a_number result _ _ _ (narrow s) refl (λ _.
      where-false M a_number result _ _ _ short-test refl (λ _. none_left M a_number _ refl))
    where
      short-test : Denies (leb (length (book_of (list_of s))) (length out)) (length out < 2 * n_of s)
      short-test =
          let t = not-above (length (book_of (list_of s))) (length out) in (
            λ r. let l = t.0 r in omega (arith, length-book (list_of s), length-list s),
            λ r (h : length out < 2 * n_of s). t.1 r (omega (arith, length-book (list_of s), length-list s)),
          )

  pub to-decided : (s out : List ℕ) → Decided M a_number (reasons (ImageToBcd s out)) (end_of_image (to_call s out).reply)
  unfolding to_call reasons
  to-decided s out = behind-check s out _ (book_left s out) (λ _. book-decided s out)

  -- ---- two doors
  abbrev doors_left : ℕ → List ℕ → List ℕ → List ℕ → List Reason
  doors_left e xs ys out = 3 when OverSums xs ys ∷ 4 when (length out < length (image e (sums xs ys))) ∷ []

  -- the counts first, then the total and the buffer, which are write's
  sums-decided : (e : ℕ) (xs ys out : List ℕ) → 2 ≤ e → e ≤ 8 → length xs ≤ 65536 → length ys ≤ 65536
      → Decided M a_number (doors_left e xs ys out) (end_of_image (merge_lists e xs ys out).reply)
  unfolding length_call write_call unwritten end_of_image pick
  sums-decided e xs ys out k l m n = go (within max_count zs) refl
    where
      zs : List ℕ
      zs = sums xs ys

      i : List ℕ
      i = image e zs

      Doors : ImageResult → Type 0
      Doors r = Decided M a_number (doors_left e xs ys out) (end_of_image r.reply)

      length-is : length_call e zs ≡ pick (leb (sum zs) (2 ^ 40 - 1)) (given (length i)) (refused 3)
      length-is = rw (le-leb 2 e k, le-leb e 8 l, le-leb (length zs) 65536 (omega (arith, length-sums xs ys)))

      total-test : within max_count zs ≡ true → Denies (leb (sum zs) (2 ^ 40 - 1)) (OverSums xs ys)
      total-test w =
          let t = not-above (sum zs) (2 ^ 40 - 1) in (
            λ r. let h = t.0 r in inr (omega (arith, sum-sums xs ys)),
            λ r. ⊎_elim (λ (c : (j : ℕ) × (4294967295 < get_or xs j 0 + get_or ys j 0)). omega (arith, c.1, within-at max_count zs w c.0, get-sums xs ys c.0))
                (λ (h : 2 ^ 40 - 1 < sum xs + sum ys). t.1 r (omega (arith, sum-sums xs ys))),
          )

      go : (b : Bool) → within max_count zs ≡ b → Doors (merge_lists e xs ys out)
      go false w =
          subst Doors (sym (count_no e xs ys out w))
          (fits-first M a_number _ (let q = within-not max_count zs w in inl (q.0, omega (arith, q.1, get-sums xs ys q.0))) refl)
      go true w =
          subst Doors (sym (counts-yes e xs ys out w))
          (subst (λ (r : Reply). Decided M a_number (doors_left e xs ys out) (putting out i r)) (sym length-is)
          (where-false M a_number (putting out i) _ _ _ (total-test w) (put_refused out i 3) (λ _. put-given out i (length i))))

  pub merge-decided : (a b : List ℕ) (e : ℕ) (out : List ℕ) → Decided M a_number (reasons (ImageMerge a b e out)) (end_of_image (merge_call e a b out).reply)
  unfolding merge_call reasons unwritten end_of_image
  merge-decided a b e out =
      where-false M a_number (λ (r : ImageResult). end_of_image r.reply) _ _ _ (page-size e) refl (λ p.
      behind-check a out _ _ (λ x.
      behind-check b out _ _ (λ y.
      sums-decided e (list_of a) (list_of b) out (leb-true 2 e (left (leb 2 e) (leb e 8) p)) (leb-true e 8 (right (leb 2 e) (leb e 8) p))
      (accepted-only a x).limits.hours (accepted-only b y).limits.hours)))

-- ---- reach, which alone may answer otherwise
pub reach-decided : (M : ℕ → End → Type 0) (s : List ℕ) (p : ℕ) → ((n : ℕ) → n ≤ n_of s → M 6 (the_number n)) → (a : Reply) → Reach s p a
    → Decided M a_number (reasons (ImageReach s p)) (end_of_image a)
unfolding reasons end_of_image Decided
reach-decided M s p m _ (header-wrong h) = inl ((header s).0 h, inl refl)
reach-decided M s p m _ (above-total h l) = inr ((header s).1 h, inl (l, inl refl))
reach-decided M s p m _ (smallest e l) =
    inr ((header s).1 (past-5 s e), inr (λ (k : s_of s < p). omega arith, inr ((written s).1 e, refl)))
reach-decided M s p m _ (damage h l e) = inr ((header s).1 h, inr (λ (k : s_of s < p). omega arith, inl ((written s).0 e, inl refl)))
reach-decided M s p m _ (any-index h l e i k) =
    inr ((header s).1 h, inr (λ (z : s_of s < p). omega arith, inl ((written s).0 e, inr (m i k))))
