-- What demand 1 says of each call, in document 01's words: 'Where a call is turned down', and what C gets. Each law takes what it says from
-- `demand-1`, but for `live-unsound` and `freeze-unsound`, which the exports promise; a claim that says less fails here. Assumes nothing.
use mathlib.Core.Path.{◌≡◌, refl, sym, ap, ◌∙◌, subst}
use mathlib.Core.Bool.{Bool, true, false}
use mathlib.Core.List.{List, [], ◌∷◌}
use mathlib.Core.Logic.Iff
use mathlib.Core.Logic.{◌⊎◌, inl, inr, ⊎_elim, ◌↔◌}
use Prim.Native.Nat.{ℕ, suc, ◌+◌, ◌-◌, ◌*◌, ◌^◌, ◌≤◌, ◌<◌}
use native.Mathlib.Decide.{dec_le}
use native.Mathlib.Nat.{lt_of_not-le}
use native.Mathlib.Omega.{arith}
use lib.ListN.{get_or}
use Rattle.store.specs.Plain.{Append, Call, Count, Day, Free, Insert, Reach as ReachOf, Reading, Set, Strike}
use Rattle.answers.specs.Store.{Answer, answered, changed, refused as turned}
use Rattle.store.specs.Call.{call, fresh_call}
use Rattle.store.specs.Items.{Items}
use Rattle.store.specs.Sound.{sound}
use Rattle.store.proofs.ItemLaws.{sound-items}
use Rattle.store.proofs.Refusals.{one_of_two}
use Rattle.image.specs.Calls.{length_call, write_call}
use Rattle.image.specs.Check.{check}
use Rattle.answers.specs.Image.{Verdict, fails, holds, Reply, given, refused}
use Rattle.image.specs.Query.{count, reading}
use Rattle.image.specs.Reach.{Reach}
use Rattle.image.specs.Read.{n_of, s_of}
use Rattle.repair.specs.Repair.{repair_call}
use Rattle.freeze.specs.Freeze.{freeze_call}
use Rattle.answers.specs.Stretch.{Stretch, Run, Refused as NoStretch}
use Rattle.image_busiest.specs.Busiest.{BusiestCall}
use Rattle.answers.specs.Bag.{Bag, Run as BagRun, None, Refused as NoBag}
use Rattle.image_match.specs.Match.{MatchCall}
use Rattle.image_merge.specs.Merge.{merge_call}
use Rattle.hourlog_c.specs.Public.{Ends, Fresh, Freeze, ImageBusiest, ImageCheck, ImageCount, ImageFromBcd, ImageLength, ImageMatch, ImageReach}
use Rattle.hourlog_c.specs.Public.{ImageMerge, ImageReading, ImageToBcd, ImageWrite, Live, Repair}
use Rattle.hourlog_c.specs.Public.{PublicCall, beside, lent}
use Rattle.words.specs.End.{End, no_such_run, end_of_bag, end_of_check, end_of_image, end_of_store, end_of_stretch, refusal, the_cells, the_hours, the_number, the_run, the_sums}
use Rattle.words.specs.ReadBack.{Reads, busiest_first, busiest_sum, checked_hours, checked_total, matched_first, matched_hours, returned, taken}
use Rattle.hourlog_c.specs.Export.{Answers}
use Rattle.demands.specs.Reasons.{NoHeader, NoPageSize, NoneFits, Sized, Unsound, Wins, reasons}
use Rattle.demands.specs.Demand1.{Allowed, Bytes, Gives, Given, Index, Kind, a_number, cells_moved, first_and_sum, hours_and_total, hours_or_none, row}
use Rattle.demands.proofs.Demand1.{demand-1, live-10}
use Rattle.demands.proofs.Slices.{same-slice}
use Rattle.demands.proofs.Winning.{Place, none-wins, stands, wins-at, without}

-- ---- 'Nothing a caller lends can keep a call from ending'
pub ends : (c : PublicCall) → (a : End) × (t : List (List ℕ)) × Ends c a t
ends = demand-1.some

-- ---- 'A refusal is its number alone; no byte changes'
pub no-byte-changes : (c : PublicCall) (k : ℕ) (t : List (List ℕ)) → Ends c (refusal k) t → t ≡ lent c
no-byte-changes = demand-1.refused-keeps

-- ---- 'Where several fit, the earlier row wins.' A call that ends in refusal k does so because its reason fits and none before it does
pub because : (c : PublicCall) (k : ℕ) (t : List (List ℕ)) → Bytes c → Ends c (refusal k) t → Wins k (reasons c)
because c k = demand-1.allowed c (refusal k)

-- where k is the first that fits the call ends in refusal k and in nothing else; reach alone may put an index in the place of 6
pub nothing-else : (c : PublicCall) (a : End) (t : List (List ℕ)) (k : ℕ) → Bytes c → Ends c a t → ((n : ℕ) → Index c k n → ⊥) → Wins k (reasons c)
    → a ≡ refusal k
nothing-else c a t k b d m w = ⊎_elim (λ e. e) (λ x. absurd (m x.0 x.1)) (demand-1.refuses c a t b d k w)

same-image : {i j : List ℕ} {p q : ℕ} → ImageReach i p ≡ ImageReach j q → i ≡ j
same-image e = cc

-- 'reach past refusals 5 and 8 may give refusal 6 or any index from 0 to N'
pub reach-six : (s : List ℕ) (p : ℕ) (a : End) (t : List (List ℕ)) → Ends (ImageReach s p) a t → Wins 6 (reasons (ImageReach s p))
    → (a ≡ refusal 6) ⊎ ((n : ℕ) × (n ≤ n_of s) × (a ≡ the_number n))
reach-six s p a t d w =
    ⊎_elim inl
    (λ (x : (n : ℕ) × Index (ImageReach s p) 6 n × (a ≡ the_number n)).
    inr (x.0, subst (λ (i : List ℕ). x.0 ≤ n_of i) (sym (same-image x.1.2)) x.1.4, x.2))
    (demand-1.refuses (ImageReach s p) a t tt d 6 w)

-- 'Nothing else is left free'
pub only-reach : (c : PublicCall) (k n : ℕ) → Index c k n → (k ≡ 6) × ((i : List ℕ) × (p : ℕ) × (c ≡ ImageReach i p) × (n ≤ n_of i))
only-reach c k n x = (x.3, (x.0, x.1, x.2, x.4))

-- what is asked of the lent: that a store that is to be sound is bytes, and nothing else
pub bytes-lent : (s : List ℕ) → ((i : ℕ) → get_or s i 0 < 256) → ((c : Call) → Bytes (Live c s)) × ((e : ℕ) (out : List ℕ) → Bytes (Freeze s e out))
bytes-lent s h = (λ c. h, λ e out. h)

pub anything-lent : (s t : List ℕ) (m n : ℕ) → Bytes (Fresh s m n) × Bytes (ImageLength s m) × Bytes (ImageWrite s m t) × Bytes (ImageCheck s)
    × Bytes (ImageCount s m) × Bytes (ImageReading s m) × Bytes (ImageReach s m) × Bytes (ImageBusiest s m) × Bytes (ImageFromBcd s m t)
    × Bytes (ImageToBcd s t) × Bytes (ImageMatch s m) × Bytes (ImageMerge s t m s) × Bytes (Repair s t)
anything-lent s t m n = (tt, tt, tt, tt, tt, tt, tt, tt, tt, tt, tt, tt, tt)

-- where no reason fits the call gives its result: one that turns all down is shut out
pub gives-result : (c : PublicCall) (a : End) (t : List (List ℕ)) → Bytes c → Ends c a t → NoneFits (reasons c) → Gives (row c).gives a
gives-result c a t b d n = go a (demand-1.allowed c a t b d)
  where
    go : (a : End) → Allowed c a → Gives (row c).gives a
    go (the_number m) w = w
    go (the_cells u v) w = w
    go (the_sums m s) w = w
    go (the_run f s) w = w
    go (the_hours f m) w = w
    go no_such_run w = w
    go (refusal k) w = none-wins (reasons c) k n w

-- ---- a question changes no byte
module _ (s : List ℕ) where
  asks : (c : Call) → (row (Live c s)).question ≡ true → (call c s).bytes ≡ s
  asks c q = same-slice (demand-1.question-keeps (Live c s) (end_of_store (call c s).answer) ((call c s).bytes ∷ beside c) q (refl, refl))

  pub count-asks : (i : ℕ) → (call (Count i) s).bytes ≡ s
  unfolding row
  count-asks i = asks (Count i) refl

  pub reading-asks : (i : ℕ) → (call (Reading i) s).bytes ≡ s
  unfolding row
  reading-asks i = asks (Reading i) refl

  pub reach-asks : (p : ℕ) → (call (ReachOf p) s).bytes ≡ s
  unfolding row
  reach-asks p = asks (ReachOf p) refl

  pub day-asks : (d : ℕ) (changes : List ℕ) → (call (Day d changes) s).bytes ≡ s
  unfolding row
  day-asks d changes = asks (Day d changes) refl

  pub free-asks : (call Free s).bytes ≡ s
  unfolding row
  free-asks = asks Free refl

module _ (s : List ℕ) (a : End) (t : List (List ℕ)) where
  -- nor one of the list of changed days
  pub day-list-asks : (d : ℕ) (changes : List ℕ) → Ends (Live (Day d changes) s) a t → t ≡ s ∷ changes ∷ []
  unfolding row
  day-list-asks d changes = demand-1.question-keeps (Live (Day d changes) s) a t refl

  pub length-asks : (e : ℕ) → Ends (ImageLength s e) a t → t ≡ s ∷ []
  unfolding row
  length-asks e = demand-1.question-keeps (ImageLength s e) a t refl

  pub check-asks : Ends (ImageCheck s) a t → t ≡ s ∷ []
  unfolding row
  check-asks = demand-1.question-keeps (ImageCheck s) a t refl

  pub image-count-asks : (i : ℕ) → Ends (ImageCount s i) a t → t ≡ s ∷ []
  unfolding row
  image-count-asks i = demand-1.question-keeps (ImageCount s i) a t refl

  pub image-reading-asks : (i : ℕ) → Ends (ImageReading s i) a t → t ≡ s ∷ []
  unfolding row
  image-reading-asks i = demand-1.question-keeps (ImageReading s i) a t refl

  pub image-reach-asks : (p : ℕ) → Ends (ImageReach s p) a t → t ≡ s ∷ []
  unfolding row
  image-reach-asks p = demand-1.question-keeps (ImageReach s p) a t refl

  pub busiest-asks : (k : ℕ) → Ends (ImageBusiest s k) a t → t ≡ s ∷ []
  unfolding row
  busiest-asks k = demand-1.question-keeps (ImageBusiest s k) a t refl

  pub match-asks : (q : ℕ) → Ends (ImageMatch s q) a t → t ≡ s ∷ []
  unfolding row
  match-asks q = demand-1.question-keeps (ImageMatch s q) a t refl

-- ---- what C gets. A word of 2^63 or above is minus the number of the first reason that fits, and then no lent byte changed
pub minus-refusal : (c : PublicCall) (w : ℕ) (t : List (List ℕ)) → Answers c w t → 2 ^ 63 ≤ w → Wins (2 ^ 64 - w) (reasons c) × (t ≡ lent c)
minus-refusal c w t a l =
    let r = demand-1.below c w t a l in
    let e : r.number ≡ 2 ^ 64 - w = omega (arith, r.minus) in
    (subst (λ (k : ℕ). Wins k (reasons c)) e r.wins, r.kept)

-- it is 2^64 - k exactly where k is the first that fits, but for reach and 6
pub minus-exactly : (c : PublicCall) (w : ℕ) (t : List (List ℕ)) (k : ℕ) → 1 ≤ k → k ≤ 20 → (Index c k w → ⊥) → Answers c w t
    → (w ≡ 2 ^ 64 - k) ↔ Wins k (reasons c)
minus-exactly c w t k g h m a = (
  λ (q : w ≡ 2 ^ 64 - k).
      let e : 2 ^ 64 - w ≡ k = omega arith in
      subst (λ (j : ℕ). Wins j (reasons c)) e (minus-refusal c w t a (omega arith)).0,
  λ v. ⊎_elim (λ (e : w + k ≡ 2 ^ 64). omega arith) (λ x. absurd (m x)) (demand-1.first-that-fits c w t a k v),
)

-- the same by the place of k in the call's row
pub minus-at : (c : PublicCall) (w : ℕ) (t : List (List ℕ)) (k n : ℕ) → 1 ≤ k → k ≤ 20 → (Index c k w → ⊥) → stands k n (reasons c) ≡ true
    → Answers c w t → (w ≡ 2 ^ 64 - k) ↔ Place n (reasons c)
minus-at c w t k n g h m e a = Iff.trans (minus-exactly c w t k g h m a) (wins-at k n (reasons c) e)

pub reach-six-word : (s : List ℕ) (p w : ℕ) (t : List (List ℕ)) → Answers (ImageReach s p) w t → Wins 6 (reasons (ImageReach s p))
    → (w ≡ 2 ^ 64 - 6) ⊎ (w ≤ n_of s)
reach-six-word s p w t a v =
    ⊎_elim (λ (e : w + 6 ≡ 2 ^ 64). inl (omega arith))
    (λ (x : Index (ImageReach s p) 6 w). inr (subst (λ (i : List ℕ). w ≤ n_of i) (sym (same-image x.2)) x.4))
    (demand-1.first-that-fits (ImageReach s p) w t a 6 v)

-- and zero or above where none fits
pub result-word : (c : PublicCall) (w : ℕ) (t : List (List ℕ)) → Answers c w t → NoneFits (reasons c) → w < 2 ^ 63
result-word c w t a n = go (dec_le (2 ^ 63) w)
  where
    go : Dec (2 ^ 63 ≤ w) → w < 2 ^ 63
    go (yes l) = absurd (none-wins (reasons c) (2 ^ 64 - w) n (minus-refusal c w t a l).0)
    go (no m) = omega arith

-- any other is the answer. What each kind of answer is read as
number_in : {K : Kind} → K ≡ a_number → (a : End) (w : ℕ) → Gives K a → Reads a w → a ≡ the_number w
number_in g (the_number n) w k r = ap the_number (sym r.1)
number_in g (the_cells u v) w k r = let z : ◌≡◌ {A = ℕ} 0 1 = cc in absurd (omega arith)
number_in g (the_sums n s) w k r = let z : ◌≡◌ {A = ℕ} 0 1 = cc in absurd (omega arith)
number_in g (the_run f s) w k r = let z : ◌≡◌ {A = ℕ} 0 1 = cc in absurd (omega arith)
number_in g (the_hours f n) w k r = let z : ◌≡◌ {A = ℕ} 0 1 = cc in absurd (omega arith)
number_in g no_such_run w k r = let z : ◌≡◌ {A = ℕ} 0 1 = cc in absurd (omega arith)
number_in g (refusal j) w k r = absurd k

cells_in : {K : Kind} → K ≡ cells_moved → (a : End) (w : ℕ) → Gives K a → Reads a w → a ≡ the_cells (taken w) (returned w)
cells_in g (the_number n) w k r = let z : ◌≡◌ {A = ℕ} 0 1 = cc in absurd (omega arith)
cells_in g (the_cells u v) w k r = let x = r.1 in let y = r.2 in cc
cells_in g (the_sums n s) w k r = let z : ◌≡◌ {A = ℕ} 0 1 = cc in absurd (omega arith)
cells_in g (the_run f s) w k r = let z : ◌≡◌ {A = ℕ} 0 1 = cc in absurd (omega arith)
cells_in g (the_hours f n) w k r = let z : ◌≡◌ {A = ℕ} 0 1 = cc in absurd (omega arith)
cells_in g no_such_run w k r = let z : ◌≡◌ {A = ℕ} 0 1 = cc in absurd (omega arith)
cells_in g (refusal j) w k r = absurd k

sums-in : {K : Kind} → K ≡ hours_and_total → (a : End) (w : ℕ) → Gives K a → Reads a w → a ≡ the_sums (checked_hours w) (checked_total w)
sums-in g (the_number n) w k r = let z : ◌≡◌ {A = ℕ} 0 1 = cc in absurd (omega arith)
sums-in g (the_cells u v) w k r = let z : ◌≡◌ {A = ℕ} 0 1 = cc in absurd (omega arith)
sums-in g (the_sums n s) w k r = let x = r.1 in let y = r.2 in cc
sums-in g (the_run f s) w k r = let z : ◌≡◌ {A = ℕ} 0 1 = cc in absurd (omega arith)
sums-in g (the_hours f n) w k r = let z : ◌≡◌ {A = ℕ} 0 1 = cc in absurd (omega arith)
sums-in g no_such_run w k r = let z : ◌≡◌ {A = ℕ} 0 1 = cc in absurd (omega arith)
sums-in g (refusal j) w k r = absurd k

run_in : {K : Kind} → K ≡ first_and_sum → (a : End) (w : ℕ) → Gives K a → Reads a w → a ≡ the_run (busiest_first w) (busiest_sum w)
run_in g (the_number n) w k r = let z : ◌≡◌ {A = ℕ} 0 1 = cc in absurd (omega arith)
run_in g (the_cells u v) w k r = let z : ◌≡◌ {A = ℕ} 0 1 = cc in absurd (omega arith)
run_in g (the_sums n s) w k r = let z : ◌≡◌ {A = ℕ} 0 1 = cc in absurd (omega arith)
run_in g (the_run f s) w k r = let x = r.1 in let y = r.2 in cc
run_in g (the_hours f n) w k r = let z : ◌≡◌ {A = ℕ} 0 1 = cc in absurd (omega arith)
run_in g no_such_run w k r = let z : ◌≡◌ {A = ℕ} 0 1 = cc in absurd (omega arith)
run_in g (refusal j) w k r = absurd k

-- hours that are some are a run's, none say that there is none
bag-in : {K : Kind} → K ≡ hours_or_none → (a : End) (w : ℕ) → Gives K a → Reads a w
    → ((a ≡ the_hours (matched_first w) (matched_hours w)) × (1 ≤ matched_hours w)) ⊎ ((a ≡ no_such_run) × (matched_hours w ≡ 0))
bag-in g (the_number n) w k r = let z : ◌≡◌ {A = ℕ} 0 1 = cc in absurd (omega arith)
bag-in g (the_cells u v) w k r = let z : ◌≡◌ {A = ℕ} 0 1 = cc in absurd (omega arith)
bag-in g (the_sums n s) w k r = let z : ◌≡◌ {A = ℕ} 0 1 = cc in absurd (omega arith)
bag-in g (the_run f s) w k r = let z : ◌≡◌ {A = ℕ} 0 1 = cc in absurd (omega arith)
bag-in g (the_hours f n) w k r = let x = r.1 in let y = r.2 in inl (cc, omega (arith, r.2, r.3))
bag-in g no_such_run w k r = inr (refl, omega (arith, r.1))
bag-in g (refusal j) w k r = absurd k

store-number : (a : Answer) (n : ℕ) → the_number n ≡ end_of_store a → a ≡ answered n
unfolding end_of_store
store-number (changed t r) n e = cc
store-number (answered m) n e = cc
store-number (turned k) n e = cc

store_cells : (a : Answer) (t r : ℕ) → the_cells t r ≡ end_of_store a → a ≡ changed t r
unfolding end_of_store
store_cells (changed u v) t r e = cc
store_cells (answered m) t r e = cc
store_cells (turned k) t r e = cc

pub image-number : (a : Reply) (n : ℕ) → the_number n ≡ end_of_image a → a ≡ given n
unfolding end_of_image
image-number (given m) n e = cc
image-number (refused k) n e = cc

check-sums : (v : Verdict) (n s : ℕ) → the_sums n s ≡ end_of_check v → v ≡ holds n s
unfolding end_of_check
check-sums (holds m u) n s e = cc
check-sums (fails k) n s e = cc

stretch-run : (a : Stretch) (f s : ℕ) → the_run f s ≡ end_of_stretch a → a ≡ Run f s
unfolding end_of_stretch
stretch-run (Run g u) f s e = cc
stretch-run (NoStretch k) f s e = cc

bag-run : (a : Bag) (f n : ℕ) → the_hours f n ≡ end_of_bag a → a ≡ BagRun f n
unfolding end_of_bag
bag-run (BagRun g m) f n e = cc
bag-run None f n e = cc
bag-run (NoBag k) f n e = cc

bag-none : (a : Bag) → no_such_run ≡ end_of_bag a → a ≡ None
unfolding end_of_bag
bag-none (BagRun g m) e = cc
bag-none None e = cc
bag-none (NoBag k) e = cc

-- the word w is no refusal, and t is what was lent, afterwards
module _ (w : ℕ) (l : w < 2 ^ 63) (t : List (List ℕ)) where
  pub number : (c : PublicCall) → (row c).gives ≡ a_number → (a : Answers c w t) → (demand-1.above c w t a l).result ≡ the_number w
  number c g a = let G : Given c w t = demand-1.above c w t a l in number_in g G.result w G.kind G.reads

  live-number : (c : Call) (s : List ℕ) → (row (Live c s)).gives ≡ a_number → Answers (Live c s) w t → (call c s).answer ≡ answered w
  live-number c s g a =
      store-number (call c s).answer w (sym (number (Live c s) g a) ∙ (demand-1.above (Live c s) w t a l).ends.0)

  live-cells : (c : Call) (s : List ℕ) → (row (Live c s)).gives ≡ cells_moved → Answers (Live c s) w t
      → ((call c s).answer ≡ changed (taken w) (returned w)) × (t ≡ (call c s).bytes ∷ beside c)
  live-cells c s g a =
      let G : Given (Live c s) w t = demand-1.above (Live c s) w t a l in (
        store_cells (call c s).answer (taken w) (returned w) (sym (cells_in g G.result w G.kind G.reads) ∙ G.ends.0),
        G.ends.1,
      )

  -- 'An accepted append or set returns how many cells it took and gave back'
  pub append-word : (v : ℕ) (s : List ℕ) → Answers (Live (Append v) s) w t
      → ((call (Append v) s).answer ≡ changed (taken w) (returned w)) × (t ≡ (call (Append v) s).bytes ∷ [])
  unfolding row
  append-word v s = live-cells (Append v) s refl

  pub set_word : (i v : ℕ) (s : List ℕ) → Answers (Live (Set i v) s) w t
      → ((call (Set i v) s).answer ≡ changed (taken w) (returned w)) × (t ≡ (call (Set i v) s).bytes ∷ [])
  unfolding row
  set_word i v s = live-cells (Set i v) s refl

  -- document 02: 'Each returns the rise and the fall of the whole need'
  pub insert-word : (i v : ℕ) (s : List ℕ) → Answers (Live (Insert i v) s) w t
      → ((call (Insert i v) s).answer ≡ changed (taken w) (returned w)) × (t ≡ (call (Insert i v) s).bytes ∷ [])
  unfolding row
  insert-word i v s = live-cells (Insert i v) s refl

  pub strike-word : (i : ℕ) (s : List ℕ) → Answers (Live (Strike i) s) w t
      → ((call (Strike i) s).answer ≡ changed (taken w) (returned w)) × (t ≡ (call (Strike i) s).bytes ∷ [])
  unfolding row
  strike-word i s = live-cells (Strike i) s refl

  -- 'the rise and the fall of the need .., so one of the two is 0'
  pub one-is-zero : (c : Call) (s : List ℕ) → (row (Live c s)).gives ≡ cells_moved → Answers (Live c s) w t → taken w * returned w ≡ 0
  one-is-zero c s g a = one_of_two c s (taken w) (returned w) (live-cells c s g a).0

  -- a question returns the number asked for
  pub count_word : (i : ℕ) (s : List ℕ) → Answers (Live (Count i) s) w t → (call (Count i) s).answer ≡ answered w
  unfolding row
  count_word i s = live-number (Count i) s refl

  pub reading-word : (i : ℕ) (s : List ℕ) → Answers (Live (Reading i) s) w t → (call (Reading i) s).answer ≡ answered w
  unfolding row
  reading-word i s = live-number (Reading i) s refl

  pub reach-word : (p : ℕ) (s : List ℕ) → Answers (Live (ReachOf p) s) w t → (call (ReachOf p) s).answer ≡ answered w
  unfolding row
  reach-word p s = live-number (ReachOf p) s refl

  pub day-word : (d : ℕ) (changes s : List ℕ) → Answers (Live (Day d changes) s) w t → (call (Day d changes) s).answer ≡ answered w
  unfolding row
  day-word d changes s = live-number (Day d changes) s refl

  pub free-word : (s : List ℕ) → Answers (Live Free s) w t → (call Free s).answer ≡ answered w
  unfolding row
  free-word s = live-number Free s refl

  pub fresh-word : (s : List ℕ) (P C : ℕ) → Answers (Fresh s P C) w t → (fresh_call s P C).answer ≡ answered w
  unfolding row
  fresh-word s P C a =
      store-number (fresh_call s P C).answer w (sym (number (Fresh s P C) refl a) ∙ (demand-1.above (Fresh s P C) w t a l).ends.0)

  -- document 02, note 10: 'The result is how many were listed'
  pub repair-word : (s b : List ℕ) → Answers (Repair s b) w t → (repair_call s b).answer ≡ answered w
  unfolding row
  repair-word s b a =
      store-number (repair_call s b).answer w (sym (number (Repair s b) refl a) ∙ (demand-1.above (Repair s b) w t a l).ends.0)

  -- 'Length, write and freeze return the image's length in bytes'
  pub length-word : (xs : List ℕ) (e : ℕ) → Answers (ImageLength xs e) w t → length_call e xs ≡ given w
  unfolding row
  length-word xs e a =
      image-number (length_call e xs) w (sym (number (ImageLength xs e) refl a) ∙ (demand-1.above (ImageLength xs e) w t a l).ends.0)

  pub write_word : (xs out : List ℕ) (e : ℕ) → Answers (ImageWrite xs e out) w t → (write_call e xs out).reply ≡ given w
  unfolding row
  write_word xs out e a =
      image-number (write_call e xs out).reply w (sym (number (ImageWrite xs e out) refl a)
      ∙ (demand-1.above (ImageWrite xs e out) w t a l).ends.0)

  pub freeze-word : (s out : List ℕ) (e : ℕ) → Answers (Freeze s e out) w t → (freeze_call e s out).reply ≡ given w
  unfolding row
  freeze-word s out e a =
      image-number (freeze_call e s out).reply w (sym (number (Freeze s e out) refl a) ∙ (demand-1.above (Freeze s e out) w t a l).ends.0)

  -- document 02, note 9: 'It returns the new image's length in bytes'
  pub merge-word : (f s out : List ℕ) (e : ℕ) → Answers (ImageMerge f s e out) w t → (merge_call e f s out).reply ≡ given w
  unfolding row
  merge-word f s out e a =
      image-number (merge_call e f s out).reply w (sym (number (ImageMerge f s e out) refl a)
      ∙ (demand-1.above (ImageMerge f s e out) w t a l).ends.0)

  -- 'check (returns N and S)'
  pub check-word : (s : List ℕ) → Answers (ImageCheck s) w t → check s ≡ holds (checked_hours w) (checked_total w)
  unfolding row
  check-word s a =
      let G : Given (ImageCheck s) w t = demand-1.above (ImageCheck s) w t a l in
      check-sums (check s) (checked_hours w) (checked_total w) (sym (sums-in refl G.result w G.kind G.reads) ∙ G.ends.0)

  pub image-count-word : (s : List ℕ) (i : ℕ) → Answers (ImageCount s i) w t → count s i ≡ given w
  unfolding row
  image-count-word s i a =
      image-number (count s i) w (sym (number (ImageCount s i) refl a) ∙ (demand-1.above (ImageCount s i) w t a l).ends.0)

  pub image-reading-word : (s : List ℕ) (i : ℕ) → Answers (ImageReading s i) w t → reading s i ≡ given w
  unfolding row
  image-reading-word s i a =
      image-number (reading s i) w (sym (number (ImageReading s i) refl a) ∙ (demand-1.above (ImageReading s i) w t a l).ends.0)

  pub image-reach-word : (s : List ℕ) (p : ℕ) → Answers (ImageReach s p) w t → Reach s p (given w)
  unfolding row
  image-reach-word s p a =
      let G : Given (ImageReach s p) w t = demand-1.above (ImageReach s p) w t a l in
      subst (Reach s p) (image-number G.ends.0.0 w (sym (number (ImageReach s p) refl a) ∙ G.ends.0.2)) G.ends.0.1

  -- document 02, note 1: 'its first hour and its sum'
  pub busiest-word : (s : List ℕ) (k : ℕ) → Answers (ImageBusiest s k) w t → BusiestCall s k (Run (busiest_first w) (busiest_sum w))
  unfolding row
  busiest-word s k a =
      let G : Given (ImageBusiest s k) w t = demand-1.above (ImageBusiest s k) w t a l in
      subst (BusiestCall s k)
      (stretch-run G.ends.0.0 (busiest_first w) (busiest_sum w) (sym (run_in refl G.result w G.kind G.reads) ∙ G.ends.0.2))
      G.ends.0.1

  -- note 7: a run with its hours, or none
  match-given : (s : List ℕ) (q : ℕ) → Answers (ImageMatch s q) w t
      → (MatchCall s q (BagRun (matched_first w) (matched_hours w)) × (1 ≤ matched_hours w)) ⊎ (MatchCall s q None × (matched_hours w ≡ 0))
  unfolding row
  match-given s q a =
      let G : Given (ImageMatch s q) w t = demand-1.above (ImageMatch s q) w t a l in
      let d = G.ends.0 in
      ⊎_elim
      (λ x. inl (subst (MatchCall s q) (bag-run d.0 (matched_first w) (matched_hours w) (sym x.0 ∙ d.2)) d.1, x.1))
      (λ x. inr (subst (MatchCall s q) (bag-none d.0 (sym x.0 ∙ d.2)) d.1, x.1))
      (bag-in refl G.result w G.kind G.reads)

  pub match-word : (s : List ℕ) (q : ℕ) → Answers (ImageMatch s q) w t → 1 ≤ matched_hours w → MatchCall s q (BagRun (matched_first w) (matched_hours w))
  match-word s q a h = ⊎_elim (λ x. x.0) (λ x. absurd (omega (arith, x.1))) (match-given s q a)

  pub none-word : (s : List ℕ) (q : ℕ) → Answers (ImageMatch s q) w t → matched_hours w ≡ 0 → MatchCall s q None
  none-word s q a h = ⊎_elim (λ x. absurd (omega (arith, x.1))) (λ x. x.0) (match-given s q a)

-- ---- 'store, every other live call and freeze: 10, not sound', soundness being told clause by clause: from the exports' promise itself
no_minus : (w k : ℕ) → k ≤ 20 → w < 2 ^ 63 → w ≡ 2 ^ 64 - k → ⊥
no_minus w k h l e = omega arith

-- C gets minus k exactly where the answer is refusal k
pub minus-in : (k : ℕ) → 1 ≤ k → k ≤ 20 → (a : End) (w : ℕ) → Reads a w → (w ≡ 2 ^ 64 - k) ↔ (a ≡ refusal k)
minus-in k g h (the_number n) w r = (λ q. absurd (no_minus w k h r.0 q), λ q. let z : ◌≡◌ {A = ℕ} 0 1 = cc in absurd (omega arith))
minus-in k g h (the_cells u v) w r = (λ q. absurd (no_minus w k h r.0 q), λ q. let z : ◌≡◌ {A = ℕ} 0 1 = cc in absurd (omega arith))
minus-in k g h (the_sums n s) w r = (λ q. absurd (no_minus w k h r.0 q), λ q. let z : ◌≡◌ {A = ℕ} 0 1 = cc in absurd (omega arith))
minus-in k g h (the_run f s) w r = (λ q. absurd (no_minus w k h r.0 q), λ q. let z : ◌≡◌ {A = ℕ} 0 1 = cc in absurd (omega arith))
minus-in k g h (the_hours f n) w r = (λ q. absurd (no_minus w k h r.0 q), λ q. let z : ◌≡◌ {A = ℕ} 0 1 = cc in absurd (omega arith))
minus-in k g h no_such_run w r = (λ q. absurd (no_minus w k h r.0 q), λ q. let z : ◌≡◌ {A = ℕ} 0 1 = cc in absurd (omega arith))
minus-in k g h (refusal j) w r = (
  λ (q : w ≡ 2 ^ 64 - k). ap refusal (omega (arith, r.refusal)),
  λ q. let z : j ≡ k = cc in omega (arith, r.word, r.refusal),
)

pub live-unsound : (c : Call) (s : List ℕ) (w : ℕ) (t : List (List ℕ)) → Answers (Live c s) w t → (w ≡ 2 ^ 64 - 10) ↔ (Items s → ⊥)
live-unsound c s w t a = Iff.trans (minus-in 10 (omega arith) (omega arith) a.answer w a.reads) a.ten

pub freeze-unsound : (s : List ℕ) (e : ℕ) (out : List ℕ) (w : ℕ) (t : List (List ℕ)) → Answers (Freeze s e out) w t
    → (w ≡ 2 ^ 64 - 10) ↔ (Items s → ⊥)
freeze-unsound s e out w t a = Iff.trans (minus-in 10 (omega arith) (omega arith) a.answer w a.reads) a.ten

-- past 10 a store meets the clauses of a sound one
pub meets : (c : Call) (s : List ℕ) (w : ℕ) (t : List (List ℕ)) → Answers (Live c s) w t → (Unsound s → ⊥) → Items s
meets c s w t a n = go (sound s) refl
  where
    go : (b : Bool) → sound s ≡ b → Items s
    go true e = sound-items s e
    go false e = absurd (n (live-10 c s a.answer a.ends.0 (inr a.ten) e))

-- what is not below is at least as large
pub not-below : (m n : ℕ) → (m < n → ⊥) → n ≤ m
not-below m n f = let l : n < suc m = lt_of_not-le f in omega arith

-- not 'e outside 2 to 8'
pub a-page-size : (e : ℕ) → (NoPageSize e → ⊥) ↔ ((2 ≤ e) × (e ≤ 8))
a-page-size e = (λ n. (not-below e 2 (λ l. n (inl l)), not-below 8 e (λ l. n (inr l))), outside)
  where
    outside : (2 ≤ e) × (e ≤ 8) → NoPageSize e → ⊥
    outside w (inl l) = omega (arith, w.0)
    outside w (inr l) = omega (arith, w.1)

-- ---- rows in C's words: 'fresh: 9, P, C or buffer length wrong', and where they are right a store is made
module _ (s : List ℕ) (P C w : ℕ) (t : List (List ℕ)) (a : Answers (Fresh s P C) w t) where
  pub fresh-minus-9 : (w ≡ 2 ^ 64 - 9) ↔ (Sized s P C → ⊥)
  unfolding reasons without stands
  fresh-minus-9 = minus-at (Fresh s P C) w t 9 0 (omega arith) (omega arith) (λ x. omega (arith, x.3)) refl a

  pub fresh-made : Sized s P C → w < 2 ^ 63
  unfolding reasons
  fresh-made f = result-word (Fresh s P C) w t a (λ n. n f, tt)

-- reach: 'past refusals 5 and 8' alone anything is left free
module _ (s : List ℕ) (p w : ℕ) (t : List (List ℕ)) (a : Answers (ImageReach s p) w t) where
  pub reach-minus-5 : (w ≡ 2 ^ 64 - 5) ↔ NoHeader s
  unfolding reasons without stands
  reach-minus-5 = minus-at (ImageReach s p) w t 5 0 (omega arith) (omega arith) (λ x. omega (arith, x.3)) refl a

  pub reach-minus-8 : (w ≡ 2 ^ 64 - 8) ↔ ((NoHeader s → ⊥) × (s_of s < p))
  unfolding reasons without stands
  reach-minus-8 = minus-at (ImageReach s p) w t 8 1 (omega arith) (omega arith) (λ x. omega (arith, x.3)) refl a
