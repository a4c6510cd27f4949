-- Demand 1, proved. Assumes nothing.
use mathlib.Core.Path.{◌≡◌, refl, sym, ap, ap₂, ◌∙◌, subst}
use mathlib.Core.Bool.{Bool, true, false, true≢false}
use mathlib.Core.List.{List, [], ◌∷◌}
use mathlib.Core.Logic.{◌⊎◌, inl, inr}
use Prim.Native.Nat.{ℕ, ◌+◌, ◌^◌, ◌≤◌, ◌<◌}
use native.Mathlib.Decide.{dec_le}
use native.Mathlib.Omega.{arith}
use Rattle.lists.specs.Lists.{reached}
use Rattle.store.specs.Plain.{Append, Call, Count, Day, Free, Insert, Reach as ReachOf, Reading, Set, Strike}
use Rattle.answers.specs.Store.{Answer, answered, changed, refused as turned}
use Rattle.store.specs.Call.{call, fresh_call}
use Rattle.store.specs.Sound.{sound}
use Rattle.store.proofs.CallLaws.{call-10}
use Rattle.store.proofs.ItemLaws.{items-sound}
use Rattle.store.proofs.Unchanged.{answered-keeps, fresh-refused-keeps, refused-keeps}
use Rattle.image.specs.Calls.{Result, write_call}
use Rattle.image.specs.Check.{accepted, headed}
use Rattle.image.specs.Reach.{Reach, above-total, damage, header-wrong, smallest}
use Rattle.image.specs.Read.{list_of, s_of}
use Rattle.answers.specs.Image.{Reply, given, refused}
use Rattle.image.proofs.CallLaws.{write-refused}
use Rattle.repair.specs.Repair.{repair_call}
use Rattle.repair.proofs.CallLaws.{repair-refused}
use Rattle.freeze.specs.Freeze.{freeze_call}
use Rattle.freeze.proofs.Freezing.{freeze-10, freeze-refused}
use Rattle.image_busiest.proofs.AnswerLaws.{some-answer}
use Rattle.image_match.proofs.AnswerLaws.{some-answer as some-match}
use Rattle.image_merge.specs.Merge.{merge_call}
use Rattle.image_merge.proofs.MergeLaws.{merge-refused}
use Rattle.book_in.specs.FromBook.{from_call}
use Rattle.book_in.proofs.FromLaws.{from-refused}
use Rattle.book_out.specs.ToBook.{to_call}
use Rattle.book_out.proofs.ToLaws.{to-refused}
use Rattle.hourlog_c.specs.Public.{Ends, Fresh, Freeze, ImageBusiest, ImageCheck, ImageCount, ImageFromBcd, ImageLength, ImageMatch, ImageReach}
use Rattle.hourlog_c.specs.Public.{ImageMerge, ImageReading, ImageToBcd, ImageWrite, Live, PublicCall, Repair, Ten, beside, lent}
use Rattle.words.specs.End.{End, no_such_run, end_of_bag, end_of_image, end_of_store, end_of_stretch, refusal, the_cells, the_hours, the_number, the_run, the_sums}
use Rattle.words.specs.ReadBack.{Reads}
use Rattle.words.proofs.EndLaws.{image-refused, store-refused}
use Rattle.demands.specs.Reasons.{Unsound, Wins, reasons}
use Rattle.demands.specs.Demand1.{Allowed, Bytes, Demand1, Given, Gives, Index, Refused, a_number, cells_moved, row}
use Rattle.demands.proofs.Deciding.{Decided, gives_of, refuses-of, wins-of}
use Rattle.demands.proofs.Refusals.{busiest-decided, check-decided, count-decided, freeze-decided, fresh-decided, from-decided, length-decided}
use Rattle.demands.proofs.Refusals.{live-decided, match-decided, merge-decided, reach-decided, reading-decided, repair-decided, to-decided}
use Rattle.demands.proofs.Refusals.{write-decided}

-- ---- all calls
-- what may stand in the place of refusal k
abbrev May : PublicCall → ℕ → End → Type 0
May c k a = (n : ℕ) × Index c k n × (a ≡ the_number n)

may-give : (c : PublicCall) (k : ℕ) (a : End) → May c k a → Gives (row c).gives a
unfolding row
may-give c k a (n, x, e) = subst (Gives (row c).gives) (sym e) (ap (λ (z : PublicCall). (row z).gives) x.2)

-- a store that is not sound does not meet the clauses: by its bytes, or by what the export promises
pub live-10 : (c : Call) (s : List ℕ) (a : End) → a ≡ end_of_store (call c s).answer → Bytes (Live c s) ⊎ Ten (Live c s) a → sound s ≡ false → Unsound s
live-10 c s a e (inl b) q = λ i. true≢false (sym (items-sound s b i) ∙ q)
live-10 c s a e (inr w) q = w.0 (e ∙ (store-refused (call c s).answer 10).1 (sym (call-10 c s q).answer))

freeze-no : (s : List ℕ) (e : ℕ) (out : List ℕ) (a : End) → a ≡ end_of_image (freeze_call e s out).reply → Bytes (Freeze s e out) ⊎ Ten (Freeze s e out) a
    → sound s ≡ false → Unsound s
freeze-no s e out a d (inl b) q = λ i. true≢false (sym (items-sound s b i) ∙ q)
freeze-no s e out a d (inr w) q =
    w.0 (d ∙ (image-refused (freeze_call e s out).reply 10).1 (sym (ap (λ (r : Result). r.reply) (freeze-10 e s out q))))

module _ (c : PublicCall) where
  abbrev Decides : End → Type 0
  Decides a = Decided (May c) (row c).gives (reasons c) a

decided : (c : PublicCall) (a : End) (t : List (List ℕ)) → Bytes c ⊎ Ten c a → Ends c a t → Decides c a
unfolding row
decided (Fresh s P C) a t b d = subst (Decides (Fresh s P C)) (sym d.0) (fresh-decided (May (Fresh s P C)) s P C)
decided (Live c s) a t b d = subst (Decides (Live c s)) (sym d.0) (live-decided (May (Live c s)) c s (live-10 c s a d.0 b))
decided (Repair s b) a t h d = subst (Decides (Repair s b)) (sym d.0) (repair-decided (May (Repair s b)) s b)
decided (Freeze s e i) a t b d =
    subst (Decides (Freeze s e i)) (sym d.0) (freeze-decided (May (Freeze s e i)) s e i (freeze-no s e i a d.0 b))
decided (ImageLength xs e) a t b d = subst (Decides (ImageLength xs e)) (sym d.0) (length-decided (May (ImageLength xs e)) xs e)
decided (ImageWrite xs e i) a t b d = subst (Decides (ImageWrite xs e i)) (sym d.0) (write-decided (May (ImageWrite xs e i)) xs e i)
decided (ImageCheck i) a t b d = subst (Decides (ImageCheck i)) (sym d.0) (check-decided (May (ImageCheck i)) i)
decided (ImageCount i k) a t b d = subst (Decides (ImageCount i k)) (sym d.0) (count-decided (May (ImageCount i k)) i k)
decided (ImageReading i k) a t b d = subst (Decides (ImageReading i k)) (sym d.0) (reading-decided (May (ImageReading i k)) i k)
decided (ImageReach i p) a t b d =
    subst (Decides (ImageReach i p)) (sym d.0.2)
    (reach-decided (May (ImageReach i p)) i p (λ n l. (n, (i, p, refl, refl, l), refl)) d.0.0 d.0.1)
decided (ImageBusiest i k) a t b d =
    subst (Decides (ImageBusiest i k)) (sym d.0.2) (busiest-decided (May (ImageBusiest i k)) i k d.0.0 d.0.1)
decided (ImageFromBcd b e i) a t h d = subst (Decides (ImageFromBcd b e i)) (sym d.0) (from-decided (May (ImageFromBcd b e i)) b e i)
decided (ImageToBcd i b) a t h d = subst (Decides (ImageToBcd i b)) (sym d.0) (to-decided (May (ImageToBcd i b)) i b)
decided (ImageMerge f s e i) a t h d = subst (Decides (ImageMerge f s e i)) (sym d.0) (merge-decided (May (ImageMerge f s e i)) f s e i)
decided (ImageMatch i q) a t b d = subst (Decides (ImageMatch i q)) (sym d.0.2) (match-decided (May (ImageMatch i q)) i q d.0.0 d.0.1)

module _ (c : PublicCall) where
  result : (a : End) → ((k : ℕ) → a ≡ refusal k → ⊥) → Decides c a → Gives (row c).gives a
  result a n d = gives_of (May c) (row c).gives (may-give c) (reasons c) a n d

  allow : (a : End) → Decides c a → Allowed c a
  allow (the_number n) d = result (the_number n) (λ k e. let z : ◌≡◌ {A = ℕ} 0 1 = cc in omega arith) d
  allow (the_cells u v) d = result (the_cells u v) (λ k e. let z : ◌≡◌ {A = ℕ} 0 1 = cc in omega arith) d
  allow (the_sums n s) d = result (the_sums n s) (λ k e. let z : ◌≡◌ {A = ℕ} 0 1 = cc in omega arith) d
  allow (the_run f s) d = result (the_run f s) (λ k e. let z : ◌≡◌ {A = ℕ} 0 1 = cc in omega arith) d
  allow (the_hours f n) d = result (the_hours f n) (λ k e. let z : ◌≡◌ {A = ℕ} 0 1 = cc in omega arith) d
  allow no_such_run d = result no_such_run (λ k e. let z : ◌≡◌ {A = ℕ} 0 1 = cc in omega arith) d
  allow (refusal k) d = wins-of (May c) (row c).gives (may-give c) (reasons c) k d

  refuses : (a : End) → Decides c a → (k : ℕ) → Wins k (reasons c) → (a ≡ refusal k) ⊎ May c k a
  refuses a d k w = refuses-of (May c) (row c).gives (reasons c) k a w d

-- ---- there is an answer
may-reach : (s : List ℕ) (p : ℕ) → (a : Reply) × Reach s p a
may-reach s p = go (headed s) refl (dec_le p (s_of s)) (accepted s) refl
  where
    go : (x : Bool) → headed s ≡ x → Dec (p ≤ s_of s) → (z : Bool) → accepted s ≡ z → (a : Reply) × Reach s p a
    go false h d z e = (refused 5, header-wrong h)
    go true h (no n) z e = (refused 8, above-total h (omega arith))
    go true h (yes l) true e = (given (reached p (list_of s)), smallest e l)
    go true h (yes l) false e = (refused 6, damage h l e)

some : (c : PublicCall) → (a : End) × (t : List (List ℕ)) × Ends c a t
some (Fresh s P C) = (_, _, (refl, refl))
some (Live c s) = (_, _, (refl, refl))
some (Repair s b) = (_, _, (refl, refl))
some (Freeze s e i) = (_, _, (refl, refl))
some (ImageLength xs e) = (_, _, (refl, refl))
some (ImageWrite xs e i) = (_, _, (refl, refl))
some (ImageCheck i) = (_, _, (refl, refl))
some (ImageCount i k) = (_, _, (refl, refl))
some (ImageReading i k) = (_, _, (refl, refl))
some (ImageReach i p) = let r = may-reach i p in (end_of_image r.0, i ∷ [], ((r.0, r.1, refl), refl))
some (ImageBusiest i k) = let r = some-answer i k in (end_of_stretch r.0, i ∷ [], ((r.0, r.1, refl), refl))
some (ImageFromBcd b e i) = (_, _, (refl, refl))
some (ImageToBcd i b) = (_, _, (refl, refl))
some (ImageMerge f s e i) = (_, _, (refl, refl))
some (ImageMatch i q) = let r = some-match i q in (end_of_bag r.0, i ∷ [], ((r.0, r.1, refl), refl))

-- ---- what stays
keeps : (c : PublicCall) (k : ℕ) (t : List (List ℕ)) → Ends c (refusal k) t → t ≡ lent c
keeps (Fresh s P C) k t d =
    d.1 ∙ ap (λ (z : List ℕ). z ∷ []) (fresh-refused-keeps s P C k ((store-refused (fresh_call s P C).answer k).0 (sym d.0)))
keeps (Live c s) k t d = d.1 ∙ ap (λ (z : List ℕ). z ∷ beside c) (refused-keeps c s k ((store-refused (call c s).answer k).0 (sym d.0)))
keeps (Repair s b) k t d =
    let w = repair-refused s b k ((store-refused (repair_call s b).answer k).0 (sym d.0)) in
    d.1 ∙ ap₂ (λ (y z : List ℕ). y ∷ z ∷ []) w.1 w.2
keeps (Freeze s e i) k t d =
    d.1 ∙ ap (λ (z : List ℕ). s ∷ z ∷ []) (freeze-refused e s i k ((image-refused (freeze_call e s i).reply k).0 (sym d.0)))
keeps (ImageLength xs e) k t d = d.1
keeps (ImageWrite xs e i) k t d =
    d.1 ∙ ap (λ (z : List ℕ). xs ∷ z ∷ []) (write-refused e xs i k ((image-refused (write_call e xs i).reply k).0 (sym d.0)))
keeps (ImageCheck i) k t d = d.1
keeps (ImageCount i j) k t d = d.1
keeps (ImageReading i j) k t d = d.1
keeps (ImageReach i p) k t d = d.1
keeps (ImageBusiest i n) k t d = d.1
keeps (ImageFromBcd b e i) k t d =
    d.1 ∙ ap (λ (z : List ℕ). b ∷ z ∷ []) (from-refused e b i k ((image-refused (from_call e b i).reply k).0 (sym d.0)))
keeps (ImageToBcd i b) k t d =
    d.1 ∙ ap (λ (z : List ℕ). i ∷ z ∷ []) (to-refused i b k ((image-refused (to_call i b).reply k).0 (sym d.0)))
keeps (ImageMatch i q) k t d = d.1
keeps (ImageMerge f s e i) k t d =
    d.1 ∙ ap (λ (z : List ℕ). f ∷ s ∷ z ∷ []) (merge-refused e f s i k ((image-refused (merge_call e f s i).reply k).0 (sym d.0)))

-- a live call that gives a number
number-keeps : (c : Call) (s : List ℕ) → (row (Live c s)).gives ≡ a_number → (call c s).bytes ≡ s
unfolding end_of_store
number-keeps c s g = go (sound s) refl
  where
    by_answer : (a : Answer) → (call c s).answer ≡ a → Decided (λ k a. ⊥) (row (Live c s)).gives (reasons (Live c s)) (end_of_store a)
        → (call c s).bytes ≡ s
    by_answer (changed t r) q d =
        absurd (moved (sym g
        ∙ gives_of (λ k a. ⊥) (row (Live c s)).gives (λ k a m. absurd m) (reasons (Live c s)) (the_cells t r)
        (λ k e. let z : ◌≡◌ {A = ℕ} 0 1 = cc in omega arith) d))
      where
        moved : a_number ≡ cells_moved → ⊥
        moved e = let z : ◌≡◌ {A = ℕ} 0 1 = cc in omega arith
    by_answer (answered n) q d = answered-keeps c s n q
    by_answer (turned k) q d = refused-keeps c s k q

    go : (b : Bool) → sound s ≡ b → (call c s).bytes ≡ s
    go false e = sym (call-10 c s e).bytes
    go true e = by_answer (call c s).answer refl (live-decided (λ k a. ⊥) c s (λ q. absurd (true≢false (sym e ∙ q))))

asked : (c : Call) (s : List ℕ) → (row (Live c s)).question ≡ true → (call c s).bytes ≡ s
unfolding row
asked (Append v) s q = absurd (true≢false (sym q))
asked (Set i v) s q = absurd (true≢false (sym q))
asked (Insert i v) s q = absurd (true≢false (sym q))
asked (Strike i) s q = absurd (true≢false (sym q))
asked (Count i) s q = number-keeps (Count i) s refl
asked (Reading i) s q = number-keeps (Reading i) s refl
asked (ReachOf p) s q = number-keeps (ReachOf p) s refl
asked (Day d cs) s q = number-keeps (Day d cs) s refl
asked Free s q = number-keeps Free s refl

question-keeps : (c : PublicCall) (a : End) (t : List (List ℕ)) → (row c).question ≡ true → Ends c a t → t ≡ lent c
unfolding row
question-keeps (Fresh s P C) a t q d = absurd (true≢false (sym q))
question-keeps (Live c s) a t q d = d.1 ∙ ap (λ (z : List ℕ). z ∷ beside c) (asked c s q)
question-keeps (Repair s b) a t q d = absurd (true≢false (sym q))
question-keeps (Freeze s e i) a t q d = absurd (true≢false (sym q))
question-keeps (ImageLength xs e) a t q d = d.1
question-keeps (ImageWrite xs e i) a t q d = absurd (true≢false (sym q))
question-keeps (ImageCheck i) a t q d = d.1
question-keeps (ImageCount i k) a t q d = d.1
question-keeps (ImageReading i k) a t q d = d.1
question-keeps (ImageReach i p) a t q d = d.1
question-keeps (ImageBusiest i k) a t q d = d.1
question-keeps (ImageFromBcd b e i) a t q d = absurd (true≢false (sym q))
question-keeps (ImageToBcd i b) a t q d = absurd (true≢false (sym q))
question-keeps (ImageMatch i p) a t q d = d.1
question-keeps (ImageMerge f s e i) a t q d = absurd (true≢false (sym q))

-- ---- in words
module _ (c : PublicCall) (w : ℕ) (t : List (List ℕ)) where
  is_below : (a : End) → Decides c a → Ends c a t → Reads a w → 2 ^ 63 ≤ w → Refused c w t
  is_below (the_number n) h d r l = absurd (omega (arith, r.0))
  is_below (the_cells u v) h d r l = absurd (omega (arith, r.0))
  is_below (the_sums n s) h d r l = absurd (omega (arith, r.0))
  is_below (the_run f s) h d r l = absurd (omega (arith, r.0))
  is_below (the_hours f n) h d r l = absurd (omega (arith, r.0))
  is_below no_such_run h d r l = absurd (omega (arith, r.0))
  is_below (refusal k) h d r l =
      record { number = k; wins = allow c (refusal k) h; minus = omega (arith, r.word, r.refusal); kept = keeps c k t d }

  is-above : (a : End) → Decides c a → Ends c a t → Reads a w → w < 2 ^ 63 → Given c w t
  is-above a h d r l = record { result = a; kind = result c a (λ k e. no_minus (subst (λ (z : End). Reads z w) e r)) h; ends = d; reads = r }
    where
      no_minus : {k : ℕ} → Reads (refusal k) w → ⊥
      no_minus b = omega (arith, b.sign)

  in_place : (a : End) (k : ℕ) → Reads a w → (a ≡ refusal k) ⊎ May c k a → (w + k ≡ 2 ^ 64) ⊎ Index c k w
  in_place a k r (inl e) = let b : Reads (refusal k) w = subst (λ (z : End). Reads z w) e r in inl (omega (arith, b.word, b.refusal))
  in_place a k r (inr (n, x, e)) =
      let b : Reads (the_number n) w = subst (λ (z : End). Reads z w) e r in
      inr (subst (Index c k) (sym b.1) x)

pub demand-1 : Demand1
demand-1 =
    record {
      some = some;
      allowed = λ c a t b d. allow c a (decided c a t (inl b) d);
      refuses = λ c a t b d. refuses c a (decided c a t (inl b) d);
      refused-keeps = keeps;
      question-keeps = question-keeps;
      below = λ c w t d. is_below c w t d.answer (decided c d.answer t (inr d.ten) d.ends) d.ends d.reads;
      above = λ c w t d. is-above c w t d.answer (decided c d.answer t (inr d.ten) d.ends) d.ends d.reads;
      first-that-fits = λ c w t d k v. in_place c w t d.answer k d.reads
          (refuses c d.answer (decided c d.answer t (inr d.ten) d.ends) k v);
    }
