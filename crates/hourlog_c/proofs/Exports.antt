-- Every export keeps its promise, from what the function that it calls ensures. Assumes nothing.
use mathlib.Core.Path.{◌≡◌, refl, sym, ap, ap₂, ◌∙◌, subst}
use mathlib.Core.Bool.{Bool, true, false}
use mathlib.Core.List.{List, [], ◌∷◌}
use Prim.Native.Nat.{ℕ, ◌<◌}
use native.Mathlib.Omega.{arith}
use lib.ListN.{get_or, length}
use Rattle.lists.specs.Lists.{pick}
use Rattle.store.specs.Plain.{Call}
use Rattle.answers.specs.Store.{Answer, answered, changed, refused as turned}
use Rattle.store.specs.Call.{Called, Started, call, fresh_call}
use Rattle.store.specs.Reading.{list_in}
use Rattle.store.specs.Sound.{sound}
use Rattle.store.proofs.Sizes.{Small as SmallAnswer, call-small, fresh-small}
use Rattle.coin_cost.specs.Cost.{TakesAtMost, cells_for}
use Rattle.image.specs.Calls.{Result, length_call, unwritten, write_call}
use Rattle.image.specs.Check.{check}
use Rattle.answers.specs.Image.{Verdict, fails, holds, Reply, given, refused}
use Rattle.image.specs.Query.{count, reading}
use Rattle.image.specs.Reach.{Reach}
use Rattle.image.proofs.Sizes.{Small as SmallReply, SmallVerdict, check-small, count_small, length-small, reach-small, reading_small, write-small}
use Rattle.repair.specs.Repair.{Repairs, repair_call, repairable}
use Rattle.repair.proofs.CallLaws.{call-no, call-yes, lost-few, repair-refused}
use Rattle.freeze.specs.Freeze.{freeze_call}
use Rattle.answers.specs.Stretch.{Stretch, Run, Refused as NoStretch}
use Rattle.answers.specs.Bag.{Bag, Run as BagRun, None, Refused as NoBag}
use Rattle.image_busiest.specs.Busiest.{BusiestCall}
use Rattle.image_busiest.proofs.AnswerLaws.{Small as SmallStretch, small-answer}
use Rattle.image_match.specs.Match.{MatchCall}
use Rattle.image_match.proofs.AnswerLaws.{Small as SmallBag, small-answer as small-match}
use Rattle.hourlog_c.specs.Public.{Ends, Fresh, Freeze, ImageBusiest, ImageCheck, ImageCount, ImageLength, ImageMatch, ImageReach, ImageReading}
use Rattle.hourlog_c.specs.Public.{ImageWrite, Live, Repair}
use Rattle.words.specs.End.{End}
use Rattle.hourlog_c.specs.Public.{PublicCall, Ten, beside}
use Rattle.words.specs.End.{end_of_bag, end_of_check, end_of_image, end_of_store, end_of_stretch}
use Rattle.words.specs.Words.{word_of}
use Rattle.words.specs.ReadBack.{Reads}
use Rattle.hourlog_c.specs.Export.{Answers, Costs}
use Rattle.hourlog_c.proofs.RefusedTen.{freeze-ten, live-ten}
use Rattle.words.proofs.EndLaws.{store-refused}
use Rattle.words.proofs.WordLaws.{Small, small-reads}

-- a small answer, and its word
pub answers : (c : PublicCall) (w : ℕ) (t : List (List ℕ)) (a : End) → Ends c a t → Ten c a → Small a → w ≡ word_of a → Answers c w t
answers c w t a e n s q = record { answer = a; ends = e; ten = n; word = q; reads = subst (λ (z : ℕ). Reads a z) (sym q) (small-reads a s) }

-- ---- every answer is small
small-store : (a : Answer) → SmallAnswer a → Small (end_of_store a)
unfolding end_of_store
small-store (changed t r) w = w
small-store (answered n) w = omega arith
small-store (turned k) w = (w.0, omega (arith, w.1))

pub small-image : (r : Reply) → SmallReply r → Small (end_of_image r)
unfolding end_of_image
small-image (given n) w = w
small-image (refused k) w = (w.0, omega (arith, w.1))

small-check : (v : Verdict) → SmallVerdict v → Small (end_of_check v)
unfolding end_of_check
small-check (holds n s) w = w
small-check (fails k) w = (w.0, omega (arith, w.1))

small-stretch : (a : Stretch) → SmallStretch a → Small (end_of_stretch a)
unfolding end_of_stretch
small-stretch (Run f s) w = w
small-stretch (NoStretch k) w = (w.0, omega (arith, w.1))

small-bag : (a : Bag) → SmallBag a → Small (end_of_bag a)
unfolding end_of_bag
small-bag (BagRun f n) w = w
small-bag None w = w
small-bag (NoBag k) w = (w.0, omega (arith, w.1))

freeze-small : (e : ℕ) (s out : List ℕ) → SmallReply (freeze_call e s out).reply
unfolding freeze_call pick unwritten
freeze-small e s out = go (sound s)
  where
    go : (b : Bool) → SmallReply (pick b (write_call e (list_in s) out) (unwritten out 10)).reply
    go true = write-small e (list_in s) out
    go false = omega arith

-- ---- the store
pub live-answers : (c : Call) (s t : List ℕ) (w : ℕ) (a : Answer) → ((j : ℕ) → get_or s j 0 < 256) → w ≡ word_of (end_of_store a) → Called c s a t
    → Answers (Live c s) w (t ∷ beside c)
live-answers c s t w a bytes e d =
    answers (Live c s) w (t ∷ beside c) (end_of_store (call c s).answer) (refl, ap (λ (z : List ℕ). z ∷ beside c) d.bytes) (live-ten c s bytes)
    (small-store (call c s).answer (call-small c s)) (e ∙ ap (λ (z : Answer). word_of (end_of_store z)) d.answer)

-- ---- append and set, with what they cost
word-costs : (a : Answer) (d w : ℕ) → TakesAtMost (cells_for d) a → Reads (end_of_store a) w → Costs d w
unfolding end_of_store
word-costs (changed t r) d w m e h = omega (arith, e.1)
word-costs (answered n) d w m e h = absurd m
word-costs (turned j) d w m e h = omega (arith, e.sign)

pub change-answers : (c : Call) (s t : List ℕ) (w : ℕ) (a : Answer) (d : ℕ) → ((j : ℕ) → get_or s j 0 < 256) → w ≡ word_of (end_of_store a)
    → Called c s a t × TakesAtMost (cells_for d) a → Answers (Live c s) w (t ∷ beside c) × Costs d w
change-answers c s t w a d bytes e q =
    let r : Answers (Live c s) w (t ∷ beside c) = live-answers c s t w a bytes e q.0 in
    (r, word-costs a d w q.1 (subst (λ (z : End). Reads z w) (r.ends.0 ∙ ap end_of_store (sym q.0.answer)) r.reads))

pub fresh-answers : (b t : List ℕ) (P C w : ℕ) (a : Answer) → w ≡ word_of (end_of_store a) → Started b P C a t → Answers (Fresh b P C) w (t ∷ [])
fresh-answers b t P C w a e d =
    answers (Fresh b P C) w (t ∷ []) (end_of_store (fresh_call b P C).answer) (refl, ap (λ (z : List ℕ). z ∷ []) d.bytes) tt
    (small-store (fresh_call b P C).answer (fresh-small b P C)) (e ∙ ap (λ (z : Answer). word_of (end_of_store z)) d.answer)

-- ---- the repair
repair-small : (s b : List ℕ) → SmallAnswer (repair_call s b).answer
repair-small s b = go (repairable s (length b)) refl
  where
    go : (r : Bool) → repairable s (length b) ≡ r → SmallAnswer (repair_call s b).answer
    go true e = rw (call-yes s b e) (omega (arith, lost-few s (length b) e))
    go false e = rw (call-no s b e) (omega arith, omega arith)

repair-ten : (s b : List ℕ) → Ten (Repair s b) (end_of_store (repair_call s b).answer)
repair-ten s b e =
    let z : ◌≡◌ {A = ℕ} 10 18 = (repair-refused s b 10 ((store-refused (repair_call s b).answer 10).0 e)).0 in omega arith

pub repair-answers : (s b t d : List ℕ) (w : ℕ) (a : Answer) → w ≡ word_of (end_of_store a) → Repairs s b a t d → Answers (Repair s b) w (t ∷ d ∷ [])
repair-answers s b t d w a e r =
    answers (Repair s b) w (t ∷ d ∷ []) (end_of_store (repair_call s b).answer) (refl, ap₂ (λ (y z : List ℕ). y ∷ z ∷ []) r.bytes r.list)
    (repair-ten s b) (small-store (repair_call s b).answer (repair-small s b)) (e ∙ ap (λ (z : Answer). word_of (end_of_store z)) r.answer)

-- ---- the image: what the code answers is r, which is to be the call's reply
pub reply-word : (w : ℕ) (r q : Reply) → w ≡ word_of (end_of_image r) → r ≡ q → w ≡ word_of (end_of_image q)
reply-word w r q e d = e ∙ ap (λ (z : Reply). word_of (end_of_image z)) d

pub length-answers : (xs : List ℕ) (e w : ℕ) (r : Reply) → w ≡ word_of (end_of_image r) → r ≡ length_call e xs → Answers (ImageLength xs e) w (xs ∷ [])
length-answers xs e w r q d =
    answers (ImageLength xs e) w (xs ∷ []) (end_of_image (length_call e xs)) (refl, refl) tt (small-image (length_call e xs) (length-small e xs))
    (reply-word w r (length_call e xs) q d)

pub write-answers : (xs out t : List ℕ) (e w : ℕ) (r : Reply) → w ≡ word_of (end_of_image r) → record { reply = r; bytes = t } ≡ write_call e xs out
    → Answers (ImageWrite xs e out) w (xs ∷ t ∷ [])
write-answers xs out t e w r q d =
    answers (ImageWrite xs e out) w (xs ∷ t ∷ []) (end_of_image (write_call e xs out).reply) (refl, ap (λ (z : Result). xs ∷ z.bytes ∷ []) d) tt
    (small-image (write_call e xs out).reply (write-small e xs out)) (reply-word w r (write_call e xs out).reply q (ap (λ (z : Result). z.reply) d))

pub freeze-answers : (s out t : List ℕ) (e w : ℕ) (r : Reply) → ((j : ℕ) → get_or s j 0 < 256) → w ≡ word_of (end_of_image r) → record { reply = r; bytes = t } ≡ freeze_call e s out
    → Answers (Freeze s e out) w (s ∷ t ∷ [])
freeze-answers s out t e w r bytes q d =
    answers (Freeze s e out) w (s ∷ t ∷ []) (end_of_image (freeze_call e s out).reply) (refl, ap (λ (z : Result). s ∷ z.bytes ∷ []) d) (freeze-ten s e out bytes)
    (small-image (freeze_call e s out).reply (freeze-small e s out)) (reply-word w r (freeze_call e s out).reply q (ap (λ (z : Result). z.reply) d))

pub check-answers : (s : List ℕ) (w : ℕ) (v : Verdict) → w ≡ word_of (end_of_check v) → v ≡ check s → Answers (ImageCheck s) w (s ∷ [])
check-answers s w v q d =
    answers (ImageCheck s) w (s ∷ []) (end_of_check (check s)) (refl, refl) tt (small-check (check s) (check-small s))
    (q ∙ ap (λ (z : Verdict). word_of (end_of_check z)) d)

-- what is lent is bytes, each below 256
pub count-answers : (s : List ℕ) (i w : ℕ) (r : Reply) → ((j : ℕ) → get_or s j 0 < 256) → w ≡ word_of (end_of_image r) → r ≡ count s i
    → Answers (ImageCount s i) w (s ∷ [])
count-answers s i w r bytes q d =
    answers (ImageCount s i) w (s ∷ []) (end_of_image (count s i)) (refl, refl) tt (small-image (count s i) (count_small s bytes i))
    (reply-word w r (count s i) q d)

pub reading-answers : (s : List ℕ) (i w : ℕ) (r : Reply) → ((j : ℕ) → get_or s j 0 < 256) → w ≡ word_of (end_of_image r) → r ≡ reading s i
    → Answers (ImageReading s i) w (s ∷ [])
reading-answers s i w r bytes q d =
    answers (ImageReading s i) w (s ∷ []) (end_of_image (reading s i)) (refl, refl) tt (small-image (reading s i) (reading_small s bytes i))
    (reply-word w r (reading s i) q d)

-- one of the answers that reach may give
pub reach-answers : (s : List ℕ) (p w : ℕ) (r : Reply) → w ≡ word_of (end_of_image r) → Reach s p r → Answers (ImageReach s p) w (s ∷ [])
reach-answers s p w r q d =
    answers (ImageReach s p) w (s ∷ []) (end_of_image r) ((r, d, refl), refl) tt (small-image r (reach-small s p r d)) q

-- the answer that busiest has, and match
pub busiest-answers : (s : List ℕ) (k w : ℕ) (r : Stretch) → w ≡ word_of (end_of_stretch r) → BusiestCall s k r → Answers (ImageBusiest s k) w (s ∷ [])
busiest-answers s k w r q d =
    answers (ImageBusiest s k) w (s ∷ []) (end_of_stretch r) ((r, d, refl), refl) tt (small-stretch r (small-answer s k r d)) q

pub match-answers : (s : List ℕ) (q w : ℕ) (r : Bag) → w ≡ word_of (end_of_bag r) → MatchCall s q r → Answers (ImageMatch s q) w (s ∷ [])
match-answers s q w r e d =
    answers (ImageMatch s q) w (s ∷ []) (end_of_bag r) ((r, d, refl), refl) tt (small-bag r (small-match s q r d)) e
