-- Document 02, note 9, in its own words, of the words that C gets and the bytes that it finds. What the word of a refusal says, and that no byte
-- changes then, is in `Sentences1`. Assumes nothing.
use mathlib.Core.Bool.{true}
use mathlib.Core.List.{List, [], ◌∷◌}
use mathlib.Core.Logic.Iff
use mathlib.Core.Logic.{◌⊎◌, inl, inr, ◌↔◌}
use mathlib.Core.Path.{◌≡◌, refl, sym, ap, ap₂, ◌∙◌, subst}
use Prim.Native.Nat.{ℕ, ◌+◌, ◌-◌, ◌*◌, ◌^◌, ◌≤◌, ◌<◌, min, max}
use native.Mathlib.Omega.{arith}
use lib.ListN.{length, get_or, take, drop}
use lib.Seq.{take_all}
use Rattle.lists.specs.Counts.{max_count}
use Rattle.lists.specs.Lists.{sum}
use Rattle.lists.proofs.CountLaws.{within-at}
use Rattle.answers.specs.Image.{given}
use Rattle.image.specs.Calls.{Result, write_call}
use Rattle.image.specs.Check.{accepted}
use Rattle.image.specs.Image.{Limits, image}
use Rattle.image.specs.Read.{e_of, list_of, n_of}
use Rattle.image.proofs.Accepted.{length-list}
use Rattle.image_merge.specs.Merge.{merge_call, sums}
use Rattle.image_merge.proofs.MergeLaws.{Merged, merge-given, swap, with-empty}
use Rattle.image_merge.proofs.SumLaws.{get-sums, length-sums, readings-add, sum-sums, sums_none, sums-swap}
use Rattle.words.specs.End.{end_of_image}
use Rattle.words.specs.ReadBack.{checked_hours, checked_total}
use Rattle.words.specs.Words.{word_of}
use Rattle.hourlog_c.specs.Export.{Answers}
use Rattle.hourlog_c.specs.Public.{ImageCheck, ImageMerge, ImageReach, ImageReading, ImageWrite, PublicCall}
use Rattle.demands.specs.Demand2.{Written}
use Rattle.demands.specs.Reasons.{NoHeader, NoImage, OverSums, Reason, Wins, ◌when◌, reasons}
use Rattle.demands.proofs.Demand2.{demand-2}
use Rattle.demands.proofs.Note8.{check-whole, either-header, one-image, reading-whole}
use Rattle.demands.proofs.ReasonTests.{accepted-passes, past-6}
use Rattle.demands.proofs.Sentences1.{a-page-size, merge-word, minus-at, minus-exactly, result-word}
use Rattle.demands.proofs.Sentences2.{Counts, is-accepted, unrefused-write, written-e}
use Rattle.demands.proofs.Slices.{same_second, same-third}
use Rattle.demands.proofs.Winning.{absent, stands, without}

no-hours : (xs : List ℕ) → length xs ≡ 0 → xs ≡ []
no-hours [] q = refl
no-hours (x ∷ xs) q = absurd (omega (arith, q))

-- ---- 'From two accepted images and an e make the image of the hour-by-hour sums'. The word w is no refusal, o is the buffer afterwards
module _ (a b out o : List ℕ) (e w : ℕ) (l : w < 2 ^ 63) (r : Answers (ImageMerge a b e out) w (a ∷ b ∷ o ∷ [])) where
  abbrev A : List ℕ
  A = list_of a

  abbrev B : List ℕ
  B = list_of b

  -- the new image
  abbrev new : List ℕ
  new = take w o

  answers-w : (merge_call e a b out).reply ≡ given w
  answers-w = merge-word w l (a ∷ b ∷ o ∷ []) a b out e r

  merged : Merged e a b out
  merged = merge-given e a b out w answers-w

  has_room : Limits e (sums A B) × (length (image e (sums A B)) ≤ length out) × (w ≡ length (image e (sums A B)))
  has_room = unrefused-write e (sums A B) out w (sym (ap (λ (z : Result). z.reply) merged.written) ∙ answers-w)

  written : Written (write_call e (sums A B) out) (image e (sums A B)) out
  written = demand-2.writes e (sums A B) out has_room.0 has_room.1

  buffer : o ≡ (write_call e (sums A B) out).bytes
  buffer = same-third r.ends.1 ∙ ap (λ (z : Result). z.bytes) merged.written

  pub from-accepted : (accepted a ≡ true) × (accepted b ≡ true)
  from-accepted = (merged.first, merged.second)

  -- as the writer makes it
  pub image-of-sums : new ≡ image e (sums A B)
  image-of-sums =
      ap (λ (n : ℕ). take n o) has_room.2 ∙ ap (take (length (image e (sums A B)))) buffer ∙ written.image-first

  counts : Counts (sums A B)
  counts = within-at max_count (sums A B) merged.counts

  pub new-accepted : (accepted new ≡ true) × (list_of new ≡ sums A B)
  new-accepted = is-accepted new e (sums A B) has_room.0 counts image-of-sums

  pub new-e : e_of new ≡ e
  new-e = ap e_of image-of-sums ∙ sym (written-e e (sums A B) has_room.0 counts)

  -- the edition is the total's, whatever the two have
  pub new-edition : ((get_or new 0 0 ≡ 1) × (sum A + sum B ≤ 4294967295)) ⊎ ((get_or new 0 0 ≡ 2) × (4294967295 < sum A + sum B))
  new-edition = go (either-header new new-accepted.0)
    where
      total : sum (list_of new) ≡ sum A + sum B
      total = ap sum new-accepted.1 ∙ sum-sums A B

      go : ((get_or new 0 0 ≡ 1) × (sum (list_of new) ≤ 4294967295))
          ⊎ ((get_or new 0 0 ≡ 2) × (4294967295 < sum (list_of new)) × (sum (list_of new) ≤ 2 ^ 40 - 1))
          → ((get_or new 0 0 ≡ 1) × (sum A + sum B ≤ 4294967295)) ⊎ ((get_or new 0 0 ≡ 2) × (4294967295 < sum A + sum B))
      go (inl (q, s)) = inl (q, omega (arith, total))
      go (inr (q, s, m)) = inr (q, omega (arith, total))

  -- 'the hour-by-hour sums, the shorter log taken as zero beyond its end': so many hours as the longer one has
  pub hour-by-hour : (i : ℕ) → get_or (list_of new) i 0 ≡ get_or A i 0 + get_or B i 0
  hour-by-hour i = ap (λ (z : List ℕ). get_or z i 0) new-accepted.1 ∙ get-sums A B i

  pub as-the-longer : n_of new ≡ max (n_of a) (n_of b)
  as-the-longer = omega (arith, length-list new, ap length new-accepted.1, length-sums A B, length-list a, length-list b)

  -- what check says of it
  pub new-checks : (v : ℕ) (t : List (List ℕ)) → Answers (ImageCheck new) v t
      → (checked_hours v ≡ max (n_of a) (n_of b)) × (checked_total v ≡ sum A + sum B)
  new-checks v t c =
      let s = check-whole new new-accepted.0 v t c in
      (s.0 ∙ length-list new ∙ as-the-longer, s.1 ∙ ap sum new-accepted.1 ∙ sum-sums A B)

  -- 'It returns the new image's length in bytes and leaves later output bytes unchanged'
  pub returns-length : w ≡ length (image e (sums A B))
  returns-length = has_room.2

  pub later-bytes : (drop w o ≡ drop w out) × (length o ≡ length out)
  later-bytes = (
    subst (λ (n : ℕ). drop n o ≡ drop n out) (sym has_room.2) (ap (drop (length (image e (sums A B)))) buffer ∙ written.rest-same),
    ap length buffer ∙ written.as_long,
  )

  -- ---- 'The reading at every hour is the sum of the two readings, each held at its own total beyond its end': u, v and x are the words of the
  -- three calls
  pub reading-adds : (i u v x : ℕ) (t t' t'' : List (List ℕ)) → i ≤ max (n_of a) (n_of b) → Answers (ImageReading new i) u t
      → Answers (ImageReading a (min i (n_of a))) v t' → Answers (ImageReading b (min i (n_of b))) x t'' → u ≡ v + x
  reading-adds i u v x t t' t'' h p q s =
      let y : u ≡ sum (take i (list_of new)) = reading-whole new new-accepted.0 u t i (omega (arith, length-list new, as-the-longer)) p in
      let f : v ≡ sum (take (min i (n_of a)) A) = reading-whole a merged.first v t' (min i (n_of a)) (omega (arith, length-list a)) q in
      let g : x ≡ sum (take (min i (n_of b)) B) = reading-whole b merged.second x t'' (min i (n_of b)) (omega (arith, length-list b)) s in
      y
      ∙ ap (λ (z : List ℕ). sum (take i z)) new-accepted.1
      ∙ readings-add A B i
      ∙ ap₂ ◌+◌
      (ap (λ (n : ℕ). sum (take (min i n) A)) (length-list a) ∙ sym f)
      (ap (λ (n : ℕ). sum (take (min i n) B)) (length-list b) ∙ sym g)

-- beyond its end that is its total
pub held-at-total : (a : List ℕ) → accepted a ≡ true → (i v : ℕ) (t : List (List ℕ)) → n_of a ≤ i → Answers (ImageReading a (min i (n_of a))) v t
    → v ≡ sum (list_of a)
held-at-total a h i v t l r =
    reading-whole a h v t (min i (n_of a)) (omega (arith, length-list a)) r
    ∙ ap sum (take_all (min i (n_of a)) (list_of a) (omega (arith, length-list a)))

-- ---- 'Refusals: 1, then 5 and 6 of the first, the same of the second, then 3 if a count passes 4,294,967,295 or the total its limit, then 4': each
-- exactly when
module _ (a b out : List ℕ) (e w : ℕ) (t : List (List ℕ)) (r : Answers (ImageMerge a b e out) w t) where
  abbrev c : PublicCall
  c = ImageMerge a b e out

  pub refused-1 : (w ≡ 2 ^ 64 - 1) ↔ ((e < 2) ⊎ (8 < e))
  unfolding reasons without stands
  refused-1 = minus-at c w t 1 0 (omega arith) (omega arith) (λ x. omega (arith, x.3)) refl r

  abbrev last : List Reason
  last = 3 when OverSums (list_of a) (list_of b) ∷ 4 when (length out < length (image e (sums (list_of a) (list_of b)))) ∷ []

  -- 5 and 6 stand twice in the row: of the first, or of the second where the first is accepted
  abbrev Five : Type 0
  Five = (2 ≤ e) × (e ≤ 8) × (NoHeader a ⊎ ((accepted a ≡ true) × NoHeader b))

  pub refused-5 : (w ≡ 2 ^ 64 - 5) ↔ Five
  unfolding reasons without
  refused-5 = Iff.trans (minus-exactly c w t 5 (omega arith) (omega arith) (λ x. omega (arith, x.3)) r) (to, from)
    where
      to : Wins 5 (reasons c) → Five
      to (inl (q, f)) = absurd (omega (arith, q))
      to (inr (p, inl (q, f))) = let s = (a-page-size e).0 p in (s.0, s.1, inl f)
      to (inr (p, inr (h, inl (q, f)))) = absurd (omega (arith, q))
      to (inr (p, inr (h, inr (i, inl (q, f))))) = let s = (a-page-size e).0 p in (s.0, s.1, inr (past-6 a i, f))
      to (inr (p, inr (h, inr (i, inr (j, v))))) = absurd (absent 5 (6 when NoImage b ∷ last) refl v)

      from : Five → Wins 5 (reasons c)
      from (x, y, inl f) = inr ((a-page-size e).1 (x, y), inl (refl, f))
      from (x, y, inr (h, f)) = let p = accepted-passes a h in inr ((a-page-size e).1 (x, y), inr (p.0, inr (p.1, inl (refl, f))))

  abbrev Six : Type 0
  Six = (2 ≤ e) × (e ≤ 8) × (((NoHeader a → ⊥) × NoImage a) ⊎ ((accepted a ≡ true) × (NoHeader b → ⊥) × NoImage b))

  pub refused-6 : (w ≡ 2 ^ 64 - 6) ↔ Six
  unfolding reasons without
  refused-6 = Iff.trans (minus-exactly c w t 6 (omega arith) (omega arith) (λ x. no-reach x.2) r) (to, from)
    where
      no-reach : {i : List ℕ} {p : ℕ} → c ≡ ImageReach i p → ⊥
      no-reach q = let z : ◌≡◌ {A = ℕ} 0 1 = cc in omega arith

      to : Wins 6 (reasons c) → Six
      to (inl (q, f)) = absurd (omega (arith, q))
      to (inr (p, inl (q, f))) = absurd (omega (arith, q))
      to (inr (p, inr (h, inl (q, f)))) = let s = (a-page-size e).0 p in (s.0, s.1, inl (h, f))
      to (inr (p, inr (h, inr (i, inl (q, f))))) = absurd (omega (arith, q))
      to (inr (p, inr (h, inr (i, inr (j, inl (q, f)))))) = let s = (a-page-size e).0 p in (s.0, s.1, inr (past-6 a i, j, f))
      to (inr (p, inr (h, inr (i, inr (j, inr (k, v)))))) = absurd (absent 6 last refl v)

      from : Six → Wins 6 (reasons c)
      from (x, y, inl (h, f)) = inr ((a-page-size e).1 (x, y), inr (h, inl (refl, f)))
      from (x, y, inr (h, j, f)) =
          let p = accepted-passes a h in
          inr ((a-page-size e).1 (x, y), inr (p.0, inr (p.1, inr (j, inl (refl, f)))))

  -- past those
  abbrev Both : Type 0
  Both = (2 ≤ e) × (e ≤ 8) × (accepted a ≡ true) × (accepted b ≡ true)

  pub refused-3 : (w ≡ 2 ^ 64 - 3)
      ↔ (Both × (((i : ℕ) × (4294967295 < get_or (list_of a) i 0 + get_or (list_of b) i 0)) ⊎ (2 ^ 40 - 1 < sum (list_of a) + sum (list_of b))))
  unfolding reasons without stands
  refused-3 =
      let m = minus-at c w t 3 5 (omega arith) (omega arith) (λ x. omega (arith, x.3)) refl r in (
        λ q.
            let x = m.0 q in
            let s = (a-page-size e).0 x.0 in
            ((s.0, s.1, past-6 a x.1.1.0, past-6 b x.1.1.1.1.0), x.1.1.1.1.1),
        λ x.
            let p = accepted-passes a x.0.2 in
            let q = accepted-passes b x.0.3 in
            m.1 ((a-page-size e).1 (x.0.0, x.0.1), (p.0, (p.1, (q.0, (q.1, x.1))))),
      )

  pub refused-4 : (w ≡ 2 ^ 64 - 4)
      ↔ (Both × (OverSums (list_of a) (list_of b) → ⊥) × (length out < length (image e (sums (list_of a) (list_of b)))))
  unfolding reasons without stands
  refused-4 =
      let m = minus-at c w t 4 6 (omega arith) (omega arith) (λ x. omega (arith, x.3)) refl r in (
        λ q.
            let x = m.0 q in
            let s = (a-page-size e).0 x.0 in
            ((s.0, s.1, past-6 a x.1.1.0, past-6 b x.1.1.1.1.0), x.1.1.1.1.1.0, x.1.1.1.1.1.1),
        λ x.
            let p = accepted-passes a x.0.2 in
            let q = accepted-passes b x.0.3 in
            m.1 ((a-page-size e).1 (x.0.0, x.0.1), (p.0, (p.1, (q.0, (q.1, (x.1, x.2)))))),
      )

  -- else there is a new image
  pub else-answered : Both → (OverSums (list_of a) (list_of b) → ⊥) → length (image e (sums (list_of a) (list_of b))) ≤ length out → w < 2 ^ 63
  unfolding reasons
  else-answered x n l =
      let p = accepted-passes a x.2 in
      let q = accepted-passes b x.3 in
      result-word c w t r (
        (a-page-size e).1 (x.0, x.1),
        (p.0, (p.1, (q.0, (q.1, (n, (λ (m : length out < length (image e (sums (list_of a) (list_of b)))). omega arith, tt)))))),
      )

-- ---- two calls of one definition, buffer for buffer
module _ (a b out o : List ℕ) (e w : ℕ) (x : accepted a ≡ true) (y : accepted b ≡ true) (r : Answers (ImageMerge a b e out) w (a ∷ b ∷ o ∷ [])) where
  the_word : w ≡ word_of (end_of_image (merge_call e a b out).reply)
  the_word = r.word ∙ ap word_of r.ends.0

  -- merging is commutative, bytes and refusals too
  pub commutes : (v : ℕ) (p : List ℕ) → Answers (ImageMerge b a e out) v (b ∷ a ∷ p ∷ []) → (w ≡ v) × (o ≡ p)
  commutes v p s =
      let q : merge_call e a b out ≡ merge_call e b a out = swap e a b out x y in (
        the_word ∙ ap (λ (z : Result). word_of (end_of_image z.reply)) q ∙ sym (s.word ∙ ap word_of s.ends.0),
        same-third r.ends.1 ∙ ap (λ (z : Result). z.bytes) q ∙ sym (same-third s.ends.1),
      )

  -- merging with the empty log is to write the log with this e, refusals too
  pub with-the-empty : n_of b ≡ 0 → (v : ℕ) (p : List ℕ) → Answers (ImageWrite (list_of a) e out) v (list_of a ∷ p ∷ []) → (w ≡ v) × (o ≡ p)
  with-the-empty n v p s =
      let q : merge_call e a b out ≡ write_call e (list_of a) out = with-empty e a b out x y (no-hours (list_of b) (length-list b ∙ n)) in (
        the_word ∙ ap (λ (z : Result). word_of (end_of_image z.reply)) q ∙ sym (s.word ∙ ap word_of s.ends.0),
        same-third r.ends.1 ∙ ap (λ (z : Result). z.bytes) q ∙ sym (same_second s.ends.1),
      )

-- merging with the empty log, first or second, gives the log's image; its own bytes with its own e
module _ (a b out o : List ℕ) (e w : ℕ) (l : w < 2 ^ 63) (r : Answers (ImageMerge a b e out) w (a ∷ b ∷ o ∷ [])) where
  pub empty-second : n_of b ≡ 0 → take w o ≡ image e (list_of a)
  empty-second n =
      image-of-sums a b out o e w l r
      ∙ ap (image e) (ap (sums (list_of a)) (no-hours (list_of b) (length-list b ∙ n)) ∙ sums_none (list_of a))

  pub empty-first : n_of a ≡ 0 → take w o ≡ image e (list_of b)
  empty-first n =
      image-of-sums a b out o e w l r
      ∙ ap (image e)
      (sums-swap (list_of a) (list_of b) ∙ ap (sums (list_of b)) (no-hours (list_of a) (length-list a ∙ n)) ∙ sums_none (list_of b))

  pub the-log-again : n_of b ≡ 0 → e ≡ e_of a → take w o ≡ a
  the-log-again n q =
      let h = new-accepted a b out o e w l r in
      let g = from-accepted a b out o e w l r in
      one-image (take w o) a h.0 g.0 (new-e a b out o e w l r ∙ q)
      (h.1 ∙ ap (sums (list_of a)) (no-hours (list_of b) (length-list b ∙ n)) ∙ sums_none (list_of a))

-- ---- the same bytes may be lent as both: each count and the total double
module _ (a out o : List ℕ) (e w : ℕ) (l : w < 2 ^ 63) (r : Answers (ImageMerge a a e out) w (a ∷ a ∷ o ∷ [])) where
  pub doubles : (n_of (take w o) ≡ n_of a) × ((i : ℕ) → get_or (list_of (take w o)) i 0 ≡ 2 * get_or (list_of a) i 0)
      × (sum (list_of (take w o)) ≡ 2 * sum (list_of a))
  doubles = (
    as-the-longer a a out o e w l r ∙ omega arith,
    λ i. hour-by-hour a a out o e w l r i ∙ omega arith,
    ap sum (new-accepted a a out o e w l r).1 ∙ sum-sums (list_of a) (list_of a) ∙ omega arith,
  )
