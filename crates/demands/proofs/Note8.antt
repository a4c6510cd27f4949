-- Document 02, note 8, in its own words, of the words that C gets and the bytes that it finds. What busiest and match say of an accepted image is in
-- `Note1` and `Note7`, for either edition. Assumes nothing.
use mathlib.Core.Bool.{Bool, true, false}
use mathlib.Core.List.{List, [], ◌∷◌, ◌++◌}
use mathlib.Core.Logic.Iff
use mathlib.Core.Logic.{◌⊎◌, inl, inr, ◌↔◌}
use mathlib.Core.Path.{◌≡◌, refl, sym, ap, ap₂, ◌∙◌, subst}
use Prim.Native.Nat.{ℕ, suc, ◌+◌, ◌-◌, ◌*◌, ◌^◌, ◌≤◌, ◌<◌}
use native.Mathlib.Nat.{lt_of_not-le}
use native.Mathlib.Omega.{arith}
use lib.Dec.{ltb}
use lib.ListN.{length, get_or, length-append, take}
use lib.Seq.{get_or-take, take_at, take-take}
use borrow.Author.Tests.{le-leb, le-ltb, lt-leb, lt-ltb, ltb-false, ltb-true}
use Rattle.lists.specs.Counts.{max_count}
use Rattle.lists.specs.Lists.{pick, sum}
use Rattle.bits.specs.Numbers.{little, number_at}
use Rattle.tree.specs.Read.{found}
use Rattle.answers.specs.Image.{Reply, holds}
use Rattle.image.specs.Check.{accepted}
use Rattle.image.specs.Image.{IsImage, Limits, code, edition, header, header_in, header_length, image, narrow_total, packed, table, total_width, wide}
use Rattle.image.specs.Query.{count, ended, look, reading, reading_at, the_count, the_reading}
use Rattle.image.specs.Read.{e_of, list_of, n_of, s_of}
use Rattle.image.proofs.ReadLaws.{length-header}
use Rattle.store.specs.Items.{Items}
use Rattle.store.specs.Plain.{Append}
use Rattle.store.specs.Reading.{list_in, read}
use Rattle.store.proofs.SoundFacts.{facts}
use Rattle.words.specs.End.{end_of_image}
use Rattle.words.specs.ReadBack.{checked_hours, checked_total}
use Rattle.words.specs.Words.{word_of}
use Rattle.hourlog_c.specs.Export.{Answers}
use Rattle.hourlog_c.specs.Public.{ImageBusiest, ImageCheck, ImageCount, ImageLength, ImageMatch, ImageReach, ImageReading, ImageToBcd, ImageWrite}
use Rattle.hourlog_c.specs.Public.{Freeze, Live, PublicCall}
use Rattle.demands.specs.Reasons.{Damage, Edition, Header, NoHeader, NoPageSize, Wins, first, plain_reasons, reasons, second}
use Rattle.demands.proofs.Demand2.{demand-2}
use Rattle.demands.proofs.ReasonTests.{accepted-passes, damage-exactly, found-ends, header-so, wide-byte}
use Rattle.demands.proofs.Sentences1.{a-page-size, check-word, freeze-word, meets, minus-at, minus-exactly, not-below, result-word, write_word}
use Rattle.demands.proofs.Sentences2.{Counts, is-accepted, reach-plain, reading-plain, unrefused-freeze, unrefused-write}
use Rattle.demands.proofs.Slices.{same_second}
use Rattle.demands.proofs.Winning.{stands, without}

-- what is accepted is the image of the list that it says
its-image : (s : List ℕ) → accepted s ≡ true → IsImage s (e_of s) (list_of s)
its-image s h =
    let w : (e : ℕ) × (xs : List ℕ) × IsImage s e xs = (demand-2.accepted-when s).0 h in
    let r = demand-2.read_back s w.0 w.1 w.2 in
    subst (λ (e : ℕ). IsImage s e (list_of s)) r.0 (subst (λ (xs : List ℕ). IsImage s w.0 xs) r.1 w.2)

-- ---- 'Fields, roots, reserves, asked figures and answers of an image are to carry totals up to 2^40 - 1; counts keep their width': an accepted
-- image of either edition
pub counts-keep : (s : List ℕ) → accepted s ≡ true → Counts (list_of s)
counts-keep s h = (its-image s h).counts

module _ (s : List ℕ) (h : accepted s ≡ true) (w : ℕ) (t : List (List ℕ)) where
  abbrev L : List ℕ
  L = list_of s

  pub check-whole : Answers (ImageCheck s) w t → (checked_hours w ≡ length L) × (checked_total w ≡ sum L)
  unfolding reasons
  check-whole a =
      let p = accepted-passes s h in
      same-sums (sym (check-word w (result-word (ImageCheck s) w t a (p.0, (p.1, tt))) t s a) ∙ demand-2.check-sums s h)
    where
      same-sums : {n k u v : ℕ} → holds n u ≡ holds k v → (n ≡ k) × (u ≡ v)
      same-sums e = (cc, cc)

  pub reading-whole : (i : ℕ) → i ≤ length L → Answers (ImageReading s i) w t → w ≡ sum (take i L)
  unfolding word_of end_of_image
  reading-whole i l a = a.word ∙ ap word_of a.ends.0 ∙ ap (λ (r : Reply). word_of (end_of_image r)) (reading-plain s h i l)

  pub reach-whole : (p : ℕ) → p ≤ sum L → Answers (ImageReach s p) w t → (p ≤ sum (take w L)) × ((j : ℕ) → j < w → sum (take j L) < p)
  unfolding word_of end_of_image
  reach-whole p l a =
      let d = a.ends.0 in
      let r = reach-plain s h p d.0 l d.1 in
      let e : r.0 ≡ w = sym (a.word ∙ ap word_of d.2 ∙ ap (λ (z : Reply). word_of (end_of_image z)) r.1) in
      (subst (λ (k : ℕ). p ≤ sum (take k L)) e r.2, subst (λ (k : ℕ). (j : ℕ) → j < k → sum (take j L) < p) e r.3)

-- ---- 'Edition 2 has a 24-byte header: byte 0 is 2, bytes 1 to 7 as before, 8-15 S, 16-19 L, 20-23 zero. The writer uses it only when S is above
-- 4,294,967,295'
-- bytes that begin with the image of a list
module _ (e : ℕ) (xs o : List ℕ) (i : take (length (image e xs)) o ≡ image e xs) where
  abbrev b : Bool
  b = wide (sum xs)

  its-header : take (header_length b) o ≡ header_in b e (length xs) (sum xs) (length (code e xs))
  unfolding image header
  its-header =
      let h : List ℕ = header_in b e (length xs) (sum xs) (length (code e xs)) in
      let n : length h ≡ header_length b = length-header e (length xs) (sum xs) (length (code e xs)) in
      let rest : List ℕ = table e xs ++ packed (code e xs) in
      sym (take-take (header_length b) (length (image e xs)) o (omega (arith, n, length-append h rest)))
      ∙ ap (take (header_length b)) i
      ∙ take_at h rest (header_length b) n

  in-edition : (c : Bool) → b ≡ c → take (header_length c) o ≡ header_in c e (length xs) (sum xs) (length (code e xs))
  in-edition c q = subst (λ (c : Bool). take (header_length c) o ≡ header_in c e (length xs) (sum xs) (length (code e xs))) q its-header

  first-header : sum xs ≤ 4294967295 → take 16 o ≡ 1 ∷ e ∷ 0 ∷ 0 ∷ (little 4 (length xs) ++ (little 4 (sum xs) ++ little 4 (length (code e xs))))
  unfolding header_in little wide
  first-header s = in-edition false (le-ltb narrow_total (sum xs) s)

  second-header : 4294967295 < sum xs
      → take 24 o ≡ 2 ∷ e ∷ 0 ∷ 0 ∷ (little 4 (length xs) ++ (little 8 (sum xs) ++ (little 4 (length (code e xs)) ++ 0 ∷ 0 ∷ 0 ∷ 0 ∷ [])))
  unfolding header_in little wide
  second-header s = in-edition true (lt-ltb narrow_total (sum xs) s)

-- o is the buffer afterwards
module _ (xs out o : List ℕ) (e w : ℕ) (l : w < 2 ^ 63) (a : Answers (ImageWrite xs e out) w (xs ∷ o ∷ [])) where
  has_room : Limits e xs × (length (image e xs) ≤ length out) × (w ≡ length (image e xs))
  has_room = unrefused-write e xs out w (write_word w l (xs ∷ o ∷ []) xs out e a)

  image-there : take (length (image e xs)) o ≡ image e xs
  image-there =
      ap (take (length (image e xs))) (same_second a.ends.1) ∙ (demand-2.writes e xs out has_room.0 has_room.1).image-first

  pub first-edition : sum xs ≤ 4294967295
      → take 16 o ≡ 1 ∷ e ∷ 0 ∷ 0 ∷ (little 4 (length xs) ++ (little 4 (sum xs) ++ little 4 (length (code e xs))))
  first-edition = first-header e xs o image-there

  pub second-edition : 4294967295 < sum xs
      → take 24 o ≡ 2 ∷ e ∷ 0 ∷ 0 ∷ (little 4 (length xs) ++ (little 8 (sum xs) ++ (little 4 (length (code e xs)) ++ 0 ∷ 0 ∷ 0 ∷ 0 ∷ [])))
  second-edition = second-header e xs o image-there

  -- 'acceptance covers both headers': the check of these bytes gives N and S
  pub written-checks : Counts xs → (v : ℕ) (u : List (List ℕ)) → Answers (ImageCheck (take w o)) v u
      → (checked_hours v ≡ length xs) × (checked_total v ≡ sum xs)
  written-checks few v u c =
      let q : take w o ≡ image e xs = ap (λ (n : ℕ). take n o) has_room.2 ∙ image-there in
      let b = is-accepted (take w o) e xs has_room.0 few q in
      let r = check-whole (take w o) b.0 v u c in
      (r.0 ∙ ap length b.1, r.1 ∙ ap sum b.1)

-- ---- 'refusal 3 for images starts above 2^40 - 1', and comes then alone
module _ (xs : List ℕ) (e w : ℕ) (t : List (List ℕ)) where
  abbrev Three : Type 0
  Three = (2 ≤ e) × (e ≤ 8) × (length xs ≤ 65536) × (2 ^ 40 - 1 < sum xs)

  fits-3 : ((NoPageSize e → ⊥) × ((65536 < length xs → ⊥) × (2 ^ 40 - 1 < sum xs))) ↔ Three
  fits-3 = (
    λ x. let p = (a-page-size e).0 x.0 in (p.0, p.1, not-below 65536 (length xs) x.1.0, x.1.1),
    λ x. ((a-page-size e).1 (x.0, x.1), (λ (l : 65536 < length xs). omega (arith, x.2), x.3)),
  )

  pub length-3 : Answers (ImageLength xs e) w t → (w ≡ 2 ^ 64 - 3) ↔ Three
  unfolding reasons without stands
  length-3 a = Iff.trans (minus-at (ImageLength xs e) w t 3 2 (omega arith) (omega arith) (λ x. omega (arith, x.3)) refl a) fits-3

  pub write-3 : (out : List ℕ) → Answers (ImageWrite xs e out) w t → (w ≡ 2 ^ 64 - 3) ↔ Three
  unfolding reasons without stands
  write-3 out a = Iff.trans (minus-at (ImageWrite xs e out) w t 3 2 (omega arith) (omega arith) (λ x. omega (arith, x.3)) refl a) fits-3

-- 'The live store keeps its limit'
pub append-3 : (s : List ℕ) (v w : ℕ) (t : List (List ℕ)) → Answers (Live (Append v) s) w t
    → (w ≡ 2 ^ 64 - 3) ↔ (Items s × (length (list_in s) < 64 * (read s).plain.pages) × (4294967295 < sum (list_in s ++ v ∷ [])))
unfolding reasons plain_reasons without stands
append-3 s v w t a =
    let m = minus-at (Live (Append v) s) w t 3 2 (omega arith) (omega arith) (λ x. omega (arith, x.3)) refl a in (
      λ q. let x = m.0 q in (meets (Append v) s w t a x.0, lt_of_not-le x.1.0, x.1.1),
      λ x. m.1 (λ n. n x.0, (λ (l : 64 * (read s).plain.pages ≤ length (list_in s)). omega (arith, x.1), x.2)),
    )

-- so what is frozen is of edition 1
pub freeze-edition : (s out o : List ℕ) (e w : ℕ) → w < 2 ^ 63 → Answers (Freeze s e out) w (s ∷ o ∷ []) → get_or o 0 0 ≡ 1
freeze-edition s out o e w l a =
    let u = unrefused-freeze s e out w (freeze-word w l (s ∷ o ∷ []) s out e a) in
    let i = (demand-2.freezes s e out u.0 u.1 u.2 u.3).image-first in
    sym (get_or-take 16 o 0 0 (omega arith))
    ∙ ap (λ (z : List ℕ). get_or z 0 0)
    (first-header e (list_in s) o (ap (take (length (image e (list_in s)))) (same_second a.ends.1) ∙ i) (facts s u.0).total-fits)

-- ---- 'Edition 2 under 24 bytes, or with S not from 2^32 to 2^40 - 1, is refusal 5', and so it is with bytes 20-23 not zero
module _ (s : List ℕ) where
  abbrev Wrong : Type 0
  Wrong =
      (length s < 24)
      ⊎ ((number_at s 8 8 < 2 ^ 32) ⊎ ((2 ^ 40 - 1 < number_at s 8 8) ⊎ ((k : ℕ) × (20 ≤ k) × (k ≤ 23) × (get_or s k 0 ≡ 0 → ⊥))))

  pub second-wrong : get_or s 0 0 ≡ 2 → Wrong → NoHeader s
  unfolding s_of
  second-wrong q w h = go h.bytes h.edition h.long w
    where
      total : s_of s ≡ number_at s 8 8
      total = ap (λ (b : Bool). number_at s 8 (total_width b)) (wide-byte s q)

      go : (n : ℕ) → Edition s n → n ≤ length s → Wrong → ⊥
      go _ (first e) l v = omega (arith, e, q)
      go _ (second e low high z) l (inl m) = omega arith
      go _ (second e low high z) l (inr (inl m)) = omega (arith, total)
      go _ (second e low high z) l (inr (inr (inl m))) = omega (arith, total)
      go _ (second e low high z) l (inr (inr (inr (k, a, b, n)))) = n (z k a b)

  abbrev Five : PublicCall → Type 0
  Five c = (w : ℕ) (t : List (List ℕ)) → Answers c w t → w ≡ 2 ^ 64 - 5

  -- of every call on an image
  pub all-refuse-5 : NoHeader s → (k : ℕ) (out : List ℕ)
      → Five (ImageCheck s) × Five (ImageCount s k) × Five (ImageReading s k) × Five (ImageReach s k) × Five (ImageBusiest s k)
      × Five (ImageMatch s k) × Five (ImageToBcd s out)
  unfolding reasons
  all-refuse-5 n k out =
      let five : (c : PublicCall) → Wins 5 (reasons c) → Five c =
      λ c v w t a. (minus-exactly c w t 5 (omega arith) (omega arith) (λ x. omega (arith, x.3)) a).1 v in (
        five (ImageCheck s) (inl (refl, n)),
        five (ImageCount s k) (inl (refl, n)),
        five (ImageReading s k) (inl (refl, n)),
        five (ImageReach s k) (inl (refl, n)),
        five (ImageBusiest s k) (inl (refl, n)),
        five (ImageMatch s k) (inl (refl, n)),
        five (ImageToBcd s out) (inl (refl, n)),
      )

-- ---- 'For count and reading, a walk that ends at a count above 4,294,967,295 is damage, refusal 6; they test no other hour's count': the walk to
-- hour i finds x coins before the hour and c in it
within-found : (x c : ℕ) → c ≤ 4294967295 → ended (found x c) ≡ found x c
unfolding ended pick
within-found x c l = rw (le-leb c max_count l)

module _ (s : List ℕ) (h : Header s) (i x c : ℕ) (m : i < n_of s) (q : look s i ≡ found x c) where
  walk_ends : Damage s i ↔ (4294967295 < c)
  walk_ends =
      let d = damage-exactly s i in
      (λ y. (found-ends x c).0 (sym (ap ended q) ∙ d.1 y), λ l. d.0 (ap ended q ∙ (found-ends x c).1 l))

  module _ (w : ℕ) (t : List (List ℕ)) where
    pub count-6 : Answers (ImageCount s i) w t → (w ≡ 2 ^ 64 - 6) ↔ (4294967295 < c)
    unfolding reasons without stands
    count-6 a =
        let r = minus-at (ImageCount s i) w t 6 2 (omega arith) (omega arith) (λ y. no-reach y.2) refl a in
        (λ e. walk_ends.0 (r.0 e).1.1, λ l. r.1 (λ n. n h, (λ (k : n_of s ≤ i). omega arith, walk_ends.1 l)))
      where
        no-reach : {j : List ℕ} {p : ℕ} → ImageCount s i ≡ ImageReach j p → ⊥
        no-reach e = let z : ◌≡◌ {A = ℕ} 0 1 = cc in omega arith

    pub count-given : Answers (ImageCount s i) w t → c ≤ 4294967295 → w ≡ c
    unfolding count pick the_count word_of end_of_image
    count-given a l =
        a.word ∙ ap word_of a.ends.0
        ∙ rw (header-so s h, lt-leb (n_of s) i m, q, within-found x c l)

    -- 'Reading at i > 0 walks to hour i-1'
    pub reading-6 : Answers (ImageReading s (suc i)) w t → (w ≡ 2 ^ 64 - 6) ↔ (4294967295 < c)
    unfolding reasons without stands
    reading-6 a =
        let r = minus-at (ImageReading s (suc i)) w t 6 2 (omega arith) (omega arith) (λ y. no-reach y.2) refl a in (
          λ e. walk_ends.0 (subst (Damage s) back (r.0 e).1.1.1),
          λ l. r.1 (λ n. n h, (λ (k : n_of s < suc i). omega arith, (omega arith, subst (Damage s) (sym back) (walk_ends.1 l)))),
        )
      where
        back : suc i - 1 ≡ i
        back = omega arith

        no-reach : {j : List ℕ} {p : ℕ} → ImageReading s (suc i) ≡ ImageReach j p → ⊥
        no-reach e = let z : ◌≡◌ {A = ℕ} 0 1 = cc in omega arith

    pub reading-given : Answers (ImageReading s (suc i)) w t → c ≤ 4294967295 → w ≡ x + c
    unfolding reading reading_at pick the_reading word_of end_of_image
    reading-given a l =
        a.word ∙ ap word_of a.ends.0
        ∙ rw (header-so s h, le-ltb (n_of s) (suc i) m, q, within-found x c l)

-- ---- 'A list still has one image for each e'
pub one-image : (s t : List ℕ) → accepted s ≡ true → accepted t ≡ true → e_of s ≡ e_of t → list_of s ≡ list_of t → s ≡ t
one-image s t h k e l = (its-image s h).bytes ∙ ap₂ image e l ∙ sym (its-image t k).bytes

-- 'acceptance covers both headers': each where its totals are, and nowhere else
module _ (s : List ℕ) (h : accepted s ≡ true) where
  abbrev S : ℕ
  S = sum (list_of s)

  pub either-header : ((get_or s 0 0 ≡ 1) × (S ≤ 4294967295)) ⊎ ((get_or s 0 0 ≡ 2) × (4294967295 < S) × (S ≤ 2 ^ 40 - 1))
  unfolding image header header_in wide
  either-header = go (ltb narrow_total S) refl
    where
      byte : get_or s 0 0 ≡ edition (ltb narrow_total S)
      byte = ap (λ (z : List ℕ). get_or z 0 0) (its-image s h).bytes

      go : (b : Bool) → ltb narrow_total S ≡ b → ((get_or s 0 0 ≡ 1) × (S ≤ 4294967295)) ⊎ ((get_or s 0 0 ≡ 2) × (4294967295 < S) × (S ≤ 2 ^ 40 - 1))
      go false q = inl (byte ∙ ap edition q, ltb-false narrow_total S q)
      go true q = inr (byte ∙ ap edition q, ltb-true narrow_total S q, (its-image s h).limits.total)
