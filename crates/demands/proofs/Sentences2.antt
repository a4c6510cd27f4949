-- What demand 2 says of images, sentence by sentence, of bytes and lists; what it says of ranges is in SentencesRanges beside this. Each law
-- takes what it says from `demand-2`; a claim that says less fails here. Assumes nothing.
use mathlib.Core.Path.{◌≡◌, refl, sym, ap, ◌∙◌}
use mathlib.Core.Bool.{true}
use mathlib.Core.List.{List}
use mathlib.Core.Logic.{◌↔◌}
use Prim.Native.Nat.{ℕ, ◌+◌, ◌-◌, ◌*◌, ◌/◌, ◌^◌, ◌≤◌, ◌<◌}
use native.Mathlib.Omega.{arith}
use lib.ListN.{length, get_or, take, drop}
use lib.Seq.{take_all}
use borrow.Author.Tests.{le-leb, le-ltb, lt-leb, lt-ltb}
use Rattle.lists.specs.Lists.{pick, reached, sum}
use Rattle.lists.proofs.Reach.{reached-enough, reached-least}
use Rattle.image.specs.Calls.{length_call, write_call}
use Rattle.image.specs.Check.{accepted, check}
use Rattle.answers.specs.Image.{holds, Reply, given, refused}
use Rattle.image.specs.Image.{IsImage, Limits, bytes_for, code, header_length, image, pages, size, wide}
use Rattle.image.specs.Query.{count, reading}
use Rattle.image.specs.Reach.{Reach}
use Rattle.image.specs.Read.{e_of, list_of, s_of}
use Rattle.image.proofs.PageLaws.{count-le}
use Rattle.store.specs.Reading.{list_in}
use Rattle.store.specs.Sound.{sound}
use Rattle.store.proofs.SoundFacts.{facts}
use Rattle.freeze.specs.Freeze.{freeze_call}
use Rattle.demands.specs.Demand2.{Written}
use Rattle.demands.proofs.Demand2.{demand-2}
use Rattle.demands.proofs.Written.{store-limits}

-- 'A count is coins in one hour, 0 to 4,294,967,295'
abbrev pub Counts : List ℕ → Type 0
Counts xs = (i : ℕ) → get_or xs i 0 ≤ 4294967295

-- ---- 'An image is accepted exactly when it is what the writer makes of some list, and that list reads back'
pub is-accepted : (s : List ℕ) (e : ℕ) (xs : List ℕ) → Limits e xs → Counts xs → s ≡ image e xs → (accepted s ≡ true) × (list_of s ≡ xs)
is-accepted s e xs m few q =
    let i : IsImage s e xs = record { limits = m; counts = few; bytes = q } in
    let w : (accepted s ≡ true) ↔ ((e : ℕ) × (xs : List ℕ) × IsImage s e xs) = demand-2.accepted-when s in
    (w.1 (e, xs, i), sym (demand-2.read_back s e xs i).1)

module _ (e : ℕ) (xs out : List ℕ) (m : Limits e xs) (l : length (image e xs) ≤ length out) where
  abbrev W : List ℕ
  W = (write_call e xs out).bytes

  pub written-accepted : Counts xs → (accepted (take (length (image e xs)) W) ≡ true) × (list_of (take (length (image e xs)) W) ≡ xs)
  written-accepted few = is-accepted (take (length (image e xs)) W) e xs m few (demand-2.writes e xs out m l).image-first

  -- 'Bytes beyond the image are left unchanged'
  pub beyond-kept : (drop (length (image e xs)) W ≡ drop (length (image e xs)) out) × (length W ≡ length out)
  beyond-kept = ((demand-2.writes e xs out m l).rest-same, (demand-2.writes e xs out m l).as_long)

  -- 'Length, write and freeze return the image's length in bytes'
  pub write-returns : (write_call e xs out).reply ≡ given (length (image e xs))
  write-returns = (demand-2.writes e xs out m l).reply-is

-- what is accepted is written back as it is, into a buffer of its length, and what is so written is accepted
module _ (s : List ℕ) (e : ℕ) (xs : List ℕ) (m : Limits e xs) (n : length (image e xs) ≡ length s) where
  abbrev B : List ℕ
  B = (write_call e xs s).bytes

  all-of-it : ((write_call e xs s).reply ≡ given (length s)) × (B ≡ image e xs)
  all-of-it =
      let D : Written (write_call e xs s) (image e xs) s = demand-2.writes e xs s m (omega arith) in
      (D.reply-is ∙ ap given n, sym (take_all (length (image e xs)) B (omega (arith, D.as_long))) ∙ D.image-first)

pub accepted-written : (s : List ℕ)
    → (accepted s ≡ true) ↔ ((e : ℕ) × (xs : List ℕ) × Counts xs × ((write_call e xs s).reply ≡ given (length s)) × ((write_call e xs s).bytes ≡ s))
accepted-written s = (to, from)
  where
    to : accepted s ≡ true → (e : ℕ) × (xs : List ℕ) × Counts xs × ((write_call e xs s).reply ≡ given (length s)) × ((write_call e xs s).bytes ≡ s)
    to h =
        let w : (e : ℕ) × (xs : List ℕ) × IsImage s e xs = (demand-2.accepted-when s).0 h in
        let q : s ≡ image w.0 w.1 = w.2.bytes in
        let d = all-of-it s w.0 w.1 w.2.limits (ap length (sym q)) in
        (w.0, w.1, w.2.counts, d.0, d.1 ∙ sym q)

    from : (e : ℕ) × (xs : List ℕ) × Counts xs × ((write_call e xs s).reply ≡ given (length s)) × ((write_call e xs s).bytes ≡ s) → accepted s ≡ true
    from w =
        let r = demand-2.only-these w.0 w.1 s (length s) w.3 in
        (is-accepted s w.0 w.1 r.limits w.2 (sym w.4 ∙ (all-of-it s w.0 w.1 r.limits (sym r.long)).1)).0

-- and no list is written that has no image, nor into a buffer 'shorter than the image'
pub unrefused-write : (e : ℕ) (xs out : List ℕ) (n : ℕ) → (write_call e xs out).reply ≡ given n
    → Limits e xs × (length (image e xs) ≤ length out) × (n ≡ length (image e xs))
unrefused-write e xs out n q = let w = demand-2.only-these e xs out n q in (w.limits, w.room, w.long)

-- 'e from 2 to 8', 'N at most 65,536', 'totals up to 2^40 - 1': such a list has a length, and no other. It is the 'byte length .. the one N, e
-- and L give': the header's bytes, 4 for each page, and the bytes of L bits
pub length-given : (e : ℕ) (xs : List ℕ) → 2 ≤ e → e ≤ 8 → length xs ≤ 65536 → sum xs ≤ 2 ^ 40 - 1
    → length_call e xs ≡ given (header_length (wide (sum xs)) + 4 * pages e (length xs) + (length (code e xs) + 7) / 8)
unfolding size bytes_for
length-given e xs low high n s = demand-2.lengths e xs (record { e-low = low; e-high = high; hours = n; total = s })

pub length-only : (e : ℕ) (xs : List ℕ) (n : ℕ) → length_call e xs ≡ given n → (2 ≤ e) × (e ≤ 8) × (length xs ≤ 65536) × (sum xs ≤ 2 ^ 40 - 1)
length-only e xs n q = let m = demand-2.no-others e xs n q in (m.e-low, m.e-high, m.hours, m.total)

pub length-returns : (e : ℕ) (xs : List ℕ) (n : ℕ) → length_call e xs ≡ given n
    → n ≡ header_length (wide (sum xs)) + 4 * pages e (length xs) + (length (code e xs) + 7) / 8
length-returns e xs n q =
    let m = length-only e xs n q in
    let z : given n ≡ given (header_length (wide (sum xs)) + 4 * pages e (length xs) + (length (code e xs) + 7) / 8) =
    sym q ∙ length-given e xs m.0 m.1 m.2 m.3 in
    cc

-- 'Header, 16 bytes'; 'Edition 2 has a 24-byte header', which 'The writer uses .. only when S is above 4,294,967,295'
pub header-16 : (s : ℕ) → s ≤ 4294967295 → header_length (wide s) ≡ 16
unfolding wide
header-16 s l = ap header_length (le-ltb 4294967295 s l)

pub header-24 : (s : ℕ) → 4294967295 < s → header_length (wide s) ≡ 24
unfolding wide
header-24 s l = ap header_length (lt-ltb 4294967295 s l)

-- 'freeze, which writes the image of a store's list': what it writes is accepted, and that list reads back; 'Length, write and freeze return
-- the image's length in bytes. Bytes beyond the image are left unchanged'
module _ (s : List ℕ) (e : ℕ) (out : List ℕ) (h : sound s ≡ true) (low : 2 ≤ e) (high : e ≤ 8) (l : length (image e (list_in s)) ≤ length out) where
  abbrev len : ℕ
  len = length (image e (list_in s))

  abbrev F : List ℕ
  F = (freeze_call e s out).bytes

  pub frozen-accepted : (accepted (take len F) ≡ true) × (list_of (take len F) ≡ list_in s)
  frozen-accepted =
      is-accepted (take len F) e (list_in s) (store-limits s e h low high) (λ i. omega (arith, count-le (list_in s) i, (facts s h).total-fits))
      (demand-2.freezes s e out h low high l).image-first

  pub freeze-returns : ((freeze_call e s out).reply ≡ given len) × (drop len F ≡ drop len out) × (length F ≡ length out)
  freeze-returns = let w = demand-2.freezes s e out h low high l in (w.reply-is, w.rest-same, w.as_long)

pub unrefused-freeze : (s : List ℕ) (e : ℕ) (out : List ℕ) (n : ℕ) → (freeze_call e s out).reply ≡ given n
    → (sound s ≡ true) × (2 ≤ e) × (e ≤ 8) × (length (image e (list_in s)) ≤ length out) × (n ≡ length (image e (list_in s)))
unrefused-freeze s e out n q =
    let w = demand-2.only-sound s e out n q in
    (w.0, w.1.limits.e-low, w.1.limits.e-high, w.1.room, w.1.long)

-- the e of an image is the header's
pub written-e : (e : ℕ) (xs : List ℕ) → Limits e xs → Counts xs → e ≡ e_of (image e xs)
written-e e xs m few = (demand-2.read_back (image e xs) e xs (record { limits = m; counts = few; bytes = refl })).0

-- ---- 'count, reading and reach equal plain sums'
module _ (s : List ℕ) (h : accepted s ≡ true) where
  abbrev L : List ℕ
  L = list_of s

  -- 'count i: 7 if i ≥ N'
  pub count-plain : (i : ℕ) → i < length L → count s i ≡ given (get_or L i 0)
  unfolding pick
  count-plain i l = rw (lt-leb (length L) i l) at (demand-2.count-sum s h i)

  pub count-7 : (i : ℕ) → length L ≤ i → count s i ≡ refused 7
  unfolding pick
  count-7 i l = rw (le-leb (length L) i l) at (demand-2.count-sum s h i)

  -- 'The reading at i is the sum of counts 0 to i-1', 'Reading i: 7 if i > N'
  pub reading-plain : (i : ℕ) → i ≤ length L → reading s i ≡ given (sum (take i L))
  unfolding pick
  reading-plain i l = rw (le-ltb (length L) i l) at (demand-2.reading-sum s h i)

  pub reading-7 : (i : ℕ) → length L < i → reading s i ≡ refused 7
  unfolding pick
  reading-7 i l = rw (lt-ltb (length L) i l) at (demand-2.reading-sum s h i)

  -- 'reach p: 8 if p is above the total; else the smallest i with reading at i ≥ p'
  pub reach-plain : (p : ℕ) (r : Reply) → p ≤ sum L → Reach s p r
      → (i : ℕ) × (r ≡ given i) × (p ≤ sum (take i L)) × ((j : ℕ) → j < i → sum (take j L) < p)
  unfolding pick
  reach-plain p r l w =
      (reached p L, rw (le-ltb (sum L) p l) at (demand-2.reach-sum s h p r w), reached-enough p L l, reached-least p L)

  pub reach-8 : (p : ℕ) (r : Reply) → sum L < p → Reach s p r → r ≡ refused 8
  unfolding pick
  reach-8 p r l w = rw (lt-ltb (sum L) p l) at (demand-2.reach-sum s h p r w)

-- 'check (returns N and S)': of what was written, and of no other bytes
pub check-written : (e : ℕ) (xs : List ℕ) → Limits e xs → Counts xs → check (image e xs) ≡ holds (length xs) (sum xs)
check-written e xs m few =
    let w = is-accepted (image e xs) e xs m few refl in
    demand-2.check-sums (image e xs) w.0 ∙ ap (λ (z : List ℕ). holds (length z) (sum z)) w.1

pub check-says : (s : List ℕ) (n t : ℕ) → check s ≡ holds n t → (accepted s ≡ true) × (n ≡ length (list_of s)) × (t ≡ sum (list_of s)) × (t ≡ s_of s)
check-says s n t q =
    let w = demand-2.check-only s n t q in
    let a = (is-accepted s (e_of s) (list_of s) w.0.limits w.0.counts w.0.bytes).0 in
    let z : holds n t ≡ holds (length (list_of s)) (sum (list_of s)) = sym q ∙ demand-2.check-sums s a in
    (a, w.1, (let y : t ≡ sum (list_of s) = cc in y), w.2)
