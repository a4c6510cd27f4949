-- The code's test of an image is `accepted`, and `within` of its counts. Assumes nothing.
use mathlib.Core.Path.{◌≡◌, refl, sym, ap, ap₂, ◌∙◌}
use mathlib.Core.Bool.{Bool, true, false, ◌&&◌}
use mathlib.Core.List.{List, [], ◌∷◌, ◌++◌, append-nil}
use Prim.Native.Nat.{ℕ, zero, suc, ◌+◌, ◌-◌, ◌*◌, ◌^◌, ◌≤◌, ◌<◌}
use native.Mathlib.Nat.{mul-zero}
use native.Mathlib.Omega.{arith}
use lib.ListN.{length, get_or, take, drop, replicate, length-drop, length-replicate, take-append-drop}
use lib.Seq.{drop_at, drop-drop, take-add, take_all, get_or-drop, take-length}
use lib.Dec.{eqb, leb, ltb}
use borrow.Author.Tests.{le-leb, leb-true, eq-eqb, eqb-true}
use Rattle.lists.specs.Counts.{max_count, within}
use Rattle.lists.proofs.CountLaws.{within-at, within_concat, within-each, within-take}
use Rattle.lists.specs.Lists.{concat, fill, part, same, sum, tabulate, window}
use Rattle.lists.proofs.Pages.{concat-get}
use Rattle.lists.proofs.Parts.{length_part, part_in, part-more}
use Rattle.lists.proofs.Sums.{zero-at}
use Rattle.lists.proofs.Tables.{chop, concat-suc, tabulate-ext, tabulate-get_d}
use Rattle.lists.proofs.Tests.{agree, both, each, every_of, left, right, same-is, same_refl}
use Rattle.bits.specs.Bits.{bits, field, value}
use Rattle.bits.specs.Numbers.{little, number_at}
use Rattle.bits.specs.Pack.{pack}
use Rattle.bits.proofs.Little.{stored}
use Rattle.bits.proofs.Packing.{bits-bytes, pack-bits}
use Rattle.reserve.specs.Reserve.{digits, reserve}
use Rattle.tree.specs.Code.Exact.{clear}
use Rattle.tree.specs.Tree.{tree}
use Rattle.tree.proofs.Exacts.{field-part}
use Rattle.tree_lowest.specs.Code.Narrow.{narrow}
use Rattle.tree_lowest.proofs.NarrowLaws.{tree-narrow}
use Rattle.image.specs.Check.{accepted, headed, wide_right}
use Rattle.image.specs.Image.{Limits, bits_place, bytes_for, code, edition, header, header_in, header_length, image, max_total, narrow_total, packed, page, page_code, pages, root, size, start, table}
use Rattle.image.specs.Image.{table_at, total_width, wide, zero_bytes}
use Rattle.image.specs.Read.{before_of, code_at, e_of, l_of, list_of, n_of, page_of, page_count_of, root_at, s_of, start_of, sum_of, tree_at, wide_of, width_of}
use Rattle.answers.specs.Image.{Reply, given}
use Rattle.image_test.specs.Code.Test.{passes_test, pages_from, says, sum_at}
use Rattle.image.proofs.ReadLaws.{before-is, bits_is, e-is, headed-image, l-is, last-root, n-is, pages-is, root_is, s-is, start_is, sum_is, tree_is, width_is}
use Rattle.image.proofs.Packed.{drop_bits, tail}
use Rattle.image.proofs.HeadLaws.{headed-total, headed-wide}
use Rattle.image.proofs.Editions.{header-least, header-low, total-low}
use Rattle.image.proofs.PageLaws.{length-page, page-few, page-sum, start-next, start-within}
use Rattle.image_test.proofs.Passing.{All, Passes, all_from, bits-long, body-long, code_fits, coded, first-sums, from_all, last, page-counts}
use Rattle.image_test.proofs.Passing.{page-long, page-total, page-within, passes, place_of, reading-all, size_is, top}
use Rattle.image.proofs.Accepted.{accepted-only, length-list}
use Rattle.image.proofs.QueryLaws.{sum_to}

-- ---- lists and bytes
-- a list with the same sum as its front has nothing but zeros behind it
pub zero-tail : (n : ℕ) (xs : List ℕ) (i : ℕ) → sum (take n xs) ≡ sum xs → get_or (take n xs) i 0 ≡ get_or xs i 0
unfolding sum
zero-tail zero xs i q = sym (zero-at xs i (sym q))
zero-tail (suc n) [] i q = refl
zero-tail (suc n) (x ∷ xs) zero q = refl
zero-tail (suc n) (x ∷ xs) (suc i) q = zero-tail n xs i (omega arith)

-- the header of an edition, by its parts
head-parts : (s : List ℕ) (b : Bool)
    → take 4 s ++ (part s 4 4 ++ (part s 8 (total_width b) ++ (part s (bits_place b) 4 ++ part s 20 (zero_bytes b)))) ≡ take (header_length b) s
head-parts s false =
    ap (λ (z : List ℕ). take 4 s ++ (part s 4 4 ++ (part s 8 4 ++ z))) (append-nil (part s 12 4))
    ∙ sym (take-add 4 12 s ∙ ap (λ (z : List ℕ). take 4 s ++ z) (part-more s 4 4 8 ∙ ap (λ (z : List ℕ). part s 4 4 ++ z) (part-more s 8 4 4)))
head-parts s true =
    sym (take-add 4 20 s ∙ ap (λ (z : List ℕ). take 4 s ++ z) (part-more s 4 4 16
    ∙ ap (λ (z : List ℕ). part s 4 4 ++ z) (part-more s 8 8 8 ∙ ap (λ (z : List ℕ). part s 8 8 ++ z) (part-more s 16 4 4))))

front-is : (s : List ℕ) (d x : ℕ) → 16 ≤ length s → get_or s 0 0 ≡ d → get_or s 1 0 ≡ x → get_or s 2 0 ≡ 0 → get_or s 3 0 ≡ 0
    → d ∷ x ∷ 0 ∷ 0 ∷ [] ≡ take 4 s
front-is (x₀ ∷ x₁ ∷ x₂ ∷ x₃ ∷ s) d x l a b c e = sym (λ i. a i ∷ b i ∷ c i ∷ e i ∷ [])
front-is [] d x l a b c e = absurd (omega arith)
front-is (x₀ ∷ []) d x l a b c e = absurd (omega arith)
front-is (x₀ ∷ x₁ ∷ []) d x l a b c e = absurd (omega arith)
front-is (x₀ ∷ x₁ ∷ x₂ ∷ []) d x l a b c e = absurd (omega arith)

-- the zeros behind L
zeros-are : (s : List ℕ) → ((i : ℕ) → get_or s i 0 < 256) → (b : Bool) → header_length b ≤ length s → wide_right b s ≡ true
    → little (zero_bytes b) 0 ≡ part s 20 (zero_bytes b)
unfolding wide_right little
zeros-are s bytes false l q = refl
zeros-are s bytes true l q =
    ap (little 4) (sym (eqb-true (number_at s 20 4) 0 (each (ltb narrow_total (s_of s) ∷ leb (s_of s) max_total ∷ eqb (number_at s 20 4) 0 ∷ []) q).1.1.0))
    ∙ sym (stored s bytes 20 4 l)

-- ---- an image passes
module _ (most e : ℕ) (xs : List ℕ) (m : Limits e xs) (few : within most xs ≡ true) where
  abbrev S : List ℕ
  S = image e xs

  abbrev P : ℕ
  P = pages e (length xs)

  place-start : (p : ℕ) → p ≤ P → place_of S p ≡ start e xs p
  unfolding place_of start tabulate concat
  place-start zero l = refl
  place-start (suc p) l =
      omega (arith, place-start p (omega arith), width_is e xs m, ap₂ reserve (e-is e xs) (sum_is e xs m p l), start-next e xs p)

  image-passes : (p : ℕ) → p < P → Passes most S p
  unfolding tree_at
  image-passes p l = record {
    place = start_is e xs m p l ∙ sym (place-start p (omega arith));
    rises = omega (arith, root_is e xs m p l, before-is e xs m p l, page-sum e xs p);
    fits = omega (arith, place-start (suc p) l, start-next e xs p, start-within e xs p l, l-is e xs m);
    tree =
        ap₂ (λ (h z : ℕ). narrow most h z (bits S) (code_at S + place_of S p + width_of S)) (e-is e xs) (sum_is e xs m p l)
        ∙ ap (λ (z : ℕ). narrow most e (sum (page e xs p)) (bits S) (code_at S + z + width_of S)) (place-start p (omega arith) ∙ sym (start_is e xs m p l))
        ∙ tree-narrow most e (page e xs p) (bits S) (tree_at S p) (length-page e xs p) (tree_is e xs m p l) (page-few most e p xs (within-at most xs few));
  }

  image-all : All most S P 0
  unfolding start code
  image-all = record {
    page = λ q _ b. image-passes q (omega arith);
    last = ap (place_of S) {x = 0 + P} {y = P} (omega arith) ∙ place-start P (omega arith) ∙ sym (l-is e xs m);
    top = ap (before_of S) {x = 0 + P} {y = P} (omega arith) ∙ last-root e xs m P refl ∙ sym (s-is e xs m);
  }

  image-clear : clear (bits S) (code_at S + l_of S) (8 * bytes_for (l_of S) - l_of S) ≡ true
  unfolding clear tail
  image-clear =
      let n : ℕ = length (code e xs) in
      let Z : List ℕ = replicate (8 * bytes_for n - n) 0 in
      ap (λ (z : List ℕ). same (take (8 * bytes_for (l_of S) - l_of S) z) (replicate (8 * bytes_for (l_of S) - l_of S) 0))
      (sym (drop-drop (l_of S) (code_at S) (bits S)))
      ∙ ap₂ (λ (b : List ℕ) (l : ℕ). same (part b l (8 * bytes_for l - l)) (replicate (8 * bytes_for l - l) 0)) (bits_is e xs m) (l-is e xs m)
      ∙ ap (λ (z : List ℕ). same (take (8 * bytes_for n - n) z) Z) (drop_at (code e xs) Z n refl)
      ∙ ap (λ (z : List ℕ). same z Z) (take_all (8 * bytes_for n - n) Z (omega (arith, length-replicate {A = ℕ} (8 * bytes_for n - n) 0)))
      ∙ same_refl Z

  sum-at : (i : ℕ) → i ≤ length xs → sum_at S i ≡ given (sum (take i xs))
  unfolding sum_at sum
  sum-at zero l = refl
  sum-at (suc i) l = sum_to e xs m i l

  pub image-passes-test : passes_test most S ≡ true
  unfolding passes_test place_of before_of says
  image-passes-test =
      both (headed-image e xs m)
      (every_of _ (
        ap (λ (z : ℕ). pages_from most S z 0 0 0) (pages-is e xs m) ∙ all_from most S P 0 image-all,
        (
          ap₂ says (ap (sum_at S) (n-is e xs m) ∙ sum-at (length xs) (omega arith)
              ∙ ap (λ (z : List ℕ). given (sum z)) (take-length xs)) (s-is e xs m) ∙ eq-eqb (sum xs) (sum xs) refl,
          (image-clear, tt),
        ),
      ))

-- ---- bytes that pass are an image
module _ (most : ℕ) (s : List ℕ) (bytes : (i : ℕ) → get_or s i 0 < 256) (h : passes_test most s ≡ true) where
  abbrev e : ℕ
  e = e_of s

  abbrev xs : List ℕ
  xs = list_of s

  abbrev b : List ℕ
  b = bits s

  abbrev c : ℕ
  c = code_at s

  abbrev K : ℕ
  K = page_count_of s

  abbrev w : ℕ
  w = width_of s

  header_ok : headed s ≡ true
  unfolding passes_test
  header_ok = left (headed s) _ h

  all : All most s K 0
  unfolding passes_test place_of before_of
  all = from_all most s K 0 (each _ (right (headed s) _ h)).0

  pass : (p : ℕ) → p < K → Passes most s p
  pass = passes s header_ok all

  total : sum xs ≡ s_of s
  unfolding passes_test list_of says
  total =
      eqb-true (sum xs) (s_of s) (ap (λ (z : Reply). says z (s_of s)) (sym (reading-all s header_ok all (n_of s) (omega arith)))
      ∙ (each _ (right (headed s) _ h)).1.0)

  rest-clear : part b (c + l_of s) (8 * bytes_for (l_of s) - l_of s) ≡ replicate (8 * bytes_for (l_of s) - l_of s) 0
  unfolding passes_test clear
  rest-clear = same-is _ _ (each _ (right (headed s) _ h)).1.1.0

  abbrev Y : List ℕ
  Y = concat (tabulate K (page_of s))

  same-hours : (i : ℕ) → get_or xs i 0 ≡ get_or Y i 0
  unfolding list_of
  same-hours i = zero-tail (n_of s) Y i (total ∙ sym (first-sums s header_ok all K (omega arith) ∙ top s header_ok all))

  page-same : (p : ℕ) → p < K → page e xs p ≡ page_of s p
  unfolding page window
  page-same p l =
      tabulate-ext (2 ^ e) (λ j. get_or xs (2 ^ e * p + j) 0) (λ j. get_or (page_of s p) j 0)
      (λ j q. same-hours (2 ^ e * p + j) ∙ concat-get K (2 ^ e) (page_of s) p j (λ j _. page-long s header_ok all j) l q)
      ∙ ap (λ (z : ℕ). tabulate z (λ j. get_or (page_of s p) j 0)) (sym (page-long s header_ok all p)) ∙ tabulate-get_d (page_of s p) 0

  page-sums : (p : ℕ) → p < K → sum (page e xs p) ≡ sum_of s p
  page-sums p l = ap sum (page-same p l) ∙ page-total s header_ok all p l

  before_same : (k : ℕ) → k ≤ K → sum (take (2 ^ e * k) xs) ≡ before_of s k
  unfolding before_of sum_of sum root
  before_same zero l = ap (λ (z : ℕ). sum (take z xs)) (mul-zero (2 ^ e))
  before_same (suc k) l = sym (page-sum e xs k) ∙ omega (arith, before_same k (omega arith), page-sums k l, (pass k l).rises)

  width_same : digits (sum xs) ≡ w
  unfolding width_of
  width_same = ap digits total

  page-same-code : (p : ℕ) → p < K → page_code e xs p ≡ part b (c + place_of s p) (w + reserve e (sum_of s p))
  unfolding page_code root root_at before_of place_of
  page-same-code p l =
      let f : field w (root_at s p) ≡ part b (c + place_of s p) w =
      sym (field-part b (c + place_of s p) w (bits-bytes s) (omega (arith, (pass p l).fits, code_fits s header_ok all))
      ∙ ap (λ (z : ℕ). field w (value (part b (c + z) w))) (sym (pass p l).place)) in
      ap₂ (λ (z v : ℕ). field z v ++ tree e (page e xs p)) width_same (before_same (suc p) l)
      ∙ ap₂ ◌++◌ f (ap (tree e) (page-same p l ∙ page-counts s header_ok all p l) ∙ sym (coded s header_ok all p l).code)
      ∙ sym (part-more b (c + place_of s p) w (reserve e (sum_of s p)))

  codes : (k : ℕ) → k ≤ K → concat (tabulate k (page_code e xs)) ≡ part b c (place_of s k)
  unfolding place_of tabulate concat
  codes zero l = refl
  codes (suc k) l =
      concat-suc k (page_code e xs) ∙ ap₂ ◌++◌ (codes k (omega arith)) (page-same-code k l)
      ∙ sym (part-more b c (place_of s k) (w + reserve e (sum_of s k)))
      ∙ ap (part b c) {x = place_of s k + (w + reserve e (sum_of s k))} {y = place_of s k + w + reserve e (sum_of s k)} (omega arith)

  hours-long : length xs ≡ n_of s
  hours-long = length-list s

  pages-same : pages e (length xs) ≡ K
  unfolding page_count_of
  pages-same = ap (pages e) hours-long

  code_same : code e xs ≡ part b c (l_of s)
  unfolding code
  code_same = ap (λ (z : ℕ). concat (tabulate z (page_code e xs))) pages-same ∙ codes K (omega arith) ∙ ap (part b c) (last s header_ok all)

  code-long : length (code e xs) ≡ l_of s
  code-long = ap length code_same ∙ length_part b c (l_of s) (code_fits s header_ok all)

  place-le : (p : ℕ) → p < K → place_of s p ≤ l_of s
  unfolding place_of
  place-le p l = omega (arith, (pass p l).fits)

  start-same : (p : ℕ) → p < K → start e xs p ≡ start_of s p
  unfolding start
  start-same p l =
      ap length (codes p (omega arith)) ∙ length_part b c (place_of s p) (omega (arith, place-le p l, code_fits s header_ok all))
      ∙ sym (pass p l).place

  packed-same : packed (code e xs) ≡ drop (table_at (wide_of s) K) s
  unfolding packed fill code_at
  packed-same =
      let n : ℕ = bytes_for (l_of s) in
      let z : List ℕ = drop (table_at (wide_of s) K) s in
      let r : part b c (l_of s) ++ part b (c + l_of s) (8 * n - l_of s) ≡ bits z =
      sym (part-more b c (l_of s) (8 * n - l_of s)) ∙ take_all (l_of s + (8 * n - l_of s)) (drop c b)
      (omega (arith, length-drop c b, bits-long s header_ok all)) ∙ drop_bits (table_at (wide_of s) K) s in
      ap₂ (λ (k : ℕ) (y : List ℕ). pack (bytes_for k) (y ++ replicate (8 * bytes_for k - k) 0)) code-long code_same
      ∙ ap (λ (y : List ℕ). pack n (part b c (l_of s) ++ y)) (sym rest-clear)
      ∙ ap (pack n) r
      ∙ ap (λ (k : ℕ). pack k (bits z)) (sym (body-long s header_ok all))
      ∙ pack-bits z (λ i. rw (get_or-drop (table_at (wide_of s) K) s i 0) (bytes (table_at (wide_of s) K + i)))

  table_same : table e xs ≡ part s (header_length (wide_of s)) (4 * K)
  unfolding table size page_count_of start_of
  table_same =
      let T : List ℕ = part s (header_length (wide_of s)) (4 * K) in
      ap (λ (z : ℕ). concat (tabulate z (λ p. little 4 (start e xs p)))) pages-same
      ∙ ap concat (tabulate-ext K (λ p. little 4 (start e xs p)) (λ p. part T (4 * p) 4)
      (λ p l. ap (little 4) (start-same p l) ∙ sym (stored s bytes (table_at (wide_of s) p) 4 (omega (arith, size_is s header_ok all)))
      ∙ part_in s T (header_length (wide_of s)) (4 * K) (4 * p) 4 refl (omega arith)))
      ∙ chop 4 K T (length_part s (header_length (wide_of s)) (4 * K) (omega (arith, size_is s header_ok all)))

  abbrev B : Bool
  B = wide_of s

  wide-same : wide (sum xs) ≡ B
  wide-same = ap wide total ∙ headed-wide s bytes header_ok

  long : header_length B ≤ length s
  unfolding headed
  long = leb-true (header_length B) (length s) (each _ header_ok).0

  header-same : header e (length xs) (sum xs) (length (code e xs)) ≡ take (header_length B) s
  unfolding header header_in n_of s_of l_of e_of headed
  header-same =
      let w = each _ header_ok in
      let word : (a n : ℕ) → a + n ≤ length s → little n (number_at s a n) ≡ part s a n = λ a n l. sym (stored s bytes a n l) in
      ap (λ (b : Bool). header_in b e (length xs) (sum xs) (length (code e xs))) wide-same
      ∙ ap₂ (λ (n t : ℕ). header_in B e n t (length (code e xs))) hours-long total ∙ ap (header_in B e (n_of s) (s_of s)) code-long
      ∙ ap₂ ◌++◌ (front-is s (edition B) e (omega (arith, long, header-least B)) (eqb-true (get_or s 0 0) (edition B) w.1.0) refl
      (eqb-true (get_or s 2 0) 0 w.1.1.1.1.0) (eqb-true (get_or s 3 0) 0 w.1.1.1.1.1.0))
      (ap₂ ◌++◌ (word 4 4 (omega (arith, long, header-least B))) (ap₂ ◌++◌ (word 8 (total_width B) (omega (arith, long, total-low B)))
      (ap₂ ◌++◌ (word (bits_place B) 4 (omega (arith, long, header-low B))) (zeros-are s bytes B long w.1.1.1.1.1.1.1.0))))
      ∙ head-parts s B

  pub image-same : image e xs ≡ s
  unfolding image
  image-same =
      ap₂ ◌++◌ header-same (ap₂ ◌++◌ table_same packed-same)
      ∙ ap (λ (z : List ℕ). take (header_length B) s ++ (part s (header_length B) (4 * K) ++ z)) (sym (drop-drop (4 * K) (header_length B) s))
      ∙ ap (λ (z : List ℕ). take (header_length B) s ++ z) (take-append-drop (4 * K) (drop (header_length B) s))
      ∙ take-append-drop (header_length B) s

  pub passing-within : within most xs ≡ true
  unfolding list_of
  passing-within = within-take most (n_of s) Y (within_concat most K (page_of s) (λ p l. page-within s header_ok all p l))

  pub passing-accepted : most ≤ max_count → accepted s ≡ true
  unfolding accepted
  passing-accepted few =
      both header_ok (both (le-leb (sum xs) max_total (omega (arith, total, headed-total s bytes header_ok)))
      (both (within-each max_count xs (λ i. omega (arith, within-at most xs passing-within i))) (ap (same s) image-same ∙ same_refl s)))

-- the code's test is the statement
pub test-is : (most : ℕ) → most ≤ max_count → (s : List ℕ) → ((i : ℕ) → get_or s i 0 < 256) → passes_test most s ≡ (accepted s && within most (list_of s))
test-is most few s bytes =
    agree (passes_test most s) (accepted s && within most (list_of s)) (λ h. both (passing-accepted most s bytes h few) (passing-within most s bytes h))
    (λ t. let a = left (accepted s) (within most (list_of s)) t in
    ap (passes_test most) (accepted-only s a).bytes
    ∙ image-passes-test most (e_of s) (list_of s) (accepted-only s a).limits (right (accepted s) (within most (list_of s)) t))
