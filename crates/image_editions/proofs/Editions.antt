-- Edition 1 is as it was. Assumes nothing.
use mathlib.Core.Bool.{Bool, true, false, ◌&&◌}
use mathlib.Core.List.{List, [], ◌∷◌}
use mathlib.Core.Path.{◌≡◌, refl, sym, ap, ap₂, ◌∙◌}
use Prim.Native.Nat.{ℕ, zero, suc, ◌+◌, ◌*◌, ◌/◌, ◌≤◌}
use native.Mathlib.Omega.{arith}
use lib.ListN.{length, get_or}
use lib.Dec.{leb, ltb, eqb}
use borrow.Author.Tests.{le-leb, le-ltb, leb-true, ltb-false, ne_eqb}
use Rattle.lists.specs.Counts.{max_count, within}
use Rattle.lists.proofs.CountLaws.{within-sum}
use Rattle.answers.specs.Image.{fails, given, holds, refused}
use Rattle.lists.specs.Lists.{every, pick, same, sum}
use Rattle.lists.proofs.Tests.{agree, both, left, right, same-is}
use Rattle.bits.specs.Numbers.{little, number_at}
use Rattle.tree.specs.Read.{Found, damaged, found}
use Rattle.image.specs.Calls.{length_call, put_after, write_call}
use Rattle.image.specs.Check.{accepted, check, headed, wide_right}
use Rattle.image.specs.Image.{bytes_for, code_start, edition, header, header_in, header_length, image, max_total, narrow_total, pages, size, table_at, total_width}
use Rattle.image.specs.Image.{bits_place, wide}
use Rattle.image.specs.Query.{count, ended, look, reading, reading_at, the_count, the_reading}
use Rattle.image.specs.Read.{code_at, e_of, l_of, list_of, n_of, page_count_of, s_of, start_of, wide_of}
use Rattle.image.proofs.HeadLaws.{headed-long, word-most}
use Rattle.image.proofs.Editions.{header-least}
use Rattle.image.proofs.ReadLaws.{wide_is}
use Rattle.tree.proofs.WalkLaws.{Most}
use Rattle.image.proofs.QueryLaws.{look-most}
use Rattle.image_editions.specs.Edition1.{Bytes, Edition1, First, accepted1, headed1, image1, reading_at1}

-- ---- the writer
narrow : (t : ℕ) → t ≤ 4294967295 → wide t ≡ false
unfolding wide
narrow t l = le-ltb narrow_total t l

image-is : (e : ℕ) (xs : List ℕ) → sum xs ≤ 4294967295 → image e xs ≡ image1 e xs
unfolding image header header_in little
image-is e xs l = rw (narrow (sum xs) l) refl

length-is : (e : ℕ) (xs : List ℕ) → sum xs ≤ 4294967295
    → length_call e xs
    ≡ pick (leb 2 e && leb e 8) (pick (leb (length xs) 65536) (pick (leb (sum xs) 4294967295) (given (length (image1 e xs))) (refused 3)) (refused 2)) (refused 1)
unfolding length_call pick
length-is e xs l =
    ap (λ (b : Bool). pick (leb 2 e && leb e 8) (pick (leb (length xs) 65536) (pick b (given (length (image e xs))) (refused 3)) (refused 2)) (refused 1))
    (le-leb (sum xs) max_total (omega arith) ∙ sym (le-leb (sum xs) 4294967295 l))
    ∙ ap (λ (i : List ℕ). pick (leb 2 e && leb e 8) (pick (leb (length xs) 65536) (pick (leb (sum xs) 4294967295) (given (length i)) (refused 3)) (refused 2)) (refused 1))
    (image-is e xs l)

write-is : (e : ℕ) (xs out : List ℕ) → sum xs ≤ 4294967295 → write_call e xs out ≡ put_after (length_call e xs) out (image1 e xs)
unfolding write_call
write-is e xs out l = ap (put_after (length_call e xs) out) (image-is e xs l)

-- ---- what bytes say
first : (s : List ℕ) → First s → wide_of s ≡ false
unfolding wide_of
first s f = ne_eqb (get_or s 0 0) 2 f

total-is : (s : List ℕ) → First s → s_of s ≡ number_at s 8 4
unfolding s_of
total-is s f = ap (λ (b : Bool). number_at s 8 (total_width b)) (first s f)

bits_are : (s : List ℕ) → First s → l_of s ≡ number_at s 12 4
unfolding l_of
bits_are s f = ap (λ (b : Bool). number_at s (bits_place b) 4) (first s f)

start_is : (s : List ℕ) → First s → (p : ℕ) → start_of s p ≡ number_at s (16 + 4 * p) 4
unfolding start_of
start_is s f p = ap (λ (b : Bool). number_at s (table_at b p) 4) (first s f)

code_is : (s : List ℕ) → First s → code_at s ≡ 8 * (16 + 4 * page_count_of s)
unfolding code_at
code_is s f = ap (λ (b : Bool). code_start b (page_count_of s)) (first s f)

-- ---- refusal 5
abbrev tests : List ℕ → Bool → ℕ → List Bool
tests s b l =
    leb (header_length b) (length s) ∷ eqb (get_or s 0 0) (edition b) ∷ leb 2 (get_or s 1 0) ∷ leb (get_or s 1 0) 8 ∷ eqb (get_or s 2 0) 0 ∷ eqb (get_or s 3 0) 0
    ∷ leb (number_at s 4 4) 65536 ∷ wide_right b s ∷ eqb (length s) (table_at b (pages (get_or s 1 0) (number_at s 4 4)) + (l + 7) / 8) ∷ []

headed-is : (s : List ℕ) → First s → headed s ≡ headed1 s
unfolding headed size bytes_for e_of n_of wide_right every
headed-is s f = ap₂ (λ (b : Bool) (l : ℕ). every (tests s b l)) (first s f) (bits_are s f)

-- ---- refusal 6
module _ (s : List ℕ) (bytes : Bytes s) (f : First s) where
  abbrev xs : List ℕ
  xs = list_of s

  abbrev e : ℕ
  e = e_of s

  -- an image of edition 1 has a total of edition 1
  image-narrow : s ≡ image e xs → sum xs ≤ 4294967295
  unfolding wide
  image-narrow q = ltb-false narrow_total (sum xs) (sym (wide_is e xs) ∙ ap wide_of (sym q) ∙ first s f)

  accepted-by : accepted s ≡ (headed s && (leb (sum xs) 4294967295 && same s (image1 e xs)))
  unfolding accepted
  accepted-by = agree (accepted s) (headed s && (leb (sum xs) 4294967295 && same s (image1 e xs))) over back
    where
      over : accepted s ≡ true → (headed s && (leb (sum xs) 4294967295 && same s (image1 e xs))) ≡ true
      over h =
          let r = right (headed s) _ h in
          let q = right (within max_count xs) (same s (image e xs)) (right (leb (sum xs) max_total) _ r) in
          let l = image-narrow (same-is s (image e xs) q) in
          both (left (headed s) _ h) (both (le-leb (sum xs) 4294967295 l) (ap (same s) (sym (image-is e xs l)) ∙ q))

      back : (headed s && (leb (sum xs) 4294967295 && same s (image1 e xs))) ≡ true → accepted s ≡ true
      back h =
          let r = right (headed s) _ h in
          let l = leb-true (sum xs) 4294967295 (left (leb (sum xs) 4294967295) (same s (image1 e xs)) r) in
          both (left (headed s) _ h)
          (both (le-leb (sum xs) max_total (omega arith))
          (both (within-sum max_count xs l) (ap (same s) (image-is e xs l) ∙ right (leb (sum xs) 4294967295) (same s (image1 e xs)) r)))

  accepted-is : accepted s ≡ accepted1 s
  accepted-is = accepted-by ∙ ap (λ (b : Bool). b && (leb (sum xs) 4294967295 && same s (image1 e xs))) (headed-is s f)

  check-is : check s ≡ pick (headed1 s) (pick (accepted1 s) (holds (n_of s) (number_at s 8 4)) (fails 6)) (fails 5)
  unfolding check
  check-is =
      ap₂ (λ (b c : Bool). pick b (pick c (holds (n_of s) (s_of s)) (fails 6)) (fails 5)) (headed-is s f) accepted-is
      ∙ ap (λ (t : ℕ). pick (headed1 s) (pick (accepted1 s) (holds (n_of s) t) (fails 6)) (fails 5)) (total-is s f)

  -- ---- count and reading
  total-low : headed s ≡ true → s_of s ≤ 4294967295
  total-low h = omega (arith, total-is s f, word-most s bytes 8 (omega (arith, headed-long s h, header-least (wide_of s))))

  few : (t : ℕ) (g : Found) → Most t g → t ≤ max_count → ended g ≡ g
  unfolding ended pick
  few t damaged m l = refl
  few t (found x c) m l = rw (le-leb c max_count (omega arith)) refl

  same-look : headed s ≡ true → (i : ℕ) → ended (look s i) ≡ look s i
  same-look h i = few (s_of s) (look s i) (look-most s i) (total-low h)

  count-is : (i : ℕ) → count s i ≡ pick (headed s) (pick (leb (n_of s) i) (refused 7) (the_count (look s i))) (refused 5)
  unfolding count pick
  count-is i = go (headed s) refl
    where
      go : (b : Bool) → headed s ≡ b
          → pick b (pick (leb (n_of s) i) (refused 7) (the_count (ended (look s i)))) (refused 5) ≡ pick b (pick (leb (n_of s) i) (refused 7) (the_count (look s i))) (refused 5)
      go true h = ap (λ (g : Found). pick (leb (n_of s) i) (refused 7) (the_count g)) (same-look h i)
      go false h = refl

  at-is : headed s ≡ true → (i : ℕ) → reading_at s i ≡ reading_at1 s i
  unfolding reading_at reading_at1
  at-is h zero = refl
  at-is h (suc i) = ap the_reading (same-look h i)

  reading-is : (i : ℕ) → reading s i ≡ pick (headed s) (pick (ltb (n_of s) i) (refused 7) (reading_at1 s i)) (refused 5)
  unfolding reading pick
  reading-is i = go (headed s) refl
    where
      go : (b : Bool) → headed s ≡ b
          → pick b (pick (ltb (n_of s) i) (refused 7) (reading_at s i)) (refused 5) ≡ pick b (pick (ltb (n_of s) i) (refused 7) (reading_at1 s i)) (refused 5)
      go true h = ap (pick (ltb (n_of s) i) (refused 7)) (at-is h i)
      go false h = refl

pub edition-1 : Edition1
edition-1 = record {
  image-is = image-is;
  length-is = length-is;
  write-is = write-is;
  total-is = total-is;
  bits_are = bits_are;
  start_is = start_is;
  code_is = code_is;
  headed-is = headed-is;
  accepted-is = accepted-is;
  check-is = check-is;
  count-is = count-is;
  reading-is = reading-is;
}
