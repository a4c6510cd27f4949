-- What edition 1 is, with edition 2 beside it: as before, byte for byte and answer for answer. Each definition that moved is what it was for
-- bytes whose byte 0 is not 2, and for lists whose total is at most 4,294,967,295; no other definition of an image moved: reach, busiest, match and
-- books speak of bytes through these. Assumes nothing.
use Rattle.std.specs.Prelude.{Bool, ◌&&◌, List, [], ◌∷◌, ◌++◌, ◌≡◌, ℕ, zero, suc, ◌+◌, ◌*◌, ◌/◌, ◌≤◌, ◌<◌, length, get_or, leb, ltb, eqb}
use Rattle.answers.specs.Refusals.{body_damaged, header_wrong, list_too_long, not_logged, page_size_wrong, total_too_high}
use Rattle.answers.specs.Image.{Reply, fails, given, holds, refused}
use Rattle.lists.specs.Lists.{every, pick, same, sum}
use Rattle.bits.specs.Numbers.{little, number_at}
use Rattle.image.specs.Calls.{length_call, put_after, write_call}
use Rattle.image.specs.Check.{accepted, check, headed}
use Rattle.image.specs.Image.{code, image, packed, pages, table}
use Rattle.image.specs.Query.{count, look, reading, the_count, the_reading}
use Rattle.image.specs.Read.{code_at, e_of, l_of, list_of, n_of, page_count_of, s_of, start_of}

-- bytes
abbrev pub Bytes : List ℕ → Type 0
Bytes s = (i : ℕ) → get_or s i 0 < 256

-- of edition 1, or of none
abbrev pub First : List ℕ → Type 0
First s = get_or s 0 0 ≡ 2 → ⊥

-- the image of a list, as it was: 'Header, 16 bytes: 0 is 1 (edition), 1 is e, 2-3 zero, 4-7 N, 8-11 total S, 12-15 L, the bits of code'
abbrev pub image1 : ℕ → List ℕ → List ℕ
image1 e xs =
    (1 ∷ e ∷ 0 ∷ 0 ∷ (little 4 (length xs) ++ (little 4 (sum xs) ++ little 4 (length (code e xs))))) ++ (table e xs ++ packed (code e xs))

-- refusal 5, as it was
abbrev pub headed1 : List ℕ → Bool
headed1 s =
    every
    (leb 16 (length s)
    ∷ eqb (get_or s 0 0) 1
    ∷ leb 2 (get_or s 1 0)
    ∷ leb (get_or s 1 0) 8
    ∷ eqb (get_or s 2 0) 0
    ∷ eqb (get_or s 3 0) 0
    ∷ leb (number_at s 4 4) 65536
    ∷ eqb (length s) (16 + 4 * pages (get_or s 1 0) (number_at s 4 4) + (number_at s 12 4 + 7) / 8)
    ∷ [])

-- refusal 6 of check, as it was
abbrev pub accepted1 : List ℕ → Bool
accepted1 s = headed1 s && (leb (sum (list_of s)) 4294967295 && same s (image1 (e_of s) (list_of s)))

-- the reading at i, as it was
unfoldable pub reading_at1 : List ℕ → ℕ → Reply
reading_at1 s zero = given 0
reading_at1 s (suc i) = the_reading (look s i)

pub record Edition1 : Type 0 where
  -- the writer
  pub image-is : (e : ℕ) (xs : List ℕ) → sum xs ≤ 4294967295 → image e xs ≡ image1 e xs
  pub length-is : (e : ℕ) (xs : List ℕ) → sum xs ≤ 4294967295
      → length_call e xs
      ≡ pick (leb 2 e && leb e 8)
      (pick (leb (length xs) 65536) (pick (leb (sum xs) 4294967295) (given (length (image1 e xs))) (refused total_too_high)) (refused list_too_long))
      (refused page_size_wrong)
  pub write-is : (e : ℕ) (xs out : List ℕ) → sum xs ≤ 4294967295 → write_call e xs out ≡ put_after (length_call e xs) out (image1 e xs)
  -- what bytes say
  pub total-is : (s : List ℕ) → First s → s_of s ≡ number_at s 8 4
  pub bits_are : (s : List ℕ) → First s → l_of s ≡ number_at s 12 4
  pub start_is : (s : List ℕ) → First s → (p : ℕ) → start_of s p ≡ number_at s (16 + 4 * p) 4
  pub code_is : (s : List ℕ) → First s → code_at s ≡ 8 * (16 + 4 * page_count_of s)
  -- refusals 5 and 6 of check
  pub headed-is : (s : List ℕ) → First s → headed s ≡ headed1 s
  pub accepted-is : (s : List ℕ) → Bytes s → First s → accepted s ≡ accepted1 s
  pub check-is : (s : List ℕ) → Bytes s → First s
      → check s ≡ pick (headed1 s) (pick (accepted1 s) (holds (n_of s) (number_at s 8 4)) (fails body_damaged)) (fails header_wrong)
  -- count and reading: no hour of edition 1 has a count above 4,294,967,295
  pub count-is : (s : List ℕ) → Bytes s → First s → (i : ℕ)
      → count s i ≡ pick (headed s) (pick (leb (n_of s) i) (refused not_logged) (the_count (look s i))) (refused header_wrong)
  pub reading-is : (s : List ℕ) → Bytes s → First s → (i : ℕ)
      → reading s i ≡ pick (headed s) (pick (ltb (n_of s) i) (refused not_logged) (reading_at1 s i)) (refused header_wrong)
