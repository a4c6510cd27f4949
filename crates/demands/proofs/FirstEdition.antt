-- Edition 1, with edition 2 beside it, gives C what it gave before: every field of the claim `Edition1`, used. Bytes are those whose byte 0 is not
-- 2, lists those of 4,294,967,295 coins at most. Assumes nothing.
use mathlib.Core.Bool.{Bool, true, ◌&&◌}
use mathlib.Core.List.{List, [], ◌∷◌}
use mathlib.Core.Logic.{◌↔◌}
use mathlib.Core.Path.{◌≡◌, sym, ap, ◌∙◌}
use Prim.Native.Nat.{ℕ, ◌+◌, ◌*◌, ◌≤◌}
use lib.Dec.{leb, ltb}
use lib.ListN.{length}
use Rattle.answers.specs.Image.{Reply, Verdict, fails, given, holds, refused}
use Rattle.lists.specs.Lists.{pick, sum}
use Rattle.bits.specs.Numbers.{number_at}
use Rattle.image.specs.Calls.{Result, length_call, put_after}
use Rattle.image.specs.Image.{IsImage}
use Rattle.image.specs.Query.{look, the_count}
use Rattle.image.specs.Read.{code_at, l_of, n_of, page_count_of, s_of, start_of}
use Rattle.image_editions.specs.Edition1.{Bytes, First, accepted1, headed1, image1, reading_at1}
use Rattle.image_editions.proofs.Editions.{edition-1}
use Rattle.words.specs.End.{end_of_check, end_of_image}
use Rattle.words.specs.Words.{word_of}
use Rattle.hourlog_c.specs.Export.{Answers}
use Rattle.hourlog_c.specs.Public.{ImageCheck, ImageCount, ImageLength, ImageReading, ImageWrite}
use Rattle.demands.proofs.Demand2.{demand-2}

-- ---- lists
module _ (e : ℕ) (xs : List ℕ) (few : sum xs ≤ 4294967295) (w : ℕ) (t : List (List ℕ)) where
  pub image-kept : (s : List ℕ) → IsImage s e xs → s ≡ image1 e xs
  image-kept s i = i.bytes ∙ edition-1.image-is e xs few

  pub length-kept : Answers (ImageLength xs e) w t
      → w
      ≡ word_of (end_of_image
      (pick (leb 2 e && leb e 8)
      (pick (leb (length xs) 65536) (pick (leb (sum xs) 4294967295) (given (length (image1 e xs))) (refused 3)) (refused 2))
      (refused 1)))
  length-kept a = a.word ∙ ap word_of a.ends.0 ∙ ap (λ (r : Reply). word_of (end_of_image r)) (edition-1.length-is e xs few)

  pub write_kept : (out : List ℕ) → Answers (ImageWrite xs e out) w t
      → (w ≡ word_of (end_of_image (put_after (length_call e xs) out (image1 e xs)).reply)) × (t ≡ xs ∷ (put_after (length_call e xs) out (image1 e xs)).bytes ∷ [])
  write_kept out a =
      let q = edition-1.write-is e xs out few in
      (a.word ∙ ap word_of a.ends.0 ∙ ap (λ (r : Result). word_of (end_of_image r.reply)) q, a.ends.1 ∙ ap (λ (r : Result). xs ∷ r.bytes ∷ []) q)

-- ---- bytes
module _ (s : List ℕ) (bytes : Bytes s) (f : First s) where
  pub fields-kept : (p : ℕ)
      → (s_of s ≡ number_at s 8 4) × (l_of s ≡ number_at s 12 4) × (start_of s p ≡ number_at s (16 + 4 * p) 4) × (code_at s ≡ 8 * (16 + 4 * page_count_of s))
  fields-kept p = (edition-1.total-is s f, edition-1.bits_are s f, edition-1.start_is s f p, edition-1.code_is s f)

  pub accepted-kept : (accepted1 s ≡ true) ↔ ((e : ℕ) × (xs : List ℕ) × IsImage s e xs)
  accepted-kept =
      let d = demand-2.accepted-when s in
      let q = edition-1.accepted-is s bytes f in
      (λ y. d.0 (q ∙ y), λ y. sym q ∙ d.1 y)

  module _ (w : ℕ) (t : List (List ℕ)) where
    pub check-kept : Answers (ImageCheck s) w t
        → w ≡ word_of (end_of_check (pick (headed1 s) (pick (accepted1 s) (holds (n_of s) (number_at s 8 4)) (fails 6)) (fails 5)))
    check-kept a = a.word ∙ ap word_of a.ends.0 ∙ ap (λ (v : Verdict). word_of (end_of_check v)) (edition-1.check-is s bytes f)

    pub count_kept : (i : ℕ) → Answers (ImageCount s i) w t
        → w ≡ word_of (end_of_image (pick (headed1 s) (pick (leb (n_of s) i) (refused 7) (the_count (look s i))) (refused 5)))
    count_kept i a =
        a.word ∙ ap word_of a.ends.0 ∙ ap (λ (r : Reply). word_of (end_of_image r)) (edition-1.count-is s bytes f i)
        ∙ ap (λ (b : Bool). word_of (end_of_image (pick b (pick (leb (n_of s) i) (refused 7) (the_count (look s i))) (refused 5)))) (edition-1.headed-is s f)

    pub reading-kept : (i : ℕ) → Answers (ImageReading s i) w t
        → w ≡ word_of (end_of_image (pick (headed1 s) (pick (ltb (n_of s) i) (refused 7) (reading_at1 s i)) (refused 5)))
    reading-kept i a =
        a.word ∙ ap word_of a.ends.0 ∙ ap (λ (r : Reply). word_of (end_of_image r)) (edition-1.reading-is s bytes f i)
        ∙ ap (λ (b : Bool). word_of (end_of_image (pick b (pick (ltb (n_of s) i) (refused 7) (reading_at1 s i)) (refused 5)))) (edition-1.headed-is s f)
