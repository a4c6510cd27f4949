-- The calls that make an image: what they answer, and the bytes afterwards. Assumes nothing.
use Rattle.std.specs.Prelude.{◌&&◌, List, ◌++◌, ℕ, length, drop, leb}
use Rattle.answers.specs.Refusals.{buffer_short, list_too_long, page_size_wrong, total_too_high}
use Rattle.lists.specs.Lists.{sum, pick}
use Rattle.image.specs.Image.{image, max_hours, max_total}
use Rattle.answers.specs.Image.{Reply, Verdict, fails, given, holds, refused, told}
use Rattle.std.specs.Prelude.{Result as Answer}
use Rattle.answers.specs.declared.refusal.Refusal.{Refusal}

-- length: 1, 'e outside 2 to 8'; 2, 'over 65,536 counts'; 3, the total 'above 2^40 - 1'; else 'the image's length in bytes'
unfoldable pub length_call : ℕ → List ℕ → Reply
length_call e xs =
    pick (leb 2 e && leb e 8)
    (pick (leb (length xs) max_hours) (pick (leb (sum xs) max_total) (given (length (image e xs))) (refused total_too_high)) (refused list_too_long))
    (refused page_size_wrong)

-- what a call that writes answers, and its buffer afterwards
pub record Result : Type 0 where
  pub reply : Reply
  pub bytes : List ℕ

-- the code's answer in document 01's numbers, with the buffer
abbrev pub result_of : Answer ℕ Refusal → List ℕ → Result
result_of a out = record { reply = told a; bytes = out }

-- 'A refusal is its number alone; no byte changes.'
unfoldable pub unwritten : List ℕ → ℕ → Result
unwritten out k = record { reply = refused k; bytes = out }

-- an image into a buffer: 4, 'shorter than the image'; 'Bytes beyond the image are left unchanged.'
unfoldable pub put : List ℕ → List ℕ → Result
put out i = pick (leb (length i) (length out)) (record { reply = given (length i); bytes = i ++ drop (length i) out }) (unwritten out buffer_short)

-- past the refusals of length
unfoldable pub put_after : Reply → List ℕ → List ℕ → Result
put_after (given n) out i = put out i
put_after (refused k) out i = unwritten out k

-- past the refusals of a check: '5 and 6 of an image that must be accepted are those of the full check'
unfoldable pub past : Verdict → List ℕ → Result → Result
past (holds n t) out r = r
past (fails k) out r = unwritten out k

-- write: the refusals of length, then 4
unfoldable pub write_call : ℕ → List ℕ → List ℕ → Result
write_call e xs out = put_after (length_call e xs) out (image e xs)
