-- Document 01, 'Where a call is turned down': refusals 5 and 6 of check. Assumes nothing.
use Rattle.std.specs.Prelude.{Bool, true, false, ◌&&◌, List, [], ◌∷◌, ◌++◌, ℕ, length, get_or, leb, ltb, eqb}
use Rattle.lists.specs.Counts.{max_count, within}
use Rattle.answers.specs.Refusals.{body_damaged, header_wrong}
use Rattle.lists.specs.Lists.{sum, pick, every, same}
use Rattle.bits.specs.Numbers.{number_at}
use Rattle.answers.specs.Image.{Verdict, fails, holds}
use Rattle.image.specs.Image.{edition, header_length, image, max_hours, max_total, narrow_total, size}
use Rattle.image.specs.Read.{e_of, n_of, s_of, l_of, list_of, wide_of}

-- edition 2: 'S not from 2^32 to 2^40 - 1' is refusal 5, and so are other bytes than '20-23 zero'
unfoldable pub wide_right : Bool → List ℕ → Bool
wide_right false s = true
wide_right true s = every (ltb narrow_total (s_of s) ∷ leb (s_of s) max_total ∷ eqb (number_at s 20 4) 0 ∷ [])

-- not 'edition, e, zero bytes or N wrong'
abbrev pub field_tests : List ℕ → List Bool
field_tests s =
    eqb (get_or s 0 0) (edition (wide_of s))
    ∷ leb 2 (e_of s)
    ∷ leb (e_of s) 8
    ∷ eqb (get_or s 2 0) 0
    ∷ eqb (get_or s 3 0) 0
    ∷ leb (n_of s) max_hours
    ∷ wide_right (wide_of s) s
    ∷ []

-- not refusal 5: 'under 16 bytes', or 'Edition 2 under 24 bytes', those, 'byte length not the one N, e and L give'
abbrev pub head_tests : List ℕ → List Bool
head_tests s = leb (header_length (wide_of s)) (length s) ∷ (field_tests s ++ (eqb (length s) (size (wide_of s) (e_of s) (n_of s) (l_of s)) ∷ []))

unfoldable pub headed : List ℕ → Bool
headed s = every (head_tests s)

-- not refusal 6, 'not the writer's bytes': the list that the bytes say has an image, all of it are counts, and the bytes are that image
unfoldable pub accepted : List ℕ → Bool
accepted s = headed s && (leb (sum (list_of s)) max_total && (within max_count (list_of s) && same s (image (e_of s) (list_of s))))

-- 'check (returns N and S)', or a refusal
unfoldable pub check : List ℕ → Verdict
check s = pick (headed s) (pick (accepted s) (holds (n_of s) (s_of s)) (fails body_damaged)) (fails header_wrong)
