-- Busiest, match and books by examples, in the numbers of document 02, notes 1, 7 and 3: what C gets at each border, from both sides, and which
-- of two refusals that fit is answered. `Leaves` says what C gets and what is left of all that a call was lent; under `Asking` nothing of that
-- changes (`ExampleForms`). Assumes nothing.
use mathlib.Core.Bool.{true}
use mathlib.Core.List.{List, [], ◌∷◌, ◌++◌}
use mathlib.Core.Path.{◌≡◌, refl, ap, ◌∙◌}
use Prim.Native.Nat.{ℕ, ◌/◌}
use lib.ListN.{length, replicate, set}
use Rattle.answers.specs.Image.{fails}
use Rattle.image.specs.Check.{check}
use Rattle.book.specs.Book.{decimal, list_of_book}
use Rattle.book.proofs.BookLaws.{length-listed}
use Rattle.hourlog_c.specs.Public.{ImageBusiest, ImageFromBcd, ImageMatch, ImageToBcd}
use Rattle.demands.proofs.ExampleForms.{Asking, Leaves, ◌gives◌, asking, hex, hours, leaves, none, refused, stretch}
use Rattle.demands.proofs.ExampleSearches.{Is, busiest, busiest-fails, match-fails, matched, no-coins-asked, no-hours, too-many-hours}
use Rattle.demands.proofs.ExampleSearches.{unmatched}
use Rattle.demands.proofs.ExamplesImage.{over-2}
use Rattle.demands.proofs.Computing.{the-book, the-image, the-runs}

-- ---- three images, e = 2: document 01's of 1,0,2,0,5; of 3,1,3,1; of 0,0,5. And the first with page 0's root above S, and with another edition
abbrev printed : List ℕ
printed = hex "01 02 00 00 05 00 00 00 08 00 00 00 14 00 00 00 00 00 00 00 09 00 00 00 37 45 A0"

abbrev ties : List ℕ
ties = hex "01 02 00 00 04 00 00 00 08 00 00 00 0E 00 00 00 00 00 00 00 84 6C"

abbrev late : List ℕ
late = hex "01 02 00 00 03 00 00 00 05 00 00 00 0A 00 00 00 00 00 00 00 A2 80"

abbrev damaged : List ℕ
damaged = set printed 24 0xB7

abbrev other_edition : List ℕ
other_edition = set printed 0 2

accepted-so : Is printed (1 ∷ 0 ∷ 2 ∷ 0 ∷ 5 ∷ []) × Is ties (3 ∷ 1 ∷ 3 ∷ 1 ∷ []) × Is late (0 ∷ 0 ∷ 5 ∷ [])
    × (check damaged ≡ fails 6) × (check other_edition ≡ fails 5)
unfolding the-image
accepted-so = (
  record { accepts = refl; says = refl },
  record { accepts = refl; says = refl },
  record { accepts = refl; says = refl },
  refl,
  refl,
)

-- ---- note 1: 'the run of exactly k successive hours with the largest sum: its first hour and its sum, the earliest run on a tie'; '13 if k is 0 or
-- above N', after 5 and 6
abbrev Busiest : List ℕ → ℕ → ℕ → Type 0
Busiest i k w = Leaves (ImageBusiest i k) w (i ∷ [])

pub stretches :
    (Busiest printed 0 (refused 13)
    × Busiest printed 1 (stretch 4 5)
    × Busiest printed 2 (stretch 3 5)
    × Busiest printed 3 (stretch 2 7)
    × Busiest printed 5 (stretch 0 8)
    × Busiest printed 6 (refused 13))
    × (Busiest ties 1 (stretch 0 3) × Busiest ties 2 (stretch 0 4) × Busiest ties 3 (stretch 0 7) × Busiest late 1 (stretch 2 5))
    × (Busiest damaged 0 (refused 6) × Busiest damaged 1 (refused 6) × Busiest other_edition 0 (refused 5))
unfolding the-runs
stretches = (
  (
    no-hours accepted-so.0 refl refl,
    busiest 4 5 accepted-so.0 refl refl refl,
    busiest 3 5 accepted-so.0 refl refl refl,
    busiest 2 7 accepted-so.0 refl refl refl,
    busiest 0 8 accepted-so.0 refl refl refl,
    too-many-hours accepted-so.0 refl refl,
  ),
  (
    busiest 0 3 accepted-so.1 refl refl refl,
    busiest 0 4 accepted-so.1 refl refl refl,
    busiest 0 7 accepted-so.1 refl refl refl,
    busiest 2 5 accepted-so.2 refl refl refl,
  ),
  (
    busiest-fails 6 accepted-so.3 refl,
    busiest-fails 6 accepted-so.3 refl,
    busiest-fails 5 accepted-so.4 refl,
  ),
)

-- ---- note 7: 'a run of successive hours, one at least, with sum exactly q: the earliest first hour, then the fewest hours. Otherwise say none';
-- '17, after 5 and 6, a q of 0'. In 1,0,2,0,5 two coins are hours 1 and 2; in 0,0,5 five coins are hours 0 to 2
abbrev Match : List ℕ → ℕ → ℕ → Type 0
Match i q w = Leaves (ImageMatch i q) w (i ∷ [])

pub bags :
    (Match printed 0 (refused 17)
    × Match printed 1 (hours 0 1)
    × Match printed 2 (hours 1 2)
    × Match printed 3 (hours 0 3)
    × Match printed 4 none
    × Match printed 5 (hours 3 2)
    × Match printed 8 (hours 0 5)
    × Match printed 9 none)
    × (Match ties 3 (hours 0 1) × Match ties 4 (hours 0 2) × Match ties 5 (hours 1 3) × Match late 5 (hours 0 3))
    × (Match damaged 0 (refused 6) × Match damaged 1 (refused 6) × Match other_edition 0 (refused 5))
unfolding the-runs
bags = (
  (
    no-coins-asked accepted-so.0 refl refl,
    matched 0 1 accepted-so.0 refl refl refl,
    matched 1 2 accepted-so.0 refl refl refl,
    matched 0 3 accepted-so.0 refl refl refl,
    unmatched accepted-so.0 refl refl refl,
    matched 3 2 accepted-so.0 refl refl refl,
    matched 0 5 accepted-so.0 refl refl refl,
    unmatched accepted-so.0 refl refl refl,
  ),
  (
    matched 0 1 accepted-so.1 refl refl refl,
    matched 0 2 accepted-so.1 refl refl refl,
    matched 1 3 accepted-so.1 refl refl refl,
    matched 0 3 accepted-so.2 refl refl refl,
  ),
  (
    match-fails 6 accepted-so.3 refl,
    match-fails 6 accepted-so.3 refl,
    match-fails 5 accepted-so.4 refl,
  ),
)

-- ---- note 3: 'two bytes an hour, four digits, high digit first, so ten coins are 00 10 in hexadecimal'
abbrev blank : ℕ → List ℕ
blank n = replicate n 0xFF

-- the images of 10, of 1,234, of 9,999 and of 10,000 coins in one hour
abbrev ten : List ℕ
ten = hex "01 02 00 00 01 00 00 00 0A 00 00 00 0E 00 00 00 00 00 00 00 AA A0"

abbrev digits1234 : List ℕ
digits1234 = hex "01 02 00 00 01 00 00 00 D2 04 00 00 2A 00 00 00 00 00 00 00 9A 53 4A 69 00 00"

abbrev most : List ℕ
most = hex "01 02 00 00 01 00 00 00 0F 27 00 00 36 00 00 00 00 00 00 00 9C 3E 70 F9 C3 C0 00"

abbrev too_many : List ℕ
too_many = hex "01 02 00 00 01 00 00 00 10 27 00 00 36 00 00 00 00 00 00 00 9C 42 71 09 C4 00 00"

-- over, 'with a given e'
pub over :
    Leaves (ImageFromBcd (hex "00 10") 2 (blank 22)) 22 (hex "00 10" ∷ ten ∷ [])
    × Leaves (ImageFromBcd (hex "00 10") 2 (blank 23)) 22 (hex "00 10" ∷ (ten ++ blank 1) ∷ [])
    × Leaves (ImageFromBcd (hex "12 34") 2 (blank 26)) 26 (hex "12 34" ∷ digits1234 ∷ [])
    × Leaves (ImageFromBcd (hex "99 99") 2 (blank 27)) 27 (hex "99 99" ∷ most ∷ [])
    × Leaves (ImageFromBcd (hex "00 01 00 00 00 02 00 00 00 05") 2 (blank 27)) 27 (hex "00 01 00 00 00 02 00 00 00 05" ∷ printed ∷ [])
    × Leaves (ImageFromBcd [] 2 (blank 16)) 16 ([] ∷ hex "01 02 00 00 00 00 00 00 00 00 00 00 00 00 00 00" ∷ [])
unfolding the-book
over = (leaves refl, leaves refl, leaves refl, leaves refl, leaves refl, leaves refl)

-- and back
pub back :
    Leaves (ImageToBcd ten (blank 2)) 2 (ten ∷ hex "00 10" ∷ [])
    × Leaves (ImageToBcd ten (blank 3)) 2 (ten ∷ hex "00 10 FF" ∷ [])
    × Leaves (ImageToBcd digits1234 (blank 2)) 2 (digits1234 ∷ hex "12 34" ∷ [])
    × Leaves (ImageToBcd most (blank 2)) 2 (most ∷ hex "99 99" ∷ [])
    × Leaves (ImageToBcd printed (blank 10)) 10 (printed ∷ hex "00 01 00 00 00 02 00 00 00 05" ∷ [])
unfolding the-book
back = (leaves refl, leaves refl, leaves refl, leaves refl, leaves refl)

-- 'with 14, after 1 and before 2, a book of odd length or with a digit above 9', in either half of either byte; then 4
pub over-refused :
    Asking
    (ImageFromBcd (hex "00 10") 1 [] gives refused 1
    ∷ ImageFromBcd (hex "00 10") 9 [] gives refused 1
    ∷ ImageFromBcd (hex "00 1A") 9 [] gives refused 1
    ∷ ImageFromBcd (hex "00") 2 [] gives refused 14
    ∷ ImageFromBcd (hex "00 10 00") 2 (blank 99) gives refused 14
    ∷ ImageFromBcd (hex "00 09") 2 [] gives refused 4
    ∷ ImageFromBcd (hex "00 0A") 2 [] gives refused 14
    ∷ ImageFromBcd (hex "00 90") 2 [] gives refused 4
    ∷ ImageFromBcd (hex "00 A0") 2 [] gives refused 14
    ∷ ImageFromBcd (hex "09 00") 2 [] gives refused 4
    ∷ ImageFromBcd (hex "0A 00") 2 [] gives refused 14
    ∷ ImageFromBcd (hex "90 00") 2 [] gives refused 4
    ∷ ImageFromBcd (hex "A0 00") 2 [] gives refused 14
    ∷ ImageFromBcd (hex "00 10 00 10 00 1A") 2 [] gives refused 14
    ∷ ImageFromBcd (hex "00 10") 8 [] gives refused 4
    ∷ ImageFromBcd (hex "00 10") 2 (blank 21) gives refused 4
    ∷ [])
unfolding the-book
over-refused = asking refl

-- 2 for more than 65,536 hours, in any buffer: 65,537 have 131,074 bytes. A byte more, and 14 comes first; and 1 before both
module _ (b out : List ℕ) where
  pub any-book : Leaves (ImageFromBcd b 9 out) (refused 1) (b ∷ out ∷ [])
  unfolding the-book
  any-book = leaves refl

  pub long-book : length b ≡ 131074 → decimal b ≡ true → Leaves (ImageFromBcd b 2 out) (refused 2) (b ∷ out ∷ [])
  unfolding the-book
  long-book l d =
      let e : length (list_of_book b) ≡ 65537 = length-listed b ∙ ap (λ (n : ℕ). n / 2) l in
      leaves (rw (d, over-2 2 (list_of_book b) refl e))

  pub long-odd-book : length b ≡ 131075 → Leaves (ImageFromBcd b 2 out) (refused 14) (b ∷ out ∷ [])
  unfolding the-book
  long-odd-book l = leaves (rw l)

-- 'and with 15, after 5 and 6 and before 4, which comes last here, an image with a count above 9999'
pub back-refused :
    Asking
    (ImageToBcd too_many [] gives refused 15
    ∷ ImageToBcd too_many (blank 2) gives refused 15
    ∷ ImageToBcd most (blank 1) gives refused 4
    ∷ ImageToBcd printed (blank 9) gives refused 4
    ∷ ImageToBcd (set too_many 0 2) [] gives refused 5
    ∷ ImageToBcd (set too_many 26 1) [] gives refused 6
    ∷ ImageToBcd damaged [] gives refused 6
    ∷ [])
unfolding the-book
back-refused = asking refl
