-- What the functions ask and answer. The list xs stands nowhere in the code: it is the one whose pages a caller hands over.
-- Assumes nothing.
use Rattle.std.specs.Prelude.{Bool, List, ◌∷◌, ◌++◌, ◌≡◌, ℕ, ◌-◌, ◌*◌, ◌^◌, ◌≤◌, ◌<◌, length, get_or}
use Rattle.lists.specs.Lists.{concat, reading, splice, sum, tabulate, window}
use Rattle.bits.specs.Bits.{bits}
use Rattle.bits.specs.Numbers.{little}
use Rattle.image.specs.Image.{Limits, code, code_start, first_pages, header, header_length, image, max_hours, page, pages, start, table, total_width, wide, zero_bytes}
use Rattle.image_plan.specs.Code.Planning.{LayoutOf}
use Rattle.image_plan.specs.declared.Layout.{Layout}
use Rattle.image_put.specs.declared.Place.{Place}

-- the start bits of the first k pages
abbrev pub starts : ℕ → List ℕ → ℕ → List ℕ
starts e xs k = concat (tabulate k (λ p. little 4 (start e xs p)))

-- the header's bytes 0 to 7, and the tail behind them
abbrev pub head_front : ℕ → ℕ → ℕ → List ℕ
head_front edition e n = edition ∷ e ∷ 0 ∷ 0 ∷ little 4 n

abbrev pub head_tail : Bool → ℕ → ℕ → List ℕ
head_tail b s l = little (total_width b) s ++ (little 4 l ++ little (zero_bytes b) 0)

-- how long the header of the image of xs is, and where its code starts
abbrev pub head_length : List ℕ → ℕ
head_length xs = header_length (wide (sum xs))

abbrev pub code_of : ℕ → List ℕ → ℕ
code_of e xs = code_start (wide (sum xs)) (pages e (length xs))

-- the bits b after the first k pages were put: start bits behind the header, code behind the whole table
unfoldable pub laid : List ℕ → ℕ → List ℕ → ℕ → List ℕ
laid b e xs k = splice (splice b (8 * head_length xs) (bits (starts e xs k))) (code_of e xs) (first_pages e xs k)

-- the bits of an image behind its header, but for the zeros that fill its last byte
abbrev pub table_and_code : ℕ → List ℕ → List ℕ
table_and_code e xs = bits (table e xs) ++ code e xs

-- the buffer out has room for the image of xs, whose layout is r
pub record Room (xs : List ℕ) (r : Layout) (out : List ℕ) : Type 0 where
  pub limits : Limits r.e xs
  pub layout : LayoutOf r.e xs r
  pub enough : length (image r.e xs) ≤ length out

-- a page's place: its start bit, and the sum of the counts before it
pub record PlaceOf (e : ℕ) (xs : List ℕ) (at : Place) : Type 0 where
  pub start_is : at.start ≡ start e xs at.page
  pub before-is : at.before ≡ reading xs (2 ^ e * at.page)

-- the header and the pages before at stand in the buffer out, which was first
pub record Laid (xs first out : List ℕ) (r : Layout) (at : Place) : Type 0 where
  pub room : Room xs r first
  pub bytes : (i : ℕ) → get_or first i 0 < 256
  pub long : length out ≡ length first
  pub place : PlaceOf r.e xs at
  pub most : at.page ≤ r.pages
  pub bits_are : bits out ≡ laid (bits (splice first 0 (header r.e r.hours r.total r.bits))) r.e xs at.page

-- ---- what a step asks: there is a list ..
-- .. for whose image there is room
pub record Roomy (r : Layout) (out : List ℕ) : Type 0 where
  pub xs : List ℕ
  pub room : Room xs r out

-- .. whose pages stand there so far, and the counts from index from on are those of the next
pub record Handed (r : Layout) (at : Place) (counts : List ℕ) (from : ℕ) (out : List ℕ) : Type 0 where
  pub xs : List ℕ
  pub first : List ℕ
  pub so_far : Laid xs first out r at
  pub more : at.page < r.pages
  pub counts-are : window counts from (2 ^ r.e) ≡ page r.e xs at.page
  pub near : from ≤ max_hours

-- .. whose pages before block k of 256 hours stand there, and the counts are those of block k, which has pages
pub record Blocked (r : Layout) (k : ℕ) (at : Place) (counts out : List ℕ) : Type 0 where
  pub xs : List ℕ
  pub first : List ℕ
  pub so_far : Laid xs first out r at
  pub more : at.page < r.pages
  pub at-is : at.page ≡ 2 ^ (8 - r.e) * k
  pub counts-are : counts ≡ window xs (256 * k) 256

-- .. all of whose pages stand there
pub record Filled (r : Layout) (out : List ℕ) : Type 0 where
  pub xs : List ℕ
  pub first : List ℕ
  pub at : Place
  pub so_far : Laid xs first out r at
  pub all : r.pages ≤ at.page
