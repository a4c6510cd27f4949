-- What the functions ask and answer. The list xs stands nowhere in the code: it is the one whose page sums a caller adds.
-- Assumes nothing.
use Rattle.std.specs.Prelude.{List, ◌≡◌, ℕ, ◌+◌, ◌*◌, ◌^◌, ◌≤◌, ◌<◌, length, Result, Ok, Err}
use Rattle.lists.specs.Lists.{reading, sum}
use Rattle.reserve.specs.Reserve.{digits}
use Rattle.image.specs.Calls.{length_call}
use Rattle.image.specs.Image.{Limits, code, code_start, header_length, max_hours, page, pages, start, wide}
use Rattle.answers.specs.Image.{refused}
use Rattle.answers.specs.Number.{number}
use Rattle.answers.specs.declared.refusal.Refusal.{Refusal}
use Rattle.answers.specs.declared.refusal.Refusal.TheVariants.{Buffer}
use Rattle.image_plan.specs.declared.Layout.{Layout}
use Rattle.image_plan.specs.declared.Plan.{Plan}

-- ---- a plan
-- the first p pages were added: the sum of their counts, and the bits of their trees
pub record Passed (e : ℕ) (xs : List ℕ) (p total trees : ℕ) : Type 0 where
  pub total-is : total ≡ reading xs (2 ^ e * p)
  pub bits_are : p * digits (sum xs) + trees ≡ start e xs p
  pub total-most : total ≤ 1099511627775 * p
  pub trees-most : trees ≤ 8960 * p

-- r is a plan of the image of xs, pages of 2^e, with so many of its pages added
pub record Drafted (e : ℕ) (xs : List ℕ) (r : Plan) : Type 0 where
  pub e-low : 2 ≤ e
  pub e-high : e ≤ 8
  pub short : length xs ≤ max_hours
  pub e-is : r.e ≡ e
  pub hours-are : r.hours ≡ length xs
  pub pages-are : r.pages ≡ pages e (length xs)
  pub done-le : r.done ≤ r.pages
  pub passed : Passed e xs r.done r.total r.trees

-- a plan with no page yet, of every list of n counts; else the refusal of length for each of them
abbrev pub Begun : ℕ → ℕ → Result Plan Refusal → Type 0
Begun e n (Ok r) = (r.done ≡ 0) × ((xs : List ℕ) → length xs ≡ n → Drafted e xs r)
Begun e n (Err k) = (xs : List ℕ) → length xs ≡ n → length_call e xs ≡ refused (number k)

-- s is the sum of page p of xs, which any 256 counts keep below 2^40
pub record PageSum (e : ℕ) (xs : List ℕ) (p s : ℕ) : Type 0 where
  pub page-is : s ≡ sum (page e xs p)
  pub small : s < 1099511627776

-- there is a list of which the next page has this sum
pub record Awaits (r : Plan) (s : ℕ) : Type 0 where
  pub e : ℕ
  pub xs : List ℕ
  pub drafted : Drafted e xs r
  pub more : r.done < r.pages
  pub sum_is : PageSum e xs r.done s

-- there is a list of which all pages were added
pub record Whole (r : Plan) : Type 0 where
  pub e : ℕ
  pub xs : List ℕ
  pub drafted : Drafted e xs r
  pub all : r.pages ≤ r.done

-- ---- a layout
-- the layout of the image of xs
pub record LayoutOf (e : ℕ) (xs : List ℕ) (r : Layout) : Type 0 where
  pub e-is : r.e ≡ e
  pub hours-are : r.hours ≡ length xs
  pub pages-are : r.pages ≡ pages e (length xs)
  pub total-is : r.total ≡ sum xs
  pub table_is : r.table ≡ header_length (wide (sum xs))
  pub code_is : r.code ≡ code_start (wide (sum xs)) (pages e (length xs))
  pub bits_are : r.bits ≡ length (code e xs)

-- a layout where xs has an image, else the refusal of length
abbrev pub Planned : ℕ → List ℕ → Result Layout Refusal → Type 0
Planned e xs (Ok r) = Limits e xs × LayoutOf e xs r
Planned e xs (Err k) = length_call e xs ≡ refused (number k)

-- there is a list whose image has this layout
pub record Laying (r : Layout) : Type 0 where
  pub xs : List ℕ
  pub limits : Limits r.e xs
  pub layout : LayoutOf r.e xs r

-- the length n of an image, if a buffer of so many bytes has room for it, else refusal 4
abbrev pub Fitting : ℕ → ℕ → Result ℕ Refusal → Type 0
Fitting n buffer (Ok m) = (m ≡ n) × (n ≤ buffer)
Fitting n buffer (Err k) = (k ≡ Buffer) × (buffer < n)
