-- The header that was read from bytes or made, as a struct. Assumes nothing.
use Rattle.std.specs.Prelude.{List, ◌≡◌, ℕ, ◌<◌, length}
use Rattle.lists.specs.Lists.{first}
use Rattle.bits.specs.Numbers.{number_at}
use Rattle.store.specs.Reading.{cells_of, hours_in, page_count_of}
use Rattle.store.specs.Layout.{Model}
use Rattle.store.specs.declared.header.Header.{Header}

-- the header that stands in the bytes s
pub record HeadOf (s : List ℕ) (h : Header) : Type 0 where
  pub pages-is : h.pages ≡ page_count_of s
  pub cells_is : h.cells ≡ cells_of s
  pub first-is : h.first_free ≡ number_at s 6 2
  pub free-is : h.free ≡ number_at s 8 2
  pub hours-is : h.hours ≡ hours_in s
  pub pages-small : h.pages < 65536
  pub cells-small : h.cells < 65536
  pub first_small : h.first_free < 65536
  pub free-small : h.free < 65536
  pub hours-small : h.hours < 4294967296

-- the header of a model
pub record HeadFor (m : Model) (h : Header) : Type 0 where
  pub pages-is : h.pages ≡ m.plain.pages
  pub cells_is : h.cells ≡ m.plain.cells
  pub first-is : h.first_free ≡ first m.spare
  pub free-is : h.free ≡ length m.spare
  pub hours-is : h.hours ≡ length m.plain.counts
