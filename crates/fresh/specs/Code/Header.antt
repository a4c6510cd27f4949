-- A header that was put into bytes. Assumes nothing.
use Rattle.std.specs.Prelude.{List, [], ◌∷◌, ◌≡◌, ℕ, ◌≤◌, length}
use Rattle.lists.specs.Lists.{part}
use Rattle.bits.specs.Numbers.{little}
use Rattle.store.specs.Layout.{header_length}
use Rattle.store.specs.declared.header.Header.{Header}

-- the bytes t are s with the header h: 'byte 0 is 1 (edition), byte 1 zero', P, C, first free cell, number of free cells, zero, N
pub record HeaderPut (s : List ℕ) (h : Header) (t : List ℕ) : Type 0 where
  pub long : length t ≡ length s
  pub edition : part t 0 2 ≡ 1 ∷ 0 ∷ []
  pub pages : part t 2 2 ≡ little 2 h.pages
  pub cells : part t 4 2 ≡ little 2 h.cells
  pub first-free : part t 6 2 ≡ little 2 h.first_free
  pub free : part t 8 2 ≡ little 2 h.free
  pub gap : part t 10 2 ≡ 0 ∷ 0 ∷ []
  pub hours : part t 12 4 ≡ little 4 h.hours
  pub rest : (b n : ℕ) → header_length ≤ b → part t b n ≡ part s b n
