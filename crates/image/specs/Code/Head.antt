-- What the functions of src/head.rt ask and answer. Assumes nothing.
use Rattle.std.specs.Prelude.{Bool, false, true, Option, Some, None, List, ◌≡◌, ℕ, ◌+◌, ◌*◌, ◌≤◌, ◌<◌, length, get_or}
use Rattle.image.specs.Check.{headed, wide_right}
use Rattle.image.specs.Image.{edition, header_length, max_total, pages}
use Rattle.image.specs.Read.{code_at, e_of, l_of, n_of, page_count_of, s_of, wide_of}
use Rattle.image.specs.declared.head.Edition.{Edition}
use Rattle.image.specs.declared.head.Edition.TheVariants.{Narrow, Wide}
use Rattle.image.specs.declared.head.Head.{Head}
use Rattle.image.specs.declared.head.Tail.{Tail}

-- an edition as the definitions name it
abbrev pub is_wide : Edition → Bool
is_wide Narrow = false
is_wide Wide = true

-- the edition of a number, or that none has it
abbrev pub Numbered : ℕ → Option Edition → Type 0
Numbered k (Some x) = k ≡ edition (is_wide x)
Numbered k None = (b : Bool) → k ≡ edition b → ⊥

-- the header of the bytes s, and where their parts stand
pub record HeadOf (s : List ℕ) (h : Head) : Type 0 where
  pub e-is : h.e ≡ e_of s
  pub hours-is : h.hours ≡ n_of s
  pub total-is : h.total ≡ s_of s
  pub bits_is : h.bits ≡ l_of s
  pub pages-are : h.pages ≡ page_count_of s
  pub table_is : h.table ≡ header_length (wide_of s)
  pub code_is : h.code ≡ code_at s
  pub e-small : h.e < 256
  pub hours-small : h.hours < 4294967296
  pub total-small : h.total ≤ max_total
  pub bits_small : h.bits < 4294967296

-- the tail of the header of the bytes s, past refusal 5 as far as edition and tail go
pub record TailOf (s : List ℕ) (t : Tail) : Type 0 where
  pub edition-is : get_or s 0 0 ≡ edition (wide_of s)
  pub long : header_length (wide_of s) ≤ length s
  pub right : wide_right (wide_of s) s ≡ true
  pub total-is : t.total ≡ s_of s
  pub bits_is : t.bits ≡ l_of s
  pub table_is : t.table ≡ header_length (wide_of s)
  pub total-small : t.total ≤ max_total
  pub bits_small : t.bits < 4294967296

-- what reading the tail gives: it, or refusal 5
abbrev pub Tailed : List ℕ → Option Tail → Type 0
Tailed s (Some t) = TailOf s t
Tailed s None = headed s ≡ false

-- a header of e, N and a tail
pub record HeadWith (e hours : ℕ) (t : Tail) (h : Head) : Type 0 where
  pub e-is : h.e ≡ e
  pub hours-is : h.hours ≡ hours
  pub total-is : h.total ≡ t.total
  pub bits_is : h.bits ≡ t.bits
  pub pages-are : h.pages ≡ pages e hours
  pub table_is : h.table ≡ t.table
  pub code_is : h.code ≡ 8 * (t.table + 4 * pages e hours)

-- each number is a byte
abbrev pub EachByte : List ℕ → Type 0
EachByte s = (i : ℕ) → get_or s i 0 < 256

-- bytes past refusal 5, and their header
pub record Opened (s : List ℕ) (h : Head) : Type 0 where
  pub head : HeadOf s h
  pub passed : headed s ≡ true
