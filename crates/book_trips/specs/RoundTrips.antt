-- Document 02, note 3: 'Going over and coming back must give the first bytes again, starting from either side, with the image's own e used on
-- the way back, as long as no refusal came.' Assumes nothing.
use Rattle.std.specs.Prelude.{List, ◌≡◌, ℕ, ◌≤◌, length, take}
use Rattle.answers.specs.Image.{given}
use Rattle.image.specs.Calls.{Result}
use Rattle.image.specs.Read.{e_of}
use Rattle.book_in.specs.FromBook.{from_call}
use Rattle.book_out.specs.ToBook.{to_call}

-- no refusal came, and s are the bytes that the call wrote: 'Both calls return how many bytes they wrote'
pub record Gave (w : Result) (s : List ℕ) : Type 0 where
  pub answer : w.reply ≡ given (length s)
  pub bytes : take (length s) w.bytes ≡ s

-- from_call e book out is the call from a book, to_call image out the call back, as their contracts cite them. Any buffers do
pub record RoundTrips : Type 0 where
  -- book, image, book
  pub book-again : (e : ℕ) (b out s out' c : List ℕ) → Gave (from_call e b out) s → Gave (to_call s out') c → c ≡ b
  -- image, book, image, 'with the image's own e used on the way back'
  pub image-again : (s out b out' t : List ℕ) → Gave (to_call s out) b → Gave (from_call (e_of s) b out') t → t ≡ s
  -- which is the e that a book went over with
  pub own-e : (e : ℕ) (b out s : List ℕ) → Gave (from_call e b out) s → e_of s ≡ e
  -- the way back is refused for its buffer alone
  pub book-comes : (e : ℕ) (b out s out' : List ℕ) → Gave (from_call e b out) s → length b ≤ length out' → Gave (to_call s out') b
  pub image-comes : (s out b out' : List ℕ) → Gave (to_call s out) b → length s ≤ length out' → Gave (from_call (e_of s) b out') s
