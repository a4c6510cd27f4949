-- What every export promises. Assumes nothing.
use Rattle.std.specs.Prelude.{List, ◌≡◌, ℕ, ◌≤◌}
use Rattle.coin_cost.specs.Cost.{cells_for}
use Rattle.hourlog_c.specs.Public.{Ends, PublicCall, Ten}
use Rattle.words.specs.End.{End}
use Rattle.words.specs.Words.{word_of}
use Rattle.words.specs.ReadBack.{Above, Reads, taken}

-- The call c answers the word w, and the slices that it was lent are afterwards t: those of an answer that the call may end in. C reads
-- this answer in the word, so nothing is lost modulo 2^64, whatever bytes and numbers the call was given
pub record Answers (c : PublicCall) (w : ℕ) (t : List (List ℕ)) : Type 0 where
  pub answer : End
  pub ends : Ends c answer t
  pub ten : Ten c answer
  pub word : w ≡ word_of answer
  pub reads : Reads answer w

-- Document 02, note 6: the word w is a refusal's, or C reads in it no more cells taken than d more coins in one hour may take
abbrev pub Costs : ℕ → ℕ → Type 0
Costs d w = Above w → taken w ≤ cells_for d
