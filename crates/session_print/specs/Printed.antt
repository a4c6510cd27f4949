-- Document 01: 'It prints the number asked for, `ok`, or `refused` and the number; `line?` for ..'. Assumes nothing.
use Rattle.std.specs.Prelude.{List, [], ◌∷◌, ◌++◌, ◌≡◌, ℕ, zero, suc, ◌+◌, ◌/◌, ◌%◌, length, ltb}
use Rattle.lists.specs.Lists.{pick, splice}
use Rattle.session.specs.Ascii.{byte, bytes}
use Rattle.session_print.specs.declared.Reply.{Reply}
use Rattle.session_print.specs.declared.Reply.TheVariants.{Number, Done, Refused, Unknown}

-- the decimal digits of n, most significant first, no zero in front; k is at least their number
unfoldable pub decimal_in : ℕ → ℕ → List ℕ
decimal_in zero n = []
decimal_in (suc k) n = pick (ltb n 10) ((byte "0" + n) ∷ []) (decimal_in k (n / 10) ++ ((byte "0" + n % 10) ∷ []))

-- those of any number below 2 ^ 64
abbrev pub decimal : ℕ → List ℕ
decimal n = decimal_in 20 n

-- a reply's line, with its line end
unfoldable pub printed : Reply → List ℕ
printed (Number n) = decimal n ++ bytes "\n"
printed Done = bytes "ok\n"
printed (Refused k) = bytes "refused " ++ (decimal k ++ bytes "\n")
printed Unknown = bytes "line?\n"

-- the line stands at a place of the buffer, up to r, and is all that has changed
pub record Prints (reply : Reply) (before : List ℕ) (at r : ℕ) (after : List ℕ) : Type 0 where
  pub end : r ≡ at + length (printed reply)
  pub bytes : after ≡ splice before at (printed reply)
