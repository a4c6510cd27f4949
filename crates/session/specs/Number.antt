-- Document 01: 'A number is one or more decimal digits, leading zeros allowed', and none 'above 4,294,967,295'. Assumes nothing.
use Rattle.std.specs.Prelude.{Bool, Option, Some, None, ◌&&◌, List, [], ◌∷◌, map, ℕ, ◌+◌, ◌-◌, ◌*◌, leb}
use Rattle.lists.specs.Lists.{pick, every}
use Rattle.session.specs.Ascii.{byte}

unfoldable pub is_decimal_digit : ℕ → Bool
is_decimal_digit b = leb (byte "0") b && leb b (byte "9")

-- the value of the digits bs behind digits of value n
unfoldable pub value_from : ℕ → List ℕ → ℕ
value_from n [] = n
value_from n (b ∷ bs) = value_from (10 * n + (b - byte "0")) bs

abbrev pub value : List ℕ → ℕ
value bs = value_from 0 bs

-- digits, as many as there are, whose value is at most the limit
unfoldable pub digits_only : List ℕ → Option ℕ
digits_only bs = pick (every (map is_decimal_digit bs) && leb (value bs) 4294967295) (Some (value bs)) None

-- 'one or more'
unfoldable pub number : List ℕ → Option ℕ
number [] = None
number (b ∷ bs) = digits_only (b ∷ bs)
