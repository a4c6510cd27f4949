-- Document 02, note 3: 'books in packed decimal: two bytes an hour, four digits, high digit first, so ten coins are 00 10 in hexadecimal'.
-- Assumes nothing.
use Rattle.std.specs.Prelude.{Bool, ◌&&◌, List, [], ◌∷◌, map, ℕ, ◌+◌, ◌*◌, ◌/◌, ◌%◌, length, leb, eqb}
use Rattle.lists.specs.Lists.{every}

-- ---- a byte: two digits, the high one in its high half
-- the number that it says
abbrev pub unpacked_byte : ℕ → ℕ
unpacked_byte b = 10 * (b / 16) + b % 16

-- the byte of a number up to 99
abbrev pub packed_byte : ℕ → ℕ
packed_byte n = 16 * (n / 10) + n % 10

-- no 'digit above 9'
unfoldable pub decimal_byte : ℕ → Bool
decimal_byte b = leb (b / 16) 9 && leb (b % 16) 9

-- ---- a book
-- the list that it says
unfoldable pub list_of_book : List ℕ → List ℕ
list_of_book [] = []
list_of_book (a ∷ []) = []
list_of_book (a ∷ b ∷ rest) = (100 * unpacked_byte a + unpacked_byte b) ∷ list_of_book rest

-- neither 'of odd length' nor 'with a digit above 9'
unfoldable pub decimal : List ℕ → Bool
decimal b = eqb (length b % 2) 0 && every (map decimal_byte b)

-- ---- a list
-- its book
unfoldable pub book_of : List ℕ → List ℕ
book_of [] = []
book_of (x ∷ xs) = packed_byte (x / 100) ∷ packed_byte (x % 100) ∷ book_of xs

-- no 'count above 9999', so that four digits hold each
unfoldable pub four_digits : List ℕ → Bool
four_digits xs = every (map (λ x. leb x 9999) xs)
