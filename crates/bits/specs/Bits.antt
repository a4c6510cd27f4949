-- Bits of bytes, high bit first. Assumes nothing.
use Rattle.std.specs.Prelude.{List, [], ◌∷◌, ◌++◌, ℕ, zero, suc, ◌+◌, ◌*◌, ◌/◌, ◌%◌}

-- the w low binary digits of v as bits, high bit first
unfoldable pub field : ℕ → ℕ → List ℕ
field zero v = []
field (suc w) v = field w (v / 2) ++ (v % 2 ∷ [])

-- the number whose binary digits are those of a and then the list
unfoldable pub value_from : ℕ → List ℕ → ℕ
value_from a [] = a
value_from a (b ∷ l) = value_from (a * 2 + b) l

-- the number that a list of bits stands for, high bit first
abbrev pub value : List ℕ → ℕ
value l = value_from 0 l

-- 'Bit 0 of a stream is the high bit of its first byte'
unfoldable pub bits : List ℕ → List ℕ
bits [] = []
bits (b ∷ s) = field 8 b ++ bits s
