-- Bits that are written into. Assumes nothing.
use Rattle.std.specs.Prelude.{List, ◌≡◌, ℕ, replicate}
use Rattle.lists.specs.Lists.{part}

-- n bits from a on are zeros
abbrev pub Blank : List ℕ → ℕ → ℕ → Type 0
Blank b a n = part b a n ≡ replicate n 0
