-- Where an image's parts stand, as numbers. Assumes nothing.
use Rattle.std.specs.Prelude.{List, ◌≡◌, ℕ}
use Rattle.image.specs.Image.{header_length}
use Rattle.image.specs.Read.{code_at, wide_of, width_of}

-- the byte where the table of start bits stands, the bit where the code starts, and a root's width
pub record PlacesOf (s : List ℕ) (entries code w : ℕ) : Type 0 where
  pub entries-are : entries ≡ header_length (wide_of s)
  pub code_is : code ≡ code_at s
  pub width_is : w ≡ width_of s
