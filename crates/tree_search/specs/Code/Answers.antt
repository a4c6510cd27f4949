-- How a search answers. Assumes nothing.
use Rattle.std.specs.Prelude.{ℕ, ◌+◌, Option, None, Some, unwrap_or}
use Rattle.tree.specs.Read.{Sought, nowhere, at-index}

-- the index, and n counts before the tree; or none for damage
unfoldable pub search_answer : ℕ → Sought → Option ℕ
search_answer n nowhere = None
search_answer n (at-index i) = Some (n + i)

-- an answer in one number: 0 for none, as an index that is found is 1 or more (`seek-positive`)
abbrev pub index_of : Option ℕ → ℕ
index_of o = unwrap_or o 0
