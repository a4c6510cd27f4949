-- A page's counts when the hours behind one move by one place. Assumes nothing.
use Rattle.std.specs.Prelude.{List, [], ◌∷◌, ◌++◌, ℕ, take}
use Rattle.store.specs.Plain.{inserted, struck}
use Rattle.move_counts.specs.declared.Edit.{Edit}
use Rattle.move_counts.specs.declared.Edit.TheVariants.{Insert, Strike}

-- v comes in before index j, and the last count leaves
unfoldable pub pushed : List ℕ → ℕ → ℕ → List ℕ
pushed x j v = inserted (take 63 x) j v

-- count j leaves, and v comes in at the end
unfoldable pub pulled : List ℕ → ℕ → ℕ → List ℕ
pulled x j v = struck x j ++ v ∷ []

-- of an insert the first, of a strike the second
unfoldable pub turned : Edit → List ℕ → ℕ → ℕ → List ℕ
turned (Insert n) x j v = pushed x j v
turned Strike x j v = pulled x j v

-- the index of the count that leaves
unfoldable pub leaving_index : Edit → ℕ → ℕ
leaving_index (Insert n) j = 63
leaving_index Strike j = j
