-- A table of marks, in which sums of hours are looked up. Assumes nothing.
use Rattle.std.specs.Prelude.{List, ◌≡◌, ℕ, ◌%◌, ◌≤◌, length, get_or}
use Rattle.lists.specs.Lists.{reading}

-- how many places it has: the sum t has its place at t % marks_length
abbrev pub marks_length : ℕ
marks_length = 2048

-- the sums of the first count, the first two, .. and all have the stamp, each at its place
pub record Marked (counts : List ℕ) (stamp : ℕ) (marks : List ℕ) : Type 0 where
  pub stamped : (k : ℕ) → 1 ≤ k → k ≤ length counts → get_or marks (reading counts k % marks_length) 0 ≡ stamp

-- of no counts whose sums have this stamp is this one of the sums
abbrev pub Unmarked : List ℕ → ℕ → ℕ → Type 0
Unmarked marks stamp total =
    (counts : List ℕ) → Marked counts stamp marks → (k : ℕ) → 1 ≤ k → k ≤ length counts → reading counts k ≡ total → ⊥
