-- P, C and the length of the bytes as they must be, as facts and as tests. Assumes nothing.
use Rattle.std.specs.Prelude.{Bool, List, [], ◌∷◌, ◌++◌, ◌≡◌, ℕ, length, eqb}
use Rattle.lists.specs.Lists.{every}
use Rattle.store.specs.Limits.{Limits, limit_tests}
use Rattle.store.specs.Layout.{size}

-- P and C within their limits, and 'Length is 16 + 6P + 32C bytes exactly'
pub record Fitting (s : List ℕ) (P C : ℕ) : Type 0 where
  pub limits : Limits P C
  pub long : length s ≡ size P C

-- the same as tests
abbrev pub fit_tests : List ℕ → ℕ → ℕ → List Bool
fit_tests s P C = limit_tests P C ++ eqb (length s) (size P C) ∷ []

unfoldable pub fits : List ℕ → ℕ → ℕ → Bool
fits s P C = every (fit_tests s P C)
