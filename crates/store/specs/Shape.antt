-- A store's header and length as they must be before its chains are looked at, as facts and as tests. Assumes nothing.
use Rattle.std.specs.Prelude.{Bool, List, [], ◌∷◌, ◌++◌, ◌≡◌, ℕ, ◌*◌, ◌≤◌, leb}
use Rattle.lists.specs.Lists.{part, same}
use Rattle.store.specs.Limits.{page_hours}
use Rattle.store.specs.Fitting.{Fitting, fit_tests}
use Rattle.store.specs.Reading.{cells_of, hours_in, page_count_of}

-- 'byte 0 is 1 (edition), byte 1 zero', '10-11 zero'; P, C and the length; 'N ≤ 64P'
pub record Shaped (s : List ℕ) : Type 0 where
  pub edition : part s 0 2 ≡ 1 ∷ 0 ∷ []
  pub gap : part s 10 2 ≡ 0 ∷ 0 ∷ []
  pub fitting : Fitting s (page_count_of s) (cells_of s)
  pub hours : hours_in s ≤ page_hours * page_count_of s

-- the same as tests
abbrev pub shape_tests : List ℕ → List Bool
shape_tests s =
    same (part s 0 2) (1 ∷ 0 ∷ []) ∷ same (part s 10 2) (0 ∷ 0 ∷ []) ∷ fit_tests s (page_count_of s) (cells_of s) ++ leb (hours_in s) (page_hours * page_count_of s) ∷ []
