-- Document 01, 'Limits of the store', as facts and as tests. Assumes nothing.
use Rattle.std.specs.Prelude.{Bool, List, [], ◌∷◌, ℕ, ◌≤◌, leb}

-- 'pages P from 1 to 1,024; cells C from 1 to 1,800; 64 counts a page; total at most 4,294,967,295'
abbrev pub max_pages : ℕ
max_pages = 1024

abbrev pub max_cells : ℕ
max_cells = 1800

abbrev pub page_hours : ℕ
page_hours = 64

abbrev pub max_total : ℕ
max_total = 4294967295

-- P and C as they must be
pub record Limits (P C : ℕ) : Type 0 where
  pub pages-low : 1 ≤ P
  pub pages-high : P ≤ max_pages
  pub cells_low : 1 ≤ C
  pub cells-high : C ≤ max_cells

-- the same as tests
abbrev pub limit_tests : ℕ → ℕ → List Bool
limit_tests P C = leb 1 P ∷ leb P max_pages ∷ leb 1 C ∷ leb C max_cells ∷ []
