-- The test of an image as the code makes it, page by page, with a limit for its counts. What it means is `accepted` and `within`:
-- proofs/TestLaws.antt shows them equal.
-- Assumes nothing.
use Rattle.std.specs.Prelude.{Bool, false, Option, Some, None, ◌&&◌, not, List, [], ◌∷◌, ◌≡◌, ℕ, zero, suc, ◌+◌, ◌-◌, ◌*◌, ◌≤◌, leb, eqb}
use Rattle.lists.specs.Lists.{every}
use Rattle.bits.specs.Bits.{bits}
use Rattle.reserve.specs.Reserve.{reserve}
use Rattle.tree.specs.Code.Exact.{clear}
use Rattle.tree_lowest.specs.Code.Narrow.{narrow}
use Rattle.image.specs.Image.{bytes_for}
use Rattle.answers.specs.Image.{Reply, given, refused}
use Rattle.image.specs.Read.{e_of, n_of, s_of, l_of, page_count_of, width_of, start_of, code_at, root_at}
use Rattle.image.specs.Check.{headed}
use Rattle.image.specs.Query.{look, passing, the_reading}
use Rattle.image_test.specs.declared.Tested.{Tested}

-- k pages from page p on, which is to start at bit a of the code, the root before it being x; at the end all L bits are used, and the
-- root is S; no count of theirs is above the limit
unfoldable pub pages_from : ℕ → List ℕ → ℕ → ℕ → ℕ → ℕ → Bool
pages_from widest s zero p a x = eqb a (l_of s) && eqb x (s_of s)
pages_from widest s (suc k) p a x =
    let t = root_at s p in
    every
    (eqb (start_of s p) a
    ∷ leb x t
    ∷ not (passing s (a + width_of s) (reserve (e_of s) (t - x)))
    ∷ narrow widest (e_of s) (t - x) (bits s) (code_at s + a + width_of s)
    ∷ pages_from widest s k (suc p) (a + width_of s + reserve (e_of s) (t - x)) t
    ∷ [])

-- the reading at an hour's end, whatever the hour's count: the limit for counts is the pages' own
unfoldable pub sum_at : List ℕ → ℕ → Reply
sum_at s zero = given 0
sum_at s (suc i) = the_reading (look s i)

-- a reply is this number
unfoldable pub says : Reply → ℕ → Bool
says (given n) t = eqb n t
says (refused k) t = false

-- the pages; the reading at N is S, so that the hours from N on are 0; the last byte's other bits are 0
unfoldable pub passes_test : ℕ → List ℕ → Bool
passes_test widest s =
    headed s
    && every
    (pages_from widest s (page_count_of s) 0 0 0
    ∷ says (sum_at s (n_of s)) (s_of s)
    ∷ clear (bits s) (code_at s + l_of s) (8 * bytes_for (l_of s) - l_of s)
    ∷ [])

-- a page p that passes, which starts at bit a of the code, the root before it being x: the next page is to start at its end, its root being
-- the one before
pub record Passed (widest : ℕ) (s : List ℕ) (p a x : ℕ) (r : Tested) : Type 0 where
  pub goes_on : (k : ℕ) → pages_from widest s (suc k) p a x ≡ pages_from widest s k (suc p) r.end r.root
  pub end-le : r.end ≤ l_of s

-- a page p that fails, and so do all pages from p on
pub record Stopped (widest : ℕ) (s : List ℕ) (p a x : ℕ) : Type 0 where
  pub stops : (k : ℕ) → pages_from widest s (suc k) p a x ≡ false

-- page p, tested
abbrev pub Tests : ℕ → List ℕ → ℕ → ℕ → ℕ → Option Tested → Type 0
Tests widest s p a x (Some r) = Passed widest s p a x r
Tests widest s p a x None = Stopped widest s p a x
