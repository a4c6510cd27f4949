-- The check says `sound`. Assumes nothing.
use Rattle.std.specs.Prelude.{None, Some}
use mathlib.Core.Path.{◌≡◌, refl, sym, ap, ◌∙◌}
use mathlib.Core.Bool.{Bool, true, false, ◌&&◌}
use mathlib.Core.List.{List, [], ◌∷◌}
use Prim.Native.Nat.{ℕ, ◌*◌, ◌≤◌, ◌<◌}
use lib.ListN.{get_or, replicate}
use borrow.Author.Tests.{eq-eqb}
use Rattle.lists.specs.Lists.{every, same}
use Rattle.bits.specs.Numbers.{number_at}
use Rattle.store.specs.Reading.{cells_of, chain_from, code_in, hours_in, page_count_of}
use Rattle.store.specs.Sound.{sound}
use Rattle.store.specs.Limits.{max_cells}
use Rattle.store.specs.Code.Checked.{Walk, and_then, check_pages, ends-well, head_tests, marks_length, walk_marks}
use Rattle.store.proofs.Verdict.{chains_walk, checked, end_tests, verdict}
use Rattle.sound_free.specs.Code.Free.{every_cell_marked, free_chain_fits, free_from}
use Rattle.soundness.specs.Code.Chains.{all_chains_fit}
use Rattle.soundness.proofs.Counting.{number-all}
use Rattle.sound_head.proofs.HeadTest.{headed}
use Rattle.store.specs.Layout.{cells_start}

-- of three tests the second follows from the first
three : (a b c : Bool) → (a ≡ true → b ≡ true) → every (a ∷ b ∷ c ∷ []) ≡ (a && c)
unfolding every
three true b true h = ap (λ (z : Bool). z && true) (h refl)
three true true false h = refl
three true false false h = refl
three false b c h = refl

module _ (s : List ℕ) (lC : cells_of s ≤ max_cells) where
  abbrev P : ℕ
  P = page_count_of s

  abbrev C : ℕ
  C = cells_of s

  abbrev F : ℕ
  F = number_at s 8 2

  abbrev pages : Walk
  pages = check_pages s (page_count_of s) (cells_of s) (hours_in s) (page_count_of s) 0 (replicate marks_length 0)

  -- the tests at the end: that the chains have all cells needs none of its own
  free-is : (m : List ℕ) (w : Walk) → pages ≡ Some m → walk_marks s (cells_start P) C F m 6 ≡ w
      → ends-well w (λ m'. every (end_tests s m'))
      ≡ (ends-well w (every_cell_marked C) && same (code_in s (cells_start P) (chain_from s (cells_start P) F (number_at s 6 2))) (replicate (30 * F) 0))
  unfolding ends-well end_tests every_cell_marked
  free-is m None h q = refl
  free-is m (Some m') h q = three (every_cell_marked C m') _ _ (λ e. eq-eqb _ _ (number-all s P C (hours_in s) F m m' lC h q e))

  chains-is : (w : Walk) → pages ≡ w
      → ends-well (and_then w (λ m. walk_marks s (cells_start P) C F m 6)) (λ m. every (end_tests s m)) ≡ ends-well w (free_chain_fits s (cells_start P) C)
  unfolding ends-well and_then free_chain_fits free_from
  chains-is None h = refl
  chains-is (Some m) h = free-is m (walk_marks s (cells_start P) C F m 6) h refl

-- the check's two parts
pub check-is : (s : List ℕ) → ((i : ℕ) → get_or s i 0 < 256) → (every (head_tests s) && all_chains_fit s) ≡ sound s
unfolding checked chains_walk all_chains_fit
check-is s b = go (every (head_tests s)) refl ∙ verdict s b
  where
    go : (h : Bool) → every (head_tests s) ≡ h → (h && all_chains_fit s) ≡ (h && ends-well (chains_walk s) (λ m. every (end_tests s m)))
    go true e = sym (chains-is s (headed s e).fitting.limits.cells-high (pages s (headed s e).fitting.limits.cells-high) refl)
    go false e = refl
