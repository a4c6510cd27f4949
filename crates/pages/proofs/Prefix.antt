-- The prefix sum at a page's first hour. Assumes nothing.
use mathlib.Core.Path.{◌≡◌, refl, sym, ap, ap₂, ◌∙◌}
use mathlib.Core.Bool.{true}
use mathlib.Core.List.{List}
use Prim.Native.Nat.{ℕ, zero, suc, ◌+◌, ◌*◌, ◌≤◌}
use native.Mathlib.Numerals.{add-one}
use native.Mathlib.Omega.{arith}
use lib.Seq.{take_all}
use Rattle.lists.specs.Lists.{reading, sum, tabulate}
use Rattle.lists.proofs.Pages.{reading-behind}
use Rattle.lists.proofs.Sums.{sum-next, sum-take-le}
use Rattle.store.specs.Limits.{max_total}
use Rattle.store.specs.Plain.{page}
use Rattle.store.specs.Reading.{list_in, page_count_of, sum_in}
use Rattle.store.specs.Sound.{sound}
use Rattle.store.proofs.SoundFacts.{facts}

pub reading-none : (xs : List ℕ) → 0 ≡ reading xs (64 * 0)
unfolding sum
reading-none xs = refl

pub reading-next : (xs : List ℕ) (p : ℕ) → reading xs (64 * (p + 1)) ≡ reading xs (64 * p) + sum (page xs p)
unfolding page
reading-next xs p = ap (λ (z : ℕ). reading xs (64 * z)) (add-one p) ∙ reading-behind 64 xs p

module _ (s : List ℕ) (e : sound s ≡ true) where
  abbrev xs : List ℕ
  xs = list_in s

  -- the sums of the first p entries
  pub sums-before : (p : ℕ) → p ≤ page_count_of s → sum (tabulate p (sum_in s)) ≡ reading xs (64 * p)
  unfolding tabulate sum
  sums-before zero l = refl
  sums-before (suc p) l =
      ap (λ (z : ℕ). sum (tabulate z (sum_in s))) (sym (add-one p)) ∙ sum-next (sum_in s) p
      ∙ ap₂ ◌+◌ (sums-before p (omega arith)) ((facts s e).sums p (omega arith))
      ∙ sym (reading-next xs p)
      ∙ ap (λ (z : ℕ). reading xs (64 * z)) (add-one p)

  pub before-fits : (i : ℕ) → reading xs i ≤ max_total
  before-fits i = omega (arith, sum-take-le i xs, (facts s e).total-fits)

  pub before-all : reading xs (64 * page_count_of s) ≡ sum xs
  before-all = ap sum (take_all (64 * page_count_of s) xs (omega (arith, (facts s e).hours-fit, (facts s e).hours-are)))
