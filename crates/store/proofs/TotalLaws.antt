-- The sums in a sound store's page entries make up the sum of its list. Assumes nothing.
use mathlib.Core.Path.{◌≡◌, ap}
use mathlib.Core.Bool.{true}
use mathlib.Core.List.{List}
use Prim.Native.Nat.{ℕ}
use native.Mathlib.Omega.{arith}
use lib.ListN.{length}
use Rattle.lists.specs.Lists.{concat, sum, tabulate}
use Rattle.store.specs.Plain.{page}
use Rattle.store.specs.Reading.{list_in, page_count_of, sum_in}
use Rattle.store.specs.Sound.{sound}
use Rattle.lists.proofs.Sums.{sum-concat, sum-take-le}
use Rattle.lists.proofs.Tables.{tabulate-ext}
use Rattle.store.proofs.PageLaws.{sum-pages-le}
use Rattle.store.proofs.ReadBack.{counts-back}
use Rattle.store.proofs.SoundFacts.{facts}

module _ (s : List ℕ) (e : sound s ≡ true) where
  abbrev P : ℕ
  P = page_count_of s

  abbrev xs : List ℕ
  xs = list_in s

  pub total-all : sum (tabulate P (sum_in s)) ≡ sum xs
  total-all =
      let f = facts s e in
      let t : sum (tabulate P (sum_in s)) ≡ sum (tabulate P (λ p. sum (page xs p))) = ap sum
      (tabulate-ext P (sum_in s) (λ p. sum (page xs p)) f.sums) in
      omega (
        arith,
        t,
        sum-pages-le P xs,
        sum-concat P (page xs),
        sum-take-le (length xs) (concat (tabulate P (page xs))),
        ap sum (counts-back P xs (omega (arith, f.hours-fit, f.hours-are))),
      )
