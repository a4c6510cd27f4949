-- A page judged: what each way out says. Assumes nothing.
use mathlib.Core.Path.{◌≡◌, refl, sym, ap, ap₂, ◌∙◌}
use mathlib.Core.Bool.{Bool, true, false, ◌&&◌, and-false}
use mathlib.Core.List.{List}
use Prim.Native.Nat.{ℕ, ◌+◌, ◌-◌, ◌*◌, ◌≤◌, ◌<◌}
use native.Mathlib.Omega.{arith}
use lib.ListN.{take}
use lib.Dec.{leb}
use borrow.Author.Tests.{le-leb, lt-leb}
use Rattle.lists.specs.Lists.{pick}
use Rattle.bits.specs.Numbers.{Number, number_at}
use Rattle.store.specs.Limits.{max_total}
use Rattle.store.specs.Layout.{cells_start, entry_at}
use Rattle.store.specs.PageCode.{cells}
use Rattle.store.specs.Reading.{cells_of, chain_from, chain_in, code_in, first_in, hours_in, page_count_of, sum_in}
use Rattle.store.proofs.CheckChain.{mark_all}
use Rattle.sound_page.specs.Code.Page.{page_code_fits}
use Rattle.repair_pages.specs.Code.Chain.{Gathered, chain_kept}
use Rattle.repair_pages.specs.Code.Page.{Judged, Judging, kept_by}

-- three tests in a row: the first that fails
first-no : (a b c : Bool) → a ≡ false → false ≡ (a && (b && c))
first-no a b c e = sym (ap (λ (z : Bool). z && (b && c)) e)

second-no : (a b c : Bool) → b ≡ false → false ≡ (a && (b && c))
second-no a b c e = sym (ap (λ (z : Bool). a && (z && c)) e ∙ and-false a)

third-no : (a b c : Bool) → c ≡ false → false ≡ (a && (b && c))
third-no a b c e = sym (ap (λ (z : Bool). a && (b && z)) e ∙ ap (λ (z : Bool). a && z) (and-false b) ∙ and-false a)

all_yes : (a b c : Bool) → a ≡ true → b ≡ true → c ≡ true → true ≡ (a && (b && c))
all_yes a b c x y z = sym (ap₂ (λ (i j : Bool). i && (j && c)) x y ∙ z)

module _ (s : List ℕ) {base C N p total : ℕ} (j : Judging s base C N p total) (m : List ℕ) {e sum k : ℕ} (at : e ≡ entry_at p) (n : Number s e 4 sum)
    (q : k ≡ cells sum) where
  abbrev fitting : Bool
  fitting = leb (total + sum_in s p) max_total

  abbrev chaining : Bool
  chaining = chain_kept s (cells_start (page_count_of s)) (cells_of s) m (cells (sum_in s p)) (first_in s p)

  abbrev coding : Bool
  coding = page_code_fits (code_in s (cells_start (page_count_of s)) (chain_in s (page_count_of s) p)) (sum_in s p) p (hours_in s)

  sum_is : sum ≡ sum_in s p
  unfolding sum_in
  sum_is = n.is ∙ ap (λ (z : ℕ). number_at s z 4) at

  k-is : k ≡ cells (sum_in s p)
  k-is = q ∙ ap cells sum_is

  first-is : number_at s (e + 4) 2 ≡ first_in s p
  first-is = ap (λ (z : ℕ). number_at s (z + 4) 2) at

  chaining-is : chain_kept s base C m k (number_at s (e + 4) 2) ≡ chaining
  chaining-is =
      ap₂ (λ (x y : ℕ). chain_kept s x y m k (number_at s (e + 4) 2)) j.base-is j.cells_is
      ∙ ap₂ (λ (x y : ℕ). chain_kept s (cells_start (page_count_of s)) (cells_of s) m x y) k-is first-is

  chain-is : chain_from s base k (number_at s (e + 4) 2) ≡ chain_in s (page_count_of s) p
  unfolding chain_in
  chain-is =
      ap (λ (x : ℕ). chain_from s x k (number_at s (e + 4) 2)) j.base-is ∙ ap₂ (λ (x y : ℕ). chain_from s (cells_start (page_count_of s)) x y) k-is first-is

  fits-is : sum ≤ max_total - total → fitting ≡ true
  fits-is u = le-leb (total + sum_in s p) max_total (omega (arith, sum_is, j.fits))

  pub total-no : max_total - total < sum → Judged s m p total false m
  unfolding kept_by pick
  total-no u = record { is = first-no fitting chaining coding (lt-leb (total + sum_in s p) max_total (omega (arith, sum_is, j.fits))); marked = refl }

  module _ {r : Bool} {code : List ℕ} (g : Gathered s base C (e + 4) k m r code) where
    pub chain-no : r ≡ false → Judged s m p total false m
    unfolding kept_by pick
    chain-no x = record { is = second-no fitting chaining coding (sym chaining-is ∙ sym g.is ∙ x); marked = refl }

    -- the chain is whole, and t says of its code whether it is a page's
    module _ (x : r ≡ true) {t : Bool} (c : t ≡ page_code_fits (take (30 * k) code) sum p N) where
      coding-is : coding ≡ t
      coding-is =
          sym (c ∙ ap₂ (λ (z : List ℕ) (y : ℕ). page_code_fits z y p N) (g.gathered x ∙ ap₂ (code_in s) j.base-is chain-is) sum_is
          ∙ ap (page_code_fits (code_in s (cells_start (page_count_of s)) (chain_in s (page_count_of s) p)) (sum_in s p) p) j.hours-is)

      pub code-no : t ≡ false → Judged s m p total false m
      unfolding kept_by pick
      code-no y = record { is = third-no fitting chaining coding (coding-is ∙ y); marked = refl }

      pub page-yes : t ≡ true → sum ≤ max_total - total → (m' : List ℕ)
          → m' ≡ mark_all m (chain_from s base k (number_at s (e + 4) 2)) → Judged s m p total true m'
      unfolding kept_by pick
      page-yes y u m' z = record {
        is = all_yes fitting chaining coding (fits-is u) (sym chaining-is ∙ sym g.is ∙ x) (coding-is ∙ y);
        marked = z ∙ ap (mark_all m) chain-is;
      }

    pub chain-yes : r ≡ true → chain_kept s base C m k (number_at s (e + 4) 2) ≡ true
    chain-yes x = sym g.is ∙ x
