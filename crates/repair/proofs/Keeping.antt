-- A page that is kept, by facts, and what the kept pages have together. Assumes nothing.
use mathlib.Core.Path.{◌≡◌, refl, sym, ap, ◌∙◌}
use mathlib.Core.Bool.{Bool, true, false}
use mathlib.Core.List.{List, [], ◌∷◌, ◌++◌, append-nil}
use Prim.Native.Nat.{ℕ, zero, suc, ◌+◌, ◌*◌, ◌≤◌}
use native.Mathlib.Omega.{arith}
use lib.ListN.{length, get_or, replicate, length-replicate}
use lib.Dec.{ltb}
use borrow.Author.Tests.{le-leb, leb-true, eq-eqb, eqb-true}
use Rattle.lists.specs.Lists.{concat, occurrences, pick, sum, tabulate}
use Rattle.lists.proofs.Sums.{sum-nones, sum-snoc}
use Rattle.lists.proofs.Tables.{concat-suc, tabulate-ext, tabulate-snoc}
use Rattle.lists.proofs.Tests.{each, every_of, same-eq, same-is}
use Rattle.lists.proofs.Zeros.{zeros-at}
use Rattle.store.specs.Limits.{max_total}
use Rattle.store.specs.PageCode.{cells, page_bytes}
use Rattle.store.specs.Layout.{cells_start}
use Rattle.store.specs.Reading.{cells_of, chain_in, code_in, first_in, hours_in, page_in, page_count_of, sum_in}
use Rattle.store.specs.Sound.{within}
use Rattle.store.specs.Code.Checked.{quiet}
use Rattle.store.proofs.ItemLaws.{chain-long, page-long}
use Rattle.store.proofs.PageCodeLaws.{cells-none}
use Rattle.store.proofs.SoundLaws.{within_all}
use Rattle.store.proofs.Writes.{Chain}
use Rattle.repair.specs.Repair.{Kept, behind, is_kept, keep_tests, keeps, kept_chain, kept_counts, kept_of, passed}
use Rattle.repair.proofs.Ends.{cells-unused, chain-join, ends-chain, unused-cells}

-- page p of s, behind pages of which k is kept
pub record KeptBehind (s : List ℕ) (k : Kept) (p : ℕ) : Type 0 where
  pub ends : behind s (cells_start (page_count_of s)) (cells (sum_in s p)) (first_in s p) ≡ 0
  pub chain : Chain (cells_of s) (chain_in s (page_count_of s) p)
  pub new : (d : ℕ) → 1 ≤ occurrences d (chain_in s (page_count_of s) p) → occurrences d k.cells ≡ 0
  pub page-sum : sum (page_in s (page_count_of s) p) ≡ sum_in s p
  pub code : code_in s (cells_start (page_count_of s)) (chain_in s (page_count_of s) p) ≡ page_bytes (page_in s (page_count_of s) p)
  pub quiet : page_in s (page_count_of s) p ≡ quiet (hours_in s) p (page_in s (page_count_of s) p)
  pub total : k.total + sum_in s p ≤ max_total

page-cells : (s : List ℕ) (P p : ℕ) → length (chain_in s P p) ≡ cells (sum_in s p)
unfolding chain_in
page-cells s P p = chain-long s P (cells (sum_in s p)) (first_in s p)

whole : (s : List ℕ) (p : ℕ) → behind s (cells_start (page_count_of s)) (cells (sum_in s p)) (first_in s p) ≡ 0
    → within (cells_of s) (chain_in s (page_count_of s) p) ≡ true → Chain (cells_of s) (chain_in s (page_count_of s) p)
unfolding chain_in
whole s p x y = ends-chain s (cells_start (page_count_of s)) (cells_of s) (cells (sum_in s p)) (first_in s p) y x

pub kept-page : (s : List ℕ) (k : Kept) (p : ℕ) → keeps s k p ≡ true → KeptBehind s k p
unfolding keeps keep_tests
kept-page s k p e =
    let w = each (keep_tests s k p) e in
    let x = eqb-true _ 0 w.0 in
    record {
      ends = x;
      chain = whole s p x w.1.0;
      new = unused-cells k.cells (chain_in s (page_count_of s) p) w.1.1.0;
      page-sum = eqb-true (sum (page_in s (page_count_of s) p)) (sum_in s p) w.1.1.1.0;
      code = same-is _ _ w.1.1.1.1.0;
      quiet = same-is _ _ w.1.1.1.1.1.0;
      total = leb-true (k.total + sum_in s p) max_total w.1.1.1.1.1.1.0;
    }

-- and the other way
pub page-kept : (s : List ℕ) (k : Kept) (p : ℕ) → KeptBehind s k p → keeps s k p ≡ true
unfolding keeps keep_tests
page-kept s k p g =
    every_of (keep_tests s k p) (
      eq-eqb _ _ g.ends,
      (
        within_all (cells_of s) (chain_in s (page_count_of s) p) (λ c q. (g.chain.from c q, g.chain.upto c q)),
        (
          cells-unused k.cells (chain_in s (page_count_of s) p) g.new,
          (eq-eqb _ _ g.page-sum, (same-eq _ _ g.code, (same-eq _ _ g.quiet, (le-leb _ _ g.total, tt)))),
        ),
      ),
    )

-- ---- one page more
pub passed-yes : (s : List ℕ) (k : Kept) (p : ℕ) → keeps s k p ≡ true
    → passed s k p ≡ record { cells = k.cells ++ chain_in s (page_count_of s) p; total = k.total + sum_in s p }
unfolding passed pick
passed-yes s k p e = rw e

pub passed-no : (s : List ℕ) (k : Kept) (p : ℕ) → keeps s k p ≡ false → passed s k p ≡ k
unfolding passed pick
passed-no s k p e = rw e

module _ (s : List ℕ) where
  abbrev P : ℕ
  P = page_count_of s

  abbrev C : ℕ
  C = cells_of s

  chain-passed : (k : Kept) (p : ℕ) (b : Bool) → keeps s k p ≡ b → Chain (cells_of s) k.cells → Chain (cells_of s) (passed s k p).cells
  chain-passed k p true e h =
      let w = kept-page s k p e in
      rw (passed-yes s k p e) (chain-join k.cells (chain_in s (page_count_of s) p) h w.chain w.new)
  chain-passed k p false e h = rw (passed-no s k p e) h

  cells-passed : (k : Kept) (p : ℕ) (b : Bool) → keeps s k p ≡ b → (passed s k p).cells ≡ k.cells ++ pick (keeps s k p) (chain_in s (page_count_of s) p) []
  unfolding pick
  cells-passed k p true e = rw (passed-yes s k p e, e)
  cells-passed k p false e = rw (passed-no s k p e, e) (sym (append-nil k.cells))

  total-passed : (k : Kept) (p : ℕ) (b : Bool) → keeps s k p ≡ b → (passed s k p).total ≡ k.total + pick (keeps s k p) (sum_in s p) 0
  unfolding pick
  total-passed k p true e = rw (passed-yes s k p e, e)
  total-passed k p false e = rw (passed-no s k p e, e) (omega arith)

  fits-passed : (k : Kept) (p : ℕ) (b : Bool) → keeps s k p ≡ b → k.total ≤ max_total → (passed s k p).total ≤ max_total
  fits-passed k p true e h = rw (passed-yes s k p e) (kept-page s k p e).total
  fits-passed k p false e h = rw (passed-no s k p e) h

  -- the cells of kept pages: none twice
  pub kept-chain : (p : ℕ) → Chain (cells_of s) (kept_of s p).cells
  unfolding kept_of occurrences
  kept-chain zero = record { once = λ d. omega arith; from = λ d q. absurd (omega arith); upto = λ d q. absurd (omega arith) }
  kept-chain (suc p) = chain-passed (kept_of s p) p (keeps s (kept_of s p) p) refl (kept-chain p)

  -- they are the chains, one after another
  pub kept-cells : (p : ℕ) → (kept_of s p).cells ≡ concat (tabulate p (kept_chain s))
  unfolding kept_of concat tabulate kept_chain is_kept
  kept-cells zero = refl
  kept-cells (suc p) =
      cells-passed (kept_of s p) p (keeps s (kept_of s p) p) refl ∙ ap (λ (z : List ℕ). z ++ kept_chain s p) (kept-cells p) ∙ sym (concat-suc p (kept_chain s))

  -- the sum that is left of page p
  abbrev pub sum_at_left : ℕ → ℕ
  sum_at_left p = pick (is_kept s p) (sum_in s p) 0

  pub kept-total : (p : ℕ) → (kept_of s p).total ≡ sum (tabulate p sum_at_left)
  unfolding kept_of sum tabulate is_kept
  kept-total zero = refl
  kept-total (suc p) =
      total-passed (kept_of s p) p (keeps s (kept_of s p) p) refl ∙ ap (λ (z : ℕ). z + sum_at_left p) (kept-total p)
      ∙ sym (ap sum (tabulate-snoc p sum_at_left) ∙ sum-snoc (tabulate p sum_at_left) (sum_at_left p))

  -- 'the total of kept pages fits'
  pub kept-fits : (p : ℕ) → (kept_of s p).total ≤ max_total
  unfolding kept_of
  kept-fits zero = omega arith
  kept-fits (suc p) = fits-passed (kept_of s p) p (keeps s (kept_of s p) p) refl (kept-fits p)

-- ---- a page afterwards
zeros : (n : ℕ) → replicate {A = ℕ} n 0 ≡ tabulate n (λ _. 0)
unfolding tabulate
zeros zero = refl
zeros (suc n) = ap (λ (z : List ℕ). 0 ∷ z) (zeros n)

pick-zero : (b : Bool) → pick {A = ℕ} b 0 0 ≡ 0
unfolding pick
pick-zero true = refl
pick-zero false = refl

zeros-quiet : (N p : ℕ) → replicate 64 0 ≡ quiet N p (replicate 64 0)
zeros-quiet N p =
    zeros 64
    ∙ sym (tabulate-ext 64 (λ j. pick (ltb (64 * p + j) N) (get_or (replicate {A = ℕ} 64 0) j 0) 0) (λ _. 0)
    (λ j l. ap (λ (z : ℕ). pick (ltb (64 * p + j) N) z 0) (zeros-at 64 j) ∙ pick-zero (ltb (64 * p + j) N)))

-- page p afterwards: its counts, and as many cells as these need
pub record PageLeft (s : List ℕ) (p : ℕ) : Type 0 where
  pub long : length (kept_counts s p) ≡ 64
  pub quiet : kept_counts s p ≡ quiet (hours_in s) p (kept_counts s p)
  pub sums : sum (kept_counts s p) ≡ pick (is_kept s p) (sum_in s p) 0
  pub cells : length (kept_chain s p) ≡ cells (sum (kept_counts s p))

pub counts-yes : (s : List ℕ) (p : ℕ) → is_kept s p ≡ true → kept_counts s p ≡ page_in s (page_count_of s) p
unfolding kept_counts pick
counts-yes s p e = rw e

pub counts-no : (s : List ℕ) (p : ℕ) → is_kept s p ≡ false → kept_counts s p ≡ replicate 64 0
unfolding kept_counts pick
counts-no s p e = rw e

pub chain-yes : (s : List ℕ) (p : ℕ) → is_kept s p ≡ true → kept_chain s p ≡ chain_in s (page_count_of s) p
unfolding kept_chain pick
chain-yes s p e = rw e

pub chain-no : (s : List ℕ) (p : ℕ) → is_kept s p ≡ false → kept_chain s p ≡ []
unfolding kept_chain pick
chain-no s p e = rw e

-- a page that is kept, by facts
pub kept_at : (s : List ℕ) (p : ℕ) → is_kept s p ≡ true → KeptBehind s (kept_of s p) p
unfolding is_kept
kept_at s p e = kept-page s (kept_of s p) p e

no-sum : sum (replicate 64 0) ≡ 0
no-sum = ap sum (zeros 64) ∙ sum-nones 64 (λ _. 0) (λ _. refl)

pub page-left : (s : List ℕ) (p : ℕ) → PageLeft s p
unfolding pick
page-left s p = go (is_kept s p) refl
  where
    go : (b : Bool) → is_kept s p ≡ b → PageLeft s p
    go true e =
        let w = kept_at s p e in
        let c = counts-yes s p e in
        record {
          long = ap length c ∙ page-long s (page_count_of s) p;
          quiet = c ∙ w.quiet ∙ ap (quiet (hours_in s) p) (sym c);
          sums = ap sum c ∙ w.page-sum ∙ sym (ap (λ (b : Bool). pick b (sum_in s p) 0) e);
          cells = ap length (chain-yes s p e) ∙ page-cells s (page_count_of s) p ∙ ap cells (sym (ap sum c ∙ w.page-sum));
        }
    go false e =
        let c = counts-no s p e in
        record {
          long = ap length c ∙ length-replicate {A = ℕ} 64 0;
          quiet = c ∙ zeros-quiet (hours_in s) p ∙ ap (quiet (hours_in s) p) (sym c);
          sums = ap sum c ∙ no-sum ∙ sym (ap (λ (b : Bool). pick b (sum_in s p) 0) e);
          cells = ap length (chain-no s p e) ∙ sym (ap cells (ap sum c ∙ no-sum) ∙ cells-none);
        }
