-- The walk over the pages' chains: what is left of a chain where it stands, and what a page's chain and code say of the pages that are left.
-- Assumes nothing.
use Rattle.std.specs.Prelude.{None, Some}
use mathlib.Core.Path.{◌≡◌, refl, sym, ap, ap₂, ◌∙◌}
use mathlib.Core.Bool.{Bool, true, false}
use mathlib.Core.List.{List}
use Prim.Native.Nat.{ℕ, suc, ◌+◌, ◌-◌, ◌*◌, ◌≤◌, ◌<◌}
use native.Mathlib.Numerals.{add-one}
use native.Mathlib.Omega.{arith}
use lib.ListN.{take, set, replicate}
use lib.Dec.{eqb}
use borrow.Author.Tests.{eq-eqb}
use Rattle.lists.specs.Lists.{every, pick}
use Rattle.bits.specs.Bits.{bits}
use Rattle.bits.specs.Numbers.{Number, number_at}
use Rattle.tree.proofs.Shape.{length-counts}
use Rattle.store.specs.Code.Head.{HeadOf}
use Rattle.store.specs.Layout.{cell_at, entry_at, cells_start}
use Rattle.store.specs.PageCode.{cells, counts_in_page}
use Rattle.store.specs.Reading.{chain_from, chain_in, code_in, page_in, sum_in}
use Rattle.store.specs.declared.header.Header.{Header}
use Rattle.store.specs.Code.Checked.{Walk, and_then, cell_test, check_pages, ends-well, go_on, marks_length, page_tests, walk_marks}
use Rattle.sound_page.specs.Code.Page.{page_code_fits}
use Rattle.sound_free.specs.Code.Free.{free_chain_fits}
use Rattle.soundness.specs.Code.Chains.{all_chains_fit}
use Rattle.chains.proofs.Gathering.{SoFar}

-- a page's tests are those of its gathered code
tests-are : (s : List ℕ) (P N p : ℕ) → every (page_tests s P N p) ≡ page_code_fits (code_in s (cells_start P) (chain_in s P p)) (sum_in s p) p N
unfolding page_tests page_code_fits page_in counts_in_page every
tests-are s P N p = rw (eq-eqb _ 64 (length-counts 6 (sum_in s p) (bits (code_in s (cells_start P) (chain_in s P p))) 0))

-- ---- a chain: j of k cells are passed, and the link at a names none that passes its test
pub cell-broken : (s : List ℕ) (base C k j : ℕ) (m : List ℕ) (a : ℕ) → j < k → cell_test C m (number_at s a 2) ≡ false
    → walk_marks s base C (k - j) m a ≡ None
unfolding walk_marks go_on
cell-broken s base C k j m a l e =
    let one : k - j ≡ suc (k - (j + 1)) = omega arith in
    ap (λ (i : ℕ). walk_marks s base C i m a) one ∙ rw e refl

-- the same, and the link at a names c
module _ (s : List ℕ) (base C k j : ℕ) (m : List ℕ) {a c : ℕ} (n : Number s a 2 c) where
  one : j < k → k - j ≡ suc (k - (j + 1))
  one l = omega arith

  none : k ≤ j → k - j ≡ 0
  none l = omega arith

  -- c starts at r: it is marked
  pub cell-next : j < k → {r : ℕ} → r ≡ cell_at base c → cell_test C m c ≡ true
      → walk_marks s base C (k - j) m a ≡ walk_marks s base C (k - (j + 1)) (set m c 1) r
  unfolding walk_marks go_on
  cell-next l at e = ap (λ (i : ℕ). walk_marks s base C i m a) (one l) ∙ rw (sym n.is, at) (rw e refl)

  -- all are passed: the chain is to end
  pub chain-end : k ≤ j → walk_marks s base C (k - j) m a ≡ pick (eqb c 0) (Some m) None
  unfolding walk_marks go_on pick
  chain-end l = ap (λ (i : ℕ). walk_marks s base C i m a) (none l) ∙ rw (sym n.is) (go (eqb c 0))
    where
      go : (b : Bool) → go_on b (Some m) ≡ pick b (Some m) None
      go true = refl
      go false = refl

pub walk-start : (s : List ℕ) (base C k a : ℕ) (m : List ℕ) → walk_marks s base C k m a ≡ walk_marks s base C (k - 0) m a
walk-start s base C k a m = ap (λ (i : ℕ). walk_marks s base C i m a) {x = k} {y = k - 0} (omega arith)

pub gather-start : (s : List ℕ) (base k a : ℕ) (code : List ℕ) → SoFar s base (code_in s base (chain_from s base k (number_at s a 2))) k 0 code a
gather-start s base k a code =
    ap (λ (i : ℕ). code_in s base (chain_from s base i (number_at s a 2))) {x = k} {y = k - 0} (omega arith)

-- ---- the answer, where the pages from p on are left, with the marks m
unfoldable pub pages_on : List ℕ → ℕ → ℕ → ℕ → ℕ → List ℕ → Bool
pages_on s P C N p m = ends-well (check_pages s P C N (P - p) p m) (free_chain_fits s (cells_start P) C)

pub pages-start : (s : List ℕ) (h : Header) → HeadOf s h → all_chains_fit s ≡ pages_on s h.pages h.cells h.hours 0 (replicate marks_length 0)
unfolding all_chains_fit pages_on
pages-start s h f =
    let P : ℕ = h.pages in
    let e : P ≡ P - 0 = omega arith in
    rw (sym f.pages-is, sym f.cells_is, sym f.hours-is)
    (ap (λ (k : ℕ). ends-well (check_pages s P h.cells h.hours k 0 (replicate marks_length 0)) (free_chain_fits s (cells_start P) h.cells)) e)

module _ (s : List ℕ) (P C N p : ℕ) (m : List ℕ) where
  pub pages-end : P ≤ p → {base : ℕ} → base ≡ cells_start P → free_chain_fits s base C m ≡ pages_on s P C N p m
  unfolding pages_on check_pages ends-well
  pages-end l b =
      ap (λ (i : ℕ). free_chain_fits s i C m) b
      ∙ sym (ap (λ (k : ℕ). ends-well (check_pages s P C N k p m) (free_chain_fits s (cells_start P) C)) {x = P - p} {y = 0} (omega arith))

  -- page p's entry is at e, and its sum and cells are these
  module _ (l : p < P) {base e sum k : ℕ} (b : base ≡ cells_start P) (at : e ≡ entry_at p) (n : Number s e 4 sum) (q : k ≡ cells sum) where
    sum-is : sum ≡ sum_in s p
    unfolding sum_in
    sum-is = n.is ∙ ap (λ (z : ℕ). number_at s z 4) at

    abbrev after : List ℕ → Walk
    after m' = go_on (every (page_tests s P N p)) (check_pages s P C N (P - (p + 1)) (suc p) m')

    abbrev chain : Walk
    chain = walk_marks s base C k m (e + 4)

    page-is : pages_on s P C N p m ≡ ends-well (and_then chain after) (free_chain_fits s (cells_start P) C)
    unfolding pages_on check_pages
    page-is =
        ap (λ (i : ℕ). ends-well (check_pages s P C N i p m) (free_chain_fits s (cells_start P) C)) {x = P - p} {y = suc (P - (p + 1))} (omega arith)
        ∙ ap (λ (w : Walk). ends-well (and_then w after) (free_chain_fits s (cells_start P) C))
        (ap₂ (λ (i z : ℕ). walk_marks s (cells_start P) C i m (z + 4)) (ap cells (sym sum-is) ∙ sym q) (sym at)
        ∙ ap (λ (z : ℕ). walk_marks s z C k m (e + 4)) (sym b))

    -- its chain is broken
    pub page-broken : chain ≡ None → false ≡ pages_on s P C N p m
    unfolding and_then ends-well
    page-broken w = sym (page-is ∙ rw w refl)

    -- its chain is whole, and t says whether the code is right
    module _ {m' : List ℕ} (code : List ℕ) (w : chain ≡ Some m') (g : take (30 * k) code ≡ code_in s base (chain_from s base k (number_at s (e + 4) 2)))
        {t : Bool} (f : t ≡ page_code_fits (take (30 * k) code) sum p N) where
      fits : every (page_tests s P N p) ≡ t
      unfolding chain_in
      fits =
          tests-are s P N p
          ∙ sym (f ∙ ap₂ (λ (z : List ℕ) (i : ℕ). page_code_fits z i p N) (g ∙ code-is) sum-is)
        where
          code-is : code_in s base (chain_from s base k (number_at s (e + 4) 2)) ≡ code_in s (cells_start P) (chain_in s P p)
          code-is =
              ap (λ (z : ℕ). code_in s z (chain_from s z k (number_at s (e + 4) 2))) b
              ∙ ap₂ (λ (i z : ℕ). code_in s (cells_start P) (chain_from s (cells_start P) i (number_at s (z + 4) 2))) (q ∙ ap cells sum-is) at

      pub page-wrong : t ≡ false → false ≡ pages_on s P C N p m
      unfolding and_then ends-well go_on
      page-wrong e = sym (page-is ∙ rw w (rw (fits ∙ e) refl))

      pub page-next : t ≡ true → pages_on s P C N p m ≡ pages_on s P C N (p + 1) m'
      unfolding and_then ends-well go_on pages_on
      page-next e =
          page-is
          ∙ rw w (rw (fits ∙ e) (ap (λ (i : ℕ). ends-well (check_pages s P C N (P - (p + 1)) i m') (free_chain_fits s (cells_start P) C)) (sym (add-one p))))
