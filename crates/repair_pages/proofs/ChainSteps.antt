-- A chain looked at cell by cell: what is left of it, the code gathered so far, the marks made so far. Assumes nothing.
use mathlib.Core.Path.{◌≡◌, sym, ap, ◌∙◌}
use mathlib.Core.Bool.{Bool, true, false, ◌&&◌}
use mathlib.Core.List.{List}
use Prim.Native.Nat.{ℕ, suc, ◌+◌, ◌-◌, ◌≤◌, ◌<◌}
use native.Mathlib.Omega.{arith}
use lib.ListN.{get_or, set}
use lib.Dec.{eqb, leb}
use borrow.Author.Tests.{leb-true}
use Rattle.lists.proofs.Tests.{left, right}
use Rattle.bits.specs.Numbers.{Number, number_at}
use Rattle.store.specs.Code.Checked.{cell_test}
use Rattle.store.specs.Layout.{cell_at}
use Rattle.store.specs.Reading.{chain_from, code_in}
use Rattle.store.proofs.CheckChain.{mark_all}
use Rattle.chains.proofs.Gathering.{SoFar}
use Rattle.repair_pages.specs.Code.Chain.{chain_kept}

module _ (s : List ℕ) (base C : ℕ) (m : List ℕ) where
  -- j of k cells are passed; at the link a the chain goes on
  abbrev pub kept_on : ℕ → ℕ → ℕ → Bool
  kept_on k j a = chain_kept s base C m (k - j) (number_at s a 2)

  abbrev pub MarkedOn : ℕ → ℕ → ℕ → List ℕ → ℕ → Type 0
  MarkedOn c k j n a = mark_all m (chain_from s base k c) ≡ mark_all n (chain_from s base (k - j) (number_at s a 2))

  pub cell-broken : (k j a : ℕ) → j < k → cell_test C m (number_at s a 2) ≡ false → false ≡ kept_on k j a
  unfolding chain_kept
  cell-broken k j a l e =
      let one : k - j ≡ suc (k - (j + 1)) = omega arith in
      sym (ap (λ (i : ℕ). chain_kept s base C m i (number_at s a 2)) one ∙ rw e)

  module _ (k j : ℕ) {a c : ℕ} (n : Number s a 2 c) where
    one : j < k → k - j ≡ suc (k - (j + 1))
    one l = omega arith

    none : k ≤ j → k - j ≡ 0
    none l = omega arith

    pub chain-end : k ≤ j → eqb c 0 ≡ kept_on k j a
    unfolding chain_kept
    chain-end l = sym (ap (λ (i : ℕ). chain_kept s base C m i (number_at s a 2)) (none l) ∙ rw (sym n.is))

    module _ (l : j < k) {r : ℕ} (at : r ≡ cell_at base c) where
      pub cell-next : cell_test C m c ≡ true → kept_on k j a ≡ kept_on k (j + 1) r
      unfolding chain_kept
      cell-next e = ap (λ (i : ℕ). chain_kept s base C m i (number_at s a 2)) (one l) ∙ rw (sym n.is, at) (rw e)

      -- a cell of a chain that is kept: it is one, and the rest is kept
      pub kept_next : kept_on k j a ≡ true → (1 ≤ c) × (c ≤ C) × (kept_on k (j + 1) r ≡ true)
      unfolding chain_kept
      kept_next e =
          let q : (cell_test C m c && chain_kept s base C m (k - (j + 1)) (number_at s (cell_at base c) 2)) ≡ true =
          sym (ap (λ (i : ℕ). chain_kept s base C m i (number_at s a 2)) (one l) ∙ rw (sym n.is)) ∙ e in
          let t = left (cell_test C m c) (chain_kept s base C m (k - (j + 1)) (number_at s (cell_at base c) 2)) q in
          let u = right (leb 1 c) (leb c C && eqb (get_or m c 0) 0) t in (
            leb-true 1 c (left (leb 1 c) (leb c C && eqb (get_or m c 0) 0) t),
            leb-true c C (left (leb c C) (eqb (get_or m c 0) 0) u),
            ap (λ (z : ℕ). chain_kept s base C m (k - (j + 1)) (number_at s z 2)) at
                ∙ right (cell_test C m c) (chain_kept s base C m (k - (j + 1)) (number_at s (cell_at base c) 2)) q,
          )

      pub mark-next : (c₀ : ℕ) (marks : List ℕ) → MarkedOn c₀ k j marks a → MarkedOn c₀ k (j + 1) (set marks c 1) r
      unfolding chain_from mark_all
      mark-next c₀ marks g = g ∙ rw (one l, sym n.is, at)

  pub marks-end : (k j a c₀ : ℕ) (marks : List ℕ) → k ≤ j → MarkedOn c₀ k j marks a → marks ≡ mark_all m (chain_from s base k c₀)
  unfolding chain_from mark_all
  marks-end k j a c₀ marks l g = let e : k - j ≡ 0 = omega arith in sym (g ∙ rw e)

  pub all_left : (k a : ℕ) → kept_on k 0 a ≡ chain_kept s base C m k (number_at s a 2)
  all_left k a = let e : k - 0 ≡ k = omega arith in ap (λ (i : ℕ). chain_kept s base C m i (number_at s a 2)) e

  pub gather-start : (k a : ℕ) (code : List ℕ) → SoFar s base (code_in s base (chain_from s base k (number_at s a 2))) k 0 code a
  gather-start k a code =
      let e : k ≡ k - 0 = omega arith in
      ap (λ (i : ℕ). code_in s base (chain_from s base i (number_at s a 2))) e

  pub mark-start : (k a : ℕ) → MarkedOn (number_at s a 2) k 0 m a
  mark-start k a =
      let e : k ≡ k - 0 = omega arith in
      ap (λ (i : ℕ). mark_all m (chain_from s base i (number_at s a 2))) e
