-- The clauses of a kept page are `is_kept`. Assumes nothing.
use mathlib.Core.Path.{◌≡◌, refl, sym, ap, ◌∙◌}
use mathlib.Core.Bool.{Bool, true, false, true≢false}
use mathlib.Core.List.{List}
use mathlib.Core.Logic.{◌↔◌}
use Prim.Native.Nat.{ℕ, zero, suc, ◌+◌, ◌*◌, ◌≤◌, ◌<◌}
use native.Mathlib.Decide.{dec_le}
use native.Mathlib.Omega.{arith}
use lib.ListN.{get_or}
use lib.Dec.{ltb}
use borrow.Author.Tests.{le-ltb}
use Rattle.lists.specs.Lists.{concat, occurrences, pick, tabulate}
use Rattle.lists.proofs.Occurrences.{occurrences-append, occurrences-tabulate}
use Rattle.lists.proofs.Tables.{get_d_tabulate}
use Rattle.store.specs.Layout.{cells_start}
use Rattle.store.specs.PageCode.{cells}
use Rattle.store.specs.Reading.{cells_of, chain_in, first_in, hours_in, page_in, page_count_of, sum_in}
use Rattle.store.proofs.ItemLaws.{quiet_of}
use Rattle.store.proofs.SoundLaws.{within_all}
use Rattle.repair.specs.Repair.{is_kept, kept_chain, kept_of}
use Rattle.repair.specs.Clauses.{KeptPage}
use Rattle.repair.proofs.Ends.{ends-chain, ends-runs, runs-ends}
use Rattle.repair.proofs.Keeping.{KeptBehind, chain-no, chain-yes, kept_at, kept-cells, kept-total, page-kept}

none_of : (d n : ℕ) (f : ℕ → List ℕ) → ((q : ℕ) → q < n → occurrences d (f q) ≡ 0) → occurrences d (concat (tabulate n f)) ≡ 0
unfolding tabulate concat occurrences
none_of d zero f h = refl
none_of d (suc n) f h =
    omega (
      arith,
      occurrences-append d (f 0) (concat (tabulate n (λ j. f (suc j)))),
      h 0 (omega arith),
      none_of d n (λ j. f (suc j)) (λ q l. h (suc q) (omega arith)),
    )

module _ (s : List ℕ) (p : ℕ) where
  abbrev P : ℕ
  P = page_count_of s

  abbrev chain : ℕ → List ℕ
  chain q = chain_in s (page_count_of s) q

  -- the cells of a page kept earlier are among those in use
  in_use : (q c : ℕ) → q < p → is_kept s q ≡ true → 1 ≤ occurrences c (chain q) → 1 ≤ occurrences c (kept_of s p).cells
  in_use q c l e o =
      omega (
        arith,
        occurrences-tabulate c p (kept_chain s) q l,
        ap (occurrences c) (chain-yes s q e),
        ap (occurrences c) (kept-cells s p),
      )

  from-kept : KeptBehind s (kept_of s p) p → KeptPage s p
  unfolding chain_in pick
  from-kept g = record {
    chain = ends-runs s (cells_start P) (cells (sum_in s p)) (first_in s p) (λ d q. g.chain.from d q) g.ends;
    cells = λ c q. (g.chain.from c q, g.chain.upto c q);
    apart = λ q c l e o. alone q c l e o (dec_le 1 (occurrences c (chain p)));
    code = g.code;
    page-sum = g.page-sum;
    beyond = λ j l n.
        let f : ℕ → ℕ = λ j. pick (ltb (64 * p + j) (hours_in s)) (get_or (page_in s P p) j 0) 0 in
        ap (λ (z : List ℕ). get_or z j 0) g.quiet ∙ get_d_tabulate 64 f j 0 l
        ∙ ap (λ (b : Bool). pick b (get_or (page_in s P p) j 0) 0) (le-ltb (64 * p + j) (hours_in s) n);
    total = omega (arith, g.total, kept-total s p);
  }
    where
      alone : (q c : ℕ) → q < p → is_kept s q ≡ true → 1 ≤ occurrences c (chain q) → Dec (1 ≤ occurrences c (chain p)) → occurrences c (chain p) ≡ 0
      alone q c l e o (yes d) = absurd (omega (arith, in_use q c l e o, g.new c d))
      alone q c l e o (no d) = omega arith

  to-kept : KeptPage s p → KeptBehind s (kept_of s p) p
  unfolding chain_in occurrences
  to-kept g =
      let w = runs-ends s (cells_start P) (cells (sum_in s p)) (first_in s p) g.chain in
      record {
        ends = w;
        chain = ends-chain s (cells_start P) (cells_of s) (cells (sum_in s p)) (first_in s p) (within_all (cells_of s) (chain p) g.cells) w;
        new = λ d o. ap (occurrences d) (kept-cells s p) ∙ none_of d p (kept_chain s) (λ q l. free d o q l (is_kept s q) refl);
        page-sum = g.page-sum;
        code = g.code;
        quiet = quiet_of s P (hours_in s) p g.beyond;
        total = omega (arith, g.total, kept-total s p);
      }
    where
      apart : (d : ℕ) → 1 ≤ occurrences d (chain p) → (q : ℕ) → q < p → is_kept s q ≡ true → Dec (1 ≤ occurrences d (chain q)) → occurrences d (chain q) ≡ 0
      apart d o q l e (yes r) = absurd (omega (arith, g.apart q d l e r))
      apart d o q l e (no r) = omega arith

      free : (d : ℕ) → 1 ≤ occurrences d (chain p) → (q : ℕ) → q < p → (b : Bool) → is_kept s q ≡ b → occurrences d (kept_chain s q) ≡ 0
      free d o q l true e = ap (occurrences d) (chain-yes s q e) ∙ apart d o q l e (dec_le 1 (occurrences d (chain q)))
      free d o q l false e = ap (occurrences d) (chain-no s q e)

  pub kept-exactly : (is_kept s p ≡ true) ↔ KeptPage s p
  unfolding is_kept
  kept-exactly = (λ e. from-kept (kept_at s p e), λ g. page-kept s (kept_of s p) p (to-kept g))

pub lost-exactly : (s : List ℕ) (p : ℕ) → (is_kept s p ≡ false) ↔ (KeptPage s p → ⊥)
lost-exactly s p = (λ e g. true≢false (sym ((kept-exactly s p).1 g) ∙ e), λ n. go (is_kept s p) refl n)
  where
    go : (r : Bool) → is_kept s p ≡ r → (KeptPage s p → ⊥) → is_kept s p ≡ false
    go true e n = absurd (n ((kept-exactly s p).0 e))
    go false e n = e
