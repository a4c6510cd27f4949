-- The store afterwards is good: so its bytes are sound, with the same P, C and N, and a kept page's counts are those that its bytes said.
-- Assumes nothing.
use mathlib.Core.Path.{◌≡◌, sym, ap, ◌∙◌}
use mathlib.Core.Bool.{Bool, true}
use mathlib.Core.List.{List, [], ◌++◌}
use Prim.Native.Nat.{ℕ, suc, ◌≤◌, ◌<◌}
use native.Mathlib.Omega.{arith}
use native.Mathlib.Decide.{dec_le, ℕ_discrete}
use lib.ListN.{length, take}
use lib.Dec.{eqb, leb}
use borrow.Author.Tests.{le-leb, leb-true, eq-eqb, eqb-true}
use Rattle.lists.specs.Lists.{concat, occurrences, sum, tabulate}
use Rattle.lists.proofs.Occurrences.{occurrences-append}
use Rattle.lists.proofs.Sums.{sum-concat, sum-take-le}
use Rattle.lists.proofs.Tables.{get_d_tabulate, length-tabulate, tabulate-ext}
use Rattle.lists.proofs.Tests.{every-last}
use Rattle.store.specs.Limits.{max_total}
use Rattle.store.specs.Shape.{Shaped, shape_tests}
use Rattle.store.specs.PageCode.{cells}
use Rattle.store.specs.Plain.{page}
use Rattle.store.specs.Layout.{bytes_of}
use Rattle.store.specs.Reading.{cells_of, hours_in, page_count_of, read}
use Rattle.store.specs.Sound.{Good, is_cell, on_chains, sound}
use Rattle.store.proofs.Chained.{good-chained}
use Rattle.store.proofs.Holds.{holds-bytes}
use Rattle.store.proofs.PageLaws.{list_length, page-back}
use Rattle.store.proofs.ReadBack.{hours-is}
use Rattle.store.proofs.ShapeLaws.{shaped, shaped-so, with-last}
use Rattle.store.proofs.SoundFacts.{bytes_read}
use Rattle.store.proofs.SoundLaws.{once-of, sound-bytes}
use Rattle.repair.specs.Repair.{kept_chain, kept_counts, repair_tests, repairable, repaired, sieve, used_cells}
use Rattle.repair.proofs.Keeping.{kept-cells, kept-chain, kept-fits, kept-total, sum_at_left, page-left}
use Rattle.repair.proofs.Sieves.{once-length, sieve-none, sieve-one, sieve-range}

-- what is not refused
pub repairs-shaped : (s : List ℕ) (n : ℕ) → repairable s n ≡ true → Shaped s × (page_count_of s ≤ n)
unfolding repairable repair_tests
repairs-shaped s n e = let w = with-last (shape_tests s) (leb (page_count_of s) n) e in (shaped s w.0, leb-true (page_count_of s) n w.1)

pub shaped-repairs : (s : List ℕ) (n : ℕ) → Shaped s → page_count_of s ≤ n → repairable s n ≡ true
unfolding repairable repair_tests
shaped-repairs s n h l = every-last (shape_tests s) (leb (page_count_of s) n) (shaped-so s h) ∙ le-leb (page_count_of s) n l

-- ---- the cells that remain: with those of the kept pages, each cell once
module _ (C : ℕ) (used : List ℕ) where
  abbrev is_free : ℕ → Bool
  is_free c = eqb (occurrences c used) 0

  abbrev rest : List ℕ
  rest = sieve is_free 1 C

  pub rest-once : ((c : ℕ) → occurrences c used ≤ 1) → ((c : ℕ) → 1 ≤ occurrences c used → (1 ≤ c) × (c ≤ C)) → (c : ℕ)
      → occurrences c (used ++ rest) ≡ is_cell C c
  rest-once o r = once-of C (used ++ rest) range each-one
    where
      range : (c : ℕ) → 1 ≤ occurrences c (used ++ rest) → (1 ≤ c) × (c ≤ C)
      range c q = go (dec_le 1 (occurrences c used))
        where
          go : Dec (1 ≤ occurrences c used) → (1 ≤ c) × (c ≤ C)
          go (yes a) = r c a
          go (no a) = let w = sieve-range is_free 1 C c (omega (arith, occurrences-append c used rest)) in (w.0, omega (arith, w.1))

      each-one : (j : ℕ) → j < C → occurrences (suc j) (used ++ rest) ≡ 1
      each-one j l = go (ℕ_discrete (occurrences (suc j) used) 0)
        where
          go : Dec (occurrences (suc j) used ≡ 0) → occurrences (suc j) (used ++ rest) ≡ 1
          go (yes a) =
              omega (arith, occurrences-append (suc j) used rest, a, sieve-one is_free 1 C (suc j) (omega arith) (omega arith) (eq-eqb _ _ a))
          go (no a) =
              omega (
                arith,
                occurrences-append (suc j) used rest,
                o (suc j),
                sieve-none is_free 1 C (suc j) (λ w. a (eqb-true (occurrences (suc j) used) 0 w.2)),
              )

module _ (s : List ℕ) (h : Shaped s) where
  abbrev P : ℕ
  P = page_count_of s

  abbrev N : ℕ
  N = hours_in s

  abbrev xs : List ℕ
  xs = take (hours_in s) (concat (tabulate (page_count_of s) (kept_counts s)))

  pub counts-length : length xs ≡ N
  counts-length = list_length P N (kept_counts s) (λ q _. (page-left s q).long) h.hours

  pub page-is : (p : ℕ) → p < P → page xs p ≡ kept_counts s p
  page-is p l = page-back P N (kept_counts s) (λ q _. (page-left s q).long) h.hours p l (page-left s p).quiet

  total-fits : sum xs ≤ max_total
  total-fits =
      omega (
        arith,
        sum-take-le N (concat (tabulate P (kept_counts s))),
        sum-concat P (kept_counts s),
        ap sum (tabulate-ext P (λ p. sum (kept_counts s p)) (sum_at_left s) (λ p _. (page-left s p).sums)),
        kept-total s P,
        kept-fits s P,
      )

  all_once : (c : ℕ) → occurrences c (on_chains (repaired s)) ≡ is_cell (cells_of s) c
  unfolding repaired on_chains
  all_once c =
      ap (λ (z : List ℕ). occurrences c (z ++ rest (cells_of s) (used_cells s))) (sym (kept-cells s P))
      ∙ rest-once (cells_of s) (used_cells s) (kept-chain s P).once (λ d q. ((kept-chain s P).from d q, (kept-chain s P).upto d q)) c

  pub good : Good (repaired s)
  unfolding repaired
  good = record {
    limits = h.fitting.limits;
    hours = omega (arith, counts-length, h.hours);
    total = total-fits;
    rows = length-tabulate P (kept_chain s);
    lengths = λ p l. ap length (get_d_tabulate P (kept_chain s) p [] l) ∙ (page-left s p).cells ∙ ap (λ (z : List ℕ). cells (sum z)) (sym (page-is p l));
    once = all_once;
    all = once-length (cells_of s) (on_chains (repaired s)) all_once;
  }

  -- 'The result is sound with the same N'
  pub restored-sound : sound (bytes_of (repaired s)) ≡ true
  restored-sound = sound-bytes (repaired s) good

  pub restored-read : read (bytes_of (repaired s)) ≡ repaired s
  restored-read = bytes_read (repaired s) (good-chained (repaired s) good)

  pub restored-hours : hours_in (bytes_of (repaired s)) ≡ hours_in s
  unfolding repaired
  restored-hours = hours-is (bytes_of (repaired s)) (repaired s) (good-chained (repaired s) good) (holds-bytes (repaired s) good) ∙ counts-length
