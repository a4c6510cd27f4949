-- The itemised statement of soundness is the computed one. Assumes nothing.
use mathlib.Core.Path.{◌≡◌, refl, sym, ap, subst, ◌∙◌}
use mathlib.Core.Bool.{true}
use mathlib.Core.List.{List, [], ◌∷◌}
use Prim.Native.Nat.{ℕ, zero, suc, ◌+◌, ◌*◌, ◌≤◌, ◌<◌}
use native.Mathlib.Decide.{dec_le}
use native.Mathlib.Omega.{arith}
use lib.ListN.{length, get_or, replicate, length-append, get_or-eq_default}
use lib.Dec.{ltb}
use lib.Seq.{ext_get_or}
use borrow.Author.Tests.{eq-eqb, le-ltb, lt-ltb}
use Rattle.lists.specs.Lists.{concat, occurrences, part, pick, sum, tabulate}
use Rattle.lists.proofs.Occurrences.{length-concat, occurrences-append, occurrences-tabulate}
use Rattle.lists.proofs.Parts.{part-front}
use Rattle.lists.proofs.Tables.{get_d_tabulate, length-tabulate}
use Rattle.lists.proofs.Tests.{Each, same-eq}
use Rattle.bits.specs.Numbers.{little, number_at}
use Rattle.bits.proofs.Little.{stored}
use Rattle.bits.specs.Bits.{bits}
use Rattle.tree.proofs.Shape.{length-counts}
use Rattle.store.specs.PageCode.{cells, page_bytes, counts_in_page}
use Rattle.store.specs.Plain.{page}
use Rattle.store.specs.Layout.{Model, cell_at, header, size, cells_start, entry_at}
use Rattle.store.specs.Reading.{Runs, cells_of, chain_from, chain_in, code_in, first_in, hours_in, list_in, page_in, page_count_of, read, read_for, spare_in, sum_in}
use Rattle.store.specs.Sound.{Good, on_chains, sound}
use Rattle.store.specs.Items.{Items, on_all}
use Rattle.store.specs.Code.Checked.{head_tests, page_tests, quiet}
use Rattle.store.proofs.ChainLaws.{Says, says}
use Rattle.store.proofs.CheckPages.{PageGood}
use Rattle.store.proofs.FreshLaws.{cell_in}
use Rattle.store.proofs.Holds.{Holds}
use Rattle.store.proofs.Joining.{chain-all, chain_head, chain-part, chain-tail}
use Rattle.store.proofs.Chained.{good-chained}
use Rattle.store.proofs.ReadBack.{code-in, page-is, spare-in}
use Rattle.store.proofs.SoundFacts.{Facts, facts}
use Rattle.store.proofs.Spread.{spread-of}
use Rattle.store.proofs.TotalLaws.{total-all}
use Rattle.store.proofs.Verdict.{Found, head-each, says-sound}
use Rattle.store.proofs.Writes.{Chain, Linked}

pub chain-long : (s : List ℕ) (P k c : ℕ) → length (chain_from s (cells_start P) k c) ≡ k
unfolding chain_from
chain-long s P zero c = refl
chain-long s P (suc k) c = ap suc (chain-long s P k (number_at s (cell_at (cells_start P) c) 2))

pub page-long : (s : List ℕ) (P p : ℕ) → length (page_in s P p) ≡ 64
unfolding page_in counts_in_page
page-long s P p = length-counts 6 (sum_in s p) (bits (code_in s (cells_start P) (chain_in s P p))) 0

-- a page whose hours from N on are zero
pub quiet_of : (s : List ℕ) (P N p : ℕ) → ((j : ℕ) → j < 64 → N ≤ 64 * p + j → get_or (page_in s P p) j 0 ≡ 0) → page_in s P p ≡ quiet N p (page_in s P p)
unfolding pick
quiet_of s P N p h =
    let f : ℕ → ℕ = λ j. pick (ltb (64 * p + j) N) (get_or (page_in s P p) j 0) 0 in
    ext_get_or 0 (page_in s P p) (tabulate 64 f) (page-long s P p ∙ sym (length-tabulate 64 f))
    (λ j r. let q : j < 64 = omega (arith, page-long s P p) in go j q (dec_le (64 * p + j + 1) N) ∙ sym (get_d_tabulate 64 f j 0 q))
  where
    go : (j : ℕ) → j < 64 → Dec (64 * p + j + 1 ≤ N) → get_or (page_in s P p) j 0 ≡ pick (ltb (64 * p + j) N) (get_or (page_in s P p) j 0) 0
    go j q (yes k) = rw (lt-ltb (64 * p + j) N (omega arith))
    go j q (no k) = rw (le-ltb (64 * p + j) N (omega arith)) (h j q (omega arith))

module _ (s : List ℕ) (bytes : (i : ℕ) → get_or s i 0 < 256) where
  -- a chain of cells that runs to its end is linked
  runs-linked : (P C a : ℕ) (cs : List ℕ) → size P C ≤ length s → a + 2 ≤ length s → Chain C cs → Runs s (cells_start P) (number_at s a 2) cs
      → Linked s (cells_start P) a cs 0
  runs-linked P C a [] z l j h = stored s bytes a 2 l ∙ ap (little 2) h
  runs-linked P C a (c ∷ cs) z l j h =
      let w = chain_head C c cs j in
      (stored s bytes a 2 l ∙ ap (little 2) h.0, runs-linked P C (cell_at (cells_start P) c) cs z (omega (arith, w.0, w.1)) (chain-tail j) h.2)

  module _ (i : Items s) where
    abbrev P : ℕ
    P = page_count_of s

    abbrev C : ℕ
    C = cells_of s

    big : size P C ≤ length s
    big = omega (arith, i.fitting.long)

    chain-sub : (cs : List ℕ) → ((d : ℕ) → occurrences d cs ≤ occurrences d (on_all s)) → Chain C cs
    chain-sub cs q = chain-part (on_all s) cs q (chain-all C (on_all s) i.once)

    page-part : (p : ℕ) → p < P → (d : ℕ) → occurrences d (chain_in s P p) ≤ occurrences d (on_all s)
    page-part p l d = omega (arith, occurrences-tabulate d P (chain_in s P) p l, occurrences-append d (concat (tabulate P (chain_in s P))) (spare_in s P))

    free_part : (d : ℕ) → occurrences d (spare_in s P) ≤ occurrences d (on_all s)
    free_part d = omega (arith, occurrences-append d (concat (tabulate P (chain_in s P))) (spare_in s P))

    page-good : (p : ℕ) → p < P → PageGood s P C (hours_in s) p
    unfolding page_tests chain_in
    page-good p l =
        let j = chain-sub (chain_in s P p) (page-part p l) in
        record {
          tests = (
            eq-eqb _ _ (page-long s P p),
            (eq-eqb _ _ (i.page-sum p l), (same-eq _ _ (i.page-code p l), (same-eq _ _ (quiet_of s P (hours_in s) p (λ j q k. i.beyond p j l q k)), tt))),
          );
          long = chain-long s P (cells (sum_in s p)) (first_in s p);
          chain = j;
          linked = runs-linked P C (entry_at p + 4) (chain_in s P p) big (omega (arith, big, i.fitting.limits.cells_low)) j (i.page-chain p l);
        }

    head-is : Each (head_tests s)
    head-is =
        head-each s (record {
          long = omega (arith, big);
          edition = i.edition;
          gap = i.gap;
          fitting = i.fitting;
          hours = i.hours;
          total = i.total;
        })

    number_is : sum (tabulate P (λ p. cells (sum_in s p))) + number_at s 8 2 ≡ C
    unfolding spare_in chain_in
    number_is =
        let e : length (concat (tabulate P (chain_in s P))) ≡ sum (tabulate P (λ p. cells (sum_in s p))) =
        length-concat (tabulate P (chain_in s P)) (λ p. cells (sum_in s p))
        (λ p l. ap length (get_d_tabulate P (chain_in s P) p [] (rw length-tabulate at l)) ∙ chain-long s P (cells (sum_in s p)) (first_in s p))
        ∙ ap (λ (z : ℕ). sum (tabulate z (λ p. cells (sum_in s p)))) (length-tabulate P (chain_in s P)) in
        omega (
          arith,
          e,
          i.all,
          length-append (concat (tabulate P (chain_in s P))) (spare_in s P),
          chain-long s P (number_at s 8 2) (number_at s 6 2),
        )

    found_it : Found s bytes
    unfolding spare_in
    found_it =
        let f = chain-sub (spare_in s P) free_part in
        record {
          head = head-is;
          page-good = page-good;
          free-long = chain-long s P (number_at s 8 2) (number_at s 6 2);
          free-chain = f;
          free-linked = runs-linked P C 6 (spare_in s P) big (omega (arith, big)) f i.free-chain;
          marks-of = λ j l. i.once (suc j) ∙ cell_in C (suc j) (omega arith) (omega arith);
          number = number_is;
          clear = i.free-clear;
        }

    pub items-sound : sound s ≡ true
    items-sound = says-sound s bytes found_it

module _ (s : List ℕ) (e : sound s ≡ true) where
  f : Facts s
  f = facts s e

  told : Says s (read s).plain.pages (read s).plain.cells (list_in s)
  told = subst (λ (z : List ℕ). Says z (read s).plain.pages (read s).plain.cells (list_in s)) (sym f.same) (says (read s) f.good)

  none-beyond : (p j : ℕ) → p < page_count_of s → j < 64 → hours_in s ≤ 64 * p + j → get_or (page_in s (page_count_of s) p) j 0 ≡ 0
  unfolding read read_for page
  none-beyond p j l q k =
      let xs : List ℕ = list_in s in
      ap (λ (z : List ℕ). get_or z j 0) (page-is s (read s) (good-chained (read s) f.good) f.holds p l)
      ∙ get_d_tabulate 64 (λ j. get_or xs (64 * p + j) 0) j 0 q
      ∙ get_or-eq_default xs 0 (omega (arith, f.hours-are))

  edition-is : part s 0 2 ≡ 1 ∷ 0 ∷ []
  unfolding header concat
  edition-is = part-front s (header (read s)) 0 16 2 f.holds.head (omega arith)

  pub sound-items : Items s
  unfolding read read_for on_chains
  sound-items =
      let m : Model = read s in
      let g : Good m = f.good in
      let h : Holds s m = f.holds in
      record {
        fitting = record { limits = f.good.limits; long = f.long };
        edition = edition-is;
        gap = (spread-of s m g.rows h).gap;
        page-chain = told.page-ends;
        page-code = λ p l. code-in s m (good-chained m g) h p l ∙ ap page_bytes (sym (page-is s m (good-chained m g) h p l));
        page-sum = λ p l. ap sum (page-is s m (good-chained m g) h p l) ∙ sym (f.sums p l);
        beyond = none-beyond;
        free-chain = told.free-ends;
        free-clear = spare-in s m (good-chained m g) h ∙ ap (λ (z : ℕ). replicate (30 * z) 0) (sym f.free-is);
        hours = f.hours-fit;
        total = omega (arith, total-all s e, f.total-fits);
        once = told.once;
        all = g.all;
      }
