-- What demand 3 says of cells and chains, sentence by sentence, of a store after any list of calls. Each law takes what it says from
-- `demand-3`; a claim that says less fails here. Assumes nothing.
use mathlib.Core.Bool.{true}
use mathlib.Core.List.{List, [], ◌∷◌, ◌++◌}
use mathlib.Core.Path.{◌≡◌, refl, sym, subst, ap, ◌∙◌}
use Prim.Native.Nat.{ℕ, zero, suc, ◌+◌, ◌-◌, ◌*◌, ◌≤◌, ◌<◌}
use native.Mathlib.Nat.{le_of_suc-le-suc, not-suc-le-zero}
use native.Mathlib.Omega.{arith}
use lib.ListN.{length, get_or, replicate}
use Rattle.lists.specs.Lists.{concat, first, occurrences, sum, tabulate}
use Rattle.bits.specs.Bits.{bits}
use Rattle.bits.specs.Numbers.{number_at}
use Rattle.reserve.specs.Reserve.{ceil, reserve}
use Rattle.tree.specs.Read.{counts}
use Rattle.store.specs.Fitting.{Fitting}
use Rattle.store.specs.Layout.{cell_at}
use Rattle.store.specs.PageCode.{cells}
use Rattle.store.specs.Plain.{Call, Plain, need, page}
use Rattle.store.specs.Reading.{Runs, chain_from, chain_in, code_in, list_in, spare_in, sum_in}
use Rattle.store.specs.Sound.{sound}
use Rattle.store.proofs.FreshLaws.{cell-high, cell_in, cell-zero}
use Rattle.store.proofs.ItemLaws.{items-sound}
use Rattle.demands.specs.Demand2.{code_of}
use Rattle.demands.specs.Demand3.{StoreHolds, list_after, store_after}
use Rattle.demands.proofs.Demand3.{demand-3}
use Rattle.demands.proofs.Sentences3.{header-says}
use Rattle.demands.proofs.SentencesRanges.{cells-said}
use Rattle.demands.proofs.StoreBytes.{sound-bytes}

-- ---- a whole chain, cell by cell: 'A chain runs from a page's first cell, or from the first free cell, along the next cells. Next 0 ends a
-- chain, and one with first cell 0 is empty'
-- the number that it starts from is its first cell, 0 if it has none
chain_first : (s : List ℕ) (base c : ℕ) (cs : List ℕ) → Runs s base c cs → c ≡ first cs
unfolding first
chain_first s base c [] r = r
chain_first s base c (d ∷ cs) r = r.0

-- and in cell k of it stands the number of cell k + 1, 0 behind the last
chain_next : (s : List ℕ) (base c : ℕ) (cs : List ℕ) → Runs s base c cs → (k : ℕ) → k < length cs
    → (1 ≤ get_or cs k 0) × (number_at s (cell_at base (get_or cs k 0)) 2 ≡ get_or cs (suc k) 0)
chain_next s base c [] r k l = absurd (not-suc-le-zero l)
chain_next s base c (d ∷ cs) r zero l = (r.1, go cs r.2)
  where
    go : (es : List ℕ) → Runs s base (number_at s (cell_at base d) 2) es → number_at s (cell_at base d) 2 ≡ get_or es 0 0
    go [] q = q
    go (e ∷ es) q = q.0
chain_next s base c (d ∷ cs) r (suc k) l = chain_next s base (number_at s (cell_at base d) 2) cs r.2 k (le_of_suc-le-suc l)

-- a chain has as many cells as were read of it
chain-long : (s : List ℕ) (base k c : ℕ) → length (chain_from s base k c) ≡ k
unfolding chain_from
chain-long s base zero c = refl
chain-long s base (suc k) c = ap suc (chain-long s base k (number_at s (cell_at base c) 2))

-- ---- after any list of calls
module _ (b : List ℕ) (P C : ℕ) (h : Fitting b P C) (cs : List Call) where
  abbrev S : List ℕ
  S = store_after b P C cs

  abbrev X : List ℕ
  X = (list_after P C cs).counts

  abbrev D : StoreHolds S P C X
  D = (demand-3.calls b P C h cs).holds

  -- the next cell, as cell c has it
  abbrev next : ℕ → ℕ
  next c = number_at S (16 + 6 * P + 32 * (c - 1)) 2

  -- 'A store is sound if all of this holds': the clauses alone make it sound
  pub sound-by-clauses : sound S ≡ true
  sound-by-clauses = items-sound S (sound-bytes S D.is-sound) D.items

  -- 'A page of sum s has ceil(R(64, s) / 240) cells'
  pub page-has : (p : ℕ) → p < P → length (chain_in S P p) ≡ ceil (reserve 6 (sum_in S p)) 240
  unfolding cells
  page-has p l = D.page-cells p l ∙ ap cells (sym (D.page-sum p l))

  -- 'Page entry, 6 bytes: page sum (4), first cell (2)'
  pub entry-says : (p : ℕ) → p < P → (number_at S (16 + 6 * p) 4 ≡ sum (page X p)) × (number_at S (16 + 6 * p + 4) 2 ≡ first (chain_in S P p))
  unfolding sum_in
  entry-says p l = (D.page-sum p l, chain_first S (16 + 6 * P) (number_at S (16 + 6 * p + 4) 2) (chain_in S P p) (D.page-ends p l))

  -- 'Cell, numbered from 1: next cell (2)', along a page's chain
  pub page-next : (p k : ℕ) → p < P → k < length (chain_in S P p)
      → (1 ≤ get_or (chain_in S P p) k 0) × (next (get_or (chain_in S P p) k 0) ≡ get_or (chain_in S P p) (suc k) 0)
  page-next p k l = chain_next S (16 + 6 * P) (number_at S (16 + 6 * p + 4) 2) (chain_in S P p) (D.page-ends p l) k

  -- 'Its code runs along its chain': there the bits say the plain list's counts
  pub page-code-says : (p : ℕ) → p < P → counts 6 (sum (page X p)) (bits (code_in S (16 + 6 * P) (chain_in S P p))) 0 ≡ page X p
  page-code-says p l =
      let pages = (header-says b P C h cs).0 in
      let list : list_in S ≡ X = ap (λ (L : Plain). L.counts) D.list in
      subst (λ (n : ℕ). counts 6 (sum (page X p)) (bits (code_in S (16 + 6 * n) (chain_in S n p))) 0 ≡ page X p) pages
      (subst (λ (xs : List ℕ). counts 6 (sum (page xs p)) (bits (code_of S p)) 0 ≡ page xs p) list
      (cells-said S p D.is-sound (omega (arith, pages))))

  -- '6-7 first free cell (0 if none), 8-9 number of free cells': all the cells that the list does not need
  pub free-says : (number_at S 6 2 ≡ first (spare_in S P)) × (number_at S 8 2 ≡ length (spare_in S P)) × (length (spare_in S P) + need X P ≡ C)
  unfolding spare_in
  free-says = (
    chain_first S (16 + 6 * P) (number_at S 6 2) (spare_in S P) D.free-ends,
    sym (chain-long S (16 + 6 * P) (number_at S 8 2) (number_at S 6 2)),
    omega (arith, D.free-cells, D.need-fits),
  )

  -- and along the free chain
  pub free-next : (k : ℕ) → k < length (spare_in S P) → (1 ≤ get_or (spare_in S P) k 0) × (next (get_or (spare_in S P) k 0) ≡ get_or (spare_in S P) (suc k) 0)
  free-next = chain_next S (16 + 6 * P) (number_at S 6 2) (spare_in S P) D.free-ends

  -- 'Free cells hold 30 zero bytes'
  pub free-cells-clear : code_in S (16 + 6 * P) (spare_in S P) ≡ replicate (30 * length (spare_in S P)) 0
  free-cells-clear =
      subst (λ (n : ℕ). code_in S (16 + 6 * n) (spare_in S n) ≡ replicate (30 * number_at S 8 2) 0) (header-says b P C h cs).0 D.items.free-clear
      ∙ ap (λ (n : ℕ). replicate (30 * n) 0) free-says.1

  -- 'each cell is on exactly one chain', and no other number on any
  pub on-one-chain : (c : ℕ) → 1 ≤ c → c ≤ C → occurrences c (concat (tabulate P (chain_in S P)) ++ spare_in S P) ≡ 1
  on-one-chain c low high = D.once c ∙ cell_in C c low high

  pub on-no-chain : (c : ℕ) → C < c → occurrences c (concat (tabulate P (chain_in S P)) ++ spare_in S P) ≡ 0
  on-no-chain c high = D.once c ∙ cell-high C c high

  pub zero-on-no-chain : occurrences 0 (concat (tabulate P (chain_in S P)) ++ spare_in S P) ≡ 0
  zero-on-no-chain = D.once 0 ∙ cell-zero C 0 (omega arith)
