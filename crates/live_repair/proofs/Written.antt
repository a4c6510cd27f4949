-- The bytes that a repair leaves are those of the repaired store. Assumes nothing.
use mathlib.Core.Path.{◌≡◌, refl, sym, ap, subst, ◌∙◌}
use mathlib.Core.Bool.{Bool, true, false, not}
use mathlib.Core.List.{List, []}
use Prim.Native.Nat.{ℕ, suc, ◌+◌, ◌-◌, ◌*◌, ◌≤◌, ◌<◌}
use native.Mathlib.Omega.{arith}
use native.Mathlib.Decide.{dec_le}
use lib.ListN.{length, get_or, take, replicate}
use lib.Dec.{eqb}
use borrow.Author.Tests.{eqb-true}
use Rattle.lists.specs.Lists.{concat, first, occurrences, part, pick, sum}
use Rattle.lists.proofs.Occurrences.{occurrences-tabulate}
use Rattle.lists.proofs.Parts.{part_in}
use Rattle.lists.proofs.Tables.{get_d_tabulate}
use Rattle.lists.proofs.Zeros.{part-zeros}
use Rattle.bits.specs.Numbers.{little}
use Rattle.bits.proofs.Little.{little-zeros, stored}
use Rattle.store.specs.Layout.{bytes_of, cell_at, cells_start, entry_at, entry_size, header, size}
use Rattle.store.specs.PageCode.{cells, page_bytes}
use Rattle.store.specs.Reading.{cells_of, chain_in, page_in, page_count_of, sum_in}
use Rattle.store.specs.Code.Links.{put}
use Rattle.store.proofs.CheckChain.{Marked}
use Rattle.store.proofs.Filling.{Filled}
use Rattle.store.proofs.Holds.{holds-only}
use Rattle.store.proofs.PageLaws.{code-filled}
use Rattle.store.proofs.Spread.{Spread, part-two, spread-holds}
use Rattle.store.proofs.Writes.{Apart, Linked, cells-apart, put-length, put-off, put_same}
use Rattle.store.proofs.Zeros.{zeros-filled}
use Rattle.repair.specs.Repair.{is_kept, kept_chain, kept_counts, lost_pages, repaired, used_cells}
use Rattle.repair.proofs.Ends.{ends-linked}
use Rattle.repair.proofs.Keeping.{chain-no, chain-yes, counts-yes, kept_at, kept-cells, kept-chain, page-left}
use Rattle.store.specs.Shape.{Shaped}
use Rattle.repair.proofs.Restored.{counts-length, good, page-is}
use Rattle.repair.proofs.Sieves.{sieve-ext, sieve-one, sieve-range}
use Rattle.live_repair.specs.Code.Writing.{chained, dropped, freed, unmarked}
use Rattle.live_repair.proofs.Parts.{chain-up, code_same, dropped-length, dropped-off, dropped-on, freed-length, freed-off, freed-on, linked-same}

no-not : (b : Bool) → not b ≡ true → b ≡ true → ⊥
no-not b p q = let z : ◌≡◌ {A = ℕ} 0 1 = cc in omega arith

none_left : (s : List ℕ) (q : ℕ) → is_kept s q ≡ false → sum (kept_counts s q) ≡ 0
unfolding pick
none_left s q e = (page-left s q).sums ∙ ap (λ (b : Bool). pick b (sum_in s q) 0) e

module _ (s m : List ℕ) (h : Shaped s) (bytes : (i : ℕ) → get_or s i 0 < 256) (k : Marked (cells_of s) m (used_cells s)) where
  abbrev P : ℕ
  P = page_count_of s

  abbrev C : ℕ
  C = cells_of s

  abbrev base : ℕ
  base = cells_start (page_count_of s)

  abbrev lost : List ℕ
  lost = lost_pages s

  abbrev spare : List ℕ
  spare = unmarked m 1 (cells_of s)

  T : List ℕ
  T = dropped s (lost_pages s)

  F : List ℕ
  F = freed T (cells_start (page_count_of s)) m 1 (cells_of s)

  U : List ℕ
  U = put (put F 6 2 (first (unmarked m 1 (cells_of s)))) 8 2 (length (unmarked m 1 (cells_of s)))

  long : length s ≡ size P C
  long = h.fitting.long

  long-F : length F ≡ length s
  unfolding F T
  long-F = freed-length (dropped s (lost_pages s)) base m C 1 ∙ dropped-length (lost_pages s) s

  long-U : length U ≡ length s
  unfolding U
  long-U = put-length (put F 6 2 (first spare)) 8 2 (length spare) ∙ put-length F 6 2 (first spare) ∙ long-F

  -- a page that is listed is lost
  lost-page : (p : ℕ) → 1 ≤ occurrences p (lost_pages s) → (p < P) × (is_kept s p ≡ true → ⊥)
  unfolding lost_pages
  lost-page p q =
      let w = sieve-range (λ p. not (is_kept s p)) 0 P p q in
      (omega (arith, w.1), no-not (is_kept s p) w.2)

  -- ---- what is left as it was: the header but 6 to 9, the entries of kept pages, the cells with a mark
  head-same : (b n : ℕ) → b + n ≤ 16 → Apart 6 2 b n → Apart 8 2 b n → part U b n ≡ part s b n
  unfolding U F T
  head-same b n l a₆ a₈ =
      put-off (put F 6 2 (first spare)) 8 2 (length spare) b n a₈ ∙ put-off F 6 2 (first spare) b n a₆
      ∙ freed-off (dropped s lost) base m C 1 b n (λ c p q z r. omega arith) ∙ dropped-off lost s b n (λ p q r. omega arith)

  -- behind the header nothing but F is seen
  behind-head : (b n : ℕ) → 16 ≤ b → part U b n ≡ part F b n
  unfolding U
  behind-head b n l =
      put-off (put F 6 2 (first spare)) 8 2 (length spare) b n (λ r. absurd (omega arith)) ∙ put-off F 6 2 (first spare) b n (λ r. absurd (omega arith))

  entry-low : (p b n : ℕ) → p < P → entry_at p ≤ b → b + n ≤ entry_at p + entry_size → part U b n ≡ part (dropped s (lost_pages s)) b n
  unfolding F T
  entry-low p b n l x y =
      behind-head b n (omega arith) ∙ freed-off (dropped s lost) base m C 1 b n (λ c i j z r. omega arith)

  entry-same : (p b n : ℕ) → p < P → is_kept s p ≡ true → entry_at p ≤ b → b + n ≤ entry_at p + entry_size → part U b n ≡ part s b n
  entry-same p b n l e x y =
      entry-low p b n l x y
      ∙ dropped-off lost s b n (λ q r. apart q (λ w. (lost-page q r).1 (ap (is_kept s) (sym w) ∙ e)))
    where
      apart : (q : ℕ) → (p ≡ q → ⊥) → Apart (entry_at q) entry_size b n
      apart q ne r = go (dec_le p q)
        where
          go : Dec (p ≤ q) → b + n ≤ entry_at q
          go (yes d) = go₂ (dec_le q p)
            where
              go₂ : Dec (q ≤ p) → b + n ≤ entry_at q
              go₂ (yes f) = absurd (ne (omega arith))
              go₂ (no f) = omega arith
          go (no d) = absurd (omega arith)

  entry_zero : (p i n : ℕ) → p < P → is_kept s p ≡ false → i + n ≤ entry_size → part U (entry_at p + i) n ≡ replicate n 0
  unfolding lost_pages
  entry_zero p i n l e x =
      entry-low p (entry_at p + i) n l (omega arith) (omega arith)
      ∙ part_in (dropped s lost) (replicate entry_size 0) (entry_at p) entry_size i n
      (dropped-on lost s p (omega (arith, long))
      (omega (arith, sieve-one (λ p. not (is_kept s p)) 0 P p (omega arith) (omega arith) (ap not e)))) x
      ∙ part-zeros entry_size i n x

  -- a cell of a kept page has a mark
  used-marked : (d : ℕ) → 1 ≤ occurrences d (used_cells s) → (1 ≤ d) × (d ≤ C) × (get_or m d 0 ≡ 0 → ⊥)
  used-marked d q =
      let u = (kept-chain s P).upto d q in
      ((kept-chain s P).from d q, u, λ z. omega (arith, k d u))

  cell_same : (d b n : ℕ) → 1 ≤ occurrences d (used_cells s) → b + n ≤ 32 → part U (cell_at base d + b) n ≡ part s (cell_at base d + b) n
  unfolding F T
  cell_same d b n q l =
      let w = used-marked d q in
      behind-head (cell_at base d + b) n (omega arith)
      ∙ freed-off (dropped s lost) base m C 1 (cell_at base d + b) n
      (λ c i j z r.
      omega (arith, cells-apart base c d 32 32 i w.0 (λ e. w.2 (ap (λ (x : ℕ). get_or m x 0) e ∙ z)) (omega arith) (omega arith) (omega arith)))
      ∙ dropped-off lost s (cell_at base d + b) n (λ p r x. absurd (omega (arith, (lost-page p r).0)))

  -- ---- the cells that are free
  spare-is : unmarked m 1 (cells_of s) ≡ (repaired s).spare
  unfolding repaired
  spare-is =
      sieve-ext (λ c. eqb (get_or m c 0) 0) (λ c. eqb (occurrences c (used_cells s)) 0) 1 C
      (λ c l u. ap (λ (z : ℕ). eqb z 0) (k c (omega arith)))

  free-link : (c i : ℕ) → c + suc i ≡ 1 + C → 1 ≤ c → get_or m c 0 ≡ 0 → part U (cell_at base c) 2 ≡ little 2 (first (unmarked m (suc c) i))
  unfolding F T
  free-link c i e l z =
      behind-head (cell_at base c) 2 (omega arith)
      ∙ (freed-on (dropped s lost) base m C 1 c i (omega arith) (omega (arith, dropped-length lost s, long)) e l z).link

  free-code : (c : ℕ) → 1 ≤ c → c ≤ C → get_or m c 0 ≡ 0 → part U (cell_at base c + 2) 30 ≡ replicate 30 0
  unfolding F T
  free-code c l u z =
      behind-head (cell_at base c + 2) 30 (omega arith)
      ∙ (freed-on (dropped s lost) base m C 1 c (C - c) (omega arith) (omega (arith, dropped-length lost s, long)) (omega arith) l z).code

  first-put : part U 6 2 ≡ little 2 (first (unmarked m 1 (cells_of s)))
  unfolding U
  first-put =
      put-off (put F 6 2 (first spare)) 8 2 (length spare) 6 2 (λ r. omega arith) ∙ put_same F 6 2 (first spare) (omega (arith, long-F, long))

  count-put : part U 8 2 ≡ little 2 (length (unmarked m 1 (cells_of s)))
  unfolding U
  count-put = put_same (put F 6 2 (first spare)) 8 2 (length spare) (omega (arith, put-length F 6 2 (first spare), long-F, long))

  -- ---- a page's chain and code
  page-cells : (q : ℕ) → q < P → is_kept s q ≡ true → (d : ℕ) → 1 ≤ occurrences d (chain_in s P q) → 1 ≤ occurrences d (used_cells s)
  page-cells q l e d r =
      omega (
        arith,
        ap (occurrences d) (kept-cells s P),
        occurrences-tabulate d P (kept_chain s) q l,
        ap (occurrences d) (chain-yes s q e),
      )

  page-linked : (q : ℕ) → q < P → is_kept s q ≡ true → Linked s base (entry_at q + 4) (chain_in s P q) 0
  unfolding chain_in
  page-linked q l e =
      let w = kept_at s q e in
      ends-linked s base bytes C (omega (arith, long)) (cells (sum_in s q)) (entry_at q + 4) (omega (arith, long))
      (λ d r. (w.chain.from d r, w.chain.upto d r)) w.ends

  links : (q : ℕ) → q < P → Linked U base (entry_at q + 4) (kept_chain s q) 0
  links q l = go (is_kept s q) refl
    where
      go : (b : Bool) → is_kept s q ≡ b → Linked U base (entry_at q + 4) (kept_chain s q) 0
      go true e =
          rw (chain-yes s q e)
          (linked-same s U base (entry_at q + 4) (chain_in s P q) 0 (entry-same q (entry_at q + 4) 2 l e (omega arith) (omega arith))
          (λ d r.
          let z : cell_at base d + 0 ≡ cell_at base d = omega arith in
          rw z at (cell_same d 0 2 (page-cells q l e d r) (omega arith))) (page-linked q l e))
      go false e = rw (chain-no s q e) (entry_zero q 4 2 l e (omega arith) ∙ sym (little-zeros 2))

  fills : (q : ℕ) → q < P → Filled U base (kept_chain s q) (page_bytes (kept_counts s q))
  fills q l = go (is_kept s q) refl
    where
      go : (b : Bool) → is_kept s q ≡ b → Filled U base (kept_chain s q) (page_bytes (kept_counts s q))
      go true e =
          let w = kept_at s q e in
          rw (chain-yes s q e, counts-yes s q e)
          (code-filled U base C (chain_in s P q) (page_bytes (page_in s P q)) (omega (arith, long-U, long)) w.chain
          (code_same s U base (chain_in s P q) (λ d r. cell_same d 2 30 (page-cells q l e d r) (omega arith)) ∙ w.code))
      go false e = rw (chain-no s q e) tt

  sums : (q : ℕ) → q < P → part U (entry_at q) 4 ≡ little 4 (sum (kept_counts s q))
  unfolding sum_in
  sums q l = go (is_kept s q) refl
    where
      go : (b : Bool) → is_kept s q ≡ b → part U (entry_at q) 4 ≡ little 4 (sum (kept_counts s q))
      go true e =
          entry-same q (entry_at q) 4 l e (omega arith) (omega arith) ∙ stored s bytes (entry_at q) 4 (omega (arith, long))
          ∙ ap (little 4) (sym (ap sum (counts-yes s q e) ∙ (kept_at s q e).page-sum))
      go false e =
          let z : entry_at q + 0 ≡ entry_at q = omega arith in
          ap (λ (i : ℕ). part U i 4) (sym z) ∙ entry_zero q 0 4 l e (omega arith) ∙ sym (ap (little 4) (none_left s q e) ∙ little-zeros 4)

  fixed : part U 0 6 ≡ take 6 (header (repaired s))
  unfolding repaired header concat little
  fixed =
      part-two U 0 4 2 _ _
      (part-two U 0 2 2 _ _ (head-same 0 2 (omega arith) (λ r. omega arith) (λ r. omega arith) ∙ h.edition)
      (head-same 2 2 (omega arith) (λ r. omega arith) (λ r. omega arith) ∙ stored s bytes 2 2 (omega (arith, long))))
      (head-same 4 2 (omega arith) (λ r. omega arith) (λ r. omega arith) ∙ stored s bytes 4 2 (omega (arith, long)))

  free-chain : Linked U base 6 (repaired s).spare 0
  free-chain = subst (λ (z : List ℕ). Linked U base 6 z 0) spare-is (chain-up U base m C 1 6 free-link first-put)

  free-zeros : Filled U base (repaired s).spare (replicate (30 * length (repaired s).spare) 0)
  unfolding repaired
  free-zeros =
      zeros-filled U base (repaired s).spare (30 * length (repaired s).spare) (omega arith)
      (λ d q.
      let w = sieve-range (λ c. eqb (occurrences c (used_cells s)) 0) 1 C d q in
      let u : d ≤ C = omega (arith, w.1) in
      free-code d w.0 u (k d u ∙ eqb-true (occurrences d (used_cells s)) 0 w.2))

  spread : Spread U (repaired s)
  unfolding repaired
  spread = record {
    size = long-U ∙ long;
    fixed = fixed;
    free = free-chain;
    free-count = count-put ∙ ap (λ (z : List ℕ). little 2 (length z)) spare-is;
    gap = head-same 10 2 (omega arith) (λ r. absurd (omega arith)) (λ r. absurd (omega arith)) ∙ h.gap;
    hours =
        head-same 12 4 (omega arith) (λ r. absurd (omega arith)) (λ r. absurd (omega arith)) ∙ stored s bytes 12 4 (omega (arith, long))
        ∙ ap (little 4) (sym (counts-length s h));
    sums = λ q l. sums q l ∙ ap (λ (z : List ℕ). little 4 (sum z)) (sym (page-is s h q l));
    links = λ q l. rw (get_d_tabulate P (kept_chain s) q [] l) (links q l);
    fills = λ q l. rw (get_d_tabulate P (kept_chain s) q [] l, page-is s h q l) (fills q l);
    zeros = free-zeros;
  }

  pub written : chained (dropped s (lost_pages s)) (cells_start (page_count_of s)) m (cells_of s) ≡ bytes_of (repaired s)
  unfolding chained U F T
  written = let g = good s h in holds-only U (repaired s) g (spread-holds U (repaired s) g.rows spread)
