-- The check says `sound`. Assumes nothing.
use Rattle.std.specs.Prelude.{None, Some}
use mathlib.Core.Path.{◌≡◌, refl, sym, ap, ap₂, subst, ◌∙◌}
use mathlib.Core.Bool.{Bool, true, ◌&&◌}
use mathlib.Core.List.{List, [], ◌∷◌, ◌++◌}
use Prim.Native.Nat.{ℕ, suc, ◌+◌, ◌*◌, ◌≤◌, ◌<◌}
use native.Mathlib.Omega.{arith}
use native.Mathlib.Decide.{dec_le}
use lib.ListN.{length, get_or, take, replicate, length-replicate, length-append}
use lib.Dec.{eqb}
use borrow.Author.Tests.{le-leb, leb-true, eq-eqb, eqb-true}
use Rattle.lists.specs.Lists.{concat, every, occurrences, part, same, sum, tabulate}
use Rattle.bits.specs.Numbers.{little, number_at}
use Rattle.bits.proofs.Little.{stored}
use Rattle.store.specs.Limits.{max_cells, max_pages, max_total}
use Rattle.store.specs.Fitting.{Fitting}
use Rattle.store.specs.Layout.{Model, bytes_of, header, size, cells_start, entry_at}
use Rattle.store.specs.PageCode.{cells, page_bytes}
use Rattle.store.specs.Plain.{need, page}
use Rattle.store.specs.Reading.{cells_of, chain_from, chain_in, code_in, hours_in, page_in, page_count_of, read, read_for, spare_in, sum_in}
use Rattle.store.specs.Sound.{Good, is_cell, on_chains, sound}
use Rattle.lists.proofs.Occurrences.{length-concat, occurrences-append, occurrences-tabulate}
use Rattle.lists.proofs.Parts.{part-front}
use Rattle.lists.proofs.Sums.{sum-concat, sum-take-le}
use Rattle.lists.proofs.Tables.{get_d_tabulate, length-tabulate, tabulate-ext}
use Rattle.lists.proofs.Tests.{left, right, Each, agree, both, each, every_of, same-eq, same-is}
use Rattle.lists.proofs.Zeros.{zeros-at}
use Rattle.store.specs.Code.Checked.{Walk, and_then, check_pages, ends-well, head_tests, marks_length, page_tests, quiet, walk_marks}
use Rattle.store.proofs.CheckChain.{Marked, Unmarked, goes_then}
use Rattle.store.proofs.CheckChain.{mark_all, marks, walk_through, walked}
use Rattle.store.proofs.CheckPages.{PageGood, chains_from, pages-good, pages-through, then-whole}
use Rattle.store.proofs.FreshLaws.{cell_in, cell-le}
use Rattle.store.proofs.Holds.{Holds, holds-bytes, holds-only, page-length}
use Rattle.store.proofs.Joining.{chain-all, chain-part}
use Rattle.store.proofs.Keep.{spare-is}
use Rattle.store.proofs.PageLaws.{code-filled, concat-range, list_length, page-back, quiet-page, sum-pages-le}
use Rattle.store.proofs.Chained.{good-chained}
use Rattle.store.proofs.ReadBack.{code-in, hours-is, page-is, spare-count, spare-in, sum_is}
use Rattle.store.proofs.SoundLaws.{once-of, ones-same, same-ones, sound-bytes, sound-good}
use Rattle.store.proofs.Spread.{Spread, part-two, spread-holds, spread-of}
use Rattle.store.proofs.Writes.{Chain, Linked}

ends-whole : (w : Walk) (f : List ℕ → Bool) → ends-well w f ≡ true → (m : List ℕ) × (w ≡ Some m) × (f m ≡ true)
unfolding ends-well
ends-whole (Some m) f e = (m, refl, e)
ends-whole None f e = absurd (let z : ◌≡◌ {A = ℕ} 0 1 = cc in omega arith)

well : (m : List ℕ) (f : List ℕ → Bool) → ends-well (Some m) f ≡ f m
unfolding ends-well
well m f = refl

zeros-marked : (C : ℕ) → Marked C (replicate marks_length 0) []
unfolding occurrences
zeros-marked C d l = zeros-at marks_length d

-- they hold
pub record HeadHolds (s : List ℕ) : Type 0 where
  pub long : 16 ≤ length s
  pub edition : part s 0 2 ≡ 1 ∷ 0 ∷ []
  pub gap : part s 10 2 ≡ 0 ∷ 0 ∷ []
  pub fitting : Fitting s (page_count_of s) (cells_of s)
  pub hours : hours_in s ≤ 64 * page_count_of s
  pub total : sum (tabulate (page_count_of s) (sum_in s)) ≤ max_total

pub head-each : (s : List ℕ) → HeadHolds s → Each (head_tests s)
unfolding head_tests
head-each s h =
    let w = h.fitting in
    let l = w.limits in (
      le-leb _ _ h.long,
      (
        same-eq _ _ h.edition,
        (
          same-eq _ _ h.gap,
          (
            le-leb _ _ l.pages-low,
            (
              le-leb _ _ l.pages-high,
              (
                le-leb _ _ l.cells_low,
                (le-leb _ _ l.cells-high, (eq-eqb _ _ w.long, (le-leb _ _ h.hours, (le-leb _ _ h.total, tt)))),
              ),
            ),
          ),
        ),
      ),
    )

-- the pages' chains, then the free one
unfoldable pub chains_walk : List ℕ → Walk
chains_walk s = and_then (check_pages s (page_count_of s) (cells_of s) (hours_in s) (page_count_of s) 0 (replicate marks_length 0))
    (λ m. walk_marks s (cells_start (page_count_of s)) (cells_of s) (number_at s 8 2) m 6)

-- every cell is marked, and the free cells are clear
unfoldable pub end_tests : List ℕ → List ℕ → List Bool
end_tests s m =
    same (tabulate (cells_of s) (λ j. get_or m (suc j) 0)) (replicate (cells_of s) 1)
    ∷ eqb (sum (tabulate (page_count_of s) (λ p. cells (sum_in s p))) + number_at s 8 2) (cells_of s)
    ∷ same (code_in s (cells_start (page_count_of s)) (chain_from s (cells_start (page_count_of s)) (number_at s 8 2) (number_at s 6 2))) (replicate (30 * number_at s 8 2) 0)
    ∷ []

unfoldable pub checked : List ℕ → Bool
checked s = every (head_tests s) && ends-well (chains_walk s) (λ m. every (end_tests s m))

module _ (s : List ℕ) (bytes : (i : ℕ) → get_or s i 0 < 256) where
  abbrev P : ℕ
  P = page_count_of s

  abbrev C : ℕ
  C = cells_of s

  abbrev N : ℕ
  N = hours_in s

  abbrev F : List ℕ
  F = chain_from s (cells_start P) (number_at s 8 2) (number_at s 6 2)

  abbrev chains : List (List ℕ)
  chains = tabulate P (chain_in s P)

  -- what the check has found when it says yes
  pub record Found : Type 0 where
    pub head : Each (head_tests s)
    pub page-good : (p : ℕ) → p < P → PageGood s P C N p
    pub free-long : length F ≡ number_at s 8 2
    pub free-chain : Chain C F
    pub free-linked : Linked s (cells_start P) 6 F 0
    pub marks-of : (j : ℕ) → j < C → occurrences (suc j) (concat chains ++ F) ≡ 1
    pub number : sum (tabulate P (λ p. cells (sum_in s p))) + number_at s 8 2 ≡ C
    pub clear : code_in s (cells_start P) F ≡ replicate (30 * number_at s 8 2) 0

  pages-are : concat (chains_from s P 0 P) ≡ concat chains
  pages-are = ap concat (tabulate-ext P (λ j. chain_in s P (0 + j)) (chain_in s P) (λ j _. ap (chain_in s P) {x = 0 + j} {y = j} (omega arith)))

  found : checked s ≡ true → Found
  unfolding checked head_tests chains_walk end_tests
  found e =
      let hd = each (head_tests s) (left (every (head_tests s)) (ends-well (chains_walk s) (λ m. every (end_tests s m))) e) in
      let w = ends-whole (chains_walk s) (λ m. every (end_tests s m))
      (right (every (head_tests s)) (ends-well (chains_walk s) (λ m. every (end_tests s m))) e) in
      let lP : P ≤ max_pages = leb-true P max_pages hd.1.1.1.1.0 in
      let lC : C ≤ max_cells = leb-true C max_cells hd.1.1.1.1.1.1.0 in
      let sz : size P C ≤ length s = omega (arith, eqb-true (length s) (size P C) hd.1.1.1.1.1.1.1.0) in
      let t = goes_then (check_pages s P C N P 0 (replicate marks_length 0)) (λ m. walk_marks s (cells_start P) C (number_at s 8 2) m 6) w.0 w.1 in
      let lz : C < length (replicate {A = ℕ} marks_length 0) = omega (arith, length-replicate {A = ℕ} marks_length 0) in
      let g = pages-good s P C N lC lP bytes sz P 0 (replicate marks_length 0) t.0 [] (omega arith) lz (zeros-marked C) t.1 in
      let l₁ : C < length t.0 = omega (arith, g.length-marks) in
      let f = walked s (cells_start P) C lC bytes sz (number_at s 8 2) t.0 w.0 6 l₁ (omega arith) t.2 in
      let k : Marked C w.0 (concat (chains_from s P 0 P) ++ F) = rw f.marked
      (marks C F t.0 (concat (chains_from s P 0 P)) l₁ f.chain f.unmarked g.marked) in
      let ed = each (end_tests s w.0) w.2 in
      record {
        head = hd;
        page-good = λ p l. let e : 0 + p ≡ p = omega arith in rw e at (g.each-page p l);
        free-long = f.long;
        free-chain = f.chain;
        free-linked = f.linked;
        marks-of = λ j l. ap (λ (z : List ℕ). occurrences (suc j) (z ++ F)) (sym pages-are) ∙ sym (k (suc j) (omega arith))
            ∙ same-ones C (λ j. get_or w.0 (suc j) 0) ed.0 j l;
        number = eqb-true (sum (tabulate P (λ p. cells (sum_in s p))) + number_at s 8 2) C ed.1.0;
        clear = same-is (code_in s (cells_start P) F) (replicate (30 * number_at s 8 2) 0) ed.1.1.0;
      }

  -- it is a good model, and these bytes hold it
  module _ (f : Found) where
    abbrev hd : Each (head_tests s)
    hd = f.head

    abbrev m : Model
    m = read_for s P

    head-facts : (16 ≤ length s) × (part s 0 2 ≡ 1 ∷ 0 ∷ []) × (part s 10 2 ≡ 0 ∷ 0 ∷ []) × (1 ≤ P) × (P ≤ max_pages) × (1 ≤ C) × (C ≤ max_cells)
        × (length s ≡ size P C) × (N ≤ 64 * P) × (sum (tabulate P (sum_in s)) ≤ max_total)
    unfolding head_tests
    head-facts =
        let h = f.head in (
          leb-true 16 (length s) h.0,
          same-is (part s 0 2) (1 ∷ 0 ∷ []) h.1.0,
          same-is (part s 10 2) (0 ∷ 0 ∷ []) h.1.1.0,
          leb-true 1 P h.1.1.1.0,
          leb-true P max_pages h.1.1.1.1.0,
          leb-true 1 C h.1.1.1.1.1.0,
          leb-true C max_cells h.1.1.1.1.1.1.0,
          eqb-true (length s) (size P C) h.1.1.1.1.1.1.1.0,
          leb-true N (64 * P) h.1.1.1.1.1.1.1.1.0,
          leb-true (sum (tabulate P (sum_in s))) max_total h.1.1.1.1.1.1.1.1.1.0,
        )

    page-facts : (p : ℕ) → p < P
        → (length (page_in s P p) ≡ 64) × (sum (page_in s P p) ≡ sum_in s p) × (code_in s (cells_start P) (chain_in s P p) ≡ page_bytes (page_in s P p))
        × (page_in s P p ≡ quiet N p (page_in s P p))
    unfolding page_tests
    page-facts p l =
        let t = (f.page-good p l).tests in (
          eqb-true (length (page_in s P p)) 64 t.0,
          eqb-true (sum (page_in s P p)) (sum_in s p) t.1.0,
          same-is _ _ t.1.1.0,
          same-is _ _ t.1.1.1.0,
        )

    counts-page : (p : ℕ) → p < P → page (take N (concat (tabulate P (page_in s P)))) p ≡ page_in s P p
    counts-page p l = page-back P N (page_in s P) (λ q r. (page-facts q r).0) head-facts.8 p l (page-facts p l).3

    counts-length : length (take N (concat (tabulate P (page_in s P)))) ≡ N
    counts-length = list_length P N (page_in s P) (λ q r. (page-facts q r).0) head-facts.8

    cells-eq : (p : ℕ) → p < P → length (chain_in s P p) ≡ cells (sum (page (take N (concat (tabulate P (page_in s P)))) p))
    cells-eq p l = (f.page-good p l).long ∙ ap cells (sym (page-facts p l).1 ∙ ap sum (sym (counts-page p l)))

    good : Good (read_for s P)
    unfolding read_for spare_in on_chains
    good = record {
      limits = record { pages-low = head-facts.3; pages-high = head-facts.4; cells_low = head-facts.5; cells-high = head-facts.6 };
      hours = omega (arith, counts-length, head-facts.8);
      total =
          omega (
            arith,
            sum-take-le N (concat (tabulate P (page_in s P))),
            sum-concat P (page_in s P),
            ap sum (tabulate-ext P (λ p. sum (page_in s P p)) (sum_in s) (λ p l. (page-facts p l).1)),
            head-facts.9,
          );
      rows = length-tabulate P (chain_in s P);
      lengths = λ p l. ap length (get_d_tabulate P (chain_in s P) p [] l) ∙ cells-eq p l;
      once = once-of C (concat chains ++ F) range f.marks-of;
      all = length-append (concat chains) F ∙ ap₂ ◌+◌ chains-long f.free-long ∙ f.number;
    }
      where
        range : (c : ℕ) → 1 ≤ occurrences c (concat chains ++ F) → (1 ≤ c) × (c ≤ C)
        range c q = go (dec_le 1 (occurrences c F))
          where
            go : Dec (1 ≤ occurrences c F) → (1 ≤ c) × (c ≤ C)
            go (yes a) = (f.free-chain.from c a, f.free-chain.upto c a)
            go (no a) = concat-range C P (chain_in s P) (λ p l. (f.page-good p l).chain) c (omega (arith, occurrences-append c (concat chains) F))

        chains-long : length (concat chains) ≡ sum (tabulate P (λ p. cells (sum_in s p)))
        chains-long =
            length-concat chains (λ p. cells (sum_in s p)) (λ p l. ap length (get_d_tabulate P (chain_in s P) p [] (rw length-tabulate at l))
            ∙ (f.page-good p (rw length-tabulate at l)).long)
            ∙ ap (λ (z : ℕ). sum (tabulate z (λ p. cells (sum_in s p)))) (length-tabulate P (chain_in s P))

    spread : Spread s (read_for s P)
    unfolding read_for spare_in header concat little sum_in
    spread = record {
      size = head-facts.7;
      fixed = fixed;
      free = f.free-linked;
      free-count = stored s bytes 8 2 (omega (arith, head-facts.0)) ∙ ap (little 2) (sym f.free-long);
      gap = head-facts.2;
      hours = stored s bytes 12 4 (omega (arith, head-facts.0)) ∙ ap (little 4) (sym counts-length);
      sums = λ q l. sum-part q l;
      links = λ q l. rw (get_d_tabulate P (chain_in s P) q [] l) (f.page-good q l).linked;
      fills = λ q l.
          rw (get_d_tabulate P (chain_in s P) q [] l)
          (code-filled s (cells_start P) C (chain_in s P q) (page_bytes (page (take N (concat (tabulate P (page_in s P)))) q)) (omega (arith, head-facts.7))
          (f.page-good q l).chain ((page-facts q l).2 ∙ ap page_bytes (sym (counts-page q l))));
      zeros = code-filled s (cells_start P) C F (replicate (30 * length F) 0) (omega (arith, head-facts.7)) f.free-chain (f.clear
          ∙ ap (λ (z : ℕ). replicate (30 * z) 0) (sym f.free-long));
    }
      where
        fixed : part s 0 6 ≡ take 6 (header (read_for s P))
        fixed = part-two s 0 4 2 _ _ (part-two s 0 2 2 _ _ head-facts.1 (stored s bytes 2 2 (omega (arith, head-facts.0))))
            (stored s bytes 4 2 (omega (arith, head-facts.0)))

        sum-part : (q : ℕ) → q < P → part s (entry_at q) 4 ≡ little 4 (sum (page (take N (concat (tabulate P (page_in s P)))) q))
        sum-part q l = stored s bytes (entry_at q) 4 (omega (arith, head-facts.7)) ∙ ap (little 4) (sum-of q l)
          where
            sum-of : (q : ℕ) → q < P → number_at s (entry_at q) 4 ≡ sum (page (take N (concat (tabulate P (page_in s P)))) q)
            sum-of q l = sym (page-facts q l).1 ∙ ap sum (sym (counts-page q l))

    pub says-sound : sound s ≡ true
    unfolding read
    says-sound =
        let e : s ≡ bytes_of (read_for s P) = holds-only s (read_for s P) good (spread-holds s (read_for s P) good.rows spread) in
        ap (sound) e ∙ sound-bytes (read_for s P) good

  pub checked-sound : checked s ≡ true → sound s ≡ true
  checked-sound e = says-sound (found e)

  -- the other way
  module _ (g : Good (read_for s P)) (h : Holds s (read_for s P)) where
    sp : Spread s (read_for s P)
    sp = spread-of s (read_for s P) g.rows h

    xs : List ℕ
    xs = (read_for s P).plain.counts

    hours-eq : N ≡ length xs
    unfolding xs
    hours-eq = hours-is s (read_for s P) (good-chained (read_for s P) g) h

    long-eq : length F ≡ number_at s 8 2
    unfolding read_for spare_in
    long-eq = sym (spare-count s (read_for s P) (good-chained (read_for s P) g) h)

    all_once : (d : ℕ) → occurrences d (concat chains ++ F) ≡ is_cell C d
    unfolding read_for spare_in on_chains
    all_once d = g.once d

    counted : (d : ℕ) → occurrences d (concat chains) + occurrences d F ≡ is_cell C d
    counted d = sym (occurrences-append d (concat chains) F) ∙ all_once d

    chain-sub : (cs : List ℕ) → ((d : ℕ) → occurrences d cs ≤ occurrences d (concat chains) + occurrences d F) → Chain C cs
    chain-sub cs q = chain-part (concat chains ++ F) cs (λ d. omega (arith, q d, occurrences-append d (concat chains) F)) (chain-all C _ all_once)

    sum-eq : (p : ℕ) → p < P → sum_in s p ≡ sum (page xs p)
    unfolding read_for spare_in xs
    sum-eq p l = sum_is s (read_for s P) (good-chained (read_for s P) g) h p l

    page-eq : (p : ℕ) → p < P → page_in s P p ≡ page xs p
    unfolding read_for spare_in xs
    page-eq p l = page-is s (read_for s P) (good-chained (read_for s P) g) h p l

    page-chain : (p : ℕ) → p < P → Chain C (chain_in s P p)
    page-chain p l = chain-sub (chain_in s P p) (λ d. omega (arith, occurrences-tabulate d P (chain_in s P) p l))

    page-ok : (p : ℕ) → p < P → PageGood s P C N p
    unfolding page_tests read_for spare_in xs
    page-ok p l =
        let e = page-eq p l in
        record {
          tests = (
            eq-eqb _ _ (ap length e ∙ page-length xs p),
            (
              eq-eqb _ _ (ap sum e ∙ sym (sum-eq p l)),
              (
                same-eq _ _ (code-in s (read_for s P) (good-chained (read_for s P) g) h p l ∙ ap page_bytes (sym e)),
                (same-eq _ _ (e ∙ quiet-page xs p ∙ ap₂ (λ (n : ℕ) (z : List ℕ). quiet n p z) (sym hours-eq) (sym e)), tt),
              ),
            ),
          );
          long = ap length (sym (get_d_tabulate P (chain_in s P) p [] l)) ∙ g.lengths p l ∙ ap cells (sym (sum-eq p l));
          chain = page-chain p l;
          linked = rw (get_d_tabulate P (chain_in s P) p [] l) at (sp.links p l);
        }

    -- the walks go through
    abbrev Z : List ℕ
    Z = replicate marks_length 0

    size_fits : size P C ≤ length s
    unfolding read_for spare_in
    size_fits = omega (arith, h.size)

    cells-small : C ≤ max_cells
    unfolding read_for spare_in
    cells-small = g.limits.cells-high

    pages-small : P ≤ max_pages
    unfolding read_for spare_in
    pages-small = g.limits.pages-high

    through : (m' : List ℕ) × (check_pages s P C N P 0 Z ≡ Some m') × (length m' ≡ length Z) × Marked C m' (concat (chains_from s P 0 P))
    through =
        pages-through s P C N cells-small pages-small bytes size_fits P 0 Z []
        (omega (arith, cells-small, length-replicate {A = ℕ} marks_length 0)) (zeros-marked C)
        (λ j l. let e : 0 + j ≡ j = omega arith in rw e (page-ok j l))
        (λ d. omega (arith, ap (occurrences d) pages-are, counted d, cell-le C d))

    spare-chain : Chain C F
    spare-chain = chain-sub F (λ d. omega arith)

    spare-linked : Linked s (cells_start P) 6 F 0
    unfolding read_for spare_in
    spare-linked = sp.free

    free_new : Unmarked through.0 F
    free_new d q = through.3 d (spare-chain.upto d q) ∙ omega (arith, ap (occurrences d) pages-are, counted d, cell-le C d)

    last-marks : List ℕ
    last-marks = mark_all through.0 F

    walk_is : chains_walk s ≡ Some last-marks
    unfolding chains_walk last-marks
    walk_is =
        ap (λ (z : Walk). and_then z (λ m. walk_marks s (cells_start P) C (number_at s 8 2) m 6)) through.1
        ∙ then-whole through.0 (λ m. walk_marks s (cells_start P) C (number_at s 8 2) m 6)
        ∙ ap (λ (z : ℕ). walk_marks s (cells_start P) C z through.0 6) (sym long-eq)
        ∙ walk_through s (cells_start P) C cells-small F through.0 6 spare-chain spare-linked free_new

    last-marked : Marked C last-marks (concat (chains_from s P 0 P) ++ F)
    unfolding last-marks
    last-marked =
        marks C F through.0 (concat (chains_from s P 0 P))
        (omega (arith, through.2, cells-small, length-replicate {A = ℕ} marks_length 0)) spare-chain free_new through.3

    number_is : sum (tabulate P (λ p. cells (sum_in s p))) + number_at s 8 2 ≡ C
    unfolding read_for spare_in need xs
    number_is =
        ap (λ (z : List ℕ). sum z + number_at s 8 2)
        (tabulate-ext P (λ p. cells (sum_in s p)) (λ p. cells (sum (page xs p))) (λ p l. ap cells (sum-eq p l)))
        ∙ omega (arith, spare-is (read_for s P) g, long-eq)

    clear-is : code_in s (cells_start P) F ≡ replicate (30 * number_at s 8 2) 0
    unfolding read_for spare_in
    clear-is = spare-in s (read_for s P) (good-chained (read_for s P) g) h ∙ ap (λ (z : ℕ). replicate (30 * z) 0) long-eq

    end-ok : every (end_tests s last-marks) ≡ true
    unfolding end_tests
    end-ok =
        every_of (end_tests s last-marks) (
          ones-same C (λ j. get_or last-marks (suc j) 0)
              (λ j l. last-marked (suc j) (omega arith)
              ∙ ap (λ (z : List ℕ). occurrences (suc j) (z ++ F)) pages-are ∙ all_once (suc j) ∙ cell_in C (suc j) (omega arith) (omega arith)),
          (eq-eqb _ _ number_is, (same-eq _ _ clear-is, tt)),
        )

    head_ok : every (head_tests s) ≡ true
    unfolding read_for spare_in header concat little xs
    head_ok =
        every_of (head_tests s)
        (head-each s (record {
          long = omega (arith, size_fits);
          edition = part-front s (header (read_for s P)) 0 16 2 h.head (omega arith);
          gap = sp.gap;
          fitting = record { limits = g.limits; long = h.size };
          hours = omega (arith, hours-eq, g.hours);
          total =
              omega (
                arith,
                ap sum (tabulate-ext P (sum_in s) (λ p. sum (page xs p)) sum-eq),
                sum-pages-le P xs,
                g.total,
              );
        }))

    pub sound-checked : checked s ≡ true
    unfolding checked
    sound-checked =
        both head_ok
        (ap (λ (z : Walk). ends-well z (λ m. every (end_tests s m))) walk_is ∙ well last-marks (λ m. every (end_tests s m)) ∙ end-ok)

-- the check says `sound`
pub verdict : (s : List ℕ) → ((i : ℕ) → get_or s i 0 < 256) → checked s ≡ sound s
unfolding read
verdict s b = agree (checked s) (sound s) (checked-sound s b) back
  where
    back : sound s ≡ true → checked s ≡ true
    back e =
        let w = sound-good s e in
        sound-checked s b w.0 (subst (λ (z : List ℕ). Holds z (read s)) (sym w.1) (holds-bytes (read s) w.0))
