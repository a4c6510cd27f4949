-- A page judged by marks is judged as document 02 says, where the marks are those of the pages kept so far. Assumes nothing.
use mathlib.Core.Path.{◌≡◌, sym, ap, ◌∙◌}
use mathlib.Core.Bool.{Bool, true, false, ◌&&◌}
use mathlib.Core.List.{List, [], ◌∷◌, ◌++◌}
use Prim.Native.Nat.{ℕ, zero, suc, ◌+◌, ◌≤◌}
use native.Mathlib.Omega.{arith}
use native.Mathlib.Decide.{ℕ_discrete}
use lib.ListN.{length, get_or}
use lib.Dec.{eqb, leb}
use borrow.Author.Tests.{eq-eqb, eqb-true, le-leb, leb-true}
use Rattle.lists.specs.Lists.{occurrences, pick, same, sum}
use Rattle.lists.proofs.Occurrences.{one-other, one_same}
use Rattle.lists.proofs.Tests.{agree, both, each, every_of, left, right, same-eq, same-is}
use Rattle.bits.specs.Numbers.{number_at}
use Rattle.store.specs.Limits.{max_cells, max_total}
use Rattle.store.specs.Layout.{cell_at, cells_start}
use Rattle.store.specs.PageCode.{cells, page_bytes}
use Rattle.store.specs.Reading.{cells_of, chain_from, chain_in, code_in, first_in, hours_in, page_in, page_count_of, sum_in}
use Rattle.store.specs.Code.Checked.{cell_test, marks_length, quiet}
use Rattle.store.proofs.CheckChain.{Marked, Unmarked, mark-length, mark_all, marks}
use Rattle.sound_page.specs.Code.Page.{page_code_fits}
use Rattle.repair.specs.Repair.{Kept, behind, is_kept, keeps, kept_of}
use Rattle.store.proofs.SoundLaws.{within_all}
use Rattle.repair.proofs.Ends.{ends-chain}
use Rattle.repair.proofs.Keeping.{kept-page, page-kept, passed-no, passed-yes}
use Rattle.repair_pages.specs.Code.Chain.{chain_kept}
use Rattle.repair_pages.specs.Code.Page.{Judged, kept_by}

-- ---- the chain
module _ (s : List ℕ) (base C : ℕ) (m : List ℕ) where
  abbrev next : ℕ → ℕ
  next c = number_at s (cell_at base c) 2

  -- each cell is one, and has no mark
  abbrev Free : List ℕ → Type 0
  Free cs = (d : ℕ) → 1 ≤ occurrences d cs → (1 ≤ d) × (d ≤ C) × (get_or m d 0 ≡ 0)

  test-says : (c : ℕ) → cell_test C m c ≡ true → (1 ≤ c) × (c ≤ C) × (get_or m c 0 ≡ 0)
  test-says c e =
      let r = right (leb 1 c) (leb c C && eqb (get_or m c 0) 0) e in (
        leb-true 1 c (left (leb 1 c) (leb c C && eqb (get_or m c 0) 0) e),
        leb-true c C (left (leb c C) (eqb (get_or m c 0) 0) r),
        eqb-true (get_or m c 0) 0 (right (leb c C) (eqb (get_or m c 0) 0) r),
      )

  chain-says : (k c : ℕ) → chain_kept s base C m k c ≡ true → (behind s base k c ≡ 0) × Free (chain_from s base k c)
  unfolding chain_kept chain_from behind occurrences
  chain-says zero c e = (eqb-true c 0 e, λ d q. absurd (omega arith))
  chain-says (suc k) c e =
      let w = chain-says k (next c) (right (cell_test C m c) (chain_kept s base C m k (next c)) e) in
      (w.0, λ d q. go d q (ℕ_discrete d c) (w.1 d))
    where
      go : (d : ℕ) → 1 ≤ occurrences d (c ∷ chain_from s base k (next c)) → Dec (d ≡ c)
          → (1 ≤ occurrences d (chain_from s base k (next c)) → (1 ≤ d) × (d ≤ C) × (get_or m d 0 ≡ 0)) → (1 ≤ d) × (d ≤ C) × (get_or m d 0 ≡ 0)
      go d q (yes r) h = rw r (test-says c (left (cell_test C m c) (chain_kept s base C m k (next c)) e))
      go d q (no r) h = h (omega (arith, one-other d c r))

  chain-said : (k c : ℕ) → behind s base k c ≡ 0 → Free (chain_from s base k c) → chain_kept s base C m k c ≡ true
  unfolding chain_kept chain_from behind occurrences
  chain-said zero c e h = eq-eqb c 0 e
  chain-said (suc k) c e h =
      let w = h c (omega (arith, one_same c)) in
      both (both (le-leb 1 c w.0) (both (le-leb c C w.1) (eq-eqb _ _ w.2))) (chain-said k (next c) e (λ d q. h d (omega arith)))

-- ---- the page
module _ (s m : List ℕ) (k : Kept) (p : ℕ) (t : Marked (cells_of s) m k.cells) where
  abbrev P : ℕ
  P = page_count_of s

  abbrev fitting : Bool
  fitting = leb (k.total + sum_in s p) max_total

  abbrev chaining : Bool
  chaining = chain_kept s (cells_start (page_count_of s)) (cells_of s) m (cells (sum_in s p)) (first_in s p)

  abbrev coding : Bool
  coding = page_code_fits (code_in s (cells_start (page_count_of s)) (chain_in s (page_count_of s) p)) (sum_in s p) p (hours_in s)

  says : kept_by s m k.total p ≡ true → keeps s k p ≡ true
  unfolding kept_by page_code_fits page_in chain_in
  says e =
      let r = right fitting (chaining && coding) e in
      let w = chain-says s (cells_start P) (cells_of s) m (cells (sum_in s p)) (first_in s p) (left chaining coding r) in
      let x = each
      (eqb (sum (page_in s P p)) (sum_in s p)
      ∷ same (code_in s (cells_start P) (chain_in s P p)) (page_bytes (page_in s P p))
      ∷ same (page_in s P p) (quiet (hours_in s) p (page_in s P p))
      ∷ []) (right chaining coding r) in
      page-kept s k p (record {
        ends = w.0;
        chain =
            ends-chain s (cells_start P) (cells_of s) (cells (sum_in s p)) (first_in s p)
            (within_all (cells_of s) (chain_in s P p) (λ d q. let v = w.1 d q in (v.0, v.1))) w.0;
        new = λ d q. let v = w.1 d q in sym (t d v.1) ∙ v.2;
        page-sum = eqb-true (sum (page_in s P p)) (sum_in s p) x.0;
        code = same-is _ _ x.1.0;
        quiet = same-is _ _ x.1.1.0;
        total = leb-true (k.total + sum_in s p) max_total (left fitting (chaining && coding) e);
      })

  said : keeps s k p ≡ true → kept_by s m k.total p ≡ true
  unfolding kept_by page_code_fits page_in chain_in
  said e =
      let g = kept-page s k p e in
      both (le-leb (k.total + sum_in s p) max_total g.total)
      (both
      (chain-said s (cells_start P) (cells_of s) m (cells (sum_in s p)) (first_in s p) g.ends
      (λ d q. (g.chain.from d q, g.chain.upto d q, t d (g.chain.upto d q) ∙ g.new d q)))
      (every_of
      (eqb (sum (page_in s P p)) (sum_in s p)
      ∷ same (code_in s (cells_start P) (chain_in s P p)) (page_bytes (page_in s P p))
      ∷ same (page_in s P p) (quiet (hours_in s) p (page_in s P p))
      ∷ []) (eq-eqb _ _ g.page-sum, (same-eq _ _ g.code, (same-eq _ _ g.quiet, tt)))))

  pub judge-is : kept_by s m k.total p ≡ keeps s k p
  judge-is = agree (kept_by s m k.total p) (keeps s k p) says said

-- ---- along the pages: the marks are those of the kept pages' cells, before page p and behind it
pub record Along (s m : List ℕ) (p total : ℕ) : Type 0 where
  pub marked : Marked (cells_of s) m (kept_of s p).cells
  pub long : length m ≡ marks_length
  pub total-is : total ≡ (kept_of s p).total

module _ (s m m' : List ℕ) (p total : ℕ) {r : Bool} (few : cells_of s ≤ max_cells) (a : Along s m p total) (j : Judged s m p total r m') where
  pub judged-is : r ≡ is_kept s p
  unfolding is_kept
  judged-is = j.is ∙ ap (λ (z : ℕ). kept_by s m z p) a.total-is ∙ judge-is s m (kept_of s p) p a.marked

  is-keeps : keeps s (kept_of s p) p ≡ r
  unfolding is_kept
  is-keeps = sym judged-is

  pub along-yes : r ≡ true → Along s m' (p + 1) (total + sum_in s p)
  unfolding kept_of pick
  along-yes e =
      let g = kept-page s (kept_of s p) p (is-keeps ∙ e) in
      let q : m' ≡ mark_all m (chain_in s (page_count_of s) p) = j.marked ∙ ap (λ (b : Bool). pick b (mark_all m (chain_in s (page_count_of s) p)) m) e in
      let u : Unmarked m (chain_in s (page_count_of s) p) = λ d x. a.marked d (g.chain.upto d x) ∙ g.new d x in
      let n : kept_of s (p + 1) ≡ record { cells = (kept_of s p).cells ++ chain_in s (page_count_of s) p; total = (kept_of s p).total + sum_in s p } =
      ap (kept_of s) {x = p + 1} {y = suc p} (omega arith) ∙ passed-yes s (kept_of s p) p (is-keeps ∙ e) in
      record {
        marked = rw (n, q) (marks (cells_of s) (chain_in s (page_count_of s) p) m (kept_of s p).cells (omega (arith, a.long)) g.chain u a.marked);
        long = ap length q ∙ mark-length (chain_in s (page_count_of s) p) m ∙ a.long;
        total-is = rw n (ap (λ (z : ℕ). z + sum_in s p) a.total-is);
      }

  pub along-no : r ≡ false → Along s m' (p + 1) total
  unfolding kept_of pick
  along-no e =
      let q : m' ≡ m = j.marked ∙ ap (λ (b : Bool). pick b (mark_all m (chain_in s (page_count_of s) p)) m) e in
      let n : kept_of s (p + 1) ≡ kept_of s p =
      ap (kept_of s) {x = p + 1} {y = suc p} (omega arith) ∙ passed-no s (kept_of s p) p (is-keeps ∙ e) in
      record { marked = rw (n, q) a.marked; long = ap length q ∙ a.long; total-is = rw n a.total-is }
