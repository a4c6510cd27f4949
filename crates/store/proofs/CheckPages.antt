-- What the check computes, and that it says `sound`. Assumes nothing.
use Rattle.std.specs.Prelude.{Some}
use mathlib.Core.Path.{◌≡◌, refl, sym, ap, ap₂, ◌∙◌}
use mathlib.Core.Bool.{Bool, true}
use mathlib.Core.List.{List, ◌++◌, append_assoc, append-nil}
use Prim.Native.Nat.{ℕ, zero, suc, ◌+◌, ◌≤◌, ◌<◌}
use native.Mathlib.Nat.{not-suc-le-zero, le_of_suc-le-suc}
use native.Mathlib.Omega.{arith}
use lib.ListN.{length, get_or}
use Rattle.lists.specs.Lists.{concat, every, occurrences, tabulate}
use Rattle.store.specs.Limits.{max_cells, max_pages}
use Rattle.store.specs.Layout.{size, cells_start, entry_at}
use Rattle.store.specs.PageCode.{cells}
use Rattle.store.specs.Reading.{chain_in, sum_in}
use Rattle.lists.proofs.Occurrences.{occurrences-append}
use Rattle.lists.proofs.Tables.{tabulate-ext}
use Rattle.lists.proofs.Tests.{Each, each, every_of}
use Rattle.store.specs.Code.Checked.{Walk, and_then, check_pages, go_on, page_tests, walk_marks}
use Rattle.store.proofs.CheckChain.{Marked, Unmarked, goes_on, goes_then}
use Rattle.store.proofs.CheckChain.{mark-length, mark_all, marks, walk_through, walked, whole_is}
use Rattle.store.proofs.Writes.{Chain, Linked}

pub none_of : (d : ℕ) (L cs r : List ℕ) → occurrences d (L ++ cs ++ r) ≤ 1 → 1 ≤ occurrences d cs → occurrences d L ≡ 0
none_of d L cs r h q = omega (arith, occurrences-append d (L ++ cs) r, occurrences-append d L cs)

pub then-whole : (m : List ℕ) (f : List ℕ → Walk) → and_then (Some m) f ≡ f m
unfolding and_then
then-whole m f = refl

on-true : (w : Walk) → go_on true w ≡ w
unfolding go_on
on-true w = refl

-- pages walked and good: their chains, and the marks
abbrev pub chains_from : List ℕ → ℕ → ℕ → ℕ → List (List ℕ)
chains_from s P p n = tabulate n (λ j. chain_in s P (p + j))

pub record PageGood (s : List ℕ) (P C N p : ℕ) : Type 0 where
  pub tests : Each (page_tests s P N p)
  pub long : length (chain_in s P p) ≡ cells (sum_in s p)
  pub chain : Chain C (chain_in s P p)
  pub linked : Linked s (cells_start P) (entry_at p + 4) (chain_in s P p) 0

pub record PagesGood (s : List ℕ) (P C N n p : ℕ) (m m' L : List ℕ) : Type 0 where
  pub each-page : (j : ℕ) → j < n → PageGood s P C N (p + j)
  pub marked : Marked C m' (L ++ concat (chains_from s P p n))
  pub length-marks : length m' ≡ length m

module _ (s : List ℕ) (P C N : ℕ) (lC : C ≤ max_cells) (lP : P ≤ max_pages) (bytes : (i : ℕ) → get_or s i 0 < 256) (size : size P C ≤ length s) where
  page-step : (p : ℕ) (m m₁ : List ℕ) (L : List ℕ) → p < P → C < length m → Marked C m L
      → walk_marks s (cells_start P) C (cells (sum_in s p)) m (entry_at p + 4) ≡ Some m₁ → every (page_tests s P N p) ≡ true
      → PageGood s P C N p × Marked C m₁ (L ++ chain_in s P p) × (length m₁ ≡ length m)
  unfolding chain_in
  page-step p m m₁ L lp lm k w t =
      let v = walked s (cells_start P) C lC bytes size (cells (sum_in s p)) m m₁ (entry_at p + 4) lm (omega arith) w in (
        record { tests = each (page_tests s P N p) t; long = v.long; chain = v.chain; linked = v.linked },
        rw v.marked (marks C (chain_in s P p) m L lm v.chain v.unmarked k),
        ap length v.marked ∙ mark-length (chain_in s P p) m,
      )

  each_of : (n p : ℕ) → PageGood s P C N p → ((j : ℕ) → j < n → PageGood s P C N (suc p + j)) → (j : ℕ) → j < suc n → PageGood s P C N (p + j)
  each_of n p g h zero q = let e : p + 0 ≡ p = omega arith in rw e g
  each_of n p g h (suc j) q = let e : p + suc j ≡ suc p + j = omega arith in rw e (h j (le_of_suc-le-suc q))

  pub pages-good : (n p : ℕ) (m m' L : List ℕ) → p + n ≤ P → C < length m → Marked C m L → check_pages s P C N n p m ≡ Some m'
      → PagesGood s P C N n p m m' L
  unfolding check_pages tabulate concat
  pages-good zero p m m' L l lm k h = record {
    each-page = λ j q. absurd (not-suc-le-zero q);
    marked = rw (append-nil, ← whole_is m m' h) k;
    length-marks = ap length (sym (whole_is m m' h));
  }
  pages-good (suc n) p m m' L l lm k h =
      let w = goes_then (walk_marks s (cells_start P) C (cells (sum_in s p)) m (entry_at p + 4))
      (λ m₁. go_on (every (page_tests s P N p)) (check_pages s P C N n (suc p) m₁)) m' h in
      let g = goes_on (every (page_tests s P N p)) (check_pages s P C N n (suc p) w.0) m' w.2 in
      let v = page-step p m w.0 L (omega arith) lm k w.1 g.0 in
      let u = pages-good n (suc p) w.0 m' (L ++ chain_in s P p) (omega arith) (omega (arith, v.2)) v.1 g.1 in
      let e₀ : p + 0 ≡ p = omega arith in
      let e₁ : concat (chains_from s P p (suc n)) ≡ chain_in s P p ++ concat (chains_from s P (suc p) n) =
      ap₂ ◌++◌ (ap (chain_in s P) e₀)
      (ap concat (tabulate-ext n (λ j. chain_in s P (p + suc j)) (λ j. chain_in s P (suc p + j))
      (λ j _. ap (chain_in s P) {x = p + suc j} {y = suc p + j} (omega arith)))) in
      record {
        each-page = λ j q. each_of n p v.0 u.each-page j q;
        marked = λ d r. u.marked d r
            ∙ ap (occurrences d) (append_assoc L (chain_in s P p) (concat (chains_from s P (suc p) n)) ∙ ap (λ (z : List ℕ). L ++ z) (sym e₁));
        length-marks = u.length-marks ∙ v.2;
      }

  -- and the other way: good pages that no cell is on twice are walked to their end
  pub pages-through : (n p : ℕ) (m L : List ℕ) → C < length m → Marked C m L → ((j : ℕ) → j < n → PageGood s P C N (p + j))
      → ((d : ℕ) → occurrences d (L ++ concat (chains_from s P p n)) ≤ 1)
      → (m' : List ℕ) × (check_pages s P C N n p m ≡ Some m') × (length m' ≡ length m) × Marked C m' (L ++ concat (chains_from s P p n))
  unfolding check_pages tabulate concat
  pages-through zero p m L lm k h o = (m, refl, refl, rw append-nil k)
  pages-through (suc n) p m L lm k h o =
      let e₀ : p + 0 ≡ p = omega arith in
      let cs : List ℕ = chain_in s P p in
      let g : PageGood s P C N p = rw e₀ at (h 0 (omega arith)) in
      let e₁ : concat (chains_from s P p (suc n)) ≡ cs ++ concat (chains_from s P (suc p) n) =
      ap₂ ◌++◌ (ap (chain_in s P) e₀)
      (ap concat (tabulate-ext n (λ j. chain_in s P (p + suc j)) (λ j. chain_in s P (suc p + j))
      (λ j _. ap (chain_in s P) {x = p + suc j} {y = suc p + j} (omega arith)))) in
      let eL : L ++ concat (chains_from s P p (suc n)) ≡ L ++ cs ++ concat (chains_from s P (suc p) n) = ap (λ (z : List ℕ). L ++ z) e₁
      ∙ sym (append_assoc L cs (concat (chains_from s P (suc p) n))) in
      let u : Unmarked m cs = λ d q. k d (g.chain.upto d q) ∙ none_of d L cs (concat (chains_from s P (suc p) n)) (rw (← eL) (o d)) q in
      let m₁ : List ℕ = mark_all m cs in
      let w : walk_marks s (cells_start P) C (cells (sum_in s p)) m (entry_at p + 4) ≡ Some m₁ =
      ap (λ (z : ℕ). walk_marks s (cells_start P) C z m (entry_at p + 4)) (sym g.long) ∙ walk_through s (cells_start P) C lC cs m (entry_at p + 4) g.chain g.linked u in
      let lm₁ : length m₁ ≡ length m = mark-length cs m in
      let r = pages-through n (suc p) m₁ (L ++ cs) (omega arith) (marks C cs m L lm g.chain u k)
      (λ j q. let e : suc p + j ≡ p + suc j = omega arith in rw e (h (suc j) (omega arith))) (λ d. rw (← eL) (o d)) in (
        r.0,
        ap (λ (z : Walk). and_then z (λ m₂. go_on (every (page_tests s P N p)) (check_pages s P C N n (suc p) m₂))) w
            ∙ then-whole m₁ (λ m₂. go_on (every (page_tests s P N p)) (check_pages s P C N n (suc p) m₂))
            ∙ ap (λ (z : Bool). go_on z (check_pages s P C N n (suc p) m₁)) (every_of (page_tests s P N p) g.tests)
            ∙ on-true (check_pages s P C N n (suc p) m₁) ∙ r.1,
        r.2 ∙ lm₁,
        (λ d q. r.3 d q ∙ ap (occurrences d) (sym eL)),
      )
