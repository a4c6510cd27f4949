-- The chains alone: the laws between two changes of a page. Assumes nothing.
use mathlib.Core.Path.{◌≡◌, ◌∙◌}
use mathlib.Core.List.{List, [], ◌++◌}
use Prim.Native.Nat.{ℕ, ◌+◌, ◌*◌, ◌≤◌, ◌<◌}
use native.Mathlib.Omega.{arith}
use native.Mathlib.Decide.{ℕ_discrete}
use lib.ListN.{length, get_or, take, drop, set, length-append, length-take, length-drop, length-set}
use lib.Seq.{get_or-set_same, get_or-set_other}
use Rattle.lists.specs.Lists.{concat, sum}
use Rattle.store.specs.Layout.{Model, resize}
use Rattle.store.specs.Limits.{max_total}
use Rattle.store.specs.PageCode.{cells}
use Rattle.store.specs.Plain.{page}
use Rattle.store.specs.Sound.{Good, on_chains}
use Rattle.store.specs.Code.Chained.{Chained}
use Rattle.lists.proofs.Occurrences.{length-concat-set, occurrences-append, occurrences-concat-set, occurrences-split}
use Rattle.lists.proofs.Pages.{paged-le}

-- a good store's chains, and a store whose chains and total are right
pub good-chained : (m : Model) → Good m → Chained m
unfolding page
good-chained m g = record {
  limits = g.limits;
  hours = g.hours;
  rows = g.rows;
  lengths = g.lengths;
  sums = λ p _. omega (arith, paged-le 64 m.plain.counts p, g.total);
  once = g.once;
  all = g.all;
}

pub chained-good : (m : Model) → Chained m → sum m.plain.counts ≤ max_total → Good m
chained-good m g t = record {
  limits = g.limits;
  hours = g.hours;
  total = t;
  rows = g.rows;
  lengths = g.lengths;
  once = g.once;
  all = g.all;
}

pub spare-fits : (m : Model) → Chained m → length m.spare ≤ m.plain.cells
unfolding on_chains
spare-fits m g = omega (arith, g.all, length-append (concat m.chains) m.spare)

-- two lists differ in page p alone
abbrev pub OffPage : List ℕ → List ℕ → ℕ → Type 0
OffPage xs ys p = (q : ℕ) → (q ≡ p → ⊥) → page ys q ≡ page xs q

module _ (m : Model) (ys : List ℕ) (p : ℕ) (g : Chained m) (o : OffPage m.plain.counts ys p) (lp : p < m.plain.pages)
    (ly : length ys ≤ 64 * m.plain.pages) (ls : sum (page ys p) ≤ max_total) (fits : cells (sum (page ys p)) ≤ length (get_or m.chains p []) + length m.spare) where
  abbrev old : List ℕ
  old = get_or m.chains p []

  abbrev J : List ℕ
  J = old ++ m.spare

  abbrev k : ℕ
  k = cells (sum (page ys p))

  lr : p < length m.chains
  lr = omega (arith, g.rows)

  lk : length (take k J) ≡ k
  lk = omega (arith, length-take k J, length-append old m.spare)

  long-at : (q : ℕ) → q < m.plain.pages → Dec (q ≡ p) → length (get_or (set m.chains p (take k J)) q []) ≡ cells (sum (page ys q))
  long-at q lq (yes e) = rw (e, get_or-set_same m.chains p (take k J) [] lr) lk
  long-at q lq (no ne) = rw (get_or-set_other m.chains p q (take k J) [] ne, o q ne) (g.lengths q lq)

  sum-at : (q : ℕ) → q < m.plain.pages → Dec (q ≡ p) → sum (page ys q) ≤ max_total
  sum-at q lq (yes e) = rw e ls
  sum-at q lq (no ne) = rw (o q ne) (g.sums q lq)

  -- the step: page p has its counts of ys, and the cells that they need
  pub page-chained : Chained (resize m ys p k)
  unfolding resize on_chains
  page-chained = record {
    limits = g.limits;
    hours = ly;
    rows = length-set m.chains p (take k J) ∙ g.rows;
    lengths = λ q lq. long-at q lq (ℕ_discrete q p);
    sums = λ q lq. sum-at q lq (ℕ_discrete q p);
    once = λ c.
        omega (
          arith,
          g.once c,
          occurrences-append c (concat m.chains) m.spare,
          occurrences-append c (concat (set m.chains p (take k J))) (drop k J),
          occurrences-concat-set c m.chains p (take k J) lr,
          occurrences-split c k J,
          occurrences-append c old m.spare,
        );
    all =
        omega (
          arith,
          g.all,
          length-append (concat m.chains) m.spare,
          length-append (concat (set m.chains p (take k J))) (drop k J),
          length-concat-set m.chains p (take k J) lr,
          length-drop k J,
          lk,
          length-append old m.spare,
        );
  }
