-- The test of a model, and that of bytes. Assumes nothing.
use mathlib.Core.Path.{◌≡◌, refl, ap, ◌∙◌}
use mathlib.Core.Bool.{true, ◌&&◌}
use mathlib.Core.List.{List, [], ◌∷◌}
use Prim.Native.Nat.{ℕ, zero, suc, ◌*◌, ◌≤◌, ◌<◌}
use native.Mathlib.Omega.{arith}
use native.Mathlib.Decide.{dec_le, ℕ_discrete}
use lib.ListN.{length, get_or, replicate}
use lib.Dec.{leb}
use borrow.Author.Tests.{le-leb, leb-true, eq-eqb, eqb-true}
use Rattle.lists.specs.Lists.{occurrences, same, sum, tabulate}
use Rattle.store.specs.Limits.{max_cells, max_pages, max_total}
use Rattle.store.specs.Layout.{Model, bytes_of}
use Rattle.store.specs.PageCode.{cells}
use Rattle.store.specs.Plain.{page}
use Rattle.store.specs.Reading.{read}
use Rattle.store.specs.Sound.{Good, fine, is_cell, on_chains, sound, tests, within}
use Rattle.lists.proofs.Occurrences.{one-other, one_same}
use Rattle.lists.proofs.Tests.{same-tabulate, tabulate-same, left, right, both, each, every_of, same-is, same_refl}
use Rattle.store.proofs.FreshLaws.{cell-high, cell_in, cell-is, cell-zero}
use Rattle.store.proofs.Holds.{holds-bytes}
use Rattle.store.proofs.Chained.{good-chained}
use Rattle.store.proofs.ReadBack.{read_is}

pub within_all : (C : ℕ) (xs : List ℕ) → ((c : ℕ) → 1 ≤ occurrences c xs → (1 ≤ c) × (c ≤ C)) → within C xs ≡ true
unfolding within occurrences
within_all C [] h = refl
within_all C (x ∷ xs) h =
    let w = h x (omega (arith, one_same x)) in
    both (both (le-leb 1 x w.0) (le-leb x C w.1)) (within_all C xs (λ c q. h c (omega arith)))

pub all-within : (C : ℕ) (xs : List ℕ) → within C xs ≡ true → (c : ℕ) → 1 ≤ occurrences c xs → (1 ≤ c) × (c ≤ C)
unfolding within occurrences
all-within C [] h c q = absurd (omega arith)
all-within C (x ∷ xs) h c q =
    go (ℕ_discrete c x) (λ n. all-within C xs (right (leb 1 x && leb x C) (within C xs) h) c n)
  where
    go : Dec (c ≡ x) → (1 ≤ occurrences c xs → (1 ≤ c) × (c ≤ C)) → (1 ≤ c) × (c ≤ C)
    go (yes e) r =
        let b = left (leb 1 x && leb x C) (within C xs) h in
        rw e (leb-true 1 x (left (leb 1 x) (leb x C) b), leb-true x C (right (leb 1 x) (leb x C) b))
    go (no e) r = r (omega (arith, one-other c x e))

pub ones : (n : ℕ) → replicate {A = ℕ} n 1 ≡ tabulate n (λ _. 1)
unfolding tabulate
ones zero = refl
ones (suc n) = ap (λ (z : List ℕ). 1 ∷ z) (ones n)

pub once-of : (C : ℕ) (xs : List ℕ) → ((c : ℕ) → 1 ≤ occurrences c xs → (1 ≤ c) × (c ≤ C)) → ((j : ℕ) → j < C → occurrences (suc j) xs ≡ 1) → (c : ℕ)
    → occurrences c xs ≡ is_cell C c
once-of C xs r o zero = go (dec_le 1 (occurrences 0 xs))
  where
    go : Dec (1 ≤ occurrences 0 xs) → occurrences 0 xs ≡ is_cell C 0
    go (yes a) = absurd (omega (arith, r 0 a))
    go (no a) = omega (arith, cell-zero C 0 (omega arith))
once-of C xs r o (suc c) = go (dec_le (suc c) C) (dec_le 1 (occurrences (suc c) xs))
  where
    go : Dec (suc c ≤ C) → Dec (1 ≤ occurrences (suc c) xs) → occurrences (suc c) xs ≡ is_cell C (suc c)
    go (yes a) b = omega (arith, o c a, cell_in C (suc c) (omega arith) a)
    go (no a) (yes b) = absurd (omega (arith, r (suc c) b))
    go (no a) (no b) = omega (arith, cell-high C (suc c) (omega arith))

pub same-ones : (C : ℕ) (f : ℕ → ℕ) → same (tabulate C f) (replicate C 1) ≡ true → (j : ℕ) → j < C → f j ≡ 1
same-ones C f e = same-tabulate C f (λ _. 1) (rw ones at e)

pub ones-same : (C : ℕ) (f : ℕ → ℕ) → ((j : ℕ) → j < C → f j ≡ 1) → same (tabulate C f) (replicate C 1) ≡ true
ones-same C f h = rw ones (tabulate-same C f (λ _. 1) h)

pub good-fine : (m : Model) → Good m → fine m ≡ true
unfolding fine tests
good-fine m g =
    let P : ℕ = m.plain.pages in
    let C : ℕ = m.plain.cells in
    every_of (tests m) (
      le-leb 1 P g.limits.pages-low,
      (
        le-leb P max_pages g.limits.pages-high,
        (
          le-leb 1 C g.limits.cells_low,
          (
            le-leb C max_cells g.limits.cells-high,
            (
              le-leb (length m.plain.counts) (64 * P) g.hours,
              (
                le-leb (sum m.plain.counts) max_total g.total,
                (
                  eq-eqb (length m.chains) P g.rows,
                  (
                    tabulate-same P (λ p. length (get_or m.chains p [])) (λ p. cells (sum (page m.plain.counts p))) g.lengths,
                    (
                      within_all C (on_chains m) (λ c q. cell-is C c (omega (arith, g.once c))),
                      (
                        rw ones (tabulate-same C (λ j. occurrences (suc j) (on_chains m)) (λ _. 1) (λ j l. g.once (suc j)
                            ∙ cell_in C (suc j) (omega arith) (omega arith))),
                        (eq-eqb (length (on_chains m)) C g.all, tt),
                      ),
                    ),
                  ),
                ),
              ),
            ),
          ),
        ),
      ),
    )

-- the bytes of a good model are sound
pub sound-bytes : (m : Model) → Good m → sound (bytes_of m) ≡ true
unfolding sound
sound-bytes m g =
    let e : read (bytes_of m) ≡ m = read_is (bytes_of m) m (good-chained m g) (holds-bytes m g) in
    both (ap (fine) e ∙ good-fine m g) (ap (λ (z : Model). same (bytes_of m) (bytes_of z)) e ∙ same_refl (bytes_of m))

pub fine-good : (m : Model) → fine m ≡ true → Good m
unfolding fine tests
fine-good m f =
    let P : ℕ = m.plain.pages in
    let C : ℕ = m.plain.cells in
    let w = each (tests m) f in
    let r = all-within C (on_chains m) w.1.1.1.1.1.1.1.1.0 in
    let o : (j : ℕ) → j < C
    → occurrences (suc j) (on_chains m) ≡ 1 = same-tabulate C (λ j. occurrences (suc j) (on_chains m)) (λ _. 1)
    (rw ones at w.1.1.1.1.1.1.1.1.1.0) in
    record {
      limits = record {
        pages-low = leb-true 1 P w.0;
        pages-high = leb-true P max_pages w.1.0;
        cells_low = leb-true 1 C w.1.1.0;
        cells-high = leb-true C max_cells w.1.1.1.0;
      };
      hours = leb-true (length m.plain.counts) (64 * P) w.1.1.1.1.0;
      total = leb-true (sum m.plain.counts) max_total w.1.1.1.1.1.0;
      rows = eqb-true (length m.chains) P w.1.1.1.1.1.1.0;
      lengths = same-tabulate P (λ p. length (get_or m.chains p [])) (λ p. cells (sum (page m.plain.counts p))) w.1.1.1.1.1.1.1.0;
      once = once-of C (on_chains m) r o;
      all = eqb-true (length (on_chains m)) C w.1.1.1.1.1.1.1.1.1.1.0;
    }

-- and sound bytes are those of a good model, the one that is read
pub sound-good : (s : List ℕ) → sound s ≡ true → Good (read s) × (s ≡ bytes_of (read s))
unfolding sound
sound-good s e = (
  fine-good (read s) (left (fine (read s)) (same s (bytes_of (read s))) e),
  same-is s (bytes_of (read s)) (right (fine (read s)) (same s (bytes_of (read s))) e),
)
