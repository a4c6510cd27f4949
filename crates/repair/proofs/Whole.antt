-- A sound store is kept whole, and its free chain is sorted; that of a store that was repaired is. Assumes nothing.
use mathlib.Core.Path.{◌≡◌, refl, sym, ap, ap₂, ◌∙◌}
use mathlib.Core.Bool.{true, not}
use mathlib.Core.List.{List, []}
use Prim.Native.Nat.{ℕ, zero, suc, ◌+◌, ◌≤◌, ◌<◌}
use native.Mathlib.Nat.{not-suc-le-zero, le_of_suc-le-suc}
use native.Mathlib.Omega.{arith}
use lib.ListN.{take}
use lib.Dec.{eqb}
use Rattle.lists.specs.Lists.{concat, occurrences, sum, tabulate}
use Rattle.lists.proofs.Occurrences.{occurrences-append}
use Rattle.lists.proofs.Sums.{sum-snoc}
use Rattle.lists.proofs.Tables.{concat-suc, tabulate-ext, tabulate-snoc}
use Rattle.store.specs.PageCode.{cells}
use Rattle.store.specs.Plain.{Plain, page}
use Rattle.store.specs.Layout.{Model, cells_start}
use Rattle.store.specs.Reading.{cells_of, chain_in, first_in, hours_in, list_in, page_in, page_count_of, read, read_for, spare_in, sum_in}
use Rattle.store.specs.Shape.{Shaped}
use Rattle.store.specs.Sound.{sound}
use Rattle.store.specs.Items.{Items, on_all}
use Rattle.store.specs.Code.Checked.{quiet}
use Rattle.store.proofs.Chained.{good-chained}
use Rattle.store.proofs.ItemLaws.{sound-items}
use Rattle.store.proofs.Joining.{chain-all, chain-part}
use Rattle.store.proofs.FreshLaws.{cell-le}
use Rattle.store.proofs.PageLaws.{quiet-page}
use Rattle.store.proofs.ReadBack.{page-is}
use Rattle.store.proofs.SoundFacts.{facts}
use Rattle.repair.specs.Repair.{Kept, is_kept, keeps, kept_chain, kept_counts, kept_of, lost_pages, passed, repaired, sieve, used_cells}
use Rattle.repair.proofs.Ends.{runs-ends}
use Rattle.repair.proofs.Keeping.{KeptBehind, chain-yes, counts-yes, kept-cells, page-kept, passed-yes}
use Rattle.repair.proofs.Sieves.{sieve-empty}

-- a store with its free chain sorted
unfoldable pub resorted : Model → Model
resorted m = record { plain = m.plain; chains = m.chains; spare = sieve (λ c. eqb (occurrences c (concat m.chains)) 0) 1 m.plain.cells }

-- ---- a part of a table, and the next entry
cells-before : (d n : ℕ) (f : ℕ → List ℕ) (p : ℕ) → p < n
    → occurrences d (concat (tabulate p f)) + occurrences d (f p) ≤ occurrences d (concat (tabulate n f))
unfolding tabulate concat occurrences
cells-before d zero f p l = absurd (not-suc-le-zero l)
cells-before d (suc n) f zero l = omega (arith, occurrences-append d (f 0) (concat (tabulate n (λ j. f (suc j)))))
cells-before d (suc n) f (suc p) l =
    omega (
      arith,
      occurrences-append d (f 0) (concat (tabulate n (λ j. f (suc j)))),
      occurrences-append d (f 0) (concat (tabulate p (λ j. f (suc j)))),
      cells-before d n (λ j. f (suc j)) p (le_of_suc-le-suc l),
    )

sum-before : (n : ℕ) (f : ℕ → ℕ) (p : ℕ) → p < n → sum (tabulate p f) + f p ≤ sum (tabulate n f)
unfolding tabulate sum
sum-before zero f p l = absurd (not-suc-le-zero l)
sum-before (suc n) f zero l = omega arith
sum-before (suc n) f (suc p) l = omega (arith, sum-before n (λ j. f (suc j)) p (le_of_suc-le-suc l))

kept-path : {cs ds : List ℕ} {a b : ℕ} → cs ≡ ds → a ≡ b → ◌≡◌ {A = Kept} (record { cells = cs; total = a }) (record { cells = ds; total = b })
kept-path e f i = record { cells = e i; total = f i }

make-path : (L : Plain) {css css' : List (List ℕ)} {sp sp' : List ℕ} → css ≡ css' → sp ≡ sp'
    → ◌≡◌ {A = Model} (record { plain = L; chains = css; spare = sp }) (record { plain = L; chains = css'; spare = sp' })
make-path L c d i = record { plain = L; chains = c i; spare = d i }

plain-path : (P C : ℕ) {xs ys : List ℕ} → xs ≡ ys
    → ◌≡◌ {A = Plain} (record { pages = P; cells = C; counts = xs }) (record { pages = P; cells = C; counts = ys })
plain-path P C e i = record { pages = P; cells = C; counts = e i }

module _ (s : List ℕ) (e : sound s ≡ true) where
  abbrev P : ℕ
  P = page_count_of s

  i : Items s
  i = sound-items s e

  -- all that was passed is kept
  abbrev up_to : ℕ → Kept
  up_to p = record { cells = concat (tabulate p (chain_in s (page_count_of s))); total = sum (tabulate p (sum_in s)) }

  on-all : (d p : ℕ) → p < P → occurrences d (concat (tabulate p (chain_in s P))) + occurrences d (chain_in s P p) ≤ occurrences d (on_all s)
  on-all d p l =
      omega (arith, cells-before d P (chain_in s P) p l, occurrences-append d (concat (tabulate P (chain_in s P))) (spare_in s P))

  quiet_is : (p : ℕ) → p < P → page_in s P p ≡ quiet (hours_in s) p (page_in s P p)
  unfolding read read_for
  quiet_is p l =
      let f = facts s e in
      let w : page_in s P p ≡ page (list_in s) p = page-is s (read s) (good-chained (read s) f.good) f.holds p l in
      w ∙ quiet-page (list_in s) p ∙ ap₂ (λ (n : ℕ) (z : List ℕ). quiet n p z) (sym f.hours-are) (sym w)

  fine : (p : ℕ) → p < P → KeptBehind s (up_to p) p
  unfolding chain_in
  fine p l = record {
    ends = runs-ends s (cells_start P) (cells (sum_in s p)) (first_in s p) (i.page-chain p l);
    chain = chain-part (on_all s) (chain_in s P p) (λ d. omega (arith, on-all d p l)) (chain-all (cells_of s) (on_all s) i.once);
    new = λ d q. omega (arith, on-all d p l, i.once d, cell-le (cells_of s) d);
    page-sum = i.page-sum p l;
    code = i.page-code p l;
    quiet = quiet_is p l;
    total = omega (arith, sum-before P (sum_in s) p l, i.total);
  }

  as_read : (p : ℕ) → p ≤ P → kept_of s p ≡ up_to p
  unfolding kept_of tabulate concat sum
  as_read zero l = refl
  as_read (suc p) l =
      ap (λ (k : Kept). passed s k p) (as_read p (omega arith)) ∙ passed-yes s (up_to p) p (page-kept s (up_to p) p (fine p l))
      ∙ kept-path (sym (concat-suc p (chain_in s P))) (sym (ap sum (tabulate-snoc p (sum_in s)) ∙ sum-snoc (tabulate p (sum_in s)) (sum_in s p)))

  pub kept-all : (p : ℕ) → p < page_count_of s → is_kept s p ≡ true
  unfolding is_kept
  kept-all p l = ap (λ (k : Kept). keeps s k p) (as_read p (omega arith)) ∙ page-kept s (up_to p) p (fine p l)

  -- 'a sound store loses no count and lists nothing'
  pub lists-nothing : lost_pages s ≡ []
  unfolding lost_pages
  lists-nothing = sieve-empty (λ p. not (is_kept s p)) 0 P (λ p _ u. ap not (kept-all p (omega arith)))

  -- its list and its pages' chains stay, and its free chain is sorted
  pub sound-sorted : repaired s ≡ resorted (read s)
  unfolding repaired resorted read read_for
  sound-sorted =
      let cs : tabulate P (kept_chain s) ≡ tabulate P (chain_in s P) =
      tabulate-ext P (kept_chain s) (chain_in s P) (λ p l. chain-yes s p (kept-all p l)) in
      let xs : tabulate P (kept_counts s) ≡ tabulate P (page_in s P) =
      tabulate-ext P (kept_counts s) (page_in s P) (λ p l. counts-yes s p (kept-all p l)) in
      ap (λ (L : Plain). record { plain = L; chains = tabulate P (kept_chain s); spare = sieve (λ c. eqb (occurrences c (used_cells s)) 0) 1 (cells_of s) })
      (plain-path P (cells_of s) (ap (λ (z : List (List ℕ)). take (hours_in s) (concat z)) xs))
      ∙ make-path _ cs (ap (λ (u : List ℕ). sieve (λ c. eqb (occurrences c u) 0) 1 (cells_of s)) (kept-cells s P ∙ ap concat cs))

-- a sound store has the shape that is asked for
pub sound-shaped : (s : List ℕ) → sound s ≡ true → Shaped s
sound-shaped s e = let i = sound-items s e in record { edition = i.edition; gap = i.gap; fitting = i.fitting; hours = i.hours }

-- a store that was repaired is sorted already
pub sorted-already : (s : List ℕ) → resorted (repaired s) ≡ repaired s
unfolding resorted repaired
sorted-already s = make-path _ refl (ap (λ (u : List ℕ). sieve (λ c. eqb (occurrences c u) 0) 1 (cells_of s)) (sym (kept-cells s (page_count_of s))))
