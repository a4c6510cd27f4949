-- Pages read from a store and the list they make. Assumes nothing.
use mathlib.Core.Path.{◌≡◌, sym, ap, ◌∙◌}
use mathlib.Core.List.{List, [], ◌∷◌}
use Prim.Native.Nat.{ℕ, zero, suc, ◌+◌, ◌*◌, ◌≤◌, ◌<◌}
use native.Mathlib.Omega.{arith}
use native.Mathlib.Decide.{dec_le}
use lib.ListN.{length, get_or, take, drop, length-take, length-drop, get_or-eq_default}
use lib.Seq.{get_or-take, ext_get_or, take_at, drop_at}
use lib.Dec.{ltb}
use borrow.Author.Tests.{lt-ltb, le-ltb}
use Rattle.lists.specs.Lists.{concat, occurrences, part, pick, sum, tabulate}
use Rattle.store.specs.Layout.{cell_at}
use Rattle.store.specs.Plain.{page}
use Rattle.store.specs.Reading.{code_in}
use Rattle.lists.proofs.Occurrences.{occurrences-append}
use Rattle.lists.proofs.Pages.{concat-get as rows_get}
use Rattle.lists.proofs.Sums.{sum-concat}
use Rattle.lists.proofs.Tables.{concat-each, get_d_tabulate, length-tabulate, tabulate-ext}
use Rattle.store.specs.Code.Checked.{quiet}
use Rattle.store.proofs.Filling.{Filled}
use Rattle.store.proofs.Holds.{page-length}
use Rattle.store.proofs.Joining.{chain_head, chain-tail}
use Rattle.store.proofs.ReadBack.{concat-get, sum-table-le}
use Rattle.store.proofs.Writes.{Chain}

module _ (P N : ℕ) (f : ℕ → List ℕ) (h : (q : ℕ) → q < P → length (f q) ≡ 64) (lN : N ≤ 64 * P) where
  pub list_length : length (take N (concat (tabulate P f))) ≡ N
  list_length = omega (arith, length-take N (concat (tabulate P f)), concat-each P 64 f h)

  pub page-back : (p : ℕ) → p < P → f p ≡ quiet N p (f p) → page (take N (concat (tabulate P f))) p ≡ f p
  unfolding page pick
  page-back p l e = tabulate-ext 64 (λ j. get_or (take N (concat (tabulate P f))) (64 * p + j) 0) (λ j. pick (ltb (64 * p + j) N) (get_or (f p) j 0) 0)
      (λ j r. go j r (dec_le (64 * p + j + 1) N)) ∙ sym e
    where
      go : (j : ℕ) → j < 64 → Dec (64 * p + j + 1 ≤ N)
          → get_or (take N (concat (tabulate P f))) (64 * p + j) 0 ≡ pick (ltb (64 * p + j) N) (get_or (f p) j 0) 0
      go j r (yes q) = rw (lt-ltb (64 * p + j) N (omega arith)) (get_or-take N (concat (tabulate P f)) (64 * p + j) 0 (omega arith)
          ∙ rows_get P 64 f p j h l r)
      go j r (no q) = rw (le-ltb (64 * p + j) N (omega arith)) (get_or-eq_default (take N (concat (tabulate P f))) 0 (omega (arith, list_length)))

pub quiet-page : (xs : List ℕ) (p : ℕ) → page xs p ≡ quiet (length xs) p (page xs p)
unfolding page pick
quiet-page xs p =
    tabulate-ext 64 (λ j. get_or xs (64 * p + j) 0) (λ j. pick (ltb (64 * p + j) (length xs)) (get_or (page xs p) j 0) 0)
    (λ j r. go j r (dec_le (64 * p + j + 1) (length xs)))
  where
    go : (j : ℕ) → j < 64 → Dec (64 * p + j + 1 ≤ length xs) → get_or xs (64 * p + j) 0 ≡ pick (ltb (64 * p + j) (length xs)) (get_or (page xs p) j 0) 0
    go j r (yes q) = rw (lt-ltb (64 * p + j) (length xs) (omega arith)) (sym (get_d_tabulate 64 (λ j. get_or xs (64 * p + j) 0) j 0 r))
    go j r (no q) = rw (le-ltb (64 * p + j) (length xs) (omega arith)) (get_or-eq_default xs 0 (omega arith))

pub sum-pages-le : (P : ℕ) (xs : List ℕ) → sum (tabulate P (λ p. sum (page xs p))) ≤ sum xs
sum-pages-le P xs =
    let F : List ℕ = concat (tabulate P (page xs)) in
    let lF : length F ≡ 64 * P = concat-each P 64 (page xs) (λ j _. page-length xs j) in
    let e : F ≡ tabulate (64 * P) (λ i. get_or xs i 0) =
    ext_get_or 0 F (tabulate (64 * P) (λ i. get_or xs i 0)) (lF ∙ sym (length-tabulate (64 * P) (λ i. get_or xs i 0)))
    (λ i l. concat-get P xs i (omega arith) ∙ sym (get_d_tabulate (64 * P) (λ i. get_or xs i 0) i 0 (omega arith))) in
    omega (arith, sym (sum-concat P (page xs)), ap sum e, sum-table-le (64 * P) xs)

-- ---- cells of several chains
pub concat-range : (C n : ℕ) (f : ℕ → List ℕ) → ((p : ℕ) → p < n → Chain C (f p)) → (d : ℕ) → 1 ≤ occurrences d (concat (tabulate n f))
    → (1 ≤ d) × (d ≤ C)
unfolding tabulate concat occurrences
concat-range C zero f h d q = absurd (omega arith)
concat-range C (suc n) f h d q = go (dec_le 1 (occurrences d (f 0))) (λ r. concat-range C n (λ j. f (suc j)) (λ p l. h (suc p) (omega arith)) d r)
  where
    go : Dec (1 ≤ occurrences d (f 0)) → (1 ≤ occurrences d (concat (tabulate n (λ j. f (suc j)))) → (1 ≤ d) × (d ≤ C)) → (1 ≤ d) × (d ≤ C)
    go (yes a) r = ((h 0 (omega arith)).from d a, (h 0 (omega arith)).upto d a)
    go (no a) r = r (omega (arith, occurrences-append d (f 0) (concat (tabulate n (λ j. f (suc j))))))

-- ---- blocks, from the code that is read
pub code-filled : (s : List ℕ) (base C : ℕ) (cs code : List ℕ) → base + 32 * C ≤ length s → Chain C cs → code_in s base cs ≡ code → Filled s base cs code
unfolding code_in
code-filled s base C [] code l j e = tt
code-filled s base C (c ∷ cs) code l j e =
    let w = chain_head C c cs j in
    let n : length (part s (cell_at base c + 2) 30) ≡ 30 = omega (
      arith,
      length-take 30 (drop (cell_at base c + 2) s),
      length-drop (cell_at base c + 2) s,
      w.0,
      w.1,
    ) in (
      sym (take_at (part s (cell_at base c + 2) 30) (code_in s base cs) 30 n) ∙ ap (take 30) e,
      code-filled s base C cs (drop 30 code) l (chain-tail j) (sym (drop_at (part s (cell_at base c + 2) 30) (code_in s base cs) 30 n) ∙ ap (drop 30) e),
    )
