-- Document 01's 'Hours from N on are zero', by sums: in a page the hours from N on are zero just where those before N have the whole sum.
-- Assumes nothing.
use mathlib.Core.Path.{◌≡◌, sym, ap, ap₂, ◌∙◌}
use mathlib.Core.Bool.{Bool, true}
use mathlib.Core.List.{List, [], ◌∷◌}
use Prim.Native.Nat.{ℕ, suc, ◌+◌, ◌-◌, ◌*◌, ◌≤◌, ◌<◌}
use native.Mathlib.Omega.{arith}
use native.Mathlib.Decide.{dec_le}
use lib.ListN.{length, get_or, take, drop, get_or-eq_default}
use lib.Seq.{get_or-drop, take_all, take-suc}
use lib.Dec.{ltb, eqb}
use borrow.Author.Tests.{lt-ltb, le-ltb, eq-eqb, eqb-true}
use Rattle.lists.specs.Lists.{pick, same, sum, tabulate}
use Rattle.lists.proofs.Sums.{sum-append, sum-halves, sum-none, zero-at}
use Rattle.lists.proofs.Tables.{get_d_tabulate, tabulate-ext, tabulate-get_d}
use Rattle.lists.proofs.Tests.{agree, same-eq, same-is}
use Rattle.store.specs.Code.Checked.{quiet}

-- ---- the hours of page p, n of which are logged
module _ (xs : List ℕ) (N p : ℕ) (long : length xs ≡ 64) where
  abbrev n : ℕ
  n = N - 64 * p

  abbrev f : ℕ → ℕ
  f j = pick (ltb (64 * p + j) N) (get_or xs j 0) 0

  -- an hour from N on, and one before it
  late : (j : ℕ) → N ≤ 64 * p + j → f j ≡ 0
  unfolding pick
  late j l = ap (λ (b : Bool). pick b (get_or xs j 0) 0) (le-ltb (64 * p + j) N l)

  early : (j : ℕ) → 64 * p + j < N → f j ≡ get_or xs j 0
  unfolding pick
  early j l = ap (λ (b : Bool). pick b (get_or xs j 0) 0) (lt-ltb (64 * p + j) N l)

  -- zeros from N on leave nothing behind N
  rest-none : xs ≡ quiet N p xs → sum (drop n xs) ≡ 0
  rest-none e = sum-none (drop n xs) (λ i. get_or-drop n xs i 0 ∙ at (n + i) (omega arith) (dec_le 64 (n + i)))
    where
      at : (j : ℕ) → N ≤ 64 * p + j → Dec (64 ≤ j) → get_or xs j 0 ≡ 0
      at j l (yes q) = get_or-eq_default xs 0 (omega arith)
      at j l (no q) = ap (λ (z : List ℕ). get_or z j 0) e ∙ get_d_tabulate 64 f j 0 (omega arith) ∙ late j l

  -- and the other way
  quiet-rest : sum (drop n xs) ≡ 0 → quiet N p xs ≡ xs
  quiet-rest e =
      tabulate-ext 64 f (λ j. get_or xs j 0) (λ j _. at j (dec_le N (64 * p + j)))
      ∙ ap (λ (k : ℕ). tabulate k (λ j. get_or xs j 0)) (sym long) ∙ tabulate-get_d xs 0
    where
      at : (j : ℕ) → Dec (N ≤ 64 * p + j) → f j ≡ get_or xs j 0
      at j (yes q) =
          let k : n + (j - n) ≡ j = omega arith in
          late j q ∙ sym (ap (λ (z : ℕ). get_or xs z 0) (sym k) ∙ sym (get_or-drop n xs (j - n) 0) ∙ zero-at (drop n xs) (j - n) e)
      at j (no q) = early j (omega arith)

  pub quiet_sum : same xs (quiet N p xs) ≡ eqb (sum (take n xs)) (sum xs)
  quiet_sum =
      agree (same xs (quiet N p xs)) (eqb (sum (take n xs)) (sum xs))
      (λ q. eq-eqb (sum (take n xs)) (sum xs) (omega (arith, sum-halves n xs, rest-none (same-is xs (quiet N p xs) q))))
      (λ q. same-eq xs (quiet N p xs) (sym (quiet-rest (omega (arith, sum-halves n xs, eqb-true (sum (take n xs)) (sum xs) q)))))

  -- all hours of the page are logged
  pub quiet_all : 64 * p + 64 ≤ N → true ≡ same xs (quiet N p xs)
  quiet_all l = sym (quiet_sum ∙ eq-eqb _ _ (ap sum (take_all n xs (omega arith))))

  -- none is
  pub quiet_none : N ≤ 64 * p → (s : ℕ) → sum xs ≡ s → eqb s 0 ≡ same xs (quiet N p xs)
  unfolding sum
  quiet_none l s e =
      let z : n ≡ 0 = omega arith in
      agree (eqb s 0) (eqb 0 (sum xs)) (λ q. eq-eqb 0 (sum xs) (sym (e ∙ eqb-true s 0 q))) (λ q. eq-eqb s 0 (sym (eqb-true 0 (sum xs) q ∙ e)))
      ∙ ap (λ (k : ℕ). eqb (sum (take k xs)) (sum xs)) (sym z) ∙ sym quiet_sum

  -- some are: the prefix sum to the last of them is to be the sum
  pub quiet-some : 64 * p < N → N < 64 * p + 64 → (r s : ℕ) → sum xs ≡ s → r ≡ sum (take (n - 1) xs) + get_or xs (n - 1) 0
      → eqb r s ≡ same xs (quiet N p xs)
  unfolding sum
  quiet-some l u r s e q =
      let k : suc (n - 1) ≡ n = omega arith in
      let t : sum (take n xs) ≡ r =
      ap (λ (z : ℕ). sum (take z xs)) (sym k) ∙ ap sum (take-suc xs (n - 1) 0 (omega arith))
      ∙ sum-append (take (n - 1) xs) (get_or xs (n - 1) 0 ∷ []) ∙ omega arith in
      sym (quiet_sum ∙ ap₂ eqb t e)
