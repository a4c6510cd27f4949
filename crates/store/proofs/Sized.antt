-- Pages that are given cells one after another. Assumes nothing.
use mathlib.Core.Path.{◌≡◌, refl, ap, ◌∙◌}
use mathlib.Core.List.{List, [], ◌++◌}
use Prim.Native.Nat.{ℕ, zero, suc, ◌+◌, ◌-◌, ◌≤◌, ◌<◌}
use native.Mathlib.Omega.{arith}
use native.Mathlib.Decide.{ℕ_discrete}
use lib.ListN.{length, take, drop, set, length-append, length-take, length-drop, length-set}
use lib.Seq.{get_or-set_same, get_or-set_other}
use Rattle.lists.specs.Lists.{concat, occurrences, sum, tabulate}
use Rattle.lists.proofs.Occurrences.{length-concat-set, occurrences-append, occurrences-concat-set, occurrences-split}
use Rattle.lists.proofs.Sums.{sum-snoc}
use Rattle.lists.proofs.Tables.{tabulate-snoc}
use Rattle.store.specs.Layout.{Model}
use Rattle.store.specs.OneCell.{chain_of}
use Rattle.store.specs.Sound.{on_chains}
use Rattle.store.specs.Settle.{pagewise, size_to}

pub sum-suc : (n : ℕ) (f : ℕ → ℕ) → sum (tabulate (suc n) f) ≡ sum (tabulate n f) + f n
sum-suc n f = ap sum (tabulate-snoc n f) ∙ sum-snoc (tabulate n f) (f n)

-- ---- one page
module _ (w : Model) (p k : ℕ) (lp : p < length w.chains) where
  abbrev own : List ℕ
  own = chain_of w p

  abbrev J : List ℕ
  J = own ++ w.spare

  sized-once : (c : ℕ) → occurrences c (on_chains (size_to p k w)) ≡ occurrences c (on_chains w)
  unfolding size_to on_chains
  sized-once c =
      omega (
        arith,
        occurrences-append c (concat w.chains) w.spare,
        occurrences-append c (concat (set w.chains p (take k J))) (drop k J),
        occurrences-concat-set c w.chains p (take k J) lp,
        occurrences-split c k J,
        occurrences-append c own w.spare,
      )

  sized-all : k ≤ length own + length w.spare → length (on_chains (size_to p k w)) ≡ length (on_chains w)
  unfolding size_to on_chains
  sized-all l =
      omega (
        arith,
        length-append (concat w.chains) w.spare,
        length-append (concat (set w.chains p (take k J))) (drop k J),
        length-concat-set w.chains p (take k J) lp,
        length-take k J,
        length-drop k J,
        length-append own w.spare,
      )

  sized-own : k ≤ length own + length w.spare → length (chain_of (size_to p k w) p) ≡ k
  unfolding size_to
  sized-own l = ap length (get_or-set_same w.chains p (take k J) [] lp) ∙ omega (arith, length-take k J, length-append own w.spare)

  sized-spare : k ≤ length own + length w.spare → length (size_to p k w).spare + k ≡ length w.spare + length own
  unfolding size_to
  sized-spare l = omega (arith, length-drop k J, length-append own w.spare)

pub sized_rows : (w : Model) (p k : ℕ) → length (size_to p k w).chains ≡ length w.chains
unfolding size_to
sized_rows w p k = length-set w.chains p (take k (chain_of w p ++ w.spare))

pub sized-other : (w : Model) (p k q : ℕ) → (q ≡ p → ⊥) → chain_of (size_to p k w) q ≡ chain_of w q
unfolding size_to
sized-other w p k q ne = get_or-set_other w.chains p q (take k (chain_of w p ++ w.spare)) [] ne

-- ---- pages 0 to n - 1
abbrev pub long : Model → ℕ → ℕ
long m q = length (chain_of m q)

pub record Sized (m : Model) (t : ℕ → ℕ) (n : ℕ) (w : Model) : Type 0 where
  pub rows : length w.chains ≡ length m.chains
  pub done : (q : ℕ) → q < n → length (chain_of w q) ≡ t q
  pub rest : (q : ℕ) → n ≤ q → chain_of w q ≡ chain_of m q
  pub left : length w.spare + sum (tabulate n t) ≡ length m.spare + sum (tabulate n (long m))
  pub once : (c : ℕ) → occurrences c (on_chains w) ≡ occurrences c (on_chains m)
  pub all : length (on_chains w) ≡ length (on_chains m)

-- there are cells enough for each page when its turn comes
abbrev pub Enough : Model → (ℕ → ℕ) → ℕ → Type 0
Enough m t n = (q : ℕ) → q < n → sum (tabulate (suc q) t) ≤ length m.spare + sum (tabulate (suc q) (long m))

pub room : (m : Model) (t : ℕ → ℕ) (n : ℕ) (w : Model) → sum (tabulate (suc n) t) ≤ length m.spare + sum (tabulate (suc n) (long m)) → Sized m t n w
    → t n ≤ length (chain_of w n) + length w.spare
room m t n w e h = omega (arith, ap length (h.rest n (omega arith)), h.left, sum-suc n t, sum-suc n (long m))

next : (m : Model) (t : ℕ → ℕ) (n : ℕ) (w : Model) → suc n ≤ length m.chains
    → sum (tabulate (suc n) t) ≤ length m.spare + sum (tabulate (suc n) (long m)) → Sized m t n w → Sized m t (suc n) (size_to n (t n) w)
next m t n w ln e h =
    let same : length (chain_of w n) ≡ long m n = ap length (h.rest n (omega arith)) in
    let lw : n < length w.chains = omega (arith, h.rows) in
    let fits : t n ≤ length (chain_of w n) + length w.spare = room m t n w e h in
    record {
      rows = sized_rows w n (t n) ∙ h.rows;
      done = λ q lq. go q lq lw fits (ℕ_discrete q n);
      rest = λ q lq. sized-other w n (t n) q (λ e. omega (arith, e)) ∙ h.rest q (omega arith);
      left = omega (arith, sized-spare w n (t n) lw fits, same, h.left, sum-suc n t, sum-suc n (long m));
      once = λ c. sized-once w n (t n) lw c ∙ h.once c;
      all = sized-all w n (t n) lw fits ∙ h.all;
    }
  where
    go : (q : ℕ) → q < suc n → n < length w.chains → t n ≤ length (chain_of w n) + length w.spare → Dec (q ≡ n)
        → length (chain_of (size_to n (t n) w) q) ≡ t q
    go q lq lw fits (yes e) = rw e (sized-own w n (t n) lw fits)
    go q lq lw fits (no ne) = ap length (sized-other w n (t n) q ne) ∙ h.done q (omega arith)

pub sized : (m : Model) (t : ℕ → ℕ) (n : ℕ) → n ≤ length m.chains → Enough m t n → Sized m t n (pagewise n (λ p. size_to p (t p)) m)
unfolding pagewise tabulate sum
sized m t zero l e =
    record { rows = refl; done = λ q lq. absurd (omega arith); rest = λ q _. refl; left = refl; once = λ c. refl; all = refl }
sized m t (suc n) l e = next m t n _ l (e n (omega arith)) (sized m t n (omega arith) (λ q lq. e q (omega arith)))

-- ---- when there are enough: pages that shrink, pages that grow
less : (a b : ℕ → ℕ) (j : ℕ) → ((q : ℕ) → a q ≤ b q) → sum (tabulate j a) ≤ sum (tabulate j b)
unfolding tabulate sum
less a b zero h = omega arith
less a b (suc j) h = omega (arith, sum-suc j a, sum-suc j b, h j, less a b j h)

pub enough-shrink : (m : Model) (t : ℕ → ℕ) (n : ℕ) → ((q : ℕ) → t q ≤ long m q) → Enough m t n
enough-shrink m t n h q lq = omega (arith, less t (long m) (suc q) h)

more : (a b : ℕ → ℕ) (j d : ℕ) → ((q : ℕ) → q < j + d → a q ≤ b q)
    → sum (tabulate j b) + sum (tabulate (j + d) a) ≤ sum (tabulate (j + d) b) + sum (tabulate j a)
more a b j zero h = let e : j + 0 ≡ j = omega arith in rw e (omega arith)
more a b j (suc d) h =
    let e : j + suc d ≡ suc (j + d) = omega arith in
    rw e (omega (arith, sum-suc (j + d) a, sum-suc (j + d) b, h (j + d) (omega arith), more a b j d (λ q l. h q (omega arith))))

pub enough-grow : (m : Model) (t : ℕ → ℕ) (n : ℕ) → ((q : ℕ) → q < n → long m q ≤ t q)
    → sum (tabulate n t) ≤ length m.spare + sum (tabulate n (long m)) → Enough m t n
enough-grow m t n h l q lq =
    let e : suc q + (n - suc q) ≡ n = omega arith in
    let w = rw e at (more (long m) t (suc q) (n - suc q) (λ j lj. h j (omega arith))) in
    omega (arith, w)
