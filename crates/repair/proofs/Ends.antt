-- A chain of so many cells that ends: no cell is on it twice, and its links lead along it. Assumes nothing.
use mathlib.Core.Path.{◌≡◌, refl, ap, ◌∙◌}
use mathlib.Core.Bool.{true}
use mathlib.Core.List.{List, [], ◌∷◌, ◌++◌}
use Prim.Native.Nat.{ℕ, zero, suc, ◌+◌, ◌*◌, ◌≤◌, ◌<◌}
use native.Mathlib.Omega.{arith}
use native.Mathlib.Decide.{ℕ_discrete, dec_le}
use lib.ListN.{length, get_or}
use lib.Dec.{eqb}
use borrow.Author.Tests.{eq-eqb, eqb-true}
use Rattle.lists.specs.Lists.{occurrences, one}
use Rattle.lists.proofs.Occurrences.{occurrences-append, one-equal, one-other, one_same}
use Rattle.lists.proofs.Tests.{both, left, right}
use Rattle.bits.specs.Numbers.{little, number_at}
use Rattle.bits.proofs.Little.{stored}
use Rattle.store.specs.Layout.{cell_at}
use Rattle.store.specs.Reading.{Runs, chain_from}
use Rattle.store.specs.Sound.{within}
use Rattle.store.proofs.SoundLaws.{all-within}
use Rattle.store.proofs.Writes.{Chain, Linked}
use Rattle.repair.specs.Repair.{behind, unused}

-- ---- none of a chain's cells in use
pub unused-cells : (used xs : List ℕ) → unused used xs ≡ true → (c : ℕ) → 1 ≤ occurrences c xs → occurrences c used ≡ 0
unfolding unused occurrences
unused-cells used [] h c q = absurd (omega arith)
unused-cells used (x ∷ xs) h c q = go (ℕ_discrete c x) (λ n. unused-cells used xs (right (eqb (occurrences x used) 0) (unused used xs) h) c n)
  where
    go : Dec (c ≡ x) → (1 ≤ occurrences c xs → occurrences c used ≡ 0) → occurrences c used ≡ 0
    go (yes e) r = ap (λ (z : ℕ). occurrences z used) e ∙ eqb-true (occurrences x used) 0 (left (eqb (occurrences x used) 0) (unused used xs) h)
    go (no e) r = r (omega (arith, one-other c x e))

pub cells-unused : (used xs : List ℕ) → ((c : ℕ) → 1 ≤ occurrences c xs → occurrences c used ≡ 0) → unused used xs ≡ true
unfolding unused occurrences
cells-unused used [] h = refl
cells-unused used (x ∷ xs) h = both (eq-eqb _ _ (h x (omega (arith, one_same x)))) (cells-unused used xs (λ c q. h c (omega arith)))

module _ (s : List ℕ) (base : ℕ) where
  abbrev next : ℕ → ℕ
  next c = number_at s (cell_at base c) 2

  abbrev All1 : List ℕ → Type 0
  All1 cs = (d : ℕ) → 1 ≤ occurrences d cs → 1 ≤ d

  -- the number behind fewer cells than the chain has is on it
  on_chain : (k c : ℕ) → All1 (chain_from s base k c) → (j : ℕ) → j < k → 1 ≤ behind s base j c
  unfolding chain_from behind occurrences
  on_chain zero c h j l = absurd (omega arith)
  on_chain (suc k) c h zero l = h c (omega (arith, one_same c))
  on_chain (suc k) c h (suc j) l = on_chain k (next c) (λ d q. h d (omega arith)) j (omega arith)

  -- from each cell of a chain that ends it is some cells to the end, no more than the chain has
  to_end : (k c : ℕ) → behind s base k c ≡ 0 → (d : ℕ) → 1 ≤ occurrences d (chain_from s base k c) → (j : ℕ) × (j ≤ k) × (behind s base j d ≡ 0)
  unfolding chain_from behind occurrences
  to_end zero c e d q = absurd (omega arith)
  to_end (suc k) c e d q = go (ℕ_discrete d c) (λ r. to_end k (next c) e d r)
    where
      go : Dec (d ≡ c) → (1 ≤ occurrences d (chain_from s base k (next c)) → (j : ℕ) × (j ≤ k) × (behind s base j d ≡ 0))
          → (j : ℕ) × (j ≤ suc k) × (behind s base j d ≡ 0)
      go (yes r) h = (suc k, omega arith, ap (behind s base (suc k)) r ∙ e)
      go (no r) h = let w = h (omega (arith, one-other d c r)) in (w.0, omega (arith, w.1), w.2)

  -- so no cell is on it twice: a chain with a cycle has no end
  pub ends-once : (k c : ℕ) → All1 (chain_from s base k c) → behind s base k c ≡ 0 → (d : ℕ) → occurrences d (chain_from s base k c) ≤ 1
  unfolding chain_from behind occurrences
  ends-once zero c h e d = omega arith
  ends-once (suc k) c h e d =
      go (ℕ_discrete d c) (dec_le 1 (occurrences d (chain_from s base k (next c)))) (ends-once k (next c) (λ d q. h d (omega arith)) e d)
    where
      go : Dec (d ≡ c) → Dec (1 ≤ occurrences d (chain_from s base k (next c))) → occurrences d (chain_from s base k (next c)) ≤ 1
          → one (eqb d c) + occurrences d (chain_from s base k (next c)) ≤ 1
      go (yes r) (yes q) i =
          let w = to_end k (next c) e d q in
          let p = on_chain (suc k) c h w.0 (omega (arith, w.1)) in
          absurd (omega (arith, p, w.2, ap (behind s base w.0) r))
      go (yes r) (no q) i = omega (arith, one-equal d c r)
      go (no r) q i = omega (arith, one-other d c r)

  -- its links lead along it
  module _ (bytes : (i : ℕ) → get_or s i 0 < 256) (C : ℕ) (size : base + 32 * C ≤ length s) where
    pub ends-linked : (k a : ℕ) → a + 2 ≤ length s → ((d : ℕ) → 1 ≤ occurrences d (chain_from s base k (number_at s a 2)) → (1 ≤ d) × (d ≤ C))
        → behind s base k (number_at s a 2) ≡ 0 → Linked s base a (chain_from s base k (number_at s a 2)) 0
    unfolding chain_from behind occurrences
    ends-linked zero a l h e = stored s bytes a 2 l ∙ ap (little 2) e
    ends-linked (suc k) a l h e =
        let c : ℕ = number_at s a 2 in
        let w = h c (omega (arith, one_same c)) in
        (stored s bytes a 2 l, ends-linked k (cell_at base c) (omega (arith, w.0, w.1)) (λ d q. h d (omega arith)) e)

  -- a chain that ends runs to its end, and the other way
  pub ends-runs : (k c : ℕ) → All1 (chain_from s base k c) → behind s base k c ≡ 0 → Runs s base c (chain_from s base k c)
  unfolding chain_from behind occurrences
  ends-runs zero c h e = e
  ends-runs (suc k) c h e = (refl, h c (omega (arith, one_same c)), ends-runs k (next c) (λ d q. h d (omega arith)) e)

  pub runs-ends : (k c : ℕ) → Runs s base c (chain_from s base k c) → behind s base k c ≡ 0
  unfolding chain_from behind
  runs-ends zero c h = h
  runs-ends (suc k) c h = runs-ends k (next c) h.2

pub ends-chain : (s : List ℕ) (base C k c : ℕ) → within C (chain_from s base k c) ≡ true → behind s base k c ≡ 0 → Chain C (chain_from s base k c)
ends-chain s base C k c w e =
    let r = all-within C (chain_from s base k c) w in
    record { once = ends-once s base k c (λ d q. (r d q).0) e; from = λ d q. (r d q).0; upto = λ d q. (r d q).1 }

-- ---- chains joined
pub chain-join : {C : ℕ} (xs ys : List ℕ) → Chain C xs → Chain C ys → ((d : ℕ) → 1 ≤ occurrences d ys → occurrences d xs ≡ 0) → Chain C (xs ++ ys)
chain-join {C} xs ys g h a = record {
  once = λ d. once d (dec_le 1 (occurrences d ys));
  from = λ d q. from d q (dec_le 1 (occurrences d ys));
  upto = λ d q. upto d q (dec_le 1 (occurrences d ys));
}
  where
    once : (d : ℕ) → Dec (1 ≤ occurrences d ys) → occurrences d (xs ++ ys) ≤ 1
    once d (yes q) = omega (arith, occurrences-append d xs ys, a d q, h.once d)
    once d (no q) = omega (arith, occurrences-append d xs ys, g.once d)

    from : (d : ℕ) → 1 ≤ occurrences d (xs ++ ys) → Dec (1 ≤ occurrences d ys) → 1 ≤ d
    from d q (yes r) = h.from d r
    from d q (no r) = g.from d (omega (arith, occurrences-append d xs ys))

    upto : (d : ℕ) → 1 ≤ occurrences d (xs ++ ys) → Dec (1 ≤ occurrences d ys) → d ≤ C
    upto d q (yes r) = h.upto d r
    upto d q (no r) = g.upto d (omega (arith, occurrences-append d xs ys))
