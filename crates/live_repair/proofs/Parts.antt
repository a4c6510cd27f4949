-- What the writes of a repair leave as it was, and what they put. Assumes nothing.
use mathlib.Core.Path.{◌≡◌, refl, sym, ap, ap₂, ◌∙◌}
use mathlib.Core.Bool.{Bool, true, false}
use mathlib.Core.List.{List, [], ◌∷◌, ◌++◌}
use Prim.Native.Nat.{ℕ, zero, suc, ◌+◌, ◌-◌, ◌*◌, ◌≤◌, ◌<◌}
use native.Mathlib.Omega.{arith}
use native.Mathlib.Decide.{ℕ_discrete, dec_le}
use lib.ListN.{length, get_or, replicate, length-replicate}
use lib.Seq.{sets, length-sets}
use lib.Dec.{eqb}
use borrow.Author.Tests.{eq-eqb, eqb-true}
use Rattle.lists.specs.Lists.{first, occurrences, part}
use Rattle.lists.proofs.Occurrences.{one-other, one_same}
use Rattle.bits.specs.Numbers.{little}
use Rattle.store.specs.Layout.{cell_at, entry_at, entry_size}
use Rattle.store.specs.Reading.{code_in}
use Rattle.store.specs.Code.Links.{put}
use Rattle.store.proofs.Writes.{Apart, Linked, cells-apart, put-length, put-off, put_same, sets-off, sets_same}
use Rattle.repair.specs.Repair.{sieve}
use Rattle.repair.proofs.Sieves.{sieve-no, sieve-yes}
use Rattle.live_repair.specs.Code.Writing.{blank, dropped, freed, unmarked}
use Rattle.live_repair.proofs.WriteSteps.{freed-no, freed-yes}

-- ---- zeros put into bytes
zeros-off : (s : List ℕ) (a w b n : ℕ) → Apart a w b n → part (sets s a (replicate w 0)) b n ≡ part s b n
zeros-off s a w b n h = sets-off (replicate w 0) s a b n (rw (length-replicate {A = ℕ} w 0) h)

zeros-on : (s : List ℕ) (a w : ℕ) → a + w ≤ length s → part (sets s a (replicate w 0)) a w ≡ replicate w 0
zeros-on s a w h = rw (length-replicate {A = ℕ} w 0) at (sets_same (replicate w 0) s a (rw (length-replicate {A = ℕ} w 0) h))

-- ---- the entries of lost pages
pub dropped-length : (ps s : List ℕ) → length (dropped s ps) ≡ length s
unfolding dropped
dropped-length [] s = refl
dropped-length (p ∷ ps) s = dropped-length ps (sets s (entry_at p) (replicate entry_size 0)) ∙ length-sets s (entry_at p) (replicate entry_size 0)

pub dropped-off : (ps s : List ℕ) (b n : ℕ) → ((p : ℕ) → 1 ≤ occurrences p ps → Apart (entry_at p) entry_size b n) → part (dropped s ps) b n ≡ part s b n
unfolding dropped occurrences
dropped-off [] s b n h = refl
dropped-off (p ∷ ps) s b n h =
    dropped-off ps (sets s (entry_at p) (replicate entry_size 0)) b n (λ q r. h q (omega arith))
    ∙ zeros-off s (entry_at p) entry_size b n (h p (omega (arith, one_same p)))

entries-apart : (p q : ℕ) → (q ≡ p → ⊥) → Apart (entry_at p) entry_size (entry_at q) entry_size
entries-apart p q ne h = go (dec_le q p) (ℕ_discrete q p)
  where
    go : Dec (q ≤ p) → Dec (q ≡ p) → entry_at q + entry_size ≤ entry_at p
    go d (yes e) = absurd (ne e)
    go (yes l) (no e) = omega arith
    go (no l) (no e) = absurd (omega arith)

pub dropped-on : (ps s : List ℕ) (p : ℕ) → entry_at p + entry_size ≤ length s → 1 ≤ occurrences p ps
    → part (dropped s ps) (entry_at p) entry_size ≡ replicate entry_size 0
unfolding dropped occurrences
dropped-on [] s p l q = absurd (omega arith)
dropped-on (x ∷ ps) s p l q =
    go (dec_le 1 (occurrences p ps)) (ℕ_discrete p x)
    (λ r. dropped-on ps (sets s (entry_at x) (replicate entry_size 0)) p (omega (arith, length-sets s (entry_at x) (replicate entry_size 0))) r)
  where
    go : Dec (1 ≤ occurrences p ps) → Dec (p ≡ x)
        → (1 ≤ occurrences p ps → part (dropped (sets s (entry_at x) (replicate entry_size 0)) ps) (entry_at p) entry_size ≡ replicate entry_size 0)
        → part (dropped (sets s (entry_at x) (replicate entry_size 0)) ps) (entry_at p) entry_size ≡ replicate entry_size 0
    go (yes r) e h = h r
    go (no r) (yes e) h =
        dropped-off ps (sets s (entry_at x) (replicate entry_size 0)) (entry_at p) entry_size
        (λ y z. entries-apart y p (λ w. r (omega (arith, ap (λ (i : ℕ). occurrences i ps) w))))
        ∙ ap (λ (i : ℕ). part (sets s (entry_at x) (replicate entry_size 0)) (entry_at i) entry_size) e
        ∙ zeros-on s (entry_at x) entry_size (omega arith)
    go (no r) (no e) h = absurd (omega (arith, one-other p x e))

-- ---- the cells that are freed
module _ (s : List ℕ) (base : ℕ) (m : List ℕ) where
  blank-length : (t : List ℕ) (c x : ℕ) → length (blank t base c x) ≡ length t
  unfolding blank
  blank-length t c x = length-sets (put t (cell_at base c) 2 x) (cell_at base c + 2) (replicate 30 0) ∙ put-length t (cell_at base c) 2 x

  blank-off : (t : List ℕ) (c x b n : ℕ) → Apart (cell_at base c) 32 b n → part (blank t base c x) b n ≡ part t b n
  unfolding blank
  blank-off t c x b n h =
      zeros-off (put t (cell_at base c) 2 x) (cell_at base c + 2) 30 b n (λ l. omega (arith, h (omega arith)))
      ∙ put-off t (cell_at base c) 2 x b n (λ l. h (omega arith))

  blank-link : (t : List ℕ) (c x : ℕ) → cell_at base c + 32 ≤ length t → part (blank t base c x) (cell_at base c) 2 ≡ little 2 x
  unfolding blank
  blank-link t c x l =
      zeros-off (put t (cell_at base c) 2 x) (cell_at base c + 2) 30 (cell_at base c) 2 (λ r. omega arith)
      ∙ put_same t (cell_at base c) 2 x (omega arith)

  blank-code : (t : List ℕ) (c x : ℕ) → cell_at base c + 32 ≤ length t → part (blank t base c x) (cell_at base c + 2) 30 ≡ replicate 30 0
  unfolding blank
  blank-code t c x l = zeros-on (put t (cell_at base c) 2 x) (cell_at base c + 2) 30 (omega (arith, put-length t (cell_at base c) 2 x))

  pub freed-length : (n a : ℕ) → length (freed s base m a n) ≡ length s
  unfolding freed
  freed-length zero a = refl
  freed-length (suc n) a = go (eqb (get_or m a 0) 0) refl (freed-length n (suc a))
    where
      go : (b : Bool) → eqb (get_or m a 0) 0 ≡ b → length (freed s base m (suc a) n) ≡ length s → length (freed s base m a (suc n)) ≡ length s
      go true e h = ap length (freed-yes s base m a n e) ∙ blank-length (freed s base m (suc a) n) a (first (unmarked m (suc a) n)) ∙ h
      go false e h = ap length (freed-no s base m a n e) ∙ h

  pub freed-off : (n a b k : ℕ) → ((c : ℕ) → a ≤ c → c < a + n → get_or m c 0 ≡ 0 → Apart (cell_at base c) 32 b k)
      → part (freed s base m a n) b k ≡ part s b k
  unfolding freed
  freed-off zero a b k h = refl
  freed-off (suc n) a b k h = go (eqb (get_or m a 0) 0) refl (freed-off n (suc a) b k (λ c l u z. h c (omega arith) (omega arith) z))
    where
      go : (t : Bool) → eqb (get_or m a 0) 0 ≡ t → part (freed s base m (suc a) n) b k ≡ part s b k → part (freed s base m a (suc n)) b k ≡ part s b k
      go true e i =
          ap (λ (z : List ℕ). part z b k) (freed-yes s base m a n e)
          ∙ blank-off (freed s base m (suc a) n) a (first (unmarked m (suc a) n)) b k (h a (omega arith) (omega arith) (eqb-true _ 0 e)) ∙ i
      go false e i = ap (λ (z : List ℕ). part z b k) (freed-no s base m a n e) ∙ i

  -- a cell without a mark: the next one behind it is its next cell, and its code is clear
  pub record Freed (t : List ℕ) (c i : ℕ) : Type 0 where
    pub link : part t (cell_at base c) 2 ≡ little 2 (first (unmarked m (suc c) i))
    pub code : part t (cell_at base c + 2) 30 ≡ replicate 30 0

  pub freed-on : (n a c i : ℕ) → 1 ≤ a → base + 32 * (a + n - 1) ≤ length s → c + suc i ≡ a + n → a ≤ c → get_or m c 0 ≡ 0 → Freed (freed s base m a n) c i
  unfolding freed
  freed-on zero a c i p l e q z = absurd (omega arith)
  freed-on (suc n) a c i p l e q z =
      go (eqb (get_or m a 0) 0) refl (ℕ_discrete c a) (λ r. freed-on n (suc a) c i (omega arith) (omega arith) (omega arith) r z)
    where
      far : cell_at base a + 32 ≤ length (freed s base m (suc a) n)
      far = omega (arith, freed-length n (suc a))

      go : (b : Bool) → eqb (get_or m a 0) 0 ≡ b → Dec (c ≡ a) → (suc a ≤ c → Freed (freed s base m (suc a) n) c i) → Freed (freed s base m a (suc n)) c i
      go true b (yes r) h =
          let j : n ≡ i = omega arith in
          rw (freed-yes s base m a n b) (record {
            link =
                ap (λ (d : ℕ). part (blank (freed s base m (suc a) n) base a (first (unmarked m (suc a) n))) (cell_at base d) 2) r
                ∙ blank-link (freed s base m (suc a) n) a (first (unmarked m (suc a) n)) far
                ∙ ap₂ (λ (d k : ℕ). little 2 (first (unmarked m (suc d) k))) (sym r) j;
            code =
                ap (λ (d : ℕ). part (blank (freed s base m (suc a) n) base a (first (unmarked m (suc a) n))) (cell_at base d + 2) 30) r
                ∙ blank-code (freed s base m (suc a) n) a (first (unmarked m (suc a) n)) far;
          })
      go true b (no r) h =
          let w = h (omega arith) in
          rw (freed-yes s base m a n b) (record {
            link =
                blank-off (freed s base m (suc a) n) a (first (unmarked m (suc a) n)) (cell_at base c) 2
                (cells-apart base a c 32 2 p (omega arith) r (omega arith) (omega arith)) ∙ w.link;
            code =
                blank-off (freed s base m (suc a) n) a (first (unmarked m (suc a) n)) (cell_at base c + 2) 30
                (λ x. omega (arith, cells-apart base a c 32 32 p (omega arith) r (omega arith) (omega arith) (omega arith))) ∙ w.code;
          })
      go false b (yes r) h = absurd (let x = eq-eqb (get_or m a 0) 0 (ap (λ (d : ℕ). get_or m d 0) (sym r) ∙ z) in let y : ◌≡◌ {A = ℕ} 0 1 = cc in omega arith)
      go false b (no r) h = rw (freed-no s base m a n b) (h (omega arith))

-- bytes in which each cell without a mark has the next one as its next cell: they are a chain
pub chain-up : (t : List ℕ) (base : ℕ) (m : List ℕ) (n a at : ℕ)
    → ((c i : ℕ) → c + suc i ≡ a + n → a ≤ c → get_or m c 0 ≡ 0 → part t (cell_at base c) 2 ≡ little 2 (first (unmarked m (suc c) i)))
    → part t at 2 ≡ little 2 (first (unmarked m a n)) → Linked t base at (unmarked m a n) 0
unfolding sieve first
chain-up t base m zero a at h e = e
chain-up t base m (suc n) a at h e =
    go (eqb (get_or m a 0) 0) refl (λ at' q. chain-up t base m n (suc a) at' (λ c i x y z. h c i (omega arith) (omega arith) z) q)
  where
    go : (b : Bool) → eqb (get_or m a 0) 0 ≡ b
        → ((at' : ℕ) → part t at' 2 ≡ little 2 (first (unmarked m (suc a) n)) → Linked t base at' (unmarked m (suc a) n) 0)
        → Linked t base at (unmarked m a (suc n)) 0
    go true b k =
        let w = sieve-yes (λ d. eqb (get_or m d 0) 0) a n b in
        rw w (e ∙ ap (λ (z : List ℕ). little 2 (first z)) w, k (cell_at base a) (h a n (omega arith) (omega arith) (eqb-true (get_or m a 0) 0 b)))
    go false b k =
        let w = sieve-no (λ d. eqb (get_or m d 0) 0) a n b in
        rw w (k at (e ∙ ap (λ (z : List ℕ). little 2 (first z)) w))

-- ---- chains and code that were not written to
pub linked-same : (s t : List ℕ) (base a : ℕ) (cs : List ℕ) (x : ℕ) → part t a 2 ≡ part s a 2
    → ((d : ℕ) → 1 ≤ occurrences d cs → part t (cell_at base d) 2 ≡ part s (cell_at base d) 2) → Linked s base a cs x → Linked t base a cs x
unfolding occurrences
linked-same s t base a [] x e h k = e ∙ k
linked-same s t base a (c ∷ cs) x e h k =
    (e ∙ k.0, linked-same s t base (cell_at base c) cs x (h c (omega (arith, one_same c))) (λ d q. h d (omega arith)) k.1)

pub code_same : (s t : List ℕ) (base : ℕ) (cs : List ℕ) → ((d : ℕ) → 1 ≤ occurrences d cs → part t (cell_at base d + 2) 30 ≡ part s (cell_at base d + 2) 30)
    → code_in t base cs ≡ code_in s base cs
unfolding code_in occurrences
code_same s t base [] h = refl
code_same s t base (c ∷ cs) h = ap₂ ◌++◌ (h c (omega (arith, one_same c))) (code_same s t base cs (λ d q. h d (omega arith)))
