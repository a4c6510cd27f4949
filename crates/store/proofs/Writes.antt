-- Writes into bytes, and what they leave as it was. Assumes nothing.
use mathlib.Core.Path.{◌≡◌, refl, sym, ap, ◌∙◌}
use mathlib.Core.List.{List, [], ◌∷◌, ◌++◌, append_assoc}
use Prim.Native.Nat.{ℕ, suc, ◌+◌, ◌-◌, ◌≤◌, ◌<◌}
use native.Mathlib.Omega.{arith}
use native.Mathlib.Decide.{dec_le, ℕ_discrete}
use lib.ListN.{length, take, drop, set, length-take}
use lib.Seq.{take-set-le, drop-set-lt, drop-set-add, drop-drop, sets, sets-eq, length-sets, take_at, drop_at}
use borrow.Rule.Slice.PartMut.{put_mid}
use Rattle.lists.specs.Lists.{occurrences, part, splice}
use Rattle.bits.specs.Numbers.{little}
use Rattle.store.specs.Layout.{cell_at}
use Rattle.store.specs.Code.Links.{put}
use Rattle.lists.proofs.Parts.{sets-splice}
use Rattle.bits.proofs.Little.{length-little}

pub put-length : (s : List ℕ) (a w v : ℕ) → length (put s a w v) ≡ length s
unfolding put
put-length s a w v = length-sets s a (little w v)

-- k bytes from a on, written over as a slice
pub mid-sets : (s v : List ℕ) (a k : ℕ) {w : List ℕ} → w ≡ v → k ≡ length v → a + k ≤ length s → put_mid a k s w ≡ sets s a v
mid-sets s v a k e n h =
    rw (e, n, drop-drop (length v) a s) (sym (sets-eq v s a (omega arith) ∙ append_assoc (take a s) v (drop (a + length v) s)))

-- the n bytes from b on lie apart from the m bytes from a on
abbrev pub Apart : ℕ → ℕ → ℕ → ℕ → Type 0
Apart a m b n = b < a + m → b + n ≤ a

set-low : (s : List ℕ) (i x b n : ℕ) → i < b → part (set s i x) b n ≡ part s b n
set-low s i x b n h = ap (take n) (drop-set-lt b s i x h)

set-high : (s : List ℕ) (i x b n : ℕ) → b + n ≤ i → part (set s i x) b n ≡ part s b n
set-high s i x b n h =
    let e : i ≡ b + (i - b) = omega arith in
    ap (λ (z : ℕ). part (set s z x) b n) e ∙ ap (take n) (drop-set-add b s (i - b) x) ∙ take-set-le n (drop b s) (i - b) x (omega arith)

sets-low : (v s : List ℕ) (a b n : ℕ) → a + length v ≤ b → part (sets s a v) b n ≡ part s b n
sets-low [] s a b n h = refl
sets-low (x ∷ v) s a b n h = sets-low v (set s a x) (suc a) b n (omega arith) ∙ set-low s a x b n (omega arith)

sets-high : (v s : List ℕ) (a b n : ℕ) → b + n ≤ a → part (sets s a v) b n ≡ part s b n
sets-high [] s a b n h = refl
sets-high (x ∷ v) s a b n h = sets-high v (set s a x) (suc a) b n (omega arith) ∙ set-high s a x b n h

pub sets-off : (v s : List ℕ) (a b n : ℕ) → Apart a (length v) b n → part (sets s a v) b n ≡ part s b n
sets-off v s a b n h = go (dec_le (a + length v) b)
  where
    go : Dec (a + length v ≤ b) → part (sets s a v) b n ≡ part s b n
    go (yes l) = sets-low v s a b n l
    go (no l) = sets-high v s a b n (h (omega arith))

pub sets_same : (v s : List ℕ) (a : ℕ) → a + length v ≤ length s → part (sets s a v) a (length v) ≡ v
sets_same v s a h =
    ap (λ (z : List ℕ). part z a (length v)) (sets-eq v s a h ∙ append_assoc (take a s) v (drop (a + length v) s))
    ∙ ap (take (length v)) (drop_at (take a s) (v ++ drop (a + length v) s) a (omega (arith, length-take a s)))
    ∙ take_at v (drop (a + length v) s) (length v) refl

-- a number put into bytes that are there replaces them
pub put-splice : (s : List ℕ) (a w v : ℕ) → a + w ≤ length s → splice s a (little w v) ≡ put s a w v
unfolding put
put-splice s a w v h = sym (sets-splice (little w v) s a (rw length-little h))

pub put-off : (s : List ℕ) (a w x b n : ℕ) → Apart a w b n → part (put s a w x) b n ≡ part s b n
unfolding put
put-off s a w x b n h = sets-off (little w x) s a b n (rw length-little h)

pub put_same : (s : List ℕ) (a w x : ℕ) → a + w ≤ length s → part (put s a w x) a w ≡ little w x
unfolding put
put_same s a w x h = rw length-little at (sets_same (little w x) s a (rw length-little h))

-- ---- chains of links: from the link at a through cs, the last of which holds x
abbrev pub Linked : List ℕ → ℕ → ℕ → List ℕ → ℕ → Type 0
Linked s base a [] x = part s a 2 ≡ little 2 x
Linked s base a (c ∷ cs) x = (part s a 2 ≡ little 2 c) × Linked s base (cell_at base c) cs x

-- the last link
unfoldable pub end_of : ℕ → ℕ → List ℕ → ℕ
end_of base a [] = a
end_of base a (c ∷ cs) = end_of base (cell_at base c) cs

-- the cells of a chain, none of them twice
pub record Chain (C : ℕ) (cs : List ℕ) : Type 0 where
  pub once : (d : ℕ) → occurrences d cs ≤ 1
  pub from : (d : ℕ) → 1 ≤ occurrences d cs → 1 ≤ d
  pub upto : (d : ℕ) → 1 ≤ occurrences d cs → d ≤ C

pub cells-apart : (base c d m n : ℕ) → 1 ≤ c → 1 ≤ d → (d ≡ c → ⊥) → m ≤ 32 → n ≤ 32 → Apart (cell_at base c) m (cell_at base d) n
cells-apart base c d m n p q ne i j h = go (dec_le d c)
  where
    go : Dec (d ≤ c) → cell_at base d + n ≤ cell_at base c
    go (yes l) = go₂ (ℕ_discrete d c) l
      where
        go₂ : Dec (d ≡ c) → d ≤ c → cell_at base d + n ≤ cell_at base c
        go₂ (yes e) l = absurd (ne e)
        go₂ (no e) l = omega arith
    go (no l) = absurd (omega arith)
