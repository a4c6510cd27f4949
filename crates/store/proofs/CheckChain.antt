-- The check's walk along a chain, with marks: it goes through exactly for a chain whose cells are cells, unmarked and met once. Assumes nothing.
use Rattle.std.specs.Prelude.{None, Some}
use mathlib.Core.Path.{◌≡◌, refl, sym, ap, ap₂, ◌∙◌}
use mathlib.Core.Bool.{Bool, true, false, ◌&&◌}
use mathlib.Core.List.{List, [], ◌∷◌, ◌++◌}
use Prim.Native.Nat.{ℕ, zero, suc, ◌+◌, ◌*◌, ◌≤◌, ◌<◌}
use native.Mathlib.Omega.{arith}
use native.Mathlib.Decide.{ℕ_discrete, dec_le}
use lib.ListN.{length, get_or, set, length-set}
use lib.Seq.{get_or-set_same, get_or-set_other}
use lib.Dec.{leb, eqb}
use borrow.Author.Tests.{le-leb, leb-true, eq-eqb, eqb-true}
use Rattle.lists.specs.Lists.{occurrences, one}
use Rattle.bits.specs.Numbers.{little, number, number_at}
use Rattle.bits.proofs.Little.{stored}
use Rattle.store.specs.Limits.{max_cells}
use Rattle.store.specs.Layout.{cell_at}
use Rattle.store.specs.Reading.{chain_from}
use Rattle.lists.proofs.Occurrences.{occurrences-append, one-equal, one-other, one_same}
use Rattle.lists.proofs.Tests.{left, right, both}
use Rattle.store.specs.Code.Checked.{Walk, and_then, go_on, walk_marks}
use Rattle.store.proofs.Joining.{chain_head, chain-new, chain-tail}
use Rattle.store.proofs.Numbers.{number-two}
use Rattle.store.proofs.Writes.{Chain, Linked}

pub goes_then : (w : Walk) (f : List ℕ → Walk) (m : List ℕ) → and_then w f ≡ Some m → (m₁ : List ℕ) × (w ≡ Some m₁) × (f m₁ ≡ Some m)
unfolding and_then
goes_then (Some m₁) f m e = (m₁, refl, e)
goes_then None f m e = absurd (let z : ◌≡◌ {A = ℕ} 0 1 = cc in omega arith)

unfoldable pub mark_all : List ℕ → List ℕ → List ℕ
mark_all m [] = m
mark_all m (c ∷ cs) = mark_all (set m c 1) cs

abbrev pub Unmarked : List ℕ → List ℕ → Type 0
Unmarked m cs = (d : ℕ) → 1 ≤ occurrences d cs → get_or m d 0 ≡ 0

pub goes_on : (b : Bool) (w : Walk) (m : List ℕ) → go_on b w ≡ Some m → (b ≡ true) × (w ≡ Some m)
unfolding go_on
goes_on true w m e = (refl, e)
goes_on false w m e = absurd (let z : ◌≡◌ {A = ℕ} 0 1 = cc in omega arith)

pub whole_is : (m m' : List ℕ) → Some m ≡ Some m' → m ≡ m'
whole_is m m' e = cc

pub record Walked (s : List ℕ) (base C : ℕ) (cs m m' : List ℕ) (k a : ℕ) : Type 0 where
  pub long : length cs ≡ k
  pub chain : Chain C cs
  pub linked : Linked s base a cs 0
  pub unmarked : Unmarked m cs
  pub marked : m' ≡ mark_all m cs

-- ---- a good chain is walked to its end
module _ (s : List ℕ) (base C : ℕ) (lC : C ≤ max_cells) where
  pub walk_through : (cs m : List ℕ) (a : ℕ) → Chain C cs → Linked s base a cs 0 → Unmarked m cs → walk_marks s base C (length cs) m a ≡ Some (mark_all m cs)
  unfolding walk_marks mark_all go_on occurrences
  walk_through [] m a j h u = rw (eq-eqb (number_at s a 2) 0 (ap number h ∙ number-two 0 (omega arith)))
  walk_through (c ∷ cs) m a j h u =
      let w = chain_head C c cs j in
      let e : number_at s a 2 ≡ c = ap number h.0 ∙ number-two c (omega (arith, w.1)) in
      ap₂ go_on
      (both (le-leb 1 (number_at s a 2) (omega (arith, e, w.0)))
      (both (le-leb (number_at s a 2) C (omega (arith, e, w.1))) (eq-eqb (get_or m (number_at s a 2) 0) 0 (ap (λ (z : ℕ). get_or m z 0) e
      ∙ u c (omega (arith, one_same c))))))
      (ap (λ (z : ℕ). walk_marks s base C (length cs) (set m z 1) (cell_at base z)) e
      ∙ walk_through cs (set m c 1) (cell_at base c) (chain-tail j) h.1 (λ d q. get_or-set_other m c d 1 0 (chain-new C c cs j d q) ∙ u d (omega arith)))

  -- ---- and what is walked to its end is a good chain

  module _ (bytes : (i : ℕ) → get_or s i 0 < 256) (size : base + 32 * C ≤ length s) where
    -- one cell more in front
    more : (c : ℕ) (m cs : List ℕ) → 1 ≤ c → c ≤ C → c < length m → Chain C cs → Unmarked (set m c 1) cs → Chain C (c ∷ cs)
    unfolding occurrences
    more c m cs p q l j u = record {
      once = λ d. go d (ℕ_discrete d c) (dec_le 1 (occurrences d cs));
      from = λ d r. from d (ℕ_discrete d c) r;
      upto = λ d r. upto d (ℕ_discrete d c) r;
    }
      where
        go : (d : ℕ) → Dec (d ≡ c) → Dec (1 ≤ occurrences d cs) → one (eqb d c) + occurrences d cs ≤ 1
        go d (yes e) (yes r) = absurd (omega (arith, u d r, ap (λ (z : ℕ). get_or (set m c 1) z 0) e, get_or-set_same m c 1 0 l))
        go d (yes e) (no r) = omega (arith, one-equal d c e)
        go d (no e) r = omega (arith, one-other d c e, j.once d)

        from : (d : ℕ) → Dec (d ≡ c) → 1 ≤ one (eqb d c) + occurrences d cs → 1 ≤ d
        from d (yes e) r = omega (arith, e)
        from d (no e) r = j.from d (omega (arith, one-other d c e))

        upto : (d : ℕ) → Dec (d ≡ c) → 1 ≤ one (eqb d c) + occurrences d cs → d ≤ C
        upto d (yes e) r = omega (arith, e)
        upto d (no e) r = j.upto d (omega (arith, one-other d c e))

    still : (c : ℕ) (m cs : List ℕ) → get_or m c 0 ≡ 0 → Unmarked (set m c 1) cs → (d : ℕ) → 1 ≤ occurrences d (c ∷ cs) → Dec (d ≡ c) → get_or m d 0 ≡ 0
    unfolding occurrences
    still c m cs z u d q (yes e) = ap (λ (y : ℕ). get_or m y 0) e ∙ z
    still c m cs z u d q (no e) = sym (get_or-set_other m c d 1 0 e) ∙ u d (omega (arith, one-other d c e))

    pub walked : (k : ℕ) (m m' : List ℕ) (a : ℕ) → C < length m → a + 2 ≤ length s → walk_marks s base C k m a ≡ Some m'
        → Walked s base C (chain_from s base k (number_at s a 2)) m m' k a
    unfolding walk_marks chain_from mark_all occurrences
    walked zero m m' a lm l h =
        let w = goes_on (eqb (number_at s a 2) 0) (Some m) m' h in
        record {
          long = refl;
          chain = record { once = λ d. omega arith; from = λ d q. absurd (omega arith); upto = λ d q. absurd (omega arith) };
          linked = stored s bytes a 2 l ∙ ap (little 2) (eqb-true (number_at s a 2) 0 w.0);
          unmarked = λ d q. absurd (omega arith);
          marked = sym (whole_is m m' w.1);
        }
    walked (suc k) m m' a lm l h =
        let c : ℕ = number_at s a 2 in
        let w = goes_on (leb 1 c && (leb c C && eqb (get_or m c 0) 0)) (walk_marks s base C k (set m c 1) (cell_at base c)) m' h in
        let t₁ : 1 ≤ c = leb-true 1 c (left (leb 1 c) (leb c C && eqb (get_or m c 0) 0) w.0) in
        let r = right (leb 1 c) (leb c C && eqb (get_or m c 0) 0) w.0 in
        let t₂ : c ≤ C = leb-true c C (left (leb c C) (eqb (get_or m c 0) 0) r) in
        let t₃ : get_or m c 0 ≡ 0 = eqb-true (get_or m c 0) 0 (right (leb c C) (eqb (get_or m c 0) 0) r) in
        let v = walked k (set m c 1) m' (cell_at base c) (omega (arith, length-set m c 1)) (omega arith) w.1 in
        record {
          long = ap suc v.long;
          chain = more c m (chain_from s base k (number_at s (cell_at base c) 2)) t₁ t₂ (omega arith) v.chain v.unmarked;
          linked = (stored s bytes a 2 l, v.linked);
          unmarked = λ d q. still c m (chain_from s base k (number_at s (cell_at base c) 2)) t₃ v.unmarked d q (ℕ_discrete d c);
          marked = v.marked;
        }

-- ---- the marks count what was walked
abbrev pub Marked : ℕ → List ℕ → List ℕ → Type 0
Marked C m L = (d : ℕ) → d ≤ C → get_or m d 0 ≡ occurrences d L

pub mark-length : (cs m : List ℕ) → length (mark_all m cs) ≡ length m
unfolding mark_all
mark-length [] m = refl
mark-length (c ∷ cs) m = mark-length cs (set m c 1) ∙ length-set m c 1

mark-other : (cs m : List ℕ) (d : ℕ) → occurrences d cs ≡ 0 → get_or (mark_all m cs) d 0 ≡ get_or m d 0
unfolding mark_all occurrences
mark-other [] m d z = refl
mark-other (c ∷ cs) m d z = go (ℕ_discrete d c) (mark-other cs (set m c 1) d (omega arith))
  where
    go : Dec (d ≡ c) → get_or (mark_all (set m c 1) cs) d 0 ≡ get_or (set m c 1) d 0 → get_or (mark_all (set m c 1) cs) d 0 ≡ get_or m d 0
    go (yes e) r = absurd (omega (arith, one-equal d c e))
    go (no e) r = r ∙ get_or-set_other m c d 1 0 e

mark-one : (C : ℕ) (cs m : List ℕ) (d : ℕ) → C < length m → Chain C cs → 1 ≤ occurrences d cs → get_or (mark_all m cs) d 0 ≡ 1
unfolding mark_all occurrences
mark-one C [] m d l j q = absurd (omega arith)
mark-one C (c ∷ cs) m d l j q = go (ℕ_discrete d c) (λ r. mark-one C cs (set m c 1) d (omega (arith, length-set m c 1)) (chain-tail j) r)
  where
    go : Dec (d ≡ c) → (1 ≤ occurrences d cs → get_or (mark_all (set m c 1) cs) d 0 ≡ 1) → get_or (mark_all (set m c 1) cs) d 0 ≡ 1
    go (yes e) r =
        mark-other cs (set m c 1) d (omega (arith, j.once d, one-equal d c e)) ∙ ap (λ (z : ℕ). get_or (set m c 1) z 0) e
        ∙ get_or-set_same m c 1 0 (omega (arith, (chain_head C c cs j).1))
    go (no e) r = r (omega (arith, one-other d c e))

pub marks : (C : ℕ) (cs m L : List ℕ) → C < length m → Chain C cs → Unmarked m cs → Marked C m L → Marked C (mark_all m cs) (L ++ cs)
marks C cs m L l j u k d r = go (ℕ_discrete (occurrences d cs) 0)
  where
    go : Dec (occurrences d cs ≡ 0) → get_or (mark_all m cs) d 0 ≡ occurrences d (L ++ cs)
    go (yes z) = mark-other cs m d z ∙ k d r ∙ omega (arith, occurrences-append d L cs)
    go (no z) = mark-one C cs m d l j (omega arith) ∙ omega (arith, occurrences-append d L cs, j.once d, u d (omega arith), k d r)
