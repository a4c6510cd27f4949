-- The lowest two levels on a walk's way: which of two pairs it goes to, out of the word in which their bits stand. Assumes nothing.
use mathlib.Core.Path.{◌≡◌, refl, sym, ap, ap₂, ◌∙◌, subst}
use mathlib.Core.Bool.{Bool, true, false}
use mathlib.Core.List.{List}
use Prim.Native.Nat.{ℕ, zero, suc, ◌+◌, ◌-◌, ◌*◌, ◌/◌, ◌%◌, ◌^◌, ◌≤◌, ◌<◌}
use native.Mathlib.Nat.{add-zero}
use native.Mathlib.Omega.{arith}
use Rattle.std.specs.Prelude.{None, Some}
use lib.Dec.{leb, eqb, eqb-suc-zero}
use borrow.Author.Tests.{leb-true, leb-false, lt-leb}
use Rattle.lists.specs.Lists.{pick}
use Rattle.reserve.specs.Reserve.{digits, reserve}
use Rattle.tree.specs.Read.{left_of, left_at, right_at, later, walk}
use Rattle.tree.specs.Code.Node.{Lies}
use Rattle.reserve.proofs.Fit.{fit_all}
use Rattle.tree.specs.Code.InWord.{InWord, eight_limit}
use Rattle.tree_walk.specs.Code.Pairs.{Entered}
use Rattle.tree_walk.specs.Code.Answers.{walk_answer}
use Rattle.tree.specs.declared.node.Split.{Split}
use Rattle.tree_walk.specs.declared.pairs.Pair.{Pair}
use Rattle.tree.proofs.Rooting.{Inner}
use Rattle.tree.proofs.OneWord.{eight_fits, three-fields, left-pair, right-pair}
use Rattle.tree.proofs.WalkLaws.{walk-left, walk-right}
use Rattle.tree_walk.proofs.WalkSteps.{kept, walk-damaged, walk-low, walk-high}

pub pick-le : (c : Bool) {x y s : ℕ} → x ≤ s → y ≤ s → pick c x y ≤ s
unfolding pick
pick-le true k l = k
pick-le false k l = l

-- of j counts two are passed over, if there are two
pub skipped : (j : ℕ) → pick (leb 2 j) 2 0 ≤ j
unfolding pick
skipped j = go (leb 2 j) refl
  where
    go : (c : Bool) → leb 2 j ≡ c → pick c 2 0 ≤ j
    go true e = leb-true 2 j e
    go false e = omega arith

-- ---- a pair's sum and what is passed on the way to it, the right pair's where c is true
module _ {s l sum passed : ℕ} (le : l ≤ s) where
  in_sum : (c : Bool) → sum ≡ pick c (s - l) l → passed ≡ pick c l 0 → passed + sum ≤ s
  unfolding pick
  in_sum true es ep = omega (arith, es, ep)
  in_sum false es ep = omega (arith, es, ep)

  -- both are fields of the four counts
  pub narrow : (c : Bool) → sum ≡ pick c (s - l) l → passed ≡ pick c l 0 → digits s + digits passed + digits sum ≤ reserve 2 s
  unfolding pick digits
  narrow true es ep = rw (es, ep) (three-fields s l le)
  narrow false es ep = rw (es, ep) (omega (arith, three-fields s l le))

-- what the walk adds up within four counts fits
pub pair_fit : {w k s l : ℕ} {c : Bool} {p : Pair} (keep : ℕ) → keep ≤ 1 → l ≤ s → p.count ≤ p.sum → Entered w k s l c p
    → (keep * p.passed ≤ p.passed) × (keep * p.count ≤ p.count) × (p.count ≤ p.sum) × (p.passed + p.sum ≤ s)
pair_fit {c = c} {p = p} keep one le i e = (kept keep p.passed one, kept keep p.count one, i, in_sum le c e.sum_is e.passed_is)

-- within eight counts out of one word: the fields of both fours and the left sum
pub eight-room : {s l : ℕ} → s < eight_limit → l ≤ s → digits s + reserve 2 l + reserve 2 (s - l) ≤ 57
eight-room {s} {l} few le = omega (arith, le, fit_all 2 s l (s - l) (omega (arith, le)), eight_fits s few)

-- the pair's left count, by widths that were computed
pub count_of : (w k s passed sum x t f g : ℕ) → t ≡ digits s → f ≡ digits passed → g ≡ digits sum → x ≡ w / 2 ^ (64 - (k + t + f + g)) % 2 ^ g
    → x ≡ w / 2 ^ (64 - (k + digits s + digits passed + digits sum)) % 2 ^ digits sum
count_of w k s passed sum x t f g et ef eg ex = ex ∙ rw (et, ef, eg)

-- ---- a pair: its left count x, and the other one
module _ (sum x : ℕ) (b : List ℕ) (a : ℕ) (e : left_of sum b a ≡ x) where
  walk_pair : (acc k j : ℕ) → x ≤ sum → Some (acc + pick (eqb j 0) x (sum - x + k * x)) ≡ walk_answer acc k (walk 1 sum b a j)
  unfolding walk_answer walk later pick
  walk_pair acc k zero l = rw (walk-left 0 sum x b a 0 e l (omega arith)) (ap Some {x = acc + x} {y = acc + k * 0 + x} (omega arith))
  walk_pair acc k (suc j) l = rw (walk-right 0 sum x b a (suc j) e l (omega arith), eqb-suc-zero, add-zero) (ap Some {x = acc + (sum - x + k * x)} {y = acc + k * x + (sum - x)} (omega arith))

-- ---- a height, as it was tested
pub of-height : {b : List ℕ} {a h g s : ℕ} → h ≡ g → Lies b a h s → Lies b a g s
of-height {b} {a} {h} {g} {s} e y = subst (λ (k : ℕ). Lies b a k s) e y

pub walk-height : {h g : ℕ} (acc k s : ℕ) (b : List ℕ) (a j : ℕ) → h ≡ g → walk_answer acc k (walk g s b a j) ≡ walk_answer acc k (walk h s b a j)
walk-height acc k s b a j e = ap (λ (z : ℕ). walk_answer acc k (walk z s b a j)) (sym e)

-- ---- a left sum l above its node's sum s
module _ (h s l : ℕ) (b : List ℕ) (a : ℕ) (el : left_of s b a ≡ l) (i : s < l) where
  pub above : leb (left_of s b a) s ≡ false
  above = ap (λ (z : ℕ). leb z s) el ∙ lt-leb l s i

  pub walk-above : (acc keep j : ℕ) → None ≡ walk_answer acc keep (walk (suc h) s b a j)
  unfolding walk_answer
  walk-above acc keep j = rw (walk-damaged h s b a j above)

-- ---- a node with left sum l, as one that was read
module _ (h s l : ℕ) (b : List ℕ) (a : ℕ) (el : left_of s b a ≡ l) (le : l ≤ s) where
  abbrev pub split : Split
  split = record { left = l; first = left_at s a; second = right_at h s l a }

  pub inner : Inner b a (suc h) s split
  inner =
      record {
        high = λ e. omega (arith, e);
        root =
            record {
              left_is = sym el;
              left_le = le;
              first-is = refl;
              second_is = ap (λ (i : ℕ). right_at i s l a) {x = h} {y = suc h - 1} (omega arith);
            };
      }

-- ---- four counts with sum s and left sum l at bit a, whose bits stand in w behind its k high ones
module _ {b : List ℕ} {a s w k : ℕ} (o : InWord b a 2 s w k) (l : ℕ) (el : left_of s b a ≡ l) (le : l ≤ s) where
  -- where the pair starts
  abbrev pub start : Bool → ℕ
  start c = pick c (right_at 1 s l a) (left_at s a)

  -- its left count, as it is read there
  count_at : (c : Bool) (passed sum x : ℕ) → passed ≡ pick c l 0 → sum ≡ pick c (s - l) l
      → x ≡ w / 2 ^ (64 - (k + digits s + digits passed + digits sum)) % 2 ^ digits sum → left_of sum b (start c) ≡ x
  unfolding pick digits
  count_at true passed sum x ep es ex = ap (λ (z : ℕ). left_of z b (right_at 1 s l a)) es ∙ right-pair o l le ∙ sym (ex ∙ rw (ep, es))
  count_at false passed sum x ep es ex =
      let e : k + digits s + digits 0 + digits l ≡ k + digits s + digits l = omega arith in
      ap (λ (z : ℕ). left_of z b (left_at s a)) es ∙ left-pair o l le ∙ sym (ex ∙ rw (ep, es) (ap (λ (i : ℕ). w / 2 ^ (64 - i) % 2 ^ digits l) e))

  pub count-is : (c : Bool) {p : Pair} → Entered w k s l c p → left_of p.sum b (start c) ≡ p.count
  count-is c {p} e = count_at c p.passed p.sum p.count e.passed_is e.sum_is e.count-is

  module _ (acc keep j : ℕ) where
    chosen : (c : Bool) → leb 2 j ≡ c → (passed sum : ℕ) → passed ≡ pick c l 0 → sum ≡ pick c (s - l) l
        → walk_answer (acc + keep * passed) keep (walk 1 sum b (start c) (j - pick c 2 0)) ≡ walk_answer acc keep (walk 2 s b a j)
    unfolding pick
    chosen true e passed sum ep es = rw (ep, es) (walk-high (inner 1 s l b a el le) j acc keep {m = 2} refl (leb-true 2 j e))
    chosen false e passed sum ep es =
        rw (ep, es)
        (ap₂ (λ (x y : ℕ). walk_answer x keep (walk 1 l b (left_at s a) y)) {x = acc + keep * 0} {y = acc} (omega arith) (omega arith)
        ∙ walk-low (inner 1 s l b a el le) j acc keep {m = 2} refl (leb-false 2 j e))

    module _ {p : Pair} (e : Entered w k s l (leb 2 j) p) where
      pub walk-two-bad : (p.count ≤ p.sum → ⊥) → None ≡ walk_answer acc keep (walk 2 s b a j)
      walk-two-bad i =
          walk-above 0 p.sum p.count b (start (leb 2 j)) (count-is (leb 2 j) e) (omega (arith, i)) (acc + keep * p.passed) keep (j - pick (leb 2 j) 2 0)
          ∙ chosen (leb 2 j) refl p.passed p.sum e.passed_is e.sum_is

      -- d counts are passed over, and z is the answer within the pair
      pub walk-two : p.count ≤ p.sum → (d z : ℕ) → d ≡ pick (leb 2 j) 2 0 → z ≡ pick (eqb (j - d) 0) p.count (p.sum - p.count + keep * p.count)
          → Some (acc + keep * p.passed + z) ≡ walk_answer acc keep (walk 2 s b a j)
      walk-two i d z ed ez =
          ap (λ (x : ℕ). Some (acc + keep * p.passed + x)) (ez ∙ ap (λ (x : ℕ). pick (eqb (j - x) 0) p.count (p.sum - p.count + keep * p.count)) ed)
          ∙ walk_pair p.sum p.count b (start (leb 2 j)) (count-is (leb 2 j) e) (acc + keep * p.passed) keep (j - pick (leb 2 j) 2 0) i
          ∙ chosen (leb 2 j) refl p.passed p.sum e.passed_is e.sum_is
