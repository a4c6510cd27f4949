-- One step of the walk to a count, as the code takes it: a count, or none for damage. Assumes nothing.
use mathlib.Core.Path.{◌≡◌, refl, sym, ap}
use mathlib.Core.Bool.{Bool, true, false}
use mathlib.Core.List.{List}
use Prim.Native.Nat.{ℕ, zero, suc, ◌+◌, ◌-◌, ◌*◌, ◌^◌, ◌≤◌, ◌<◌}
use native.Mathlib.Nat.{mul-le-mul_right}
use native.Mathlib.Omega.{arith}
use Rattle.std.specs.Prelude.{None, Some}
use lib.Dec.{leb, ltb}
use borrow.Author.Tests.{lt-leb}
use Rattle.lists.specs.Lists.{pick}
use Rattle.bits.specs.Bits.{value_from}
use Rattle.reserve.specs.Reserve.{digits}
use Rattle.tree.specs.Read.{left_of, left_at, right_at, Found, damaged, found, later, walk}
use Rattle.tree.specs.Code.Node.{Rooted}
use Rattle.tree_walk.specs.Code.Answers.{damage_word, number_of, walk_answer}
use Rattle.tree.specs.declared.node.Split.{Split}
use Rattle.tree.proofs.WalkLaws.{Most, walk-left, walk-right}
use Rattle.tree.proofs.Rooting.{Inner}

-- the part of a left sum that is kept
pub kept : (k l : ℕ) → k ≤ 1 → k * l ≤ l
kept k l h = omega (arith, mul-le-mul_right l h)

-- what stands before can be counted in acc or in the walk
answer-later : (acc k l : ℕ) (f : Found) → walk_answer (acc + k * l) k f ≡ walk_answer acc k (later l f)
unfolding walk_answer later
answer-later acc k l damaged = refl
answer-later acc k l (found x c) = ap Some {x = acc + k * l + k * x + c} {y = acc + k * (l + x) + c} (omega arith)

pub walk-damaged : (h s : ℕ) (b : List ℕ) (a j : ℕ) → leb (left_of s b a) s ≡ false → walk (suc h) s b a j ≡ damaged
unfolding walk pick
walk-damaged h s b a j e = rw e

-- either way finds a 0
either : (t : Bool) (x y : Found) → x ≡ found 0 0 → y ≡ found 0 0 → pick t x (later 0 y) ≡ found 0 0
unfolding later pick
either true x y ex ey = ex
either false x y ex ey = ap (later 0) ey

-- in a tree of sum 0 every count is 0
walk-zero : (h : ℕ) (b : List ℕ) (a j : ℕ) → walk h 0 b a j ≡ found 0 0
unfolding walk left_of digits value_from pick
walk-zero zero b a j = refl
walk-zero (suc h) b a j = either (ltb j (2 ^ h)) _ _ (walk-zero h b (left_at 0 a) j) (walk-zero h b (right_at h 0 0 a) (j - 2 ^ h))

module _ (h s : ℕ) (b : List ℕ) (a j acc k : ℕ) where
  pub walk_none : s ≡ 0 → Some acc ≡ walk_answer acc k (walk h s b a j)
  unfolding walk_answer
  walk_none e = rw (e, walk-zero h b a j) (ap Some {x = acc} {y = acc + k * 0 + 0} (omega arith))

  pub walk-leaf : h ≡ 0 → Some (acc + s) ≡ walk_answer acc k (walk h s b a j)
  unfolding walk walk_answer
  walk-leaf e = rw e (ap Some {x = acc + s} {y = acc + k * 0 + s} (omega arith))

  up : (h ≡ 0 → ⊥) → walk_answer acc k (walk h s b a j) ≡ walk_answer acc k (walk (suc (h - 1)) s b a j)
  up p = ap (λ (i : ℕ). walk_answer acc k (walk i s b a j)) {x = h} {y = suc (h - 1)} (omega (arith, p))

  pub walk-bad : (h ≡ 0 → ⊥) → Rooted b a (h - 1) s None → None ≡ walk_answer acc k (walk h s b a j)
  unfolding walk_answer
  walk-bad p n = rw (up p, walk-damaged (h - 1) s b a j (lt-leb (left_of s b a) s n))

module _ {h s : ℕ} {b : List ℕ} {a : ℕ} {r : Split} (i : Inner b a h s r) where
  said : left_of s b a ≡ r.left
  said = sym i.root.left_is

  small : r.left ≤ s
  small = i.root.left_le

  module _ (j acc k : ℕ) {m : ℕ} (half : m ≡ 2 ^ (h - 1)) where
    pub walk-low : j < m → walk_answer acc k (walk (h - 1) r.left b r.first j) ≡ walk_answer acc k (walk h s b a j)
    walk-low o =
        rw (up h s b a j acc k i.high, walk-left (h - 1) s r.left b a j said small (omega arith), i.root.first-is)

    pub walk-high : m ≤ j
        → walk_answer (acc + k * r.left) k (walk (h - 1) (s - r.left) b r.second (j - m)) ≡ walk_answer acc k (walk h s b a j)
    walk-high o =
        rw (up h s b a j acc k i.high, walk-right (h - 1) s r.left b a j said small (omega arith), i.root.second_is, half)
        (answer-later acc k r.left _)

-- ---- the whole walk, which begins with nothing before it and answers in one number r; what it found is no more than s
module _ {s : ℕ} (few : s < damage_word) {k : ℕ} (one : k ≤ 1) where
  pub none-found : (acc : ℕ) {r : ℕ} (f : Found) → Most s f → r ≡ number_of (walk_answer 0 k f) → r ≡ damage_word → None ≡ walk_answer acc k f
  unfolding walk_answer
  none-found acc damaged m e d = refl
  none-found acc (found x c) m e d = absurd (omega (arith, e, d, kept k x one))

  pub found-le : {r : ℕ} (f : Found) → Most s f → r ≡ number_of (walk_answer 0 k f) → (r ≡ damage_word → ⊥) → r ≤ s
  unfolding walk_answer
  found-le damaged m e d = absurd (d e)
  found-le (found x c) m e d = omega (arith, e, kept k x one)

  pub some-found : (acc : ℕ) {r : ℕ} (f : Found) → Most s f → r ≡ number_of (walk_answer 0 k f) → (r ≡ damage_word → ⊥)
      → Some (acc + r) ≡ walk_answer acc k f
  unfolding walk_answer
  some-found acc damaged m e d = absurd (d e)
  some-found acc {r} (found x c) m e d = ap Some {x = acc + r} {y = acc + k * x + c} (omega (arith, e))
