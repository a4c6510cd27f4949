-- Where a node lies in bytes, so do its field, its two subtrees and its left-over bits. Assumes nothing.
use mathlib.Core.Path.{◌≡◌, sym, ap, subst, ◌∙◌}
use mathlib.Core.List.{List}
use Prim.Native.Nat.{ℕ, suc, ◌+◌, ◌-◌, ◌/◌, ◌%◌, ◌^◌, ◌≤◌}
use native.Mathlib.Nat.{pow-succ', add-zero}
use native.Mathlib.Numerals.{add-one}
use native.Mathlib.Omega.{arith}
use Rattle.std.specs.Prelude.{Option}
use Rattle.lists.specs.Lists.{part}
use Rattle.bits.specs.Bits.{bits, value}
use Rattle.bits_field.specs.Code.Front.{Front}
use Rattle.bits.proofs.Laws.{length-bits}
use Rattle.reserve.specs.Reserve.{digits, reserve}
use Rattle.reserve.proofs.Exact.{digits_le}
use Rattle.reserve.proofs.Fit.{fit_all}
use Rattle.tree.specs.Read.{left_of, left_at, right_at}
use Rattle.tree.specs.Code.Exact.{spare_at}
use Rattle.tree.specs.Code.Node.{Lies, Parted, PartsOf, Rooted}
use Rattle.tree.specs.declared.node.Split.{Split}

-- a node of height h + 1 and left sum l
pub record Halves (b : List ℕ) (a h s l : ℕ) : Type 0 where
  pub few : digits s ≤ 40
  pub left : Lies b (left_at s a) h l
  pub right : Lies b (right_at h s l a) h (s - l)
  pub spare : spare_at h s l a ≤ a + reserve (h + 1) s

pub halves : {b : List ℕ} {a h s : ℕ} (l : ℕ) → Lies b a (h + 1) s → l ≤ s → Halves b a h s l
halves {b} {a} {h} {s} l y k =
    let f : digits s + reserve h l + reserve h (s - l) ≤ reserve (h + 1) s = rw add-one (fit_all h s l (s - l) (omega arith)) in
    record { few = digits_le s 40 y.total; left = omega arith; right = omega arith; spare = omega arith }

-- the left sum, read by a width that was computed
pub left-sum : (b : List ℕ) (a s t l : ℕ) → t ≡ digits s → l ≡ value (part b a t) → l ≡ left_of s b a
unfolding left_of
left-sum b a s t l e i = i ∙ ap (λ (k : ℕ). value (part b a k)) e

-- the left sum, out of a word at whose high end the node's bits stand, by a width that was computed
pub front-sum : (b : List ℕ) (a h s w t l : ℕ) → Lies b a (h + 1) s → Front (bits b) a w → t ≡ digits s → l ≡ w / 2 ^ (64 - (0 + t)) % 2 ^ t
    → l ≡ left_of s (bits b) a
unfolding left_of
front-sum b a h s w t l y f et el =
    let n : Halves b a h s 0 = halves 0 y (omega arith) in
    el ∙ ap (λ (k : ℕ). w / 2 ^ (64 - (0 + k)) % 2 ^ k) et
    ∙ sym (f 0 (digits s) (omega (arith, n.few)) (omega (arith, n.left.inside, length-bits b)))
    ∙ ap (λ (k : ℕ). value (part (bits b) k (digits s))) (add-zero a)

-- a node with the left sum that stands there
pub rooted : (b : List ℕ) (a h s : ℕ) (r : Option Split) {l : ℕ} → l ≡ left_of s b a → Parted l a h s r → Rooted b a h s r
rooted b a h s r e p = subst (λ (z : ℕ). Parted z a h s r) e p

-- its left subtree ends within the node's reserve
pub left-fits : (a h s l : ℕ) → l ≤ s → a + digits s + reserve h l ≤ a + reserve (h + 1) s
left-fits a h s l k = rw add-one (omega (arith, fit_all h s l (s - l) (omega arith)))

-- ---- heights as the recursions have them: h for the node, h - 1 below it
same-height : (h : ℕ) → (h ≡ 0 → ⊥) → h - 1 + 1 ≡ h
same-height h p = omega (arith, p)

pub halved : (h : ℕ) → (h ≡ 0 → ⊥) → 2 ^ (h - 1) + 2 ^ (h - 1) ≡ 2 ^ h
halved h p = omega (arith, pow-succ' 2 (h - 1), ap (λ (k : ℕ). 2 ^ k) {x = suc (h - 1)} {y = h} (omega (arith, p)))

pub top : {b : List ℕ} {a h s : ℕ} → (h ≡ 0 → ⊥) → Lies b a h s → Lies b a (h - 1 + 1) s
top {b} {a} {h} {s} p y = rw (same-height h p) y

-- a node above the counts whose root was read as r
pub record Inner (b : List ℕ) (a h s : ℕ) (r : Split) : Type 0 where
  pub high : h ≡ 0 → ⊥
  pub root : PartsOf (left_of s b a) a (h - 1) s r

pub inner : {b : List ℕ} {a h s : ℕ} {r : Split} → (h ≡ 0 → ⊥) → PartsOf (left_of s b a) a (h - 1) s r → Inner b a h s r
inner p n = record { high = p; root = n }

module _ {b : List ℕ} {a h s : ℕ} {r : Split} (y : Lies b a h s) (i : Inner (bits b) a h s r) where
  below : Halves b a (h - 1) s r.left
  below = halves r.left (top i.high y) i.root.left_le

  pub left-lies : Lies b r.first (h - 1) r.left
  left-lies = rw i.root.first-is below.left

  pub right-lies : Lies b r.second (h - 1) (s - r.left)
  right-lies = rw i.root.second_is below.right

  -- the left-over bits start no later than the tree ends
  pub spare-le : r.second + reserve (h - 1) (s - r.left) ≤ a + reserve h s
  spare-le = omega (arith, below.spare, i.root.second_is, ap (λ (k : ℕ). reserve k s) (same-height h i.high))
