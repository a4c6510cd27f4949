-- One step of the check of a tree, as the code takes it. Assumes nothing.
use mathlib.Core.Path.{◌≡◌, sym, ap, ap₂, ◌∙◌}
use mathlib.Core.Bool.{Bool, true, false, ◌&&◌, and-false, and-true}
use mathlib.Core.List.{List}
use Prim.Native.Nat.{ℕ, suc, ◌+◌, ◌-◌, ◌≤◌, ◌<◌}
use native.Mathlib.Decide.{dec_le}
use native.Mathlib.Omega.{arith}
use borrow.Author.Tests.{le-leb, lt-leb}
use Rattle.bits.specs.Bits.{bits}
use Rattle.lists.specs.Lists.{every}
use Rattle.reserve.specs.Reserve.{digits, reserve}
use Rattle.reserve.proofs.Exact.{digits_le}
use Rattle.tree.specs.Read.{left_of, left_at, right_at}
use Rattle.tree.specs.Code.Exact.{clear, spare_at, spare_len, exact}
use Rattle.tree.specs.Code.Node.{Lies}
use Rattle.tree.specs.declared.node.Split.{Split}
use Rattle.tree.proofs.Exacts.{exact-zero}
use Rattle.tree.proofs.TwoCounts.{reserve-pair}
use Rattle.tree.proofs.Rooting.{Inner, spare-le}

exact-suc : (h s l : ℕ) (b : List ℕ) (a : ℕ) → left_of s b a ≡ l → l ≤ s
    → exact (suc h) s b a ≡ (exact h l b (left_at s a) && (exact h (s - l) b (right_at h s l a) && clear b (spare_at h s l a) (spare_len h s l)))
unfolding exact every
exact-suc h s l b a e i = rw (e, le-leb l s i, and-true (clear b (spare_at h s l a) (spare_len h s l)))

up : (h : ℕ) → (h ≡ 0 → ⊥) → suc (h - 1) ≡ h
up h p = omega (arith, p)

pub not-zero : {h : ℕ} → 2 ≤ h → h ≡ 0 → ⊥
not-zero l e = omega (arith, l, e)

-- a node that does not come out of one load has four counts or more
pub above-pair : {b : List ℕ} {a h s r : ℕ} → Lies b a h s × (r ≡ reserve h s) × (1 ≤ h) → (h ≤ 2 → 57 < r) → 2 ≤ h
above-pair {b} {a} {h} {s} {r} p f = go (dec_le 2 h)
  where
    go : Dec (2 ≤ h) → 2 ≤ h
    go (yes k) = k
    go (no k) =
        let e : h ≡ 1 = omega arith in
        let g : 57 < r = f (omega arith) in
        absurd (omega (arith, p.1 ∙ ap (λ (z : ℕ). reserve z s) e, reserve-pair s, digits_le s 40 p.0.total))

-- a node with its left sum l, at bit a, and where its subtrees start
abbrev pub node : ℕ → ℕ → ℕ → ℕ → Split
node a t l v = record { left = l; first = a + t; second = a + t + v }

module _ (h s : ℕ) (b : List ℕ) (a : ℕ) where
  pub exact-leaf : h ≡ 0 → true ≡ exact h s b a
  unfolding exact
  exact-leaf e = rw e

  -- a tree of sum 0 has no bits
  pub exact_none : s ≡ 0 → true ≡ exact h s b a
  exact_none e = sym (ap (λ (z : ℕ). exact h z b a) e ∙ exact-zero h b a)

  -- a left sum above the node's
  pub exact-bad : (h ≡ 0 → ⊥) → {l : ℕ} → l ≡ left_of s b a → s < l → false ≡ exact h s b a
  unfolding exact every
  exact-bad p e k = sym (rw (lt-leb (left_of s b a) s (omega (arith, e)))) ∙ ap (λ (k : ℕ). exact k s b a) (up h p)

  -- a node whose left sum l is not: its sum has t digits, and its left subtree owns v bits
  pub split_at : 2 ≤ h → (t l v : ℕ) → t ≡ digits s → l ≡ left_of s b a → l ≤ s → v ≡ reserve (h - 1) l → Inner b a h s (node a t l v)
  split_at high t l v et el le ev = record {
    high = not-zero high;
    root = record { left_is = el; left_le = le; first-is = omega (arith, et); second_is = omega (arith, et, ev) };
  }

-- a node that the check splits, as the code works it out: its sum has t digits, its subtrees own v and u of its r bits
pub record Opened (b : List ℕ) (a h s r t l v u : ℕ) : Type 0 where
  pub tall : 2 ≤ h
  pub inner : Inner (bits b) a h s (node a t l v)
  pub room : a + t + v + u ≤ a + r

pub opened : {b : List ℕ} {a h s r t l v u : ℕ} → Lies b a h s × (r ≡ reserve h s) × (1 ≤ h) → (h ≤ 2 → 57 < r) → t ≡ digits s
    → l ≡ left_of s (bits b) a → l ≤ s → v ≡ reserve (h - 1) l → u ≡ reserve (h - 1) (s - l) → Opened b a h s r t l v u
opened {b} {a} {h} {s} {t = t} {l = l} {v = v} p f et el le ev eu =
    let high : 2 ≤ h = above-pair p f in
    let n : Inner (bits b) a h s (node a t l v) = split_at h s (bits b) a high t l v et el le ev in
    record { tall = high; inner = n; room = omega (arith, p.1, eu, spare-le p.0 n) }

module _ {h s : ℕ} {b : List ℕ} {a : ℕ} {r : Split} (i : Inner b a h s r) where
  -- the three tests below the node
  abbrev on-left : Bool
  on-left = exact (h - 1) r.left b r.first

  abbrev on-right : Bool
  on-right = exact (h - 1) (s - r.left) b r.second

  abbrev on-spare : Bool
  on-spare = clear b (r.second + reserve (h - 1) (s - r.left)) (spare_len (h - 1) s r.left)

  tests : exact h s b a ≡ (on-left && (on-right && on-spare))
  tests =
      ap (λ (k : ℕ). exact k s b a) (sym (up h i.high))
      ∙ exact-suc (h - 1) s r.left b a (sym i.root.left_is) i.root.left_le
      ∙ sym (rw (i.root.first-is, i.root.second_is))

  pub exact-left-not : exact (h - 1) r.left b r.first ≡ false → false ≡ exact h s b a
  exact-left-not f = sym (tests ∙ ap (λ (x : Bool). x && (on-right && on-spare)) f)

  -- the left-over bits: they start at the right subtree's start and its reserve u, and go on to a and the node's reserve v
  module _ {u v : ℕ} (eu : u ≡ reserve (h - 1) (s - r.left)) (ev : v ≡ reserve h s) where
    spare-is : clear b (r.second + u) (a + v - (r.second + u)) ≡ on-spare
    spare-is =
        let whole : reserve (suc (h - 1)) s ≡ reserve h s = ap (λ (k : ℕ). reserve k s) (up h i.high) in
        let rest : a + v - (r.second + u) ≡ spare_len (h - 1) s r.left = omega (arith, i.root.second_is) in
        ap₂ (clear b) (ap (λ (z : ℕ). r.second + z) eu) rest

    pub exact-spare-not : clear b (r.second + u) (a + v - (r.second + u)) ≡ false → false ≡ exact h s b a
    exact-spare-not f =
        sym (tests ∙ ap (λ (x : Bool). on-left && (on-right && x)) (sym spare-is ∙ f) ∙ ap (λ (x : Bool). on-left && x) (and-false on-right) ∙ and-false on-left)

    -- what the right subtree decides
    pub exact-last : clear b (r.second + u) (a + v - (r.second + u)) ≡ true → exact (h - 1) r.left b r.first ≡ true
        → exact (h - 1) (s - r.left) b r.second ≡ exact h s b a
    exact-last f g =
        sym (tests ∙ ap₂ (λ (x y : Bool). x && (on-right && y)) g (sym spare-is ∙ f) ∙ and-true on-right)
