-- The sums of a tree's parts, half by half. Assumes nothing.
use mathlib.Core.Path.{◌≡◌, refl, sym, ap, ap₂, ◌∙◌, subst}
use mathlib.Core.Bool.{true}
use mathlib.Core.List.{List}
use Prim.Native.Nat.{ℕ, zero, suc, ◌+◌, ◌-◌, ◌*◌, ◌^◌, ◌≤◌, ◌<◌}
use native.Mathlib.Decide.{dec_le}
use native.Mathlib.Nat.{mul-le-mul_right, pow-succ'}
use native.Mathlib.Omega.{arith}
use lib.ListN.{length, get_or, set}
use lib.Pow.{pow_pos}
use lib.Seq.{get_or-set_other, get_or-set_same}
use Rattle.std.specs.Prelude.{Option, Some, None, IsSome}
use Rattle.lists.specs.Lists.{part, sum, window}
use Rattle.bits.specs.Bits.{bits}
use Rattle.reserve.specs.Reserve.{reserve}
use Rattle.tree.specs.Tree.{tree}
use Rattle.tree.specs.Read.{left_at, left_of, right_at}
use Rattle.tree.specs.Code.Node.{Lies, PartsOf, Rooted}
use Rattle.tree.specs.declared.node.Split.{Split}
use Rattle.tree.proofs.Rooting.{Inner, left-lies, right-lies, top}
use Rattle.tree.proofs.Shape.{left-read, left-region, right-region}
use Rattle.tree.proofs.Windows.{half-left, half-right, half-sums}
use Rattle.freeze_plan.specs.Code.Parts.{Branch, Summed}

-- ---- the root of a tree of the counts of xs from f on
record Opened (b xs : List ℕ) (f h t : ℕ) (r : Split) : Type 0 where
  left_le : r.left ≤ t
  left-sum : r.left ≡ sum (window xs f (2 ^ h))
  left-tree : part b r.first (reserve h r.left) ≡ tree h (window xs f (2 ^ h))
  right-sum : t - r.left ≡ sum (window xs (f + 2 ^ h) (2 ^ h))
  right-tree : part b r.second (reserve h (t - r.left)) ≡ tree h (window xs (f + 2 ^ h) (2 ^ h))

module _ (h : ℕ) (b xs : List ℕ) (f at t : ℕ) (q : t ≡ sum (window xs f (2 ^ suc h))) (e : part b at (reserve (suc h) t) ≡ tree (suc h) (window xs f (2 ^ suc h))) where
  abbrev ys : List ℕ
  ys = window xs f (2 ^ suc h)

  stands : part b at (reserve (suc h) (sum ys)) ≡ tree (suc h) ys
  stands = ap (λ (z : ℕ). part b at (reserve (suc h) z)) (sym q) ∙ e

  root-left : left_of t b at ≡ sum (window xs f (2 ^ h))
  root-left = ap (λ (z : ℕ). left_of z b at) q ∙ left-read h ys b at stands ∙ ap sum (half-left xs f h)

  -- it has a left sum that is at most the tree's
  root-some : (o : Option Split) → Rooted b at h t o → IsSome o
  root-some (Some r) n = refl
  root-some None n = absurd (omega (arith, n, root-left, q, half-sums xs f h))

  -- the trees of its halves, as r says them
  opened : {r : Split} → PartsOf (left_of t b at) at h t r → Opened b xs f h t r
  opened {r} o =
      let rl : r.left ≡ sum (window xs f (2 ^ h)) = o.left_is ∙ root-left in
      let rr : t - r.left ≡ sum (window xs (f + 2 ^ h) (2 ^ h)) = omega (arith, rl, q, half-sums xs f h) in
      record {
        left_le = o.left_le;
        left-sum = rl;
        left-tree =
            ap₂ (λ (y z : ℕ). part b y (reserve h z)) (o.first-is ∙ ap (λ (z : ℕ). left_at z at) q) (rl ∙ ap sum (sym (half-left xs f h)))
            ∙ left-region h ys b at stands ∙ ap (tree h) (half-left xs f h);
        right-sum = rr;
        right-tree =
            ap₂ (λ (y z : ℕ). part b y (reserve h z))
            (o.second_is ∙ ap₂ (λ (y z : ℕ). right_at h y z at) q (rl ∙ ap sum (sym (half-left xs f h)))) (rr ∙ ap sum (sym (half-right xs f h)))
            ∙ right-region h ys b at stands ∙ ap (tree h) (half-right xs f h);
      }

-- ---- numbers of trees, and of their parts
-- the two halves of tree i, which has 2^k parts
record Halved (k i : ℕ) : Type 0 where
  low : 2 ^ k * i ≡ 2 ^ (k - 1) * (2 * i)
  mid : 2 ^ (k - 1) * (2 * i + 1) ≡ 2 ^ (k - 1) * (2 * i) + 2 ^ (k - 1)
  high : 2 ^ k * (i + 1) ≡ 2 ^ (k - 1) * (2 * i + 1 + 1)

doubled : (k : ℕ) → (k ≡ 0 → ⊥) → 2 ^ k ≡ 2 * 2 ^ (k - 1)
doubled k p = omega (arith, pow-succ' 2 (k - 1), ap (λ (z : ℕ). 2 ^ z) {x = suc (k - 1)} {y = k} (omega (arith, p)))

halved : (k i : ℕ) → (k ≡ 0 → ⊥) → Halved k i
halved k i p =
    let d = doubled k p in
    record {
      low = ap (λ (z : ℕ). z * i) d ∙ omega arith;
      mid = omega arith;
      high = ap (λ (z : ℕ). z * (i + 1)) d ∙ omega arith;
    }

-- ---- the branches below one
module _ {code out : List ℕ} {at h e t i : ℕ} (a : Branch code at h e t i out) (p : h ≡ e → ⊥) where
  abbrev f : ℕ
  f = a.from + 2 ^ h * i

  high : h ≡ 0 → ⊥
  high q = p (omega (arith, a.height))

  pub more : a.k ≡ 0 → ⊥
  more q = p (omega (arith, a.height))

  up : suc (h - 1) ≡ h
  up = omega (arith, high)

  own-sum : t ≡ sum (window a.xs f (2 ^ suc (h - 1)))
  own-sum = a.sum_is ∙ ap (λ (z : ℕ). sum (window a.xs f (2 ^ z))) (sym up)

  own-tree : part (bits code) at (reserve (suc (h - 1)) t) ≡ tree (suc (h - 1)) (window a.xs f (2 ^ suc (h - 1)))
  own-tree = subst (λ (z : ℕ). part (bits code) at (reserve z t) ≡ tree z (window a.xs f (2 ^ z))) (sym up) a.tree_is

  pub branch-some : (o : Option Split) → Rooted (bits code) at (h - 1) t o → IsSome o
  branch-some = root-some (h - 1) (bits code) a.xs f at t own-sum own-tree

  -- two trees below it for each before it
  pub low : 2 * i + 2 ≤ length out
  low =
      let x : 1 ≤ 2 ^ (a.k - 1) = pow_pos (a.k - 1) in
      omega (arith, a.room, (halved a.k i more).high, mul-le-mul_right (2 * i + 1 + 1) x)

-- ---- the branches below one whose root was read as r
module _ {code out : List ℕ} {at h e t i : ℕ} {r : Split} (a : Branch code at h e t i out) (p : h ≡ e → ⊥) (q : Option Split)
    (g : Rooted (bits code) at (h - 1) t q) (is : q ≡ Some r) where
  abbrev from₀ : ℕ
  from₀ = f a p

  o : PartsOf (left_of t (bits code) at) at (h - 1) t r
  o = subst (Rooted (bits code) at (h - 1) t) is g

  root : Opened (bits code) a.xs from₀ (h - 1) t r
  root = opened (h - 1) (bits code) a.xs from₀ at t (own-sum a p) (own-tree a p) o

  inner : Inner (bits code) at h t r
  inner = record { high = high a p; root = o }

  pub left_le : r.left ≤ t
  left_le = root.left_le

  pub down : h - 1 ≡ e + (a.k - 1)
  down = omega (arith, a.height, more a p)

  left-from : from₀ ≡ a.from + 2 ^ (h - 1) * (2 * i)
  left-from = omega (arith, (halved h i (high a p)).low)

  right-from : from₀ + 2 ^ (h - 1) ≡ a.from + 2 ^ (h - 1) * (2 * i + 1)
  right-from = omega (arith, (halved h i (high a p)).low, (halved h i (high a p)).mid)

  pub left-sum : r.left ≡ sum (window a.xs (a.from + 2 ^ (h - 1) * (2 * i)) (2 ^ (h - 1)))
  left-sum = root.left-sum ∙ ap (λ (z : ℕ). sum (window a.xs z (2 ^ (h - 1)))) left-from

  pub left-tree : part (bits code) r.first (reserve (h - 1) r.left) ≡ tree (h - 1) (window a.xs (a.from + 2 ^ (h - 1) * (2 * i)) (2 ^ (h - 1)))
  left-tree = root.left-tree ∙ ap (λ (z : ℕ). tree (h - 1) (window a.xs z (2 ^ (h - 1)))) left-from

  pub right-sum : t - r.left ≡ sum (window a.xs (a.from + 2 ^ (h - 1) * (2 * i + 1)) (2 ^ (h - 1)))
  right-sum = root.right-sum ∙ ap (λ (z : ℕ). sum (window a.xs z (2 ^ (h - 1)))) right-from

  pub right-tree :
      part (bits code) r.second (reserve (h - 1) (t - r.left)) ≡ tree (h - 1) (window a.xs (a.from + 2 ^ (h - 1) * (2 * i + 1)) (2 ^ (h - 1)))
  right-tree = root.right-tree ∙ ap (λ (z : ℕ). tree (h - 1) (window a.xs z (2 ^ (h - 1)))) right-from

  pub left_here : Lies code r.first (h - 1) r.left
  left_here = left-lies a.lies inner

  pub right-here : Lies code r.second (h - 1) (t - r.left)
  right-here = right-lies a.lies inner

  pub left-zeros : (j : ℕ) → 2 ^ (a.k - 1) * (2 * i) ≤ j → j < 2 ^ (a.k - 1) * (2 * i + 1) → get_or out j 0 ≡ 0
  left-zeros j x y =
      let n = halved a.k i (more a p) in
      a.zeros j (omega (arith, n.low)) (omega (arith, n.low, n.mid, n.high))

  pub left-room : 2 ^ (a.k - 1) * (2 * i + 1) ≤ length out
  left-room = omega (arith, a.room, (halved a.k i (more a p)).mid, (halved a.k i (more a p)).high)

  abbrev pub left-branch : Branch code r.first (h - 1) e r.left (2 * i) out
  left-branch = record {
    xs = a.xs;
    from = a.from;
    k = a.k - 1;
    height = down;
    lies = left_here;
    sum_is = left-sum;
    tree_is = left-tree;
    room = left-room;
    zeros = left-zeros;
  }

  -- the left one's sums are in m
  module _ {m : List ℕ} (n : length m ≡ length out) (l : Summed a.xs a.from e (a.k - 1) (2 * i) out m) where
    pub right-zeros : (j : ℕ) → 2 ^ (a.k - 1) * (2 * i + 1) ≤ j → j < 2 ^ (a.k - 1) * (2 * i + 1 + 1) → get_or m j 0 ≡ 0
    right-zeros j x y =
        let q = halved a.k i (more a p) in
        l.behind j x ∙ a.zeros j (omega (arith, q.low, q.mid)) (omega (arith, q.high))

    pub right-room : 2 ^ (a.k - 1) * (2 * i + 1 + 1) ≤ length m
    right-room = omega (arith, a.room, (halved a.k i (more a p)).high)

    abbrev pub right-branch : Branch code r.second (h - 1) e (t - r.left) (2 * i + 1) m
    right-branch = record {
      xs = a.xs;
      from = a.from;
      k = a.k - 1;
      height = down;
      lies = right-here;
      sum_is = right-sum;
      tree_is = right-tree;
      room = right-room;
      zeros = right-zeros;
    }

-- ---- what reading the root and writing a part's sum ask
pub above : {code out : List ℕ} {at h e t i : ℕ} → Branch code at h e t i out → (h ≡ e → ⊥) → (1 ≤ h) × Lies code at (h - 1 + 1) t
above a p =
    let q = a.height in
    (omega (arith, p), top (λ s. p (omega arith)) a.lies)

pub one-room : {code out : List ℕ} {at h e t i : ℕ} → Branch code at h e t i out → h ≡ e → i < length out
one-room {i = i} a q =
    let none : a.k ≡ 0 = omega (arith, a.height) in
    let s : 2 ^ a.k * (i + 1) ≡ i + 1 = ap (λ (z : ℕ). 2 ^ z * (i + 1)) none ∙ omega arith in
    omega (arith, a.room)

-- ---- the sums put
-- those of both halves
pub both-summed : {xs out m o : List ℕ} {from e k i : ℕ} → (k ≡ 0 → ⊥) → Summed xs from e (k - 1) (2 * i) out m
    → Summed xs from e (k - 1) (2 * i + 1) m o → Summed xs from e k i out o
both-summed {xs} {out} {m} {o} {from} {e} {k} {i} p l r = record { inside = inside; before = before; behind = behind }
  where
    q : Halved k i
    q = halved k i p

    inside : (j : ℕ) → 2 ^ k * i ≤ j → j < 2 ^ k * (i + 1) → get_or o j 0 ≡ sum (window xs (from + 2 ^ e * j) (2 ^ e))
    inside j x y = go (dec_le (suc j) (2 ^ (k - 1) * (2 * i + 1)))
      where
        go : Dec (suc j ≤ 2 ^ (k - 1) * (2 * i + 1)) → get_or o j 0 ≡ sum (window xs (from + 2 ^ e * j) (2 ^ e))
        go (yes z) = r.before j z ∙ l.inside j (omega (arith, q.low)) z
        go (no z) = r.inside j (omega (arith, z)) (omega (arith, q.high))

    before : (j : ℕ) → j < 2 ^ k * i → get_or o j 0 ≡ get_or out j 0
    before j x = r.before j (omega (arith, q.low, q.mid)) ∙ l.before j (omega (arith, q.low))

    behind : (j : ℕ) → 2 ^ k * (i + 1) ≤ j → get_or o j 0 ≡ get_or out j 0
    behind j x = r.behind j (omega (arith, q.high)) ∙ l.behind j (omega (arith, q.mid, q.high))

-- of a part
pub one-summed : {code out : List ℕ} {at h e t i : ℕ} → (a : Branch code at h e t i out) → h ≡ e → Summed a.xs a.from e a.k i out (set out i t)
one-summed {code} {out} {at} {h} {e} {t} {i} a q = record { inside = inside; before = before; behind = behind }
  where
    none : a.k ≡ 0
    none = omega (arith, a.height)

    alone : 2 ^ a.k ≡ 1
    alone = ap (λ (z : ℕ). 2 ^ z) none

    low : 2 ^ a.k * i ≡ i
    low = ap (λ (z : ℕ). z * i) alone ∙ omega arith

    high : 2 ^ a.k * (i + 1) ≡ i + 1
    high = ap (λ (z : ℕ). z * (i + 1)) alone ∙ omega arith

    inside : (j : ℕ) → 2 ^ a.k * i ≤ j → j < 2 ^ a.k * (i + 1) → get_or (set out i t) j 0 ≡ sum (window a.xs (a.from + 2 ^ e * j) (2 ^ e))
    inside j x y =
        let s : j ≡ i = omega (arith, low, high) in
        ap (λ (z : ℕ). get_or (set out i t) z 0) s ∙ get_or-set_same out i t 0 (omega (arith, a.room, high)) ∙ a.sum_is
        ∙ ap₂ (λ (y z : ℕ). sum (window a.xs (a.from + 2 ^ y * z) (2 ^ y))) q (sym s)

    before : (j : ℕ) → j < 2 ^ a.k * i → get_or (set out i t) j 0 ≡ get_or out j 0
    before j x = get_or-set_other out i j t 0 (λ s. omega (arith, low, x, s))

    behind : (j : ℕ) → 2 ^ a.k * (i + 1) ≤ j → get_or (set out i t) j 0 ≡ get_or out j 0
    behind j x = get_or-set_other out i j t 0 (λ s. omega (arith, high, x, s))

-- of a tree without coins: its halves have none either
halves-none : (xs : List ℕ) (from h i : ℕ) → (h ≡ 0 → ⊥) → sum (window xs (from + 2 ^ h * i) (2 ^ h)) ≡ 0
    → (sum (window xs (from + 2 ^ (h - 1) * (2 * i)) (2 ^ (h - 1))) ≡ 0) × (sum (window xs (from + 2 ^ (h - 1) * (2 * i + 1)) (2 ^ (h - 1))) ≡ 0)
halves-none xs from h i p z =
    let n = halved h i p in
    let f : ℕ = from + 2 ^ (h - 1) * (2 * i) in
    let up : suc (h - 1) ≡ h = omega (arith, p) in
    let s : f ≡ from + 2 ^ h * i = omega (arith, n.low) in
    let g : f + 2 ^ (h - 1) ≡ from + 2 ^ (h - 1) * (2 * i + 1) = omega (arith, n.mid) in
    let w : sum (window xs f (2 ^ (h - 1))) + sum (window xs (f + 2 ^ (h - 1)) (2 ^ (h - 1))) ≡ 0 =
    half-sums xs f (h - 1) ∙ ap₂ (λ (y z : ℕ). sum (window xs y (2 ^ z))) s up ∙ z in
    (omega arith, ap (λ (z : ℕ). sum (window xs z (2 ^ (h - 1)))) (sym g) ∙ omega arith)

parts_none : (xs : List ℕ) (from e k h i : ℕ) → h ≡ e + k → sum (window xs (from + 2 ^ h * i) (2 ^ h)) ≡ 0
    → (j : ℕ) → 2 ^ k * i ≤ j → j < 2 ^ k * (i + 1) → sum (window xs (from + 2 ^ e * j) (2 ^ e)) ≡ 0
parts_none xs from e zero h i q z j x y =
    let s : h ≡ e = omega arith in
    let u : j ≡ i = omega arith in
    ap₂ (λ (y z : ℕ). sum (window xs (from + 2 ^ y * z) (2 ^ y))) (sym s) u ∙ z
parts_none xs from e (suc k) h i q z j x y =
    let n = halves-none xs from h i (λ s. omega (arith, q, s)) z in
    let d : h - 1 ≡ e + k = omega arith in
    go (dec_le (suc j) (2 ^ k * (2 * i + 1))) (parts_none xs from e k (h - 1) (2 * i) d n.0 j) (parts_none xs from e k (h - 1) (2 * i + 1) d n.1 j)
  where
    m : Halved (suc k) i
    m = halved (suc k) i (λ s. omega (arith, s))

    same : suc k - 1 ≡ k
    same = omega arith

    first : 2 ^ suc k * i ≡ 2 ^ k * (2 * i)
    first = m.low ∙ ap (λ (z : ℕ). 2 ^ z * (2 * i)) same

    last : 2 ^ suc k * (i + 1) ≡ 2 ^ k * (2 * i + 1 + 1)
    last = m.high ∙ ap (λ (z : ℕ). 2 ^ z * (2 * i + 1 + 1)) same

    go : Dec (suc j ≤ 2 ^ k * (2 * i + 1)) → (2 ^ k * (2 * i) ≤ j → j < 2 ^ k * (2 * i + 1) → sum (window xs (from + 2 ^ e * j) (2 ^ e)) ≡ 0)
        → (2 ^ k * (2 * i + 1) ≤ j → j < 2 ^ k * (2 * i + 1 + 1) → sum (window xs (from + 2 ^ e * j) (2 ^ e)) ≡ 0)
        → sum (window xs (from + 2 ^ e * j) (2 ^ e)) ≡ 0
    go (yes s) l r = l (omega (arith, x, first)) s
    go (no s) l r = r (omega (arith, s)) (omega (arith, y, last))

pub none-summed : {code out : List ℕ} {at h e t i : ℕ} → (a : Branch code at h e t i out) → t ≡ 0 → Summed a.xs a.from e a.k i out out
none-summed {code} {out} {at} {h} {e} {t} {i} a q = record {
  inside = λ j x y. a.zeros j x y ∙ sym (parts_none a.xs a.from e a.k h i a.height (sym a.sum_is ∙ q) j x y);
  before = λ j x. refl;
  behind = λ j x. refl;
}
