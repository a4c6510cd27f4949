-- A tree written into zero bits: its field, its left subtree, its right subtree. Assumes nothing.
use mathlib.Core.Path.{◌≡◌, refl, sym, ap, ap₂, ◌∙◌}
use mathlib.Core.List.{List, ◌++◌, append_assoc}
use Prim.Native.Nat.{ℕ, zero, suc, ◌+◌, ◌-◌, ◌^◌, ◌≤◌, ◌<◌}
use native.Mathlib.Nat.{pow-succ'}
use native.Mathlib.Numerals.{add-one}
use native.Mathlib.Omega.{arith}
use lib.ListN.{length, take, drop, length-append}
use Rattle.lists.specs.Lists.{part, splice, sum, fill, window}
use Rattle.lists.proofs.Parts.{splice-nil, splice-then}
use Rattle.lists.proofs.Sums.{sum-halves}
use Rattle.bits.specs.Bits.{bits, field, value}
use Rattle.bits.proofs.Laws.{length-field, length-bits}
use Rattle.reserve.specs.Reserve.{digits, reserve}
use Rattle.reserve.proofs.Exact.{digits-is}
use Rattle.reserve.proofs.Fit.{fit_all}
use Rattle.tree.specs.Tree.{tree}
use Rattle.tree_write.specs.Code.Blank.{Blank}
use Rattle.tree.specs.Code.Node.{Lies}
use Rattle.tree.proofs.Shape.{length-tree, tree-none}
use Rattle.tree_write.proofs.Blank.{blank-value, blank-next, blank-fill}
use Rattle.tree.proofs.Windows.{half-left, half-right, half-sums}
use Rattle.tree.proofs.Rooting.{Halves, halves}

-- ---- a node

-- a node above the counts that is to be written, of the counts of cs from index from on: its halves' sums l and s - l, and their places
pub record Plan (cs o : List ℕ) (at h from s half l : ℕ) : Type 0 where
  pub high : h ≡ 0 → ⊥
  pub lies : Lies o at h s
  pub total : s ≡ sum (window cs from (2 ^ h))
  pub half_is : half ≡ 2 ^ (h - 1)
  pub left_is : l ≡ sum (window cs from (2 ^ (h - 1)))
  pub right_is : s - l ≡ sum (window cs (from + half) (2 ^ (h - 1)))
  pub left_le : l ≤ s
  pub fits : s < 2 ^ digits s
  pub next : from + half + 2 ^ (h - 1) ≡ from + 2 ^ h
  pub below : Halves o at (h - 1) s l
  pub owns : digits s + reserve (h - 1) l + reserve (h - 1) (s - l) ≤ reserve h s

pub plan : {cs o : List ℕ} {at h from s half l : ℕ} → (h ≡ 0 → ⊥) → Lies o at h s → s ≡ sum (window cs from (2 ^ h)) → half ≡ 2 ^ (h - 1)
    → l ≡ sum (window cs from half) → Plan cs o at h from s half l
plan {h = zero} p y es eh el = absurd (p refl)
plan {cs} {o} {at} {h = suc k} {from} {s} {half} {l} p y es eh el =
    let e : suc k - 1 ≡ k = omega arith in
    let g : half ≡ 2 ^ k = eh ∙ ap (λ (z : ℕ). 2 ^ z) e in
    let i : l ≡ sum (window cs from (2 ^ k)) = el ∙ ap (λ (z : ℕ). sum (window cs from z)) g in
    let j : sum (window cs (from + half) (2 ^ k)) ≡ sum (window cs (from + 2 ^ k) (2 ^ k)) = ap (λ (z : ℕ). sum (window cs (from + z) (2 ^ k))) g in
    let le : l ≤ s = omega (arith, half-sums cs from k) in
    record {
      high = p;
      lies = y;
      total = es;
      half_is = eh;
      left_is = rw e i;
      right_is = rw e (omega (arith, half-sums cs from k));
      left_le = le;
      fits = (digits-is s).0;
      next = rw e (omega (arith, pow-succ' 2 k));
      below = rw e (halves l (rw (add-one k) y) le);
      owns = rw e (fit_all k s l (s - l) (omega arith));
    }

-- a sum that is not 0 has a digit
pub some-digits : (s t : ℕ) → t ≡ digits s → 1 ≤ s → 1 ≤ t
some-digits s t e l = go t (rw e (digits-is s).0)
  where
    go : (t : ℕ) → s < 2 ^ t → 1 ≤ t
    go zero h = absurd (omega (arith, l))
    go (suc t) h = omega arith

-- a node of height 0 has no code
pub leaf-written : (l xs : List ℕ) (at h : ℕ) → h ≡ 0 → l ≡ splice l at (tree h xs)
unfolding tree
leaf-written l xs at h e = rw e (sym (splice-nil l at))

-- the sum is 0: so is the code
pub none_written : (l xs : List ℕ) (at h s : ℕ) → s ≡ sum xs → s ≡ 0 → l ≡ splice l at (tree h xs)
none_written l xs at h s es e = sym (ap (splice l at) (tree-none h xs (sym es ∙ e)) ∙ splice-nil l at)

-- a node's field and subtrees in zero bits are its code: the bits left over are 0
pub in-blank : (h at s l : ℕ) (xs b r : List ℕ) → s ≡ sum xs → l ≡ sum (take (2 ^ h) xs) → at + reserve (suc h) s ≤ length b
    → Blank b at (reserve (suc h) s)
    → r ≡ splice b at (field (digits s) l ++ (tree h (take (2 ^ h) xs) ++ tree h (drop (2 ^ h) xs)))
    → r ≡ splice b at (tree (suc h) xs)
unfolding tree
in-blank h at s l xs b r es el room blank e =
    let L : List ℕ = take (2 ^ h) xs in
    let R : List ℕ = drop (2 ^ h) xs in
    let I : List ℕ = field (digits s) l ++ (tree h L ++ tree h R) in
    let er : s - l ≡ sum R = omega (arith, sum-halves (2 ^ h) xs) in
    let lL : length (tree h L) ≡ reserve h l = length-tree h L ∙ ap (reserve h) (sym el) in
    let lR : length (tree h R) ≡ reserve h (s - l) = length-tree h R ∙ ap (reserve h) (sym er) in
    let lI = length-append (field (digits s) l) (tree h L ++ tree h R) in
    let lLR = length-append (tree h L) (tree h R) in
    let fit : digits s + reserve h l + reserve h (s - l) ≤ reserve (suc h) s = fit_all h s l (s - l) (omega (arith, sum-halves (2 ^ h) xs)) in
    e ∙ blank-fill b I at (reserve (suc h) s) blank (omega (arith, length-field (digits s) l)) room
    ∙ ap₂ (λ (x y : ℕ). splice b at (fill (reserve (suc h) x) (field (digits x) y ++ (tree h L ++ tree h R)))) es el

-- three pieces written one after another
pub three : (b b₁ b₂ b₃ x y z : List ℕ) (a j k : ℕ) → b₁ ≡ splice b a x → b₂ ≡ splice b₁ j y → b₃ ≡ splice b₂ k z → j ≡ a + length x
    → k ≡ a + length x + length y → a + length x + length y + length z ≤ length b → b₃ ≡ splice b a (x ++ (y ++ z))
three b b₁ b₂ b₃ x y z a j k e₁ e₂ e₃ ej ek h =
    let l = length-append x y in
    splice-then b b₂ b₃ (x ++ y) z a k (splice-then b b₁ b₂ x y a j e₁ e₂ ej (omega arith)) e₃ (omega arith) (omega arith)
    ∙ ap (splice b a) (append_assoc x y z)

-- a node as the code has it, of the counts from an index on, with its numbers worked out
module _ {cs o : List ℕ} {at h from s half l : ℕ} (p : Plan cs o at h from s half l) (blank : Blank (bits o) at (reserve h s))
    (t i : ℕ) (et : t ≡ digits s) (ei : i ≡ reserve (h - 1) l) where
  abbrev L : List ℕ
  L = window cs from (2 ^ (h - 1))

  abbrev R : List ℕ
  R = window cs (from + half) (2 ^ (h - 1))

  lL : length (tree (h - 1) L) ≡ i
  lL = length-tree (h - 1) L ∙ ap (reserve (h - 1)) (sym p.left_is) ∙ sym ei

  lR : length (tree (h - 1) R) ≡ reserve (h - 1) (s - l)
  lR = length-tree (h - 1) R ∙ ap (reserve (h - 1)) (sym p.right_is)

  room : at + reserve h s ≤ length (bits o)
  room = omega (arith, length-bits o, p.lies.inside)

  -- the field's bits are 0 before it is written
  pub field-blank : value (part (bits o) at t) ≡ 0
  field-blank = blank-value (bits o) at (reserve h s) t blank (omega (arith, p.owns))

  module _ (o₁ : List ℕ) (e₁ : bits o₁ ≡ splice (bits o) at (field t l)) where
    behind : (k m : ℕ) → t ≤ k → k + m ≤ reserve h s → Blank (bits o₁) (at + k) m
    behind k m u v = blank-next (bits o) (bits o₁) (field t l) at (reserve h s) k m blank e₁ room (omega (arith, length-field t l)) v

    pub left-blank : Blank (bits o₁) (at + t) (reserve (h - 1) l)
    left-blank = behind t (reserve (h - 1) l) (omega arith) (omega (arith, p.owns))

    module _ (o₂ : List ℕ) (e₂ : bits o₂ ≡ splice (bits o₁) (at + t) (tree (h - 1) L)) (same : length o₁ ≡ length o) where
      pub right-blank : Blank (bits o₂) (at + t + i) (reserve (h - 1) (s - l))
      right-blank =
          let rest : ℕ = reserve h s - t in
          blank-next (bits o₁) (bits o₂) (tree (h - 1) L) (at + t) rest i (reserve (h - 1) (s - l))
          (behind t rest (omega arith) (omega (arith, p.owns))) e₂ (omega (arith, length-bits o₁, p.lies.inside, p.owns)) (omega (arith, lL))
          (omega (arith, p.owns))

      pub written : (o₃ : List ℕ) → bits o₃ ≡ splice (bits o₂) (at + t + i) (tree (h - 1) R) → bits o₃ ≡ splice (bits o) at (tree h (window cs from (2 ^ h)))
      written o₃ e₃ =
          node p blank (bits o₃)
          (three (bits o) (bits o₁) (bits o₂) (bits o₃) (field t l) (tree (h - 1) L) (tree (h - 1) R) at (at + t) (at + t + i) e₁ e₂ e₃
          (omega (arith, length-field t l)) (omega (arith, length-field t l, lL)) (omega (arith, length-field t l, lL, lR, p.owns, room))
          ∙ ap (λ (k : ℕ). splice (bits o) at (field k l ++ (tree (h - 1) L ++ tree (h - 1) R))) et)
        where
          node : {h : ℕ} (p : Plan cs o at h from s half l) → Blank (bits o) at (reserve h s) → (r : List ℕ)
              → r ≡ splice (bits o) at (field (digits s) l ++
              (tree (h - 1) (window cs from (2 ^ (h - 1))) ++ tree (h - 1) (window cs (from + half) (2 ^ (h - 1)))))
              → r ≡ splice (bits o) at (tree h (window cs from (2 ^ h)))
          node {h = zero} p blank r e = absurd (p.high refl)
          node {h = suc k} p blank r e =
              let d : suc k - 1 ≡ k = omega arith in
              let el : window cs from (2 ^ (suc k - 1)) ≡ take (2 ^ k) (window cs from (2 ^ suc k)) = rw (d, half-left cs from k) in
              let er : window cs (from + half) (2 ^ (suc k - 1)) ≡ drop (2 ^ k) (window cs from (2 ^ suc k)) = rw (p.half_is, d, half-right cs from k) in
              in-blank k at s l (window cs from (2 ^ suc k)) (bits o) r p.total (p.left_is ∙ ap sum el)
              (omega (arith, length-bits o, p.lies.inside)) blank
              (e ∙ ap₂ (λ (x y : List ℕ). splice (bits o) at (field (digits s) l ++ (x ++ y)))
              (ap₂ tree d el) (ap₂ tree d er))
