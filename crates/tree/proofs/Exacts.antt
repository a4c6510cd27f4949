-- A tree that passes the code's test is the code of the counts that it says. Assumes nothing.
use mathlib.Core.Path.{◌≡◌, refl, sym, ap, ap₂, ◌∙◌}
use mathlib.Core.Bool.{true}
use mathlib.Core.List.{List, [], ◌∷◌, ◌++◌, append-nil}
use Prim.Native.Nat.{ℕ, zero, suc, ◌+◌, ◌-◌, ◌^◌, ◌≤◌}
use native.Mathlib.Omega.{arith}
use lib.ListN.{length, take, drop, replicate, length-append, length-replicate}
use lib.Seq.{take_at, drop_at}
use lib.Dec.{leb}
use borrow.Author.Tests.{le-leb, leb-true}
use Rattle.bits.specs.Bits.{field, value}
use Rattle.bits.proofs.Laws.{length-field}
use Rattle.reserve.specs.Reserve.{digits, reserve}
use Rattle.reserve.proofs.Fit.{fit_all, one-count}
use Rattle.lists.specs.Lists.{sum, same, part, fill}
use Rattle.tree.specs.Tree.{tree}
use Rattle.tree.specs.Read.{left_of, left_at, right_at, counts}
use Rattle.tree.specs.Code.Exact.{CodeOfCounts, clear, spare_at, spare_len, exact}
use Rattle.lists.proofs.Parts.{length_part, part-more, piece}
use Rattle.lists.proofs.Sums.{sum-append, sum-halves, sum-take-le}
use Rattle.lists.proofs.Tests.{same_refl, same-is, each, every_of}
use Rattle.bits.proofs.Packing.{Bits, bits-take, bits-drop, field-value}
use Rattle.tree.proofs.Shape.{tree-none, length-tree, length-counts, counts-tree, left-read, left-region, right-region, rest-is}

-- a field that is in the bits
pub field-part : (b : List ℕ) (a w : ℕ) → Bits b → a + w ≤ length b → part b a w ≡ field w (value (part b a w))
field-part b a w h l =
    sym
    (ap (λ (z : ℕ). field z (value (part b a w))) (sym (length_part b a w l))
    ∙ field-value (part b a w) (bits-take w (drop a b) (bits-drop a b h)))

-- the tree of two halves
tree-join : (h : ℕ) (X Y : List ℕ) → length X ≡ 2 ^ h
    → tree (suc h) (X ++ Y) ≡ fill (reserve (suc h) (sum (X ++ Y))) (field (digits (sum (X ++ Y))) (sum X) ++ (tree h X ++ tree h Y))
unfolding tree
tree-join h X Y e = rw (take_at X Y (2 ^ h) e, drop_at X Y (2 ^ h) e)

fill_is : (n k : ℕ) (bs : List ℕ) → length bs ≡ k → fill n bs ≡ bs ++ replicate (n - k) 0
unfolding fill
fill_is n k bs e = ap (λ (z : ℕ). bs ++ replicate (n - z) 0) e

-- the four pieces of a node
join-parts : (b : List ℕ) (a t i j r : ℕ) → t + i + j ≤ r → part b a r ≡ (part b a t ++ (part b (a + t) i ++ part b (a + t + i) j)) ++ part b
    (a + t + i + j) (r - (t + i + j))
join-parts b a t i j r l =
    let e : r ≡ (t + (i + j)) + (r - (t + i + j)) = omega arith in
    let f : a + (t + (i + j)) ≡ a + t + i + j = omega arith in
    ap (part b a) e ∙ part-more b a (t + (i + j)) (r - (t + i + j))
    ∙ ap₂ (λ (x : List ℕ) (y : ℕ). x ++ part b y (r - (t + i + j))) (part-more b a t (i + j) ∙ ap (λ (z : List ℕ). part b a t ++ z) (part-more b (a + t) i j)) f

node-coded : (h s l : ℕ) (b : List ℕ) (a : ℕ) (X Y : List ℕ) → Bits b → a + reserve (suc h) s ≤ length b → l ≡ value (part b a (digits s)) → l ≤ s
    → length X ≡ 2 ^ h → sum X ≡ l → sum Y ≡ s - l → part b (left_at s a) (reserve h l) ≡ tree h X → part b (right_at h s l a) (reserve h (s - l)) ≡ tree h Y
    → part b (spare_at h s l a) (spare_len h s l) ≡ replicate (spare_len h s l) 0
    → (sum (X ++ Y) ≡ s) × (part b a (reserve (suc h) s) ≡ tree (suc h) (X ++ Y))
node-coded h s l b a X Y bb fits el le nX sX sY cX cY cZ =
    let fit : digits s + reserve h l + reserve h (s - l) ≤ reserve (suc h) s = fit_all h s l (s - l) (omega arith) in
    let tot : sum (X ++ Y) ≡ s = omega (arith, sum-append X Y) in
    let fld : part b a (digits s) ≡ field (digits s) l = field-part b a (digits s) bb (omega arith) ∙ ap (field (digits s)) (sym el) in
    let F : List ℕ = field (digits s) l in
    let lF : length (F ++ (tree h X ++ tree h Y)) ≡ digits s + reserve h l + reserve h (s - l) =
    omega (
      arith,
      length-append F (tree h X ++ tree h Y),
      length-append (tree h X) (tree h Y),
      length-field (digits s) l,
      length-tree h X,
      length-tree h Y,
      ap (reserve h) sX,
      ap (reserve h) sY,
    ) in (
      tot,
      join-parts b a (digits s) (reserve h l) (reserve h (s - l)) (reserve (suc h) s) fit
          ∙ ap₂ ◌++◌ (ap₂ ◌++◌ fld (ap₂ ◌++◌ cX cY)) cZ
          ∙ sym (fill_is (reserve (suc h) s) (digits s + reserve h l + reserve h (s - l)) (F ++ (tree h X ++ tree h Y)) lF)
          ∙ sym (tree-join h X Y nX ∙ ap₂ (λ (z y : ℕ). fill (reserve (suc h) z) (field (digits z) y ++ (tree h X ++ tree h Y))) tot sX),
    )

pub exact-coded : (h s : ℕ) (b : List ℕ) (a : ℕ) → Bits b → a + reserve h s ≤ length b → exact h s b a ≡ true → CodeOfCounts h s b a
unfolding exact counts tree sum clear left_of
exact-coded zero s b a bb fits e = record { total = omega arith; code = ap (part b a) (one-count s) }
exact-coded (suc h) s b a bb fits e =
    let l : ℕ = left_of s b a in
    let w = each (leb l s ∷ exact h l b (left_at s a) ∷ exact h (s - l) b (right_at h s l a) ∷ clear b (spare_at h s l a) (spare_len h s l) ∷ []) e in
    let le : l ≤ s = leb-true l s w.0 in
    let fit : digits s + reserve h l + reserve h (s - l) ≤ reserve (suc h) s = fit_all h s l (s - l) (omega arith) in
    let p : CodeOfCounts h l b (left_at s a) = exact-coded h l b (left_at s a) bb (omega arith) w.1.0 in
    let q : CodeOfCounts h (s - l) b (right_at h s l a) = exact-coded h (s - l) b (right_at h s l a) bb (omega arith) w.1.1.0 in
    let r = node-coded h s l b a (counts h l b (left_at s a)) (counts h (s - l) b (right_at h s l a)) bb fits refl le
    (length-counts h l b (left_at s a)) p.total q.total p.code q.code
    (same-is (part b (spare_at h s l a) (spare_len h s l)) (replicate (spare_len h s l) 0) w.1.1.1.0) in
    record { total = r.0; code = r.1 }

-- the same bits elsewhere are the same counts
pub counts-local : (h s : ℕ) (b c : List ℕ) (a d : ℕ) → Bits b → a + reserve h s ≤ length b → part b a (reserve h s) ≡ part c d (reserve h s)
    → exact h s b a ≡ true → counts h s c d ≡ counts h s b a
counts-local h s b c a d bb i q e =
    let xs : List ℕ = counts h s b a in
    let k : CodeOfCounts h s b a = exact-coded h s b a bb i e in
    ap (λ (z : ℕ). counts h z c d) (sym k.total)
    ∙ counts-tree h xs c d (length-counts h s b a) (ap (λ (z : ℕ). part c d (reserve h z)) k.total ∙ sym q ∙ k.code)

-- and the code of counts passes
spare-clear : (h : ℕ) (xs b : List ℕ) (a : ℕ) → part b a (reserve (suc h) (sum xs)) ≡ tree (suc h) xs
    → clear b (spare_at h (sum xs) (sum (take (2 ^ h) xs)) a) (spare_len h (sum xs) (sum (take (2 ^ h) xs))) ≡ true
unfolding clear tree fill
spare-clear h xs b a e =
    let s : ℕ = sum xs in
    let i : ℕ = sum (take (2 ^ h) xs) in
    let j : ℕ = sum (drop (2 ^ h) xs) in
    let I : List ℕ = field (digits s) i ++ (tree h (take (2 ^ h) xs) ++ tree h (drop (2 ^ h) xs)) in
    let n : ℕ = digits s + reserve h i + reserve h (s - i) in
    let sj : s - i ≡ j = omega (arith, sum-halves (2 ^ h) xs) in
    let lI : length I ≡ n =
    omega (
      arith,
      length-append (field (digits s) i) (tree h (take (2 ^ h) xs) ++ tree h (drop (2 ^ h) xs)),
      length-append (tree h (take (2 ^ h) xs)) (tree h (drop (2 ^ h) xs)),
      length-field (digits s) i,
      length-tree h (take (2 ^ h) xs),
      length-tree h (drop (2 ^ h) xs),
      ap (reserve h) sj,
    ) in
    let fit : n ≤ reserve (suc h) s = fit_all h s i (s - i) (omega (arith, sum-take-le (2 ^ h) xs)) in
    let Z : List ℕ = replicate (reserve (suc h) s - n) 0 in
    let r : part b a (reserve (suc h) s) ≡ I ++ (Z ++ []) = e ∙ ap (λ (z : ℕ). I ++ replicate (reserve (suc h) s - z) 0) lI
    ∙ ap (λ (z : List ℕ). I ++ z) (sym (append-nil Z)) in
    ap (λ (z : List ℕ). same z Z)
    (ap (λ (z : ℕ). part b z (reserve (suc h) s - n)) {x = spare_at h s i a} {y = a + n} (omega arith)
    ∙ piece b a (reserve (suc h) s) I Z [] n (reserve (suc h) s - n) r lI (length-replicate {A = ℕ} (reserve (suc h) s - n) 0) (omega arith))
    ∙ same_refl Z

pub tree-exact : (h : ℕ) (xs b : List ℕ) (a : ℕ) → part b a (reserve h (sum xs)) ≡ tree h xs → exact h (sum xs) b a ≡ true
unfolding exact
tree-exact zero xs b a e = refl
tree-exact (suc h) xs b a e =
    rw (left-read h xs b a e)
    (every_of _ (
      le-leb (sum (take (2 ^ h) xs)) (sum xs) (sum-take-le (2 ^ h) xs),
      (
        tree-exact h (take (2 ^ h) xs) b (left_at (sum xs) a) (left-region h xs b a e),
        (
          ap (λ (z : ℕ). exact h z b (right_at h (sum xs) (sum (take (2 ^ h) xs)) a)) (rest-is h xs b a e)
              ∙ tree-exact h (drop (2 ^ h) xs) b (right_at h (sum xs) (sum (take (2 ^ h) xs)) a) (right-region h xs b a e),
          (spare-clear h xs b a e, tt),
        ),
      ),
    ))

-- a tree of sum 0 has no bits to be wrong
pub exact-zero : (h : ℕ) (b : List ℕ) (a : ℕ) → exact h 0 b a ≡ true
unfolding sum reserve
exact-zero h b a = tree-exact h [] b a (sym (tree-none h [] refl))
