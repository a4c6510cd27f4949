-- What is tested of a tree is tested of its own bits: the same bits elsewhere give the same answer. Assumes nothing.
use mathlib.Core.Path.{◌≡◌, refl, sym, ap, ◌∙◌}
use mathlib.Core.Bool.{Bool, false}
use mathlib.Core.List.{List, [], ◌∷◌}
use Prim.Native.Nat.{ℕ, zero, suc, ◌+◌, ◌-◌, ◌≤◌, ◌<◌}
use native.Mathlib.Decide.{dec_le}
use native.Mathlib.Nat.{add-zero}
use native.Mathlib.Omega.{arith}
use lib.ListN.{replicate}
use lib.Dec.{leb}
use borrow.Author.Tests.{lt-leb}
use Rattle.lists.specs.Lists.{every, same, part}
use Rattle.lists.proofs.Parts.{part_in}
use Rattle.bits.specs.Bits.{value}
use Rattle.reserve.specs.Reserve.{digits, reserve}
use Rattle.reserve.proofs.Fit.{fit_all}
use Rattle.tree.specs.Read.{left_of, left_at, right_at}
use Rattle.tree.specs.Code.Exact.{clear, spare_at, spare_len, exact}

-- a piece of equal parts
sub_part : (b c : List ℕ) (a d r i n : ℕ) → part b a r ≡ part c d r → i + n ≤ r → part b (a + i) n ≡ part c (d + i) n
sub_part b c a d r i n e l = part_in b (part c d r) a r i n e l ∙ sym (part_in c (part c d r) d r i n refl l)

-- the tests of a node with left sum l
unfoldable pub tests : ℕ → ℕ → ℕ → List ℕ → ℕ → Bool
tests h s l b a = every (leb l s ∷ exact h l b (left_at s a) ∷ exact h (s - l) b (right_at h s l a) ∷ clear b (spare_at h s l a) (spare_len h s l) ∷ [])

pub exact-tests : (h s : ℕ) (b : List ℕ) (a : ℕ) → exact (suc h) s b a ≡ tests h s (left_of s b a) b a
unfolding exact tests
exact-tests h s b a = refl

tests-are : (h s l : ℕ) (b c : List ℕ) (a d : ℕ) → exact h l b (left_at s a) ≡ exact h l c (left_at s d)
    → exact h (s - l) b (right_at h s l a) ≡ exact h (s - l) c (right_at h s l d)
    → clear b (spare_at h s l a) (spare_len h s l) ≡ clear c (spare_at h s l d) (spare_len h s l) → tests h s l b a ≡ tests h s l c d
unfolding tests every
tests-are h s l b c a d p q r = rw (p, q, r)

tests_above : (h s l : ℕ) (b : List ℕ) (a : ℕ) → s < l → tests h s l b a ≡ false
unfolding tests every
tests_above h s l b a k = rw (lt-leb l s k)

module _ (h s : ℕ) (b c : List ℕ) (a d : ℕ) (e : part b a (reserve (suc h) s) ≡ part c d (reserve (suc h) s)) where
  -- any piece of the node's bits
  pub piece-local : (i n : ℕ) → i + n ≤ reserve (suc h) s → part b (a + i) n ≡ part c (d + i) n
  piece-local i n l = sub_part b c a d (reserve (suc h) s) i n e l

  pub left-local : left_of s b a ≡ left_of s c d
  unfolding left_of
  left-local =
      let w : part b (a + 0) (digits s) ≡ part c (d + 0) (digits s) = piece-local 0 (digits s) (omega (arith, fit_all h s 0 s (omega arith))) in
      ap value (ap (λ (k : ℕ). part b k (digits s)) (sym (add-zero a)) ∙ w ∙ ap (λ (k : ℕ). part c k (digits s)) (add-zero d))

  clear-local : (i n : ℕ) → i + n ≤ reserve (suc h) s → clear b (a + i) n ≡ clear c (d + i) n
  unfolding clear
  clear-local i n l = ap (λ (z : List ℕ). same z (replicate n 0)) (piece-local i n l)

  module _ (l : ℕ) (k : l ≤ s) where
    fits : digits s + reserve h l + reserve h (s - l) ≤ reserve (suc h) s
    fits = fit_all h s l (s - l) (omega arith)

    pub left-tree-local : part b (left_at s a) (reserve h l) ≡ part c (left_at s d) (reserve h l)
    left-tree-local = piece-local (digits s) (reserve h l) (omega (arith, fits))

    shift : (x : ℕ) → x + digits s + reserve h l ≡ x + (digits s + reserve h l)
    shift x = omega arith

    pub right-tree-local : part b (right_at h s l a) (reserve h (s - l)) ≡ part c (right_at h s l d) (reserve h (s - l))
    right-tree-local =
        rw (shift a, shift d) (piece-local (digits s + reserve h l) (reserve h (s - l)) (omega (arith, fits)))

    spare-shift : (x : ℕ) → spare_at h s l x ≡ x + (digits s + reserve h l + reserve h (s - l))
    spare-shift x = omega arith

    spare-local : clear b (spare_at h s l a) (spare_len h s l) ≡ clear c (spare_at h s l d) (spare_len h s l)
    spare-local = rw (spare-shift a, spare-shift d) (clear-local (digits s + reserve h l + reserve h (s - l)) (spare_len h s l) (omega (arith, fits)))

-- the test of a whole tree
pub exact-local : (h s : ℕ) (b c : List ℕ) (a d : ℕ) → part b a (reserve h s) ≡ part c d (reserve h s) → exact h s b a ≡ exact h s c d
unfolding exact
exact-local zero s b c a d e = refl
exact-local (suc h) s b c a d e =
    exact-tests h s b a ∙ ap (λ (l : ℕ). tests h s l b a) (left-local h s b c a d e)
    ∙ go (dec_le (left_of s c d) s)
    (λ k. exact-local h (left_of s c d) b c (left_at s a) (left_at s d) (left-tree-local h s b c a d e (left_of s c d) k))
    (λ k. exact-local h (s - left_of s c d) b c (right_at h s (left_of s c d) a) (right_at h s (left_of s c d) d) (right-tree-local h s b c a d e (left_of s c d) k))
    ∙ sym (exact-tests h s c d)
  where
    go : Dec (left_of s c d ≤ s)
        → (left_of s c d ≤ s → exact h (left_of s c d) b (left_at s a) ≡ exact h (left_of s c d) c (left_at s d))
        → (left_of s c d ≤ s → exact h (s - left_of s c d) b (right_at h s (left_of s c d) a) ≡ exact h (s - left_of s c d) c (right_at h s (left_of s c d) d))
        → tests h s (left_of s c d) b a ≡ tests h s (left_of s c d) c d
    go (no k) p q = tests_above h s (left_of s c d) b a (omega arith) ∙ sym (tests_above h s (left_of s c d) c d (omega arith))
    go (yes k) p q = tests-are h s (left_of s c d) b c a d (p k) (q k) (spare-local h s b c a d e (left_of s c d) k)
