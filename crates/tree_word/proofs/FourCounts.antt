-- Four counts out of one word. Assumes nothing.
use mathlib.Core.Path.{◌≡◌, refl, sym, ap, ◌∙◌, subst}
use mathlib.Core.Bool.{true}
use mathlib.Core.List.{List, [], ◌∷◌}
use Prim.Native.Nat.{ℕ, suc, ◌+◌, ◌-◌, ◌/◌, ◌%◌, ◌^◌, ◌≤◌, ◌<◌}
use native.Mathlib.Nat.{lt_of_lt_of_le}
use native.Mathlib.Omega.{arith}
use lib.Dec.{leb}
use lib.ListN.{length, set}
use lib.Pow.{pow_mono}
use borrow.Author.Tests.{leb-true}
use Rattle.lists.specs.Lists.{splice}
use Rattle.lists.proofs.Parts.{sets-splice}
use Rattle.bits.specs.Bits.{field}
use Rattle.reserve.specs.Reserve.{digits}
use Rattle.reserve.proofs.Exact.{digits-is}
use Rattle.tree.specs.Read.{left_of, left_at, right_at, counts}
use Rattle.tree.specs.Code.Exact.{exact}
use Rattle.tree.proofs.OneWord.{fewer_digits}
use Rattle.tree.proofs.TwoCounts.{reserve-pair}
use Rattle.tree_word.proofs.Decoding.{BothExact, both-exact}
use Rattle.tree_word.proofs.WordBits.{left-at}

-- the left sum l, and the pairs' left counts x and y
counts-four : (s l x y : ℕ) (b : List ℕ) (a : ℕ) → left_of s b a ≡ l → left_of l b (left_at s a) ≡ x → left_of (s - l) b (right_at 1 s l a) ≡ y
    → counts 2 s b a ≡ x ∷ (l - x) ∷ y ∷ (s - l - y) ∷ []
unfolding counts
counts-four s l x y b a el ex ey = rw (el, ex, ey)

pub put_four : (l : List ℕ) (i c d e f : ℕ) → i + 4 ≤ length l
    → set (set (set (set l i c) (i + 1) d) (i + 2) e) (i + 3) f ≡ splice l i (c ∷ d ∷ e ∷ f ∷ [])
put_four l i c d e f h = rw (one, two, three) (sets-splice (c ∷ d ∷ e ∷ f ∷ []) l i h)
  where
    one : i + 1 ≡ suc i
    one = omega arith

    two : i + 2 ≡ suc (suc i)
    two = omega arith

    three : i + 3 ≡ suc (suc (suc i))
    three = omega arith

-- ---- the three fields, as the code works them out

-- the left sum l of four counts with sum s, by the digits t of s
pub record LeftRead (w s t l : ℕ) : Type 0 where
  pub code : exact 2 s (field 64 w) 0 ≡ true
  pub few : digits s ≤ 19
  pub top : t ≡ digits s
  pub left : l ≡ w / 2 ^ (64 - (0 + t)) % 2 ^ t

-- and the digits f and g of the sums of its pairs
pub record Fields (w s t l f g : ℕ) : Type 0 where
  pub read : LeftRead w s t l
  pub first : f ≡ digits l
  pub second : g ≡ digits (s - l)

pub read : {w s t l : ℕ} → exact 2 s (field 64 w) 0 ≡ true → digits s ≤ 19 → t ≡ digits s → l ≡ w / 2 ^ (64 - (0 + t)) % 2 ^ t → LeftRead w s t l
read x few et el = record { code = x; few = few; top = et; left = el }

module _ {w s t l : ℕ} (q : LeftRead w s t l) where
  left_is : left_of s (field 64 w) 0 ≡ l
  left_is = left-at s w 0 0 t l refl q.top (omega (arith, q.top, q.few)) q.left

  both : BothExact 1 s (field 64 w) 0 l
  both = subst (BothExact 1 s (field 64 w) 0) left_is (both-exact 1 s (field 64 w) 0 q.code)

  pub left_le : l ≤ s
  left_le = leb-true l s both.le

  -- the digits of a sum within s
  pub narrow : (x f : ℕ) → x ≤ s → f ≡ digits x → (t ≤ 19) × (f ≤ 19)
  narrow x f k ef = (omega (arith, q.top, q.few), omega (arith, fewer_digits q.few x k))

  small : s < 4294967296
  small = lt_of_lt_of_le (digits-is s).0 (pow_mono {i = digits s} {j = 32} (omega (arith, q.few)))

pub fields : {w s t l f g : ℕ} → LeftRead w s t l → f ≡ digits l → g ≡ digits (s - l) → Fields w s t l f g
fields q ef eg = record { read = q; first = ef; second = eg }

-- the pairs' fields x and y, behind the left sum
module _ {w s t l f g : ℕ} (q : Fields w s t l f g) where
  pub wide : (t ≤ 19) × (f ≤ 19) × (g ≤ 19)
  wide = (
    (narrow q.read l f (left_le q.read) q.first).0,
    (narrow q.read l f (left_le q.read) q.first).1,
    (narrow q.read (s - l) g (omega arith) q.second).1,
  )

  module _ (x y : ℕ) (ex : x ≡ w / 2 ^ (64 - (t + f)) % 2 ^ f) (ey : y ≡ w / 2 ^ (64 - (t + f + g)) % 2 ^ g) where
    first-is : left_of l (field 64 w) (left_at s 0) ≡ x
    first-is = left-at l w (left_at s 0) t f x (omega (arith, q.read.top)) q.first (omega (arith, wide)) ex

    third-is : left_of (s - l) (field 64 w) (right_at 1 s l 0) ≡ y
    third-is =
        left-at (s - l) w (right_at 1 s l 0) (t + f) g y (omega (arith, q.read.top, q.first, reserve-pair l)) q.second (omega (arith, wide)) ey

    first-le : x ≤ l
    first-le = leb-true x l (ap (λ (z : ℕ). leb z l) (sym first-is) ∙ (both-exact 0 l (field 64 w) (left_at s 0) (both q.read).left).le)

    third-le : y ≤ s - l
    third-le =
        leb-true y (s - l)
        (ap (λ (z : ℕ). leb z (s - l)) (sym third-is) ∙ (both-exact 0 (s - l) (field 64 w) (right_at 1 s l 0) (both q.read).right).le)

    -- what is written fits
    pub four_fit : (x ≤ l) × (y ≤ s - l) × (l ≤ s) × (s < 4294967296)
    four_fit = (first-le, third-le, left_le q.read, small q.read)

    pub four-written : (o : List ℕ) (i : ℕ) → i + 4 ≤ length o
        → set (set (set (set o i x) (i + 1) (l - x)) (i + 2) y) (i + 3) (s - l - y) ≡ splice o i (counts 2 s (field 64 w) 0)
    four-written o i h =
        put_four o i x (l - x) y (s - l - y) h ∙ ap (splice o i) (sym (counts-four s l x y (field 64 w) 0 (left_is q.read) first-is third-is))
