-- Trees out of one word: the fields of a tree whose bits stand in it. Assumes nothing.
use mathlib.Core.Path.{◌≡◌, refl, sym, ap, ◌∙◌}
use mathlib.Core.List.{List}
use Prim.Native.Nat.{ℕ, suc, ◌+◌, ◌-◌, ◌/◌, ◌%◌, ◌^◌, ◌≤◌, ◌<◌}
use native.Mathlib.Nat.{lt_of_lt_of_le}
use native.Mathlib.Omega.{arith}
use lib.Pow.{pow_mono}
use Rattle.lists.specs.Lists.{part}
use Rattle.bits.specs.Bits.{bits, value}
use Rattle.bits_field.specs.Code.Front.{Front}
use Rattle.bits.proofs.Laws.{length-bits}
use Rattle.reserve.specs.Reserve.{digits, reserve}
use Rattle.reserve.proofs.Line.{A, B}
use Rattle.reserve.proofs.Exact.{digits-is, digits_le}
use Rattle.reserve.proofs.Fit.{bound, fit_all}
use Rattle.tree.specs.Read.{left_of, left_at, right_at}
use Rattle.tree.specs.Code.Node.{Lies}
use Rattle.tree.specs.Code.InWord.{InWord, eight_limit}
use Rattle.tree.proofs.TwoCounts.{reserve-pair}

-- no sum within s has more digits than s
pub fewer_digits : {s k : ℕ} → digits s ≤ k → (x : ℕ) → x ≤ s → digits x ≤ k
fewer_digits {s} {k} few x l = omega (arith, few, digits_le x (digits s) (omega (arith, digits-is s)))

pub few-digits : {s : ℕ} → s < 2 ^ 19 → (x : ℕ) → x ≤ s → digits x ≤ 19
few-digits l x k = digits_le x 19 (omega arith)

-- ---- what trees own that are read out of one word
pub four-fits : (s : ℕ) → digits s ≤ 19 → reserve 2 s ≤ 57
unfolding A B
four-fits s l =
    let small : s < 2 ^ 19 = lt_of_lt_of_le (digits-is s).0 (pow_mono {i = digits s} {j = 19} l) in
    omega (arith, bound 2 s 19)

pub eight_fits : (s : ℕ) → s < eight_limit → reserve 3 s ≤ 57
unfolding A B
eight_fits s l = omega (arith, bound 3 s 9)

-- ---- a tree that lies in bytes, and one load of them
pub loaded : {b : List ℕ} {a h s w : ℕ} → Lies b a h s → reserve h s ≤ 57 → Front (bits b) a w → InWord (bits b) a h s w 0
loaded {b} {a} {h} {s} {w} y few f =
    record {
      piece = λ i n l.
          f i n (omega arith) (omega (arith, y.inside, length-bits b))
          ∙ ap (λ (x : ℕ). w / 2 ^ (64 - x) % 2 ^ n) {x = i + n} {y = 0 + i + n} (omega arith);
    }

-- ---- a node in a word
module _ {b : List ℕ} {a h s w k : ℕ} (o : InWord b a (suc h) s w k) where
  -- the tree's bits from the i-th on
  behind : (i c d n : ℕ) → c ≡ a + i → d ≡ k + i → i + n ≤ reserve (suc h) s → value (part b c n) ≡ w / 2 ^ (64 - (d + n)) % 2 ^ n
  behind i c d n ec ed l =
      ap (λ (x : ℕ). value (part b x n)) ec ∙ o.piece i n l ∙ ap (λ (x : ℕ). w / 2 ^ (64 - (x + n)) % 2 ^ n) (sym ed)

  -- the left sum
  pub left-field : left_of s b a ≡ w / 2 ^ (64 - (k + digits s)) % 2 ^ digits s
  unfolding left_of
  left-field = behind 0 a k (digits s) (omega arith) (omega arith) (omega (arith, fit_all h s 0 s (omega arith)))

  -- by a width that was computed
  pub left-read : (t l : ℕ) → t ≡ digits s → l ≡ w / 2 ^ (64 - (k + t)) % 2 ^ t → left_of s b a ≡ l
  left-read t l et el = left-field ∙ ap (λ (x : ℕ). w / 2 ^ (64 - (k + x)) % 2 ^ x) (sym et) ∙ sym el

  -- the two subtrees
  module _ (l : ℕ) (le : l ≤ s) where
    fits : digits s + reserve h l + reserve h (s - l) ≤ reserve (suc h) s
    fits = fit_all h s l (s - l) (omega arith)

    pub left_word : (d : ℕ) → d ≡ k + digits s → InWord b (left_at s a) h l w d
    left_word d ed =
        record {
          piece = λ i n q. behind (digits s + i) (left_at s a + i) (d + i) n (omega arith) (omega (arith, ed)) (omega (arith, fits));
        }

    pub right-word : (d : ℕ) → d ≡ k + digits s + reserve h l → InWord b (right_at h s l a) h (s - l) w d
    right-word d ed =
        record {
          piece = λ i n q.
              behind (digits s + reserve h l + i) (right_at h s l a + i) (d + i) n (omega arith) (omega (arith, ed)) (omega (arith, fits));
        }

-- ---- four counts in a word
module _ {b : List ℕ} {a s w k : ℕ} (o : InWord b a 2 s w k) (l : ℕ) (le : l ≤ s) where
  -- the left pair's left count, behind the left sum
  pub left-pair : left_of l b (left_at s a) ≡ w / 2 ^ (64 - (k + digits s + digits l)) % 2 ^ digits l
  left-pair = left-field (left_word o l le (k + digits s) refl)

  -- the right pair's, behind both
  pub right-pair : left_of (s - l) b (right_at 1 s l a) ≡ w / 2 ^ (64 - (k + digits s + digits l + digits (s - l))) % 2 ^ digits (s - l)
  right-pair = left-field (right-word o l le (k + digits s + digits l) (omega (arith, reserve-pair l)))

-- the three fields of four counts are all within what they own
pub three-fields : (s l : ℕ) → l ≤ s → digits s + digits l + digits (s - l) ≤ reserve 2 s
three-fields s l le = omega (arith, fit_all 1 s l (s - l) (omega arith), reserve-pair l, reserve-pair (s - l))
