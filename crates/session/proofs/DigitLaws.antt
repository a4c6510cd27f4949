-- Numbers read digit by digit. Assumes nothing.
use mathlib.Core.Path.{◌≡◌, refl, sym, ◌∙◌}
use mathlib.Core.Bool.{Bool, true, false, ◌&&◌, and-false}
use mathlib.Core.List.{List, [], ◌∷◌, map}
use Prim.Native.Nat.{ℕ, zero, suc, ◌+◌, ◌-◌, ◌*◌, ◌≤◌, ◌<◌}
use native.Mathlib.Nat.{not-suc-le-zero, le_of_suc-le-suc}
use native.Mathlib.Omega.{arith}
use native.Mathlib.Numerals.{add-one}
use lib.ListN.{length, get_or, drop}
use lib.Seq.{drop-cons, drop-length}
use lib.Dec.{leb}
use borrow.Author.Tests.{le-leb, lt-leb, leb-true}
use Rattle.lists.specs.Lists.{pick, every}
use Rattle.lists.proofs.Tests.{left, right}
use Rattle.std.specs.Char.{is_ascii_digit}
use Rattle.session.specs.Number.{is_decimal_digit, value_from, digits_only, number}
use Rattle.std.specs.Prelude.{Option, Some, None}

-- the number that the digits bs make behind digits of value n
unfoldable pub number_from : ℕ → List ℕ → Option ℕ
number_from n bs = pick (every (map is_decimal_digit bs) && leb (value_from n bs) 4294967295) (Some (value_from n bs)) None

pub number-all : (s : List ℕ) → (length s ≡ 0 → ⊥) → number s ≡ number_from 0 s
unfolding number_from number digits_only
number-all [] h = absurd (h refl)
number-all (b ∷ s) h = refl

pub number-none : (s : List ℕ) → length s ≡ 0 → number s ≡ None
unfolding number
number-none [] h = refl
number-none (b ∷ s) h = absurd (omega (arith, h))

pub from_end : (n : ℕ) (s : List ℕ) (i : ℕ) → n ≤ 4294967295 → length s ≤ i → i ≤ length s → number_from n (drop i s) ≡ Some n
unfolding number_from every value_from pick
from_end n s i h l l' =
    let e : i ≡ length s = omega arith in
    rw (e, drop-length) (rw (le-leb n 4294967295 h) refl)

value_grows : (n : ℕ) (bs : List ℕ) → n ≤ value_from n bs
unfolding value_from
value_grows n [] = omega arith
value_grows n (b ∷ bs) = omega (arith, value_grows (10 * n + (b - 48)) bs)

pub from-over : (n : ℕ) (bs : List ℕ) → 4294967295 < n → number_from n bs ≡ None
unfolding number_from pick
from-over n bs h = rw (lt-leb (value_from n bs) 4294967295 (omega (arith, value_grows n bs)), and-false (every (map is_decimal_digit bs)))

module _ (n b : ℕ) (bs : List ℕ) where
  from-other : is_decimal_digit b ≡ false → number_from n (b ∷ bs) ≡ None
  unfolding number_from every pick
  from-other e = rw e

  from-digit : is_decimal_digit b ≡ true → number_from n (b ∷ bs) ≡ number_from (10 * n + (b - 48)) bs
  unfolding number_from every value_from
  from-digit e = rw e

pub digit-bounds : (b : ℕ) → is_decimal_digit b ≡ true → (48 ≤ b) × (b ≤ 57)
unfolding is_decimal_digit
digit-bounds b e = (leb-true 48 b (left (leb 48 b) (leb b 57) e), leb-true b 57 (right (leb 48 b) (leb b 57) e))

-- the test of std
pub digit-test : (b : ℕ) (r : Bool) → r ≡ is_ascii_digit b → is_decimal_digit b ≡ r
unfolding is_decimal_digit
digit-test b r e = sym e

-- at a place of a list
module _ (n : ℕ) (s : List ℕ) (i : ℕ) (l : i < length s) where
  pub at_other : is_decimal_digit (get_or s i 0) ≡ false → number_from n (drop i s) ≡ None
  at_other e = rw (drop-cons s i 0 l) (from-other n (get_or s i 0) (drop (suc i) s) e)

  pub at-digit : is_decimal_digit (get_or s i 0) ≡ true → number_from n (drop i s) ≡ number_from (10 * n + (get_or s i 0 - 48)) (drop (i + 1) s)
  at-digit e = rw (drop-cons s i 0 l, add-one) (from-digit n (get_or s i 0) (drop (suc i) s) e)

  -- behind a digit by which the value is too high
  pub at-over : is_decimal_digit (get_or s i 0) ≡ true → 4294967295 < 10 * n + (get_or s i 0 - 48) → number_from n (drop i s) ≡ None
  at-over e h = at-digit e ∙ from-over (10 * n + (get_or s i 0 - 48)) (drop (i + 1) s) h

-- a byte that is no digit, anywhere
stray : (n : ℕ) (s : List ℕ) (k : ℕ) → k < length s → is_decimal_digit (get_or s k 0) ≡ false → number_from n s ≡ None
stray n [] k l e = absurd (not-suc-le-zero l)
stray n (b ∷ s) zero l e = from-other n b s e
stray n (b ∷ s) (suc k) l e = go (is_decimal_digit b) refl (stray (10 * n + (b - 48)) s k (le_of_suc-le-suc l) e)
  where
    go : (t : Bool) → is_decimal_digit b ≡ t → number_from (10 * n + (b - 48)) s ≡ None → number_from n (b ∷ s) ≡ None
    go true q rest = from-digit n b s q ∙ rest
    go false q rest = from-other n b s q

pub number-stray : (s : List ℕ) (k : ℕ) → k < length s → is_decimal_digit (get_or s k 0) ≡ false → number s ≡ None
number-stray s k l e = number-all s (λ z. omega arith) ∙ stray 0 s k l e
