-- A number's decimal digits: they are digits, their value is the number, and none in front is a zero that is not needed. Those that
-- std prints are these. Assumes nothing.
use mathlib.Core.Path.{◌≡◌, refl, sym, ap, ◌∙◌}
use mathlib.Core.Bool.{true}
use mathlib.Core.List.{List, [], ◌∷◌, ◌++◌, map}
use Prim.Native.Nat.{ℕ, zero, suc, ◌+◌, ◌-◌, ◌*◌, ◌/◌, ◌%◌, ◌^◌, ◌≤◌, ◌<◌}
use native.Mathlib.Nat.{pow-succ'}
use native.Mathlib.Omega.{arith}
use native.Mathlib.Decide.{dec_le}
use lib.ListN.{length, length-append}
use Rattle.std.specs.Fmt.{decimal as printed_decimal}
use Rattle.std.proofs.lemmas.Fmt.{decimal_by_steps}
use borrow.Author.Tests.{le-leb, lt-ltb, le-ltb}
use Rattle.lists.specs.Lists.{pick, every, first}
use Rattle.lists.proofs.Tests.{both, left, right}
use Rattle.session.specs.Number.{is_decimal_digit, value_from, value, digits_only, number}
use Rattle.session_print.specs.Printed.{decimal_in, decimal}
use Rattle.std.specs.Prelude.{Some}

-- one digit, and one digit more
module _ (k n : ℕ) where
  one-digit : n < 10 → decimal_in (suc k) n ≡ (48 + n) ∷ []
  unfolding decimal_in pick
  one-digit h = rw (lt-ltb n 10 h)

  more-digits : 10 ≤ n → decimal_in (suc k) n ≡ decimal_in k (n / 10) ++ ((48 + n % 10) ∷ [])
  unfolding decimal_in pick
  more-digits h = rw (le-ltb n 10 h)

-- what the digits of a number are
pub record Shows (ds : List ℕ) (n : ℕ) : Type 0 where
  pub are-digits : every (map is_decimal_digit ds) ≡ true
  pub of-value : value ds ≡ n
  pub some : 1 ≤ length ds
  pub no_zero : 1 ≤ n → first ds ≡ 48 → ⊥

digit-is : (d : ℕ) → d < 10 → is_decimal_digit (48 + d) ≡ true
unfolding is_decimal_digit
digit-is d h = both (le-leb 48 (48 + d) (omega arith)) (le-leb (48 + d) 57 (omega arith))

every-snoc : (ds : List ℕ) (d : ℕ) → every (map is_decimal_digit ds) ≡ true → is_decimal_digit d ≡ true → every (map is_decimal_digit (ds ++ d ∷ [])) ≡ true
unfolding every
every-snoc [] d a e = both e refl
every-snoc (b ∷ ds) d a e = both (left (is_decimal_digit b) (every (map is_decimal_digit ds)) a) (every-snoc ds d (right (is_decimal_digit b) (every (map is_decimal_digit ds)) a) e)

value-snoc : (m : ℕ) (ds : List ℕ) (d : ℕ) → value_from m (ds ++ d ∷ []) ≡ 10 * value_from m ds + (d - 48)
unfolding value_from
value-snoc m [] d = refl
value-snoc m (b ∷ ds) d = value-snoc (10 * m + (b - 48)) ds d

first-snoc : (ds : List ℕ) (d : ℕ) → 1 ≤ length ds → first (ds ++ d ∷ []) ≡ first ds
unfolding first
first-snoc [] d h = absurd (omega arith)
first-snoc (b ∷ ds) d h = refl

shows-one : (n : ℕ) → n < 10 → Shows ((48 + n) ∷ []) n
unfolding every value_from first
shows-one n h = record {
  are-digits = both (digit-is n h) refl;
  of-value = omega arith;
  some = omega arith;
  no_zero = λ (p : 1 ≤ n) (e : 48 + n ≡ 48). omega arith;
}

shows_more : (ds : List ℕ) (n : ℕ) → 10 ≤ n → Shows ds (n / 10) → Shows (ds ++ ((48 + n % 10) ∷ [])) n
shows_more ds n h s = record {
  are-digits = every-snoc ds (48 + n % 10) s.are-digits (digit-is (n % 10) (omega arith));
  of-value = omega (arith, value-snoc 0 ds (48 + n % 10), s.of-value);
  some = omega (arith, length-append ds ((48 + n % 10) ∷ []));
  no_zero = λ p e. s.no_zero (omega arith) (sym (first-snoc ds (48 + n % 10) s.some) ∙ e);
}

some-power : (k n : ℕ) → 10 ≤ n → n < 10 ^ suc k → 1 ≤ k
some-power zero n p h = absurd (omega arith)
some-power (suc k) n p h = omega arith

tenth-below : (k n : ℕ) → n < 10 ^ suc k → n / 10 < 10 ^ k
tenth-below k n h = omega (arith, pow-succ' 10 k)

shows_in : (k n : ℕ) → 1 ≤ k → n < 10 ^ k → Shows (decimal_in k n) n
shows_in zero n l h = absurd (omega arith)
shows_in (suc k) n l h = go (dec_le 10 n) (shows_in k (n / 10))
  where
    go : Dec (10 ≤ n) → (1 ≤ k → n / 10 < 10 ^ k → Shows (decimal_in k (n / 10)) (n / 10)) → Shows (decimal_in (suc k) n) n
    go (yes p) ih = rw (more-digits k n p) (shows_more (decimal_in k (n / 10)) n p (ih (some-power k n p h) (tenth-below k n h)))
    go (no p) ih = rw (one-digit k n (omega arith)) (shows-one n (omega arith))

-- the decimal digits of a number
pub decimal-shows : (n : ℕ) → n < 2 ^ 64 → Shows (decimal n) n
decimal-shows n h = shows_in 20 n (omega arith) (omega arith)

-- what is printed is read as the same number
pub read_back : (n : ℕ) → n ≤ 4294967295 → number (decimal n) ≡ Some n
unfolding digits_only number pick
read_back n h =
    let s = decimal-shows n (omega arith) in
    whole (decimal n) s.some
    ∙ rw (s.are-digits, s.of-value, le-leb n 4294967295 h)
  where
    whole : (ds : List ℕ) → 1 ≤ length ds → number ds ≡ digits_only ds
    whole [] l = absurd (omega arith)
    whole (d ∷ ds) l = refl

-- the digits that std prints
same_one : (m n : ℕ) → 1 ≤ m → n < 10 → (48 + n) ∷ [] ≡ decimal_in m n
same_one zero n l h = absurd (omega arith)
same_one (suc m) n l h = sym (one-digit m n h)

same_more : (m n : ℕ) (ds : List ℕ) → 1 ≤ m → n < 10 ^ m → 10 ≤ n → ((j : ℕ) → 1 ≤ j → n / 10 < 10 ^ j → ds ≡ decimal_in j (n / 10))
    → ds ++ ((48 + n % 10) ∷ []) ≡ decimal_in m n
same_more zero n ds l h p ih = absurd (omega arith)
same_more (suc m) n ds l h p ih =
    ap (λ (z : List ℕ). z ++ ((48 + n % 10) ∷ [])) (ih m (some-power m n p h) (tenth-below m n h)) ∙ sym (more-digits m n p)

pub same_digits : (n : ℕ) → n < 2 ^ 64 → printed_decimal n ≡ decimal n
same_digits n h =
    decimal_by_steps (λ (k : ℕ) (ds : List ℕ). (m : ℕ) → 1 ≤ m → k < 10 ^ m → ds ≡ decimal_in m k)
    (λ k s m l b. same_one m k l s)
    (λ k ds p ih m l b. same_more m k ds l b p ih)
    n h 20 (omega arith) (omega arith)

-- there are at most twenty
pub decimal-length : (k n : ℕ) → length (decimal_in k n) ≤ k
unfolding decimal_in
decimal-length zero n = omega arith
decimal-length (suc k) n = go (dec_le 10 n) (decimal-length k (n / 10))
  where
    go : Dec (10 ≤ n) → length (decimal_in k (n / 10)) ≤ k → length (decimal_in (suc k) n) ≤ suc k
    go (yes p) ih = rw (more-digits k n p, length-append) (omega arith)
    go (no p) ih = rw (one-digit k n (omega arith)) (omega arith)
