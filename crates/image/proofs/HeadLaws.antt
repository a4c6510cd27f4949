-- The header's fields and tests, over plain numbers. Assumes nothing.
use mathlib.Core.Path.{◌≡◌, refl, sym, ap, ◌∙◌}
use mathlib.Core.Bool.{Bool, true, false, ◌&&◌}
use mathlib.Core.List.{List, [], ◌∷◌}
use Prim.Native.Nat.{ℕ, zero, suc, ◌+◌, ◌-◌, ◌*◌, ◌/◌, ◌%◌, ◌^◌, ◌≤◌, ◌<◌, min}
use native.Mathlib.Nat.{mul-le-mul_right, mul_comm, mul-suc, div-mul-le_self, lt-div-mul-add, lt_of_mul-lt-mul_left}
use native.Mathlib.Numerals.{add-one}
use native.Mathlib.Omega.{arith}
use lib.ListN.{length, get_or, drop, drop_of_length-le}
use lib.Seq.{drop-cons}
use lib.Pow.{pow_pos}
use lib.Dec.{eqb, leb, ltb}
use borrow.Author.Tests.{lt-leb, le-ltb, leb-true, eqb-true}
use Rattle.std.proofs.lemmas.Grind.{div_ceil_times}
use Rattle.lists.specs.Lists.{every, part}
use Rattle.lists.proofs.Parts.{length_part}
use Rattle.lists.proofs.Tests.{each, every-no}
use Rattle.bits.specs.Numbers.{number_at}
use Rattle.bits.proofs.Little.{bytes-part, number_small}
use Rattle.reserve.specs.Reserve.{digits}
use Rattle.reserve.proofs.Exact.{digits_le}
use Rattle.image.specs.Check.{head_tests, headed, wide_right}
use Rattle.image.specs.Code.Head.{Opened}
use Rattle.image.specs.Image.{bytes_for, code_start, header_length, max_hours, max_total, narrow_total, pages, size, table_at, total_width, wide}
use Rattle.image.specs.Read.{code_at, e_of, l_of, n_of, page_count_of, s_of, wide_of, width_of}
use Rattle.image.proofs.Editions.{header-least, header-most}
use Rattle.image.proofs.PageLaws.{pages-tight}
use Rattle.image.specs.declared.head.Head.{Head}

-- ---- how many pages and bytes
pub pages-le : (e n : ℕ) → pages e n ≤ n
pages-le e n = go (pages e n) (pages-tight e n)
  where
    go : (k : ℕ) → ((p : ℕ) → p < k → 2 ^ e * p < n) → k ≤ n
    go zero h = omega arith
    go (suc k) h = omega (arith, h k (omega arith), mul-le-mul_right k (pow_pos e))

-- rounded up
pub ceil-is : (n m : ℕ) → 1 ≤ m → n / m + min 1 (n % m) ≡ (n + (m - 1)) / m
ceil-is n m h =
    let q : ℕ = n / m + min 1 (n % m) in
    let k : ℕ = (n + (m - 1)) / m in
    let a = div_ceil_times n m h in
    let low = div-mul-le_self (n + (m - 1)) m in
    let high = lt-div-mul-add {a = n + (m - 1)} {b = m} h in
    let x : m * q < m * suc k = omega (arith, a.0, a.1, high, mul_comm q m, mul_comm k m, mul-suc m k) in
    let y : m * k < m * suc q = omega (arith, a.0, a.1, low, mul_comm q m, mul_comm k m, mul-suc m q) in
    omega (arith, lt_of_mul-lt-mul_left m x, lt_of_mul-lt-mul_left m y)

pub pages-of-is : (e n m : ℕ) → m ≡ 2 ^ e → (n / m + min 1 (n % m) ≡ pages e n) × (n / m + min 1 (n % m) ≤ n)
unfolding pages
pages-of-is e n m h = rw h (let q = ceil-is n (2 ^ e) (pow_pos e) in (q, omega (arith, q, pages-le e n)))

pub size-of-is : (e n l a p t : ℕ) → p ≡ pages e n → a ≡ t + 4 * p → (b : Bool) → t ≡ header_length b → a + (l / 8 + min 1 (l % 8)) ≡ size b e n l
unfolding size bytes_for
size-of-is e n l a p t h g b q = omega (arith, g, ap (λ (k : ℕ). 4 * k) h)

-- ---- two tests, and a table of tests, one after another
pub never : false ≡ true → ⊥
never e = let z : ◌≡◌ {A = ℕ} 0 1 = cc in omega arith

every-next : (bs : List Bool) (i : ℕ) → i < length bs → every (drop i bs) ≡ (get_or bs i false && every (drop (i + 1) bs))
unfolding every
every-next bs i l = ap every (drop-cons bs i false l ∙ ap (λ (n : ℕ). get_or bs i false ∷ drop n bs) (sym (add-one i)))

pub every-on : (bs : List Bool) (i : ℕ) → i < length bs → get_or bs i false ≡ true → every (drop i bs) ≡ every (drop (i + 1) bs)
every-on bs i l e = every-next bs i l ∙ ap (λ (z : Bool). z && every (drop (i + 1) bs)) e

pub every-stop : (bs : List Bool) (i : ℕ) → i < length bs → get_or bs i false ≡ false → every (drop i bs) ≡ false
every-stop bs i l e = every-next bs i l ∙ ap (λ (z : Bool). z && every (drop (i + 1) bs)) e

pub every-end : (bs : List Bool) (i : ℕ) → length bs ≤ i → every (drop i bs) ≡ true
unfolding every
every-end bs i l = ap every (drop_of_length-le bs l)

-- ---- the header's tests
-- under 16 bytes, or 24 of edition 2
pub too_short : (s : List ℕ) (n : ℕ) → n ≤ header_length (wide_of s) → length s < n → headed s ≡ false
unfolding headed
too_short s n m l = every-no (head_tests s) 0 (lt-leb (header_length (wide_of s)) (length s) (omega arith))

-- S past the test of edition 2
pub wide-most : (s : List ℕ) → wide_of s ≡ true → wide_right true s ≡ true → s_of s ≤ max_total
unfolding wide_right
wide-most s w q = leb-true (s_of s) max_total (each (ltb narrow_total (s_of s) ∷ leb (s_of s) max_total ∷ eqb (number_at s 20 4) 0 ∷ []) q).1.0

pub headed-long : (s : List ℕ) → headed s ≡ true → header_length (wide_of s) ≤ length s
unfolding headed
headed-long s e = leb-true (header_length (wide_of s)) (length s) (each _ e).0

-- four bytes are a small number
pub word-most : (s : List ℕ) → ((i : ℕ) → get_or s i 0 < 256) → (a : ℕ) → a + 4 ≤ length s → number_at s a 4 ≤ 4294967295
word-most s h a l = omega (arith, number_small (part s a 4) (bytes-part s h a 4), ap (λ (k : ℕ). 256 ^ k) (length_part s a 4 l))

-- S of bytes past refusal 5
pub headed-total : (s : List ℕ) → ((i : ℕ) → get_or s i 0 < 256) → headed s ≡ true → s_of s ≤ max_total
unfolding headed s_of
headed-total s h e = go (wide_of s) refl (each _ e).1.1.1.1.1.1.1.0
  where
    go : (b : Bool) → wide_of s ≡ b → wide_right (wide_of s) s ≡ true → s_of s ≤ max_total
    go false w q =
        omega (arith, word-most s h 8 (omega (arith, headed-long s e, header-least (wide_of s))), ap (λ (b : Bool). number_at s 8 (total_width b)) w)
    go true w q = wide-most s w (ap (λ (c : Bool). wide_right c s) (sym w) ∙ q)

-- their edition is the one of their S
pub headed-wide : (s : List ℕ) → ((i : ℕ) → get_or s i 0 < 256) → headed s ≡ true → wide (s_of s) ≡ wide_of s
unfolding headed s_of wide wide_right
headed-wide s h e = go (wide_of s) refl (each _ e).1.1.1.1.1.1.1.0
  where
    go : (b : Bool) → wide_of s ≡ b → wide_right (wide_of s) s ≡ true → wide (s_of s) ≡ wide_of s
    go false w q =
        le-ltb narrow_total (s_of s)
        (omega (arith, word-most s h 8 (omega (arith, headed-long s e, header-least (wide_of s))), ap (λ (b : Bool). number_at s 8 (total_width b)) w)) ∙ sym w
    go true w q =
        (each (ltb narrow_total (s_of s) ∷ leb (s_of s) max_total ∷ eqb (number_at s 20 4) 0 ∷ []) (ap (λ (c : Bool). wide_right c s) (sym w) ∙ q)).0 ∙ sym w

-- ---- past refusal 5: all that the code needs to know of the numbers
pub record Bounds (s : List ℕ) (h : Head) : Type 0 where
  pub e-high : h.e ≤ 8
  pub hours-high : h.hours ≤ max_hours
  pub few : page_count_of s ≤ max_hours
  pub code-at : code_at s ≡ code_start (wide_of s) (page_count_of s)
  pub table-low : h.table ≤ 24
  pub long : length s ≡ table_at (wide_of s) (page_count_of s) + (h.bits + 7) / 8
  pub width : digits h.total ≡ width_of s
  pub narrow : width_of s ≤ 40
  pub head-low : 16 ≤ header_length (wide_of s)
  pub head-high : header_length (wide_of s) ≤ 24

pub bounds : (s : List ℕ) (h : Head) → Opened s h → Bounds s h
unfolding headed page_count_of size bytes_for width_of code_at
bounds s h o =
    let w = each _ o.passed in
    let q = o.head in
    let n : n_of s ≤ max_hours = leb-true (n_of s) max_hours w.1.1.1.1.1.1.0 in
    record {
      e-high = omega (arith, q.e-is, leb-true (e_of s) 8 w.1.1.1.0);
      hours-high = omega (arith, q.hours-is);
      few = omega (arith, pages-le (e_of s) (n_of s));
      code-at = refl;
      table-low = omega (arith, q.table_is, header-most (wide_of s));
      long = omega (arith, eqb-true (length s) (size (wide_of s) (e_of s) (n_of s) (l_of s)) w.1.1.1.1.1.1.1.1.0, ap (λ (z : ℕ). (z + 7) / 8) q.bits_is);
      width = ap digits q.total-is;
      narrow = digits_le (s_of s) 40 (omega (arith, q.total-is, q.total-small));
      head-low = header-least (wide_of s);
      head-high = header-most (wide_of s);
    }
