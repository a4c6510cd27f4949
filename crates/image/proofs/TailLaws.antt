-- The header's tail of either edition, and the whole header with it. Assumes nothing.
use mathlib.Core.Path.{◌≡◌, refl, sym, ap, ap₂, ◌∙◌}
use mathlib.Core.Bool.{Bool, true, false}
use mathlib.Core.List.{List, [], ◌∷◌, ◌++◌}
use Prim.Native.Nat.{ℕ, ◌+◌, ◌*◌, ◌/◌, ◌%◌, ◌^◌, ◌≤◌, ◌<◌}
use native.Mathlib.Nat.{pow-succ'}
use native.Mathlib.Omega.{arith}
use lib.ListN.{length, get_or}
use lib.Dec.{eqb, leb, ltb}
use borrow.Author.Tests.{le-leb, lt-ltb, leb-true, ltb-true, eq-eqb, ne_eqb, eqb-true}
use Rattle.lists.proofs.Tests.{each, every-no, every_of}
use Rattle.bits.specs.Numbers.{Number, number, number_at}
use Rattle.image.specs.Check.{head_tests, headed, wide_right}
use Rattle.image.specs.Code.Head.{HeadOf, HeadWith, Opened, TailOf}
use Rattle.image.specs.Image.{bits_place, bytes_for, edition, header_length, max_hours, max_total, narrow_total, pages, size, total_width}
use Rattle.image.specs.Read.{code_at, e_of, l_of, n_of, page_count_of, s_of, wide_of}
use Rattle.image.proofs.Editions.{header-most}
use Rattle.image.proofs.HeadLaws.{pages-le, too_short}
use Rattle.image.specs.declared.head.Head.{Head}
use Rattle.image.specs.declared.head.Tail.{Tail}

-- a test that cannot hold
refuted : (b : Bool) → (b ≡ true → ⊥) → b ≡ false
refuted true h = absurd (h refl)
refuted false h = refl

-- ---- edition 1
pub narrow-read : (s : List ℕ) {t l : ℕ} → 16 ≤ length s → get_or s 0 0 ≡ 1 → Number s 8 4 t → Number s 12 4 l
    → TailOf s (record { total = t; bits = l; table = 16 })
unfolding wide_of wide_right s_of l_of
narrow-read s {t} {l} long one g h =
    let w : wide_of s ≡ false = ap (λ (k : ℕ). eqb k 2) one in
    record {
      edition-is = one ∙ ap edition (sym w);
      long = omega (arith, ap header_length w);
      right = ap (λ (b : Bool). wide_right b s) w;
      total-is = g.is ∙ ap (λ (b : Bool). number_at s 8 (total_width b)) (sym w);
      bits_is = h.is ∙ ap (λ (b : Bool). number_at s (bits_place b) 4) (sym w);
      table_is = ap header_length (sym w);
      total-small = omega (arith, g.small);
      bits_small = omega (arith, h.small);
    }

-- ---- edition 2
module _ (s : List ℕ) (two : get_or s 0 0 ≡ 2) where
  is_wide : wide_of s ≡ true
  unfolding wide_of
  is_wide = ap (λ (k : ℕ). eqb k 2) two

  pub wide_short : length s < 24 → headed s ≡ false
  wide_short l = too_short s 24 (omega (arith, ap header_length is_wide)) l

-- the number in two lists, the second behind the first
number-two : (bs cs : List ℕ) → number (bs ++ cs) ≡ number bs + 256 ^ length bs * number cs
unfolding number
number-two [] cs = omega arith
number-two (b ∷ bs) cs = omega (arith, number-two bs cs, ap (λ (k : ℕ). k * number cs) (pow-succ' 256 (length bs)))

module _ (s : List ℕ) {t z : ℕ} (two : get_or s 0 0 ≡ 2) (long : 24 ≤ length s) (g : Number s 8 8 t) (k : Number s 20 4 z) where
  total-is : t ≡ s_of s
  unfolding s_of
  total-is = g.is ∙ ap (λ (b : Bool). number_at s 8 (total_width b)) (sym (is_wide s two))

  right_then : wide_right (wide_of s) s ≡ true → (narrow_total < t) × (t ≤ max_total) × (z ≡ 0)
  unfolding wide_right
  right_then q =
      let w = each (ltb narrow_total (s_of s) ∷ leb (s_of s) max_total ∷ eqb (number_at s 20 4) 0 ∷ []) (ap (λ (b : Bool). wide_right b s) (sym (is_wide s two)) ∙ q) in (
        omega (arith, ltb-true narrow_total (s_of s) w.0, total-is),
        omega (arith, leb-true (s_of s) max_total w.1.0, total-is),
        k.is ∙ eqb-true (number_at s 20 4) 0 w.1.1.0,
      )

  then_right : narrow_total < t → t ≤ max_total → z ≡ 0 → wide_right (wide_of s) s ≡ true
  unfolding wide_right
  then_right low high zero =
      ap (λ (b : Bool). wide_right b s) (is_wide s two)
      ∙ every_of (ltb narrow_total (s_of s) ∷ leb (s_of s) max_total ∷ eqb (number_at s 20 4) 0 ∷ []) (
        lt-ltb narrow_total (s_of s) (omega (arith, low, total-is)),
        (le-leb (s_of s) max_total (omega (arith, high, total-is)), (eq-eqb (number_at s 20 4) 0 (sym k.is ∙ zero), tt)),
      )

  pub wide-wrong : ((narrow_total < t) × (t ≤ max_total) × (z ≡ 0) → ⊥) → headed s ≡ false
  unfolding headed
  wide-wrong q = every-no (head_tests s) 7 (refuted (wide_right (wide_of s) s) (λ r. q (right_then r)))

  pub wide_read : {l : ℕ} → narrow_total < t → t ≤ max_total → z ≡ 0 → Number s 16 4 l → TailOf s (record { total = t; bits = l; table = 24 })
  unfolding l_of
  wide_read {l} low high zero b =
      let w : wide_of s ≡ true = is_wide s two in
      record {
        edition-is = two ∙ ap edition (sym w);
        long = omega (arith, ap header_length w);
        right = then_right low high zero;
        total-is = total-is;
        bits_is = b.is ∙ ap (λ (c : Bool). number_at s (bits_place c) 4) (sym w);
        table_is = ap header_length (sym w);
        total-small = high;
        bits_small = omega (arith, b.small);
      }

-- ---- neither
edition-is-one-of : (b : Bool) → (edition b ≡ 1 → ⊥) → (edition b ≡ 2 → ⊥) → ⊥
edition-is-one-of false p q = p refl
edition-is-one-of true p q = q refl

pub no-edition : (s : List ℕ) → ((b : Bool) → get_or s 0 0 ≡ edition b → ⊥) → headed s ≡ false
unfolding headed
no-edition s f = every-no (head_tests s) 1 (ne_eqb (get_or s 0 0) (edition (wide_of s)) (f (wide_of s)))

-- ---- the whole header. Bytes 1 to 3 are one number
pub record First (s : List ℕ) (w : ℕ) : Type 0 where
  pub low : w % 256 ≡ get_or s 0 0
  pub high : w / 256 ≡ get_or s 1 0 + 256 * (get_or s 2 0 + 256 * get_or s 3 0)

first-alg : (a b c d w : ℕ) → a < 256 → w ≡ a + 256 * (b + 256 * (c + 256 * (d + 256 * 0))) → (w % 256 ≡ a) × (w / 256 ≡ b + 256 * (c + 256 * d))
first-alg a b c d w l e = (omega arith, omega arith)

pub first-bytes : (s : List ℕ) {w : ℕ} → ((i : ℕ) → get_or s i 0 < 256) → 16 ≤ length s → Number s 0 4 w → First s w
unfolding number
first-bytes [] bytes l g = absurd (omega arith)
first-bytes (a ∷ []) bytes l g = absurd (omega arith)
first-bytes (a ∷ b ∷ []) bytes l g = absurd (omega arith)
first-bytes (a ∷ b ∷ c ∷ []) bytes l g = absurd (omega arith)
first-bytes (a ∷ b ∷ c ∷ d ∷ s) {w} bytes l g =
    let q = first-alg a b c d w (bytes 0) g.is in
    record { low = q.0; high = q.1 }

module _ {s : List ℕ} {w n : ℕ} (f : First s w) (m : Number s 4 4 n) where
  pub three-wrong : ((2 ≤ w / 256) × (w / 256 ≤ 8) × (n ≤ max_hours) → ⊥) → headed s ≡ false
  unfolding headed e_of n_of
  three-wrong q = refuted (headed s) no
    where
      no : headed s ≡ true → ⊥
      no h =
          let v = each (head_tests s) h in
          let low = leb-true 2 (e_of s) v.1.1.0 in
          let high = leb-true (e_of s) 8 v.1.1.1.0 in
          let second = eqb-true (get_or s 2 0) 0 v.1.1.1.1.0 in
          let third = eqb-true (get_or s 3 0) 0 v.1.1.1.1.1.0 in
          let hours = leb-true (n_of s) max_hours v.1.1.1.1.1.1.0 in
          q (omega (arith, f.high), omega (arith, f.high, second, third), omega (arith, m.is))

  -- past these three tests
  module _ {t : Tail} (tail-right : TailOf s t) (e-low : 2 ≤ w / 256) (e-high : w / 256 ≤ 8) (hours-few : n ≤ max_hours) where
    pub table-low : t.table ≤ 24
    table-low = omega (arith, tail-right.table_is, header-most (wide_of s))

    e-is : w / 256 ≡ e_of s
    unfolding e_of
    e-is = omega (arith, f.high, e-high)

    module _ {h : Head} (k : HeadWith (w / 256) n t h) where
      head-is : HeadOf s h
      unfolding page_count_of code_at n_of
      head-is =
          let hours : n ≡ n_of s = m.is in
          let many : pages (w / 256) n ≡ pages (e_of s) (n_of s) = ap₂ pages e-is hours in
          record {
            e-is = k.e-is ∙ e-is;
            hours-is = k.hours-is ∙ hours;
            total-is = k.total-is ∙ tail-right.total-is;
            bits_is = k.bits_is ∙ tail-right.bits_is;
            pages-are = k.pages-are ∙ many;
            table_is = k.table_is ∙ tail-right.table_is;
            code_is = k.code_is ∙ ap₂ (λ (x y : ℕ). 8 * (x + 4 * y)) tail-right.table_is many;
            e-small = omega (arith, k.e-is, e-high);
            hours-small = omega (arith, k.hours-is, m.small);
            total-small = omega (arith, k.total-is, tail-right.total-small);
            bits_small = omega (arith, k.bits_is, tail-right.bits_small);
          }

      pub end-small : (h.bits < 4294967296) × (h.code ≤ 2097344)
      end-small = (head-is.bits_small, omega (arith, k.code_is, table-low, hours-few, pages-le (w / 256) n))

      -- the byte length that N, e and L give
      head-end : h.code / 8 + (h.bits + 7) / 8 ≡ size (wide_of s) (e_of s) (n_of s) (l_of s)
      unfolding size bytes_for code_at page_count_of
      head-end = omega (arith, head-is.code_is, ap (λ (z : ℕ). (z + 7) / 8) head-is.bits_is)

      pub length-wrong : {z : ℕ} → z ≡ h.code / 8 + (h.bits + 7) / 8 → (length s ≡ z → ⊥) → headed s ≡ false
      unfolding headed
      length-wrong e g =
          every-no (head_tests s) 8 (ne_eqb (length s) (size (wide_of s) (e_of s) (n_of s) (l_of s)) (λ y. g (y ∙ sym (e ∙ head-end))))

      pub opened : {z : ℕ} → z ≡ h.code / 8 + (h.bits + 7) / 8 → length s ≡ z → Opened s h
      unfolding headed e_of n_of
      opened e y = record {
        head = head-is;
        passed =
            every_of (head_tests s) (
              le-leb (header_length (wide_of s)) (length s) tail-right.long,
              (
                eq-eqb (get_or s 0 0) (edition (wide_of s)) tail-right.edition-is,
                (
                  le-leb 2 (e_of s) (omega (arith, e-is)),
                  (
                    le-leb (e_of s) 8 (omega (arith, e-is, e-high)),
                    (
                      eq-eqb (get_or s 2 0) 0 (omega (arith, f.high, e-high)),
                      (
                        eq-eqb (get_or s 3 0) 0 (omega (arith, f.high, e-high)),
                        (
                          le-leb (n_of s) max_hours (omega (arith, m.is, hours-few)),
                          (
                            tail-right.right,
                            (
                              eq-eqb (length s) (size (wide_of s) (e_of s) (n_of s) (l_of s)) (y ∙ e ∙ head-end),
                              tt,
                            ),
                          ),
                        ),
                      ),
                    ),
                  ),
                ),
              ),
            );
      }
