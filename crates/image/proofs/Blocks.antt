-- The pages of an image in blocks of 256 hours. Assumes nothing.
use mathlib.Core.Path.{◌≡◌, sym, ap, ap₂, ◌∙◌}
use mathlib.Core.List.{List}
use Prim.Native.Nat.{ℕ, ◌+◌, ◌-◌, ◌*◌, ◌^◌, ◌≤◌, ◌<◌}
use native.Mathlib.Nat.{mul-le-mul_left}
use native.Mathlib.Omega.{arith}
use lib.Pow.{pow-add, pow_mono, pow_pos}
use Rattle.lists.specs.Lists.{window}
use Rattle.lists.proofs.Blocks.{window-in}
use Rattle.lists.proofs.Pages.{paged}
use Rattle.image.specs.Image.{page, pages}
use Rattle.image.proofs.PageLaws.{pages-cover, pages-tight}

-- 2^e = m counts a page, w pages a block
pub record Sizes (m w : ℕ) : Type 0 where
  pub whole : m * w ≡ 256
  pub m-low : 1 ≤ m
  pub m-most : m ≤ 256
  pub w-low : 1 ≤ w
  pub w-most : w ≤ 256

pub sizes : (e m w : ℕ) → e ≤ 8 → m ≡ 2 ^ e → w ≡ 2 ^ (8 - e) → Sizes m w
sizes e m w l em ew =
    let q : e + (8 - e) ≡ 8 = omega arith in
    record {
      whole = ap₂ ◌*◌ em ew ∙ sym (pow-add 2 e (8 - e)) ∙ ap (λ (z : ℕ). 2 ^ z) q;
      m-low = rw em (pow_pos e);
      m-most = rw em (pow_mono {i = e} {j = 8} l);
      w-low = rw ew (pow_pos (8 - e));
      w-most = rw ew (pow_mono {i = 8 - e} {j = 8} (omega arith));
    }

pub page-is : (e m : ℕ) (xs : List ℕ) (q : ℕ) → m ≡ 2 ^ e → page e xs q ≡ paged m xs q
unfolding page window
page-is e m xs q em = ap (λ (z : ℕ). paged z xs q) (sym em)

-- page q of block b
pub record In (m b q : ℕ) : Type 0 where
  pub low : 256 * b ≤ m * q
  pub high : m * q - 256 * b + m ≤ 256

in-alg : (m w b q : ℕ) → m * w ≡ 256 → m * (w * b) ≤ m * q → m * (q + 1) ≤ m * (w * (b + 1)) → In m b q
in-alg m w b q h lo hi =
    let x : m * (w * b) ≡ 256 * b = omega (arith, ap (λ (y : ℕ). y * b) h) in
    record { low = omega arith; high = omega (arith, ap (λ (y : ℕ). y * (b + 1)) h) }

pub in_block : {m w : ℕ} (b q : ℕ) → Sizes m w → w * b ≤ q → q < w * (b + 1) → In m b q
in_block {m} {w} b q s lo hi =
    in-alg m w b q s.whole (mul-le-mul_left m lo) (mul-le-mul_left m (let x : q + 1 ≤ w * (b + 1) = omega arith in x))

-- its counts stand in the block's
pub counts-in : (e m b q : ℕ) (xs cs : List ℕ) → m ≡ 2 ^ e → In m b q → cs ≡ window xs (256 * b) 256 → window cs (m * q - 256 * b) (2 ^ e) ≡ page e xs q
unfolding page
counts-in e m b q xs cs em i ec =
    let a = i.low in
    let h : m * q - 256 * b + 2 ^ e ≤ 256 = omega (arith, i.high, em) in
    ap (λ (z : List ℕ). window z (m * q - 256 * b) (2 ^ e)) ec ∙ window-in xs (256 * b) 256 (m * q - 256 * b) (2 ^ e) h
    ∙ ap (λ (z : ℕ). window xs z (2 ^ e)) {x = 256 * b + (m * q - 256 * b)} {y = m * q} (omega arith)
    ∙ ap (λ (z : ℕ). window xs (z * q) (2 ^ e)) em

-- a block with a page of a list begins before the list's end
pub block-begins : (e m w b q n : ℕ) → Sizes m w → m ≡ 2 ^ e → q ≡ w * b → q < pages e n → 256 * b < n
block-begins e m w b q n z em eq l =
    let t : 2 ^ e * q < n = pages-tight e n q l in
    let x : m * q ≡ 256 * b = ap (λ (y : ℕ). m * y) eq ∙ omega (arith, ap (λ (y : ℕ). y * b) z.whole) in
    omega (arith, ap (λ (y : ℕ). y * q) em)

-- and is one of 256
pub block-few : (e m w b q n : ℕ) → Sizes m w → m ≡ 2 ^ e → q ≡ w * b → q < pages e n → n ≤ 65536 → b ≤ 255
block-few e m w b q n z em eq l h = omega (arith, block-begins e m w b q n z em eq l)

-- with all its pages in the blocks so far, a list has no more hours than they
pub hours-in : (e m w b n : ℕ) → Sizes m w → m ≡ 2 ^ e → pages e n ≤ w * b → n ≤ 256 * b
hours-in e m w b n z em l =
    omega (arith, pages-cover e n, ap (λ (y : ℕ). y * pages e n) em, mul-le-mul_left m l, ap (λ (y : ℕ). y * b) z.whole)
