-- Pages of an image that are smaller than the store's: how they lie in a page of the store, and its tree. Assumes nothing.
use mathlib.Core.Path.{◌≡◌, refl, sym, ap, ◌∙◌}
use mathlib.Core.List.{List}
use Prim.Native.Nat.{ℕ, ◌+◌, ◌-◌, ◌*◌, ◌^◌, ◌≤◌, ◌<◌}
use native.Mathlib.Decide.{dec_le}
use native.Mathlib.Nat.{lt_of_mul-lt-mul_left, mul-le-mul_left}
use native.Mathlib.Omega.{arith}
use lib.ListN.{length, get_or, replicate, length-replicate}
use lib.Pow.{pow-add, pow_mono, pow_pos}
use Rattle.lists.specs.Lists.{part, sum, window}
use Rattle.lists.proofs.Zeros.{zeros-at}
use Rattle.bits.specs.Bits.{bits}
use Rattle.reserve.specs.Reserve.{reserve}
use Rattle.tree.specs.Tree.{tree}
use Rattle.image.specs.Image.{page}
use Rattle.image.proofs.PageLaws.{page-le}
use Rattle.pages.specs.Gathered.{Gathered}
use Rattle.pages.proofs.Coding.{lies, tree-at}
use Rattle.pages.proofs.SoundPage.{sum_same, sum-small}
use Rattle.store.specs.Code.Hours.{OfPage}
use Rattle.store.specs.Plain.{page as store_page}
use Rattle.store.specs.Reading.{list_in}
use Rattle.freeze_plan.specs.Code.Parts.{Branch}

-- ---- how many make one of the store's
pub low : (e : ℕ) → 2 ^ e < 64 → e < 6
low e l = go (dec_le 6 e)
  where
    go : Dec (6 ≤ e) → e < 6
    go (yes y) = absurd (omega (arith, pow_mono {i = 6} {j = e} y))
    go (no y) = omega (arith, y)

whole : (e w : ℕ) → w ≡ 2 ^ (6 - e) → 2 ^ e < 64 → 2 ^ e * w ≡ 64
whole e w q l =
    let x : e + (6 - e) ≡ 6 = omega (arith, low e l) in
    ap (λ (z : ℕ). 2 ^ e * z) q ∙ sym (pow-add 2 e (6 - e)) ∙ ap (λ (z : ℕ). 2 ^ z) x

pub few : (e w : ℕ) → w ≡ 2 ^ (6 - e) → 2 ≤ e → w ≤ 16
few e w q l = rw q (pow_mono {i = 6 - e} {j = 4} (omega arith))

-- page d of the image lies in page p of the store, which has w of its pages
pub record Part (w p d : ℕ) : Type 0 where
  pub low : w * p ≤ d
  pub high : d < w * p + w

start-in : (m w p d : ℕ) → m * w ≡ 64 → 64 * p < m * (d + 1) → w * p ≤ d
start-in m w p d q l =
    let x : w * p < d + 1 = lt_of_mul-lt-mul_left m (omega (arith, ap (λ (y : ℕ). y * p) q)) in
    omega arith

end-in : (m w p d : ℕ) → m * w ≡ 64 → 0 < m → m * (d + 1) ≤ 64 * p + 64 → d < w * p + w
end-in m w p d q k l = lt_of_mul-lt-mul_left m (omega (arith, ap (λ (y : ℕ). y * p) q))

-- a page that ends in page p starts there too
pub starts-in : (e w p d : ℕ) → w ≡ 2 ^ (6 - e) → 2 ^ e < 64 → 64 * p < 2 ^ e * (d + 1) → w * p ≤ d
starts-in e w p d q l h = start-in (2 ^ e) w p d (whole e w q l) h

pub part_in : (e w p d end : ℕ) → w ≡ 2 ^ (6 - e) → 2 ^ e < 64 → d < end → 2 ^ e * end ≤ 64 * p + 64 → w * p ≤ d → Part w p d
part_in e w p d end q l k h a =
    let x : d + 1 ≤ end = omega arith in
    record { low = a; high = end-in (2 ^ e) w p d (whole e w q l) (pow_pos e) (omega (arith, mul-le-mul_left (2 ^ e) x)) }

-- its counts are those of the part with its number less that of the first
part-from : (m w p d i : ℕ) → m * w ≡ 64 → d ≡ w * p + i → 64 * p + m * i ≡ m * d
part-from m w p d i q s = omega (arith, ap (λ (y : ℕ). y * p) q, ap (λ (y : ℕ). m * y) s)

pub part-sum : (xs : List ℕ) (e w p d t : ℕ) → w ≡ 2 ^ (6 - e) → 2 ^ e < 64 → Part w p d
    → t ≡ sum (window xs (64 * p + 2 ^ e * (d - w * p)) (2 ^ e)) → t ≡ sum (window xs (2 ^ e * d) (2 ^ e))
part-sum xs e w p d t q l i s =
    let x : d ≡ w * p + (d - w * p) = omega (arith, i.low) in
    s ∙ ap (λ (z : ℕ). sum (window xs z (2 ^ e))) (part-from (2 ^ e) w p d (d - w * p) (whole e w q l) x)

-- and their sum is no larger than the total
pub part-most : (e : ℕ) (xs : List ℕ) (d t : ℕ) → sum xs ≤ 4294967295 → t ≡ sum (window xs (2 ^ e * d) (2 ^ e)) → t ≤ 4294967295 * 2 ^ e
unfolding page
part-most e xs d t h q =
    let x : t ≡ sum (page e xs d) = q in
    omega (arith, page-le e xs d, pow_pos e)

-- ---- the tree of a page of the store
page-window : (xs : List ℕ) (p : ℕ) → store_page xs p ≡ window xs (64 * p + 2 ^ 6 * 0) (2 ^ 6)
unfolding store_page window
page-window xs p = ap (λ (z : ℕ). window xs z 64) {x = 64 * p} {y = 64 * p + 0} (omega arith)

module _ {s code out : List ℕ} {P p t k : ℕ} (e : ℕ) (o : OfPage s P p t k) (g : Gathered s p code)
    (n : length code ≡ 240) (z : out ≡ replicate 16 0) (l : 2 ≤ e) (u : 2 ^ e < 64) where
  pub page-sum : t ≡ sum (window (list_in s) (64 * p + 2 ^ 6 * 0) (2 ^ 6))
  page-sum = sum_same o ∙ ap sum (page-window (list_in s) p)

  pub page-tree : part (bits code) 0 (reserve 6 t) ≡ tree 6 (window (list_in s) (64 * p + 2 ^ 6 * 0) (2 ^ 6))
  page-tree =
      ap (λ (y : ℕ). part (bits code) 0 (reserve 6 y)) (sum_same o) ∙ tree-at code (store_page (list_in s) p) _ g.code_is
      ∙ ap (tree 6) (page-window (list_in s) p)

  pub page-height : 6 ≡ e + (6 - e)
  page-height = omega (arith, low e u)

  pub page-room : 2 ^ (6 - e) * (0 + 1) ≤ length out
  page-room = omega (arith, few e (2 ^ (6 - e)) refl l, ap length z, length-replicate {A = ℕ} 16 0)

  pub page-zeros : (j : ℕ) → 2 ^ (6 - e) * 0 ≤ j → j < 2 ^ (6 - e) * (0 + 1) → get_or out j 0 ≡ 0
  page-zeros j x y = ap (λ (y : List ℕ). get_or y j 0) z ∙ zeros-at 16 j

  abbrev pub page-branch : Branch code 0 6 e t 0 out
  page-branch = record {
    xs = list_in s;
    from = 64 * p;
    k = 6 - e;
    height = page-height;
    lies = lies code t n (sum-small o);
    sum_is = page-sum;
    tree_is = page-tree;
    room = page-room;
    zeros = page-zeros;
  }
