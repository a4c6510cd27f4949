-- The numbers of a block of 256 hours of an accepted image. Assumes nothing.
use mathlib.Core.Path.{◌≡◌, refl, sym, ap, ◌∙◌}
use mathlib.Core.List.{List}
use Prim.Native.Nat.{ℕ, ◌+◌, ◌-◌, ◌*◌, ◌^◌, ◌≤◌, ◌<◌, min}
use native.Mathlib.Nat.{mul-le-mul_left}
use native.Mathlib.Omega.{arith}
use lib.ListN.{length}
use lib.Pow.{pow_mono}
use Rattle.image.specs.Image.{pages}
use Rattle.image.specs.Read.{e_of, list_of, page_count_of}
use Rattle.image.specs.declared.head.Head.{Head}
use Rattle.image.specs.declared.opened.Accepted.{Accepted}
use Rattle.image.proofs.Accepted.{accepted-only, length-list}
use Rattle.image.proofs.Blocks.{Sizes, sizes}
use Rattle.image.proofs.PageLaws.{pages-cover}

-- m hours a page, w pages a block; block b has some pages, from page first on
pub record Known (s : List ℕ) (h : Head) (b m w first some : ℕ) : Type 0 where
  pub sizes-are : Sizes m w
  pub m-is : m ≡ 2 ^ e_of s
  pub first-is : first ≡ w * b
  pub some_is : some ≡ min (pages (e_of s) (length (list_of s)) - first) w
  pub some-few : some ≤ w
  pub pages-are : page_count_of s ≡ pages (e_of s) (length (list_of s))
  pub first_small : first ≤ 65536
  pub cover : length (list_of s) ≤ m * pages (e_of s) (length (list_of s))
  pub begins : m * first ≡ 256 * b

pub known : (i : Accepted) {b m w x some : ℕ} → b ≤ 256 → m ≡ 2 ^ i.head.e → w ≡ 2 ^ (8 - i.head.e) → x ≡ i.head.pages - w * b → some ≡ min x w
    → Known i.bytes.now i.head b m w (w * b) some
unfolding page_count_of
known i {b} {m} {w} l em ew ex es =
    let s : List ℕ = i.bytes.now in
    let o = i.head_of in
    let first : ℕ = w * b in
    let e8 : i.head.e ≤ 8 = omega (arith, o.e-is, (accepted-only s i.accepted).limits.e-high) in
    let z : Sizes m w = sizes i.head.e m w e8 em ew in
    let p : i.head.pages ≡ pages (e_of s) (length (list_of s)) = o.pages-are ∙ ap (pages (e_of s)) (sym (length-list s)) in
    let n : m ≡ 2 ^ e_of s = em ∙ ap (λ (y : ℕ). 2 ^ y) o.e-is in
    record {
      sizes-are = z;
      m-is = n;
      first-is = refl;
      some_is = es ∙ ap (λ (y : ℕ). min y w) (ex ∙ ap (λ (y : ℕ). y - first) p);
      some-few = omega arith;
      pages-are = ap (pages (e_of s)) (sym (length-list s));
      first_small = omega (arith, mul-le-mul_left w l, z.w-most);
      cover = omega (arith, pages-cover (e_of s) (length (list_of s)), ap (λ (y : ℕ). y * pages (e_of s) (length (list_of s))) n);
      begins = omega (arith, ap (λ (y : ℕ). y * b) z.whole);
    }

-- page j of the block is one of the image
pub inside : {s : List ℕ} {h : Head} {b m w first some : ℕ} → Known s h b m w first some → (j : ℕ) → j < some → first + j < page_count_of s
inside k j l = omega (arith, k.some_is, k.pages-are)

pub first_fits : (e w b : ℕ) → w ≡ 2 ^ (8 - e) → b ≤ 256 → w * b < 2 ^ 64
first_fits e w b q l =
    let x : w ≤ 256 = rw q (pow_mono {i = 8 - e} {j = 8} (omega arith)) in
    omega (arith, mul-le-mul_left w l)

-- room for one more page
pub room : (m w k : ℕ) → m * w ≡ 256 → k < w → m * k + m ≤ 256
room m w k h l = omega (arith, mul-le-mul_left m (let x : k + 1 ≤ w = omega arith in x))
