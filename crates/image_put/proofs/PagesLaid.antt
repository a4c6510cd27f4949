-- The pages of an image put into a buffer, one after another. Assumes nothing.
use mathlib.Core.Path.{◌≡◌, refl, sym, ap, ap₂, ◌∙◌}
use mathlib.Core.List.{List}
use Prim.Native.Nat.{ℕ, ◌+◌, ◌-◌, ◌*◌, ◌/◌, ◌^◌, ◌≤◌, ◌<◌}
use native.Mathlib.Nat.{mul-zero}
use native.Mathlib.Numerals.{add-one}
use native.Mathlib.Omega.{arith}
use lib.ListN.{length, get_or, replicate, take}
use Rattle.lists.specs.Lists.{concat, splice, sum, tabulate}
use Rattle.lists.proofs.Parts.{length-splice}
use Rattle.bits.specs.Bits.{bits}
use Rattle.bits.specs.Numbers.{little}
use Rattle.bits.proofs.Laws.{length-bits}
use Rattle.image.specs.Image.{bytes_for, code, code_start, header, header_length, image, max_total, page_code, pages, size, start, table_at, wide}
use Rattle.image.proofs.ReadLaws.{length-header, length-image}
use Rattle.image.proofs.Editions.{header-least, header-most}
use Rattle.image.proofs.PageLaws.{code-most, pages-few}
use Rattle.image_put.specs.Code.Writing.{Laid, PlaceOf, Room, laid}
use Rattle.image_plan.specs.declared.Layout.{Layout}
use Rattle.image_put.specs.declared.Place.{Place}
use Rattle.image_put.proofs.Writing.{image-put, laid-all, laid_more, laid_none}

-- the buffer with its header
abbrev headed : List ℕ → Layout → List ℕ
headed first r = splice first 0 (header r.e r.hours r.total r.bits)

first-place : (e : ℕ) (xs : List ℕ) → PlaceOf e xs (record { page = 0; start = 0; before = 0 })
unfolding start tabulate concat sum
first-place e xs = record { start_is = refl; before-is = sym (ap (λ (z : ℕ). sum (take z xs)) (mul-zero (2 ^ e))) }

-- the image's bits of code lie in a buffer of that length
code-in : {xs : List ℕ} {r : Layout} {first : List ℕ} (b : List ℕ) → Room xs r first → length b ≡ length first
    → code_start (wide (sum xs)) (pages r.e (length xs)) + length (code r.e xs) ≤ length (bits b)
unfolding size bytes_for
code-in {xs} {r} {first} b g l = omega (arith, g.enough, length-image r.e xs, length-bits b)

-- an image of the layout r ends within n bytes
pub record Ends (r : Layout) (n : ℕ) : Type 0 where
  pub e-most : r.e ≤ 8
  pub code-most : r.code ≤ 524480
  pub table-low : r.table ≤ 24
  pub bits_most : r.bits ≤ max_total
  pub enough : r.code + 8 * ((r.bits + 7) / 8) ≤ 8 * n
  pub long : header_length (wide r.total) ≤ n
  pub short : 16 ≤ n

pub ends : {xs : List ℕ} {r : Layout} {out : List ℕ} → Room xs r out → Ends r (length out)
unfolding size bytes_for
ends {xs} {r} {out} g = record {
  e-most = g.limits.e-high;
  code-most = omega (arith, g.layout.code_is, pages-few r.e (length xs) g.limits.e-low g.limits.hours, header-most (wide (sum xs)));
  table-low = omega (arith, g.layout.table_is, header-most (wide (sum xs)));
  bits_most = omega (arith, g.layout.bits_are, code-most r.e xs g.limits);
  enough = omega (arith, g.layout.code_is, g.layout.bits_are, length-image r.e xs, g.enough);
  long = omega (arith, length-image r.e xs, g.enough, ap (λ (z : ℕ). header_length (wide z)) g.layout.total-is);
  short = omega (arith, length-image r.e xs, g.enough, header-least (wide (sum xs)));
}

-- the header
pub begun : {xs : List ℕ} {r : Layout} (first out : List ℕ) → Room xs r first → ((i : ℕ) → get_or first i 0 < 256) → length out ≡ length first
    → out ≡ splice first 0 (header r.e r.hours r.total r.bits) → Laid xs first out r (record { page = 0; start = 0; before = 0 })
begun {xs} {r} first out g h l q = record {
  room = g;
  bytes = h;
  long = l;
  place = first-place r.e xs;
  most = omega arith;
  bits_are = ap bits q ∙ laid_none (bits (headed first r)) r.e xs;
}

length-headed : (first : List ℕ) (r : Layout) → Ends r (length first) → length (headed first r) ≡ length first
length-headed first r g =
    length-splice first 0 (header r.e r.hours r.total r.bits) (omega (arith, g.long, length-header r.e r.hours r.total r.bits))

-- one page more
pub one_more : {xs first out : List ℕ} {r : Layout} {at : Place} (out₁ : List ℕ) (next : Place) → Laid xs first out r at → at.page < r.pages
    → length out₁ ≡ length out → next.page ≡ at.page + 1 → PlaceOf r.e xs next
    → bits out₁ ≡ splice (splice (bits out) (8 * table_at (wide (sum xs)) at.page) (bits (little 4 (start r.e xs at.page))))
    (code_start (wide (sum xs)) (pages r.e (length xs)) + start r.e xs at.page) (page_code r.e xs at.page)
    → Laid xs first out₁ r next
one_more {xs} {first} {out} {r} {at} out₁ next a l k n p q =
    let b : List ℕ = bits (headed first r) in
    let same : length (headed first r) ≡ length first = length-headed first r (ends a.room) in
    record {
      room = a.room;
      bytes = a.bytes;
      long = k ∙ a.long;
      place = p;
      most = omega arith;
      bits_are =
          laid_more b (bits out₁) r.e xs at.page (omega (arith, a.room.layout.pages-are)) (code-in (headed first r) a.room same)
          (rw a.bits_are at q) ∙ ap (laid b r.e xs) (sym (n ∙ add-one at.page));
    }

-- all pages, and the zeros behind them
pub ended : {xs first out : List ℕ} {r : Layout} {at : Place} (out₁ : List ℕ) → Laid xs first out r at → r.pages ≤ at.page
    → ((i : ℕ) → get_or out₁ i 0 < 256)
    → bits out₁ ≡ splice (bits out) (r.code + r.bits) (replicate (8 * ((r.bits + 7) / 8) - r.bits) 0)
    → out₁ ≡ splice first 0 (image r.e xs)
unfolding bytes_for
ended {xs} {first} {out} {r} {at} out₁ a l h q =
    let t = a.room.layout in
    let same = length-headed first r (ends a.room) in
    let z : ℕ = 8 * ((r.bits + 7) / 8) - r.bits in
    let header_is : headed first r ≡ splice first 0 (header r.e (length xs) (sum xs) (length (code r.e xs))) =
    ap₂ (λ (n y : ℕ). splice first 0 (header r.e n y r.bits)) t.hours-are t.total-is
    ∙ ap (λ (y : ℕ). splice first 0 (header r.e (length xs) (sum xs) y)) t.bits_are in
    image-put r.e xs first (headed first r) out out₁ z a.room.limits.e-high a.room.enough a.bytes h header_is
    (a.bits_are ∙ laid-all (bits (headed first r)) r.e xs at.page (omega (arith, a.most, t.pages-are)) (code-in (headed first r) a.room same))
    (ap (λ (y : ℕ). 8 * ((y + 7) / 8) - y) t.bits_are)
    (q ∙ ap₂ (λ (x y : ℕ). splice (bits out) (x + y) (replicate z 0)) t.code_is t.bits_are)
