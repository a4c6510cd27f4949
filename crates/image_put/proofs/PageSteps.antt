-- One page put into a buffer: its numbers, and its bits. Assumes nothing.
use mathlib.Core.Path.{◌≡◌, sym, ap, ap₂, ◌∙◌}
use mathlib.Core.List.{List, ◌++◌}
use Prim.Native.Nat.{ℕ, suc, ◌+◌, ◌*◌, ◌^◌, ◌≤◌, ◌<◌}
use native.Mathlib.Numerals.{add-one}
use native.Mathlib.Omega.{arith}
use lib.ListN.{length, take}
use lib.Pow.{pow_mono}
use Rattle.lists.specs.Lists.{splice, sum, window}
use Rattle.lists.proofs.Parts.{length-splice, splice-then}
use Rattle.bits.specs.Bits.{bits, field}
use Rattle.bits.specs.Numbers.{little}
use Rattle.bits.proofs.Laws.{length-bits, length-field}
use Rattle.bits.proofs.Little.{length-little}
use Rattle.reserve.specs.Reserve.{digits, reserve}
use Rattle.reserve.proofs.Exact.{digits-is}
use Rattle.tree.specs.Tree.{tree}
use Rattle.tree.proofs.Shape.{length-tree}
use Rattle.image.specs.Image.{Limits, bytes_for, code, image, max_total, page, page_code, pages, root, size, start, table_at, wide}
use Rattle.image_put.specs.Code.Writing.{code_of, head_length, PlaceOf}
use Rattle.image.proofs.Editions.{header-least, header-most}
use Rattle.image.proofs.ReadLaws.{length-image}
use Rattle.image.proofs.PageLaws.{code-most, page-sum, pages-few, root-le, start-next, start-within, width-most}
use Rattle.image_put.proofs.Splices.{bits-splice}

pub size_low : {e m : ℕ} → m ≡ 2 ^ e → e ≤ 8 → m ≤ 256
size_low {e} q l = rw q (pow_mono {i = e} {j = 8} l)

-- page i of the image of xs, whose counts are those of cs from index f on, to be put into n bytes: 2^e = m, r = w, its sum s, its start a,
-- and the sum x of the counts before it
pub record Step (e : ℕ) (xs cs : List ℕ) (f i n m w s a x : ℕ) : Type 0 where
  pub width_is : w ≡ digits (sum xs)
  pub counts-are : window cs f (2 ^ e) ≡ page e xs i
  pub sum_is : s ≡ sum (window cs f (2 ^ e))
  pub root_is : x + s ≡ root e xs i
  pub start_is : a ≡ start e xs i
  pub next-is : a + w + reserve e s ≡ start e xs (suc i)
  pub size-most : m ≤ 256
  pub inside : i < 16384
  pub pages-most : pages e (length xs) ≤ 16384
  pub width_low : w ≤ 40
  pub head-low : 16 ≤ head_length xs
  pub head-high : head_length xs ≤ 24
  pub root-most : x + s ≤ max_total
  pub root-fits : x + s < 2 ^ w
  pub end-most : a + w + reserve e s ≤ max_total
  pub entry_in : table_at (wide (sum xs)) i + 4 ≤ n
  pub end-in : code_of e xs + (a + w + reserve e s) ≤ 8 * n

pub step : (e : ℕ) (xs cs : List ℕ) (f i n m t w s a x : ℕ) → Limits e xs → length (image e xs) ≤ n → i < pages e (length xs) → m ≡ 2 ^ e
    → t ≡ sum xs → w ≡ digits t → window cs f (2 ^ e) ≡ page e xs i → s ≡ sum (window cs f m) → a ≡ start e xs i → x ≡ sum (take (2 ^ e * i) xs)
    → Step e xs cs f i n m w s a x
unfolding size bytes_for
step e xs cs f i n m t w s a x g room l em et ew ec es ea ex =
    let W : w ≡ digits (sum xs) = ew ∙ ap digits et in
    let S : s ≡ sum (window cs f (2 ^ e)) = es ∙ ap (λ (z : ℕ). sum (window cs f z)) em in
    let s-is : s ≡ sum (page e xs i) = S ∙ ap sum ec in
    let R : x + s ≡ root e xs i = omega (arith, page-sum e xs i) in
    let N : a + w + reserve e s ≡ start e xs (suc i) = omega (arith, start-next e xs i, ap (reserve e) s-is) in
    let E : a + w + reserve e s ≤ length (code e xs) = omega (arith, start-within e xs i l, ap (reserve e) s-is) in
    record {
      width_is = W;
      counts-are = ec;
      sum_is = S;
      root_is = R;
      start_is = ea;
      next-is = N;
      size-most = size_low em g.e-high;
      inside = omega (arith, pages-few e (length xs) g.e-low g.hours);
      pages-most = pages-few e (length xs) g.e-low g.hours;
      width_low = omega (arith, width-most (sum xs) g.total);
      head-low = header-least (wide (sum xs));
      head-high = header-most (wide (sum xs));
      root-most = omega (arith, root-le e xs i, g.total);
      root-fits = rw W (omega (arith, root-le e xs i, digits-is (sum xs)));
      end-most = omega (arith, code-most e xs g);
      entry_in = omega (arith, length-image e xs);
      end-in = omega (arith, length-image e xs);
    }

-- its start bit, its root and its tree
pub page-put : {e : ℕ} {xs cs : List ℕ} {f i n m w s a x : ℕ} → Step e xs cs f i n m w s a x → (k h : ℕ) (o o₁ o₂ o₃ : List ℕ) → h ≡ head_length xs → k ≡ code_of e xs
    → length o ≡ n → o₁ ≡ splice o (h + 4 * i) (little 4 a) → bits o₂ ≡ splice (bits o₁) (k + a) (field w (x + s))
    → bits o₃ ≡ splice (bits o₂) (k + (a + w)) (tree e (window cs f (2 ^ e)))
    → bits o₃ ≡ splice (splice (bits o) (8 * table_at (wide (sum xs)) i) (bits (little 4 (start e xs i)))) (code_of e xs + start e xs i) (page_code e xs i)
unfolding page_code
page-put {e} {xs} {cs} {f} {i} {n} {m} {w} {s} {a} {x} p k h o o₁ o₂ o₃ eh ek lo e₀ e₂ e₃ =
    let e₁ : o₁ ≡ splice o (table_at (wide (sum xs)) i) (little 4 a) = e₀ ∙ ap (λ (z : ℕ). splice o (z + 4 * i) (little 4 a)) eh in
    let F : List ℕ = field w (x + s) in
    let T : List ℕ = tree e (window cs f (2 ^ e)) in
    let lF : length F ≡ w = length-field w (x + s) in
    let lT : length T ≡ reserve e s = length-tree e (window cs f (2 ^ e)) ∙ ap (reserve e) (sym p.sum_is) in
    let l₁ : length o₁ ≡ length o = ap length e₁ ∙ length-splice o (table_at (wide (sum xs)) i) (little 4 a) (omega (arith, p.entry_in, length-little 4 a)) in
    let b : bits o₃ ≡ splice (bits o₁) (k + a) (F ++ T) =
    splice-then (bits o₁) (bits o₂) (bits o₃) F T (k + a) (k + (a + w)) e₂ e₃ (omega arith)
    (omega (arith, p.end-in, length-bits o₁)) in
    let y : F ++ T ≡ page_code e xs i = ap₂ ◌++◌ (ap₂ field p.width_is p.root_is) (ap (tree e) p.counts-are) in
    let c : k + a ≡ code_of e xs + start e xs i = omega (arith, p.start_is) in
    b ∙ ap₂ (splice (bits o₁)) c y
    ∙ ap (λ (z : List ℕ). splice z (code_of e xs + start e xs i) (page_code e xs i))
    (ap bits e₁ ∙ bits-splice o (table_at (wide (sum xs)) i) (little 4 a) ∙ ap (λ (z : ℕ). splice (bits o) (8 * table_at (wide (sum xs)) i) (bits (little 4 z))) p.start_is)

-- the next page's place
pub next_place : {e : ℕ} {xs cs : List ℕ} {f i n m w s a x : ℕ} → Step e xs cs f i n m w s a x → (v : ℕ) → v ≡ reserve e s
    → PlaceOf e xs (record { page = i + 1; start = a + w + v; before = x + s })
unfolding root
next_place {e} {xs} {cs} {f} {i} {n} {m} {w} {s} {a} {x} p v ev = record {
  start_is = ap (λ (z : ℕ). a + w + z) ev ∙ p.next-is ∙ ap (start e xs) (sym (add-one i));
  before-is = p.root_is ∙ ap (λ (z : ℕ). sum (take (2 ^ e * z) xs)) (sym (add-one i));
}
