-- What holds of the bytes of a sound store, in the numbers that the code reads. Assumes nothing.
use mathlib.Core.Path.{◌≡◌, refl, sym, ap, subst, ◌∙◌}
use mathlib.Core.Bool.{true}
use mathlib.Core.List.{List}
use Prim.Native.Nat.{ℕ, ◌+◌, ◌*◌, ◌≤◌, ◌<◌}
use native.Mathlib.Omega.{arith}
use lib.ListN.{length}
use Rattle.lists.specs.Lists.{sum}
use Rattle.bits.specs.Numbers.{number_at}
use Rattle.store.specs.Limits.{max_cells, max_pages, max_total}
use Rattle.store.specs.Plain.{need, page}
use Rattle.store.specs.Layout.{Model, bytes_of, entry_at, size}
use Rattle.store.specs.Reading.{cells_of, hours_in, list_in, page_count_of, read, read_for, sum_in}
use Rattle.store.specs.Sound.{Good, sound}
use Rattle.store.specs.Code.Chained.{Chained, HoldsChains}
use Rattle.store.proofs.Chained.{good-chained}
use Rattle.store.proofs.Holds.{Holds, chained-bytes, holds-bytes}
use Rattle.store.proofs.Keep.{spare-is}
use Rattle.store.proofs.ReadBack.{hours-is, page-le, read_is, spare-count, sum_is}
use Rattle.store.proofs.SoundLaws.{sound-good}

-- the numbers of the header and of the entries
pub record Facts (s : List ℕ) : Type 0 where
  pub good : Good (read s)
  pub holds : Holds s (read s)
  pub same : s ≡ bytes_of (read s)
  pub pages-are : page_count_of s ≡ (read s).plain.pages
  pub cells_are : cells_of s ≡ (read s).plain.cells
  pub free-is : number_at s 8 2 ≡ length (read s).spare
  pub hours-are : hours_in s ≡ length (list_in s)
  pub long : length s ≡ size (page_count_of s) (cells_of s)
  pub pages-low : 1 ≤ page_count_of s
  pub pages-high : page_count_of s ≤ max_pages
  pub cells_low : 1 ≤ cells_of s
  pub cells-high : cells_of s ≤ max_cells
  pub hours-fit : hours_in s ≤ 64 * page_count_of s
  pub total-fits : sum (list_in s) ≤ max_total
  pub free-and-need : number_at s 8 2 + need (list_in s) (page_count_of s) ≡ cells_of s
  pub sums : (p : ℕ) → p < page_count_of s → sum_in s p ≡ sum (page (list_in s) p)
  pub sum_fits : (p : ℕ) → p < page_count_of s → sum_in s p ≤ max_total

pub facts : (s : List ℕ) → sound s ≡ true → Facts s
unfolding read read_for
facts s e =
    let m : Model = read s in
    let g : Good m = (sound-good s e).0 in
    let h : Holds s m = subst (λ (z : List ℕ). Holds z m) (sym (sound-good s e).1) (holds-bytes m g) in
    record {
      good = g;
      holds = h;
      same = (sound-good s e).1;
      pages-are = refl;
      cells_are = refl;
      free-is = spare-count s m (good-chained m g) h;
      hours-are = hours-is s m (good-chained m g) h;
      long = h.size;
      pages-low = g.limits.pages-low;
      pages-high = g.limits.pages-high;
      cells_low = g.limits.cells_low;
      cells-high = g.limits.cells-high;
      hours-fit = omega (arith, hours-is s m (good-chained m g) h, g.hours);
      total-fits = g.total;
      free-and-need = omega (arith, spare-count s m (good-chained m g) h, spare-is m g);
      sums = sum_is s m (good-chained m g) h;
      sum_fits = λ p l. omega (arith, sum_is s m (good-chained m g) h p l, page-le m.plain.counts p, g.total);
    }

-- ---- bytes that hold chains, as those of a sound store do
pub sound-holds : (s : List ℕ) → sound s ≡ true → HoldsChains s
sound-holds s e = let f = facts s e in record { chained = good-chained (read s) f.good; same = f.same }

pub record ChainFacts (s : List ℕ) : Type 0 where
  pub chained : Chained (read s)
  pub holds : Holds s (read s)
  pub pages-are : page_count_of s ≡ (read s).plain.pages
  pub cells_are : cells_of s ≡ (read s).plain.cells
  pub free-is : number_at s 8 2 ≡ length (read s).spare
  pub long : length s ≡ size (page_count_of s) (cells_of s)
  pub sums : (p : ℕ) → p < page_count_of s → sum_in s p ≡ sum (page (list_in s) p)
  pub sum_fits : (p : ℕ) → p < page_count_of s → sum_in s p ≤ max_total

pub chain-facts : (s : List ℕ) → HoldsChains s → ChainFacts s
unfolding read read_for
chain-facts s d =
    let m : Model = read s in
    let g : Chained m = d.chained in
    let h : Holds s m = subst (λ (z : List ℕ). Holds z m) (sym d.same) (chained-bytes m g) in
    record {
      chained = g;
      holds = h;
      pages-are = refl;
      cells_are = refl;
      free-is = spare-count s m g h;
      long = h.size;
      sums = sum_is s m g h;
      sum_fits = λ p l. omega (arith, sum_is s m g h p l, g.sums p l);
    }

-- a model's bytes, and what is read from them
pub bytes_read : (m : Model) → Chained m → read (bytes_of m) ≡ m
bytes_read m g = read_is (bytes_of m) m g (chained-bytes m g)

pub bytes-hold : (m : Model) → Chained m → HoldsChains (bytes_of m)
bytes-hold m g = let e = bytes_read m g in record { chained = subst Chained (sym e) g; same = ap bytes_of (sym e) }

-- the sum that the code reads in page p's entry, at address e
pub sum-read : (s : List ℕ) (p e r : ℕ) → e ≡ entry_at p → r ≡ number_at s e 4 → r ≡ sum_in s p
unfolding sum_in
sum-read s p e r a h = h ∙ ap (λ (z : ℕ). number_at s z 4) a
