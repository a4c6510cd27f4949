-- `book_in::put::put_image` meets its contract. Assumes nothing.
use mathlib.Core.Path.{◌≡◌}
use mathlib.Core.List.{List}
use Prim.Native.Nat.{ℕ, ◌*◌, ◌^◌, ◌≤◌, ◌<◌}
use native.Mathlib.Omega.{arith}
use lib.ListN.{replicate}
use Rattle.std.proofs.Common.{length-take-le}
use lib.Pow.{pow_mono}
use Rattle.book.specs.Book.{list_of_book}
use Rattle.lists.specs.Lists.{window}
use Rattle.image_put.specs.Code.Writing.{Handed, Laid}
use Rattle.image_plan.specs.declared.Layout.{Layout}
use Rattle.image_put.specs.declared.Place.{Place}
use Rattle.image_plan.proofs.PageByPage.{page-from}
use Rattle.book_in.proofs.BookPages.{page-front}
use Rattle.book_in.proofs.put.put_image.Goals as goal

-- a page's counts have room in the array
power-low : {e m : ℕ} → e ≤ 8 → m ≡ 2 ^ e → m ≤ 256
power-low {e} l q = rw q (pow_mono {i = e} {j = 8} l)

pub loop-page-init : goal.loop-page-init
loop-page-init c =
    record { long = length-take-le c.power-m.result (replicate {A = ℕ} 256 0) (omega (arith, power-low c.requires.limits.e-high c.power-m.ensures)); laid = c.begin-at.ensures.1 (record { xs = list_of_book c.args.book.now; room = c.requires }); at = c.begin-at.ensures.0 }

-- page p is one of the list
size : {xs first out : List ℕ} {r : Layout} {at : Place} (m p : ℕ) → Laid xs first out r at → p < r.pages → m ≡ 2 ^ r.e
    → (m * p < 65536) × (m ≤ 256)
size {xs} {r = r} m p a l em =
    page-from r.e xs p m a.room.limits.e-high a.room.limits.hours (omega (arith, l, a.room.layout.pages-are)) em

pub overflow_mul-m : goal.overflow_mul-m
overflow_mul-m c = omega (arith, size c.power-m.result c.loop-page.page c.loop-page.invariant.laid c.loop-page-test.true c.power-m.ensures)

pub hours-requires : goal.hours-requires
hours-requires c =
    omega (arith, size c.power-m.result c.loop-page.page c.loop-page.invariant.laid c.loop-page-test.true c.power-m.ensures, c.loop-page.invariant.long)

-- it is the next, in the array
abbrev handed : {xs first out counts : List ℕ} {r : Layout} {at : Place} (m p n : ℕ) → Laid xs first out r at → at.page ≡ p → p < r.pages
    → m ≡ 2 ^ r.e → n ≡ m → counts ≡ window xs (m * p) n → Handed r at counts 0 out
handed {xs} {first} {out} {counts} {r} m p n a i l em en q = record {
  xs = xs;
  first = first;
  so_far = a;
  more = omega arith;
  counts-are = rw i (page-front r.e m p n xs counts em en q);
  near = omega arith;
}

pub put_page-at-requires : goal.put_page-at-requires
put_page-at-requires c =
    let i = c.loop-page.invariant in
    handed c.power-m.result c.loop-page.page _ i.laid i.at c.loop-page-test.true c.power-m.ensures i.long c.hours.ensures

pub loop-page-preserved : goal.loop-page-preserved
loop-page-preserved c =
    let i = c.loop-page.invariant in
    record {
      long = omega (arith, c.hours.auto.counts, i.long);
      laid =
          c.put_page-at.ensures.1
          (handed c.power-m.result c.loop-page.page _ i.laid i.at c.loop-page-test.true c.power-m.ensures i.long c.hours.ensures);
      at = omega (arith, c.put_page-at.ensures.0);
    }

pub returns : goal.returns
returns c = c.end.ensures (record { xs = _; first = _; at = _; so_far = c.loop-page.invariant.laid; all = omega arith })
