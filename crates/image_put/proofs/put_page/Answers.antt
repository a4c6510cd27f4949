-- `image_put::put_page` meets its contract: its numbers are those of one page (`step`), and its three writes are that page (`page-put`).
-- Assumes nothing.
use mathlib.Core.Path.{◌≡◌, refl}
use native.Mathlib.Omega.{arith}
use mathlib.Core.List.{List}
use Prim.Native.Nat.{ℕ, ◌^◌}
use lib.ListN.{length}
use Rattle.image_plan.specs.declared.Layout.{Layout}
use Rattle.image_put.specs.declared.Place.{Place}
use Rattle.reserve.specs.Reserve.{digits}
use Rattle.lists.specs.Lists.{sum, window}
use Rattle.image.specs.Image.{wide}
use Rattle.image.proofs.Editions.{header-most}
use Rattle.image.proofs.HeadLaws.{pages-le}
use Rattle.image_put.specs.Code.Writing.{Handed}
use Rattle.image_put.proofs.PageSteps.{Step, next_place, page-put, size_low, step}
use Rattle.image_put.proofs.PagesLaid.{one_more}
use Rattle.image_put.proofs.put_page.Goals as goal

-- the page's numbers, once its sum is known
numbers : {r : Layout} {at : Place} {counts : List ℕ} {from : ℕ} {out : List ℕ} (a : Handed r at counts from out) {m w s : ℕ}
    → m ≡ 2 ^ r.e → w ≡ digits r.total → s ≡ sum (window counts from m)
    → Step r.e a.xs counts from at.page (length out) m w s at.start at.before
numbers {r} {at} {counts} {from} {out} a {m} {w} {s} em ew es =
    let l = a.so_far in
    step r.e a.xs counts from at.page (length out) m r.total w s at.start at.before l.room.limits (omega (arith, l.room.enough, l.long))
    (omega (arith, a.more, l.room.layout.pages-are)) em l.room.layout.total-is ew a.counts-are es l.place.start_is l.place.before-is

pub power-m-requires : goal.power-m-requires
power-m-requires c = omega (arith, c.requires.so_far.room.limits)

pub sum_of-s-requires : goal.sum_of-s-requires
sum_of-s-requires c =
    let g = c.requires in
    omega (arith, g.near, size_low c.power-m.ensures g.so_far.room.limits.e-high)

pub reserve_of-own-requires : goal.reserve_of-own-requires
reserve_of-own-requires c = omega (arith, numbers c.requires c.power-m.ensures c.digits_of-w.ensures c.sum_of-s.ensures, c.requires.so_far.room.limits)

pub overflow_add-root : goal.overflow_add-root
overflow_add-root c = omega (arith, numbers c.requires c.power-m.ensures c.digits_of-w.ensures c.sum_of-s.ensures)

pub overflow_add-tree : goal.overflow_add-tree
overflow_add-tree c = omega (arith, numbers c.requires c.power-m.ensures c.digits_of-w.ensures c.sum_of-s.ensures)

pub table_at-requires : goal.table_at-requires
table_at-requires c =
    let a = c.requires in
    let l = a.so_far.room in (
      omega (arith, l.layout.table_is, header-most (wide (sum a.xs))),
      omega (arith, a.more, l.layout.pages-are, pages-le c.args.r.e (length a.xs), l.limits.hours),
    )

pub put-requires-clause-in_bounds : goal.put-requires-clause-in_bounds
put-requires-clause-in_bounds c = omega (arith, c.table_at.ensures, numbers c.requires c.power-m.ensures c.digits_of-w.ensures c.sum_of-s.ensures, c.requires.so_far.room.layout.table_is)

pub overflow_add-r : goal.overflow_add-r
overflow_add-r c = omega (arith, numbers c.requires c.power-m.ensures c.digits_of-w.ensures c.sum_of-s.ensures, c.requires.so_far.room.layout.code_is)

pub put_field-requires : goal.put_field-requires
put_field-requires c =
    let p = numbers c.requires c.power-m.ensures c.digits_of-w.ensures c.sum_of-s.ensures in
    let e = c.put.auto.out in
    record { width_bound = (omega (arith, c.requires.so_far.room.layout.code_is), omega (arith, c.requires.so_far.room.layout.code_is), omega arith); v_bound = p.root-fits; in_bounds = omega arith }

pub overflow_add-r-2 : goal.overflow_add-r-2
overflow_add-r-2 c = omega (arith, numbers c.requires c.power-m.ensures c.digits_of-w.ensures c.sum_of-s.ensures, c.requires.so_far.room.layout.code_is)

pub write-requires : goal.write-requires
write-requires c =
    let p = numbers c.requires c.power-m.ensures c.digits_of-w.ensures c.sum_of-s.ensures in
    let d = c.put.auto.out in
    let e = c.put_field.auto.out in
    let g = c.requires in
    let m = c.power-m.ensures in
    record { lies = (omega (arith, c.requires.so_far.room.layout.code_is, g.so_far.room.limits), p.sum_is, omega (arith, g.near)); r_value = c.reserve_of-own.ensures }

pub overflow_add-result : goal.overflow_add-result
overflow_add-result c = omega (arith, (numbers c.requires c.power-m.ensures c.digits_of-w.ensures c.sum_of-s.ensures).inside)

pub overflow_add-result-2 : goal.overflow_add-result-2
overflow_add-result-2 c = omega (arith, numbers c.requires c.power-m.ensures c.digits_of-w.ensures c.sum_of-s.ensures, c.reserve_of-own.ensures)

pub shape_of-out : goal.shape_of-out
shape_of-out c =
    omega (arith, c.write.auto.out, c.put_field.auto.out, c.put.auto.out)

pub returns : goal.returns
returns c =
    let v = c.reserve_of-own in
    let s = c.args in (
      refl,
      λ a.
          let p = numbers a c.power-m.ensures c.digits_of-w.ensures c.sum_of-s.ensures in
          one_more c.write.new.out _ a.so_far a.more (omega (arith, c.write.auto.out, c.put_field.auto.out, c.put.auto.out)) refl
          (next_place p v.result v.ensures)
          (page-put p s.r.code s.r.table s.out.now c.put.new.out c.put_field.new.out c.write.new.out a.so_far.room.layout.table_is a.so_far.room.layout.code_is refl
          (rw c.table_at.ensures at c.put.ensures) c.put_field.ensures c.write.ensures),
    )
