-- `book_out::put::put_book` meets its contract. The loop's invariant: the hours of the pages before p are put. Assumes nothing.
use mathlib.Core.Path.{sym, ap, ◌∙◌}
use Prim.Native.Nat.{ℕ, ◌*◌, ◌^◌, ◌<◌}
use native.Mathlib.Nat.{mul-le-mul_left}
use native.Mathlib.Omega.{arith}
use Rattle.std.proofs.Common.{length-take-le}
use Rattle.image.specs.Read.{e_of, list_of, page_count_of}
use Rattle.image.proofs.Accepted.{accepted-only, length-list}
use Rattle.book_out.proofs.OutLaws.{all-put, none-put, put-long, read-four, read_more, sizes}
use Rattle.book_out.proofs.put.put_book.Goals as goal

pub power-m-requires : goal.power-m-requires
power-m-requires c =
    let image = c.args.image.now in
    omega (arith, (accepted-only _ image.accepted).limits.e-high, image.head_of.e-is)

pub loop-p-init : goal.loop-p-init
loop-p-init c =
    let s = c.args.image.now.bytes.now in
    none-put (e_of s) (list_of s) c.args.book.now

pub page_counts-requires : goal.page_counts-requires
page_counts-requires c =
    let image = c.args.image.now in
    let z = sizes image c.power-m.result c.power-m.ensures in
    let e = ap (λ (k : ℕ). 2 ^ k) (c.places_of-places.result.page ∙ ap e_of c.places_of-places.ensures) in
    (rw c.places_of-places.ensures (let l : c.loop-p.p < page_count_of image.bytes.now = omega (arith, c.loop-p-test.true, image.head_of.pages-are) in l), omega (arith, z.size_is, z.size-most, e))

pub overflow_mul-from : goal.overflow_mul-from
overflow_mul-from c =
    let z = sizes c.args.image.now c.power-m.result c.power-m.ensures in
    omega (arith, z.inside c.loop-p.p c.loop-p-test.true, (accepted-only _ c.args.image.now.accepted).limits.hours)

pub overflow_sub-n : goal.overflow_sub-n
overflow_sub-n c =
    let z = sizes c.args.image.now c.power-m.result c.power-m.ensures in
    omega (arith, z.inside c.loop-p.p c.loop-p-test.true, z.hours-are)

pub slice_bounds-counts-end : goal.slice_bounds-counts-end
slice_bounds-counts-end c =
    omega (arith, c.min-some.ensures, (sizes c.args.image.now c.power-m.result c.power-m.ensures).size-most, c.page_counts.array_long)

pub slice_bounds-put_hours-end : goal.slice_bounds-put_hours-end
slice_bounds-put_hours-end c =
    sym (length-take-le c.min-some.result c.page_counts.new.counts
    (omega (arith, c.min-some.ensures, (sizes c.args.image.now c.power-m.result c.power-m.ensures).size-most, c.page_counts.array_long)))

pub put_hours-requires : goal.put_hours-requires
put_hours-requires c =
    let s = c.args.image.now.bytes.now in
    let z = sizes c.args.image.now c.power-m.result c.power-m.ensures in
    let k = c.min-some.ensures in
    let some_long = length-take-le c.min-some.result c.page_counts.new.counts (omega (arith, k, z.size-most, c.page_counts.array_long)) in
    let book_long = put-long (2 ^ e_of s * c.loop-p.p) (list_of s) c.args.book.now c.loop-p.book (omega (arith, c.requires.1, length-list s)) c.loop-p.invariant in (
      omega (arith, k, z.inside c.loop-p.p c.loop-p-test.true, z.hours-are, some_long, book_long, c.requires.1, length-list s),
      read-four z c.loop-p.p c.loop-p.counts c.page_counts.new.counts (rw c.places_of-places.ensures at c.page_counts.ensures) c.min-some.result (omega (arith, k)) c.requires.0,
    )

pub loop-p-preserved : goal.loop-p-preserved
loop-p-preserved c =
    let z = sizes c.args.image.now c.power-m.result c.power-m.ensures in
    read_more z c.loop-p.p c.loop-p.counts c.page_counts.new.counts (rw c.places_of-places.ensures at c.page_counts.ensures) c.min-some.result c.args.book.now c.loop-p.book
    c.put_hours.new.book c.loop-p-test.true c.min-some.ensures c.requires.1 c.loop-p.invariant c.put_hours.ensures

pub returns : goal.returns
returns c =
    let s = c.args.image.now.bytes.now in
    let z = sizes c.args.image.now c.power-m.result c.power-m.ensures in
    all-put (e_of s) c.loop-p.p (list_of s) c.args.book.now c.loop-p.book
    (omega (arith, z.cover, mul-le-mul_left (2 ^ e_of s) c.loop-p-test.false)) c.loop-p.invariant
