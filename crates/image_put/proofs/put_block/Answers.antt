-- `image_put::put_block` meets its contract. Assumes nothing.
use mathlib.Core.Path.{◌≡◌, refl, sym, ap, ◌∙◌}
use mathlib.Core.List.{List}
use Prim.Native.Nat.{ℕ, ◌+◌, ◌-◌, ◌*◌, ◌^◌, ◌≤◌, ◌<◌, min}
use native.Mathlib.Nat.{mul-le-mul_left, mul-le-mul_right}
use native.Mathlib.Omega.{arith}
use lib.ListN.{length}
use Rattle.lists.specs.Lists.{window}
use Rattle.image.proofs.Blocks.{In, Sizes, block-few, counts-in, in_block, sizes}
use Rattle.image_plan.specs.declared.Layout.{Layout}
use Rattle.image_put.specs.Code.Writing.{Blocked, Handed, Laid}
use Rattle.image_put.specs.declared.Place.{Place}
use Rattle.image_put.proofs.put_block.Goals as goal

-- the block's sizes, and its number
module _ {r : Layout} {k : ℕ} {at : Place} {cs out : List ℕ} (a : Blocked r k at cs out) where
  own : {m w : ℕ} → m ≡ 2 ^ r.e → w ≡ 2 ^ (8 - r.e) → Sizes m w
  own em ew = sizes r.e _ _ a.so_far.room.limits.e-high em ew

  few : k ≤ 255
  few =
      let g = a.so_far.room in
      block-few r.e _ _ k at.page (length a.xs) (own refl refl) refl a.at-is (omega (arith, a.more, g.layout.pages-are)) g.limits.hours

  -- its first page, and those up to the next block's
  first-page : {w : ℕ} → w ≡ 2 ^ (8 - r.e) → at.page ≡ w * k
  first-page ew = a.at-is ∙ ap (λ (z : ℕ). z * k) (sym ew)

  within : {m w : ℕ} (p last : ℕ) → m ≡ 2 ^ r.e → w ≡ 2 ^ (8 - r.e) → last ≡ min (w * (k + 1)) r.pages → at.page ≤ p → p < last → In m k p
  within p last em ew el lo hi = in_block k p (own em ew) (omega (arith, first-page ew, lo)) (omega (arith, el, hi))

pub power-m-requires : goal.power-m-requires
power-m-requires c = omega (arith, c.requires.so_far.room.limits)

pub overflow_sub-r : goal.overflow_sub-r
overflow_sub-r c = omega (arith, c.requires.so_far.room.limits)

pub overflow_add-k : goal.overflow_add-k
overflow_add-k c = omega (arith, few c.requires)

pub overflow_mul-many : goal.overflow_mul-many
overflow_mul-many c =
    omega (arith, mul-le-mul_right (c.args.k + 1) (own c.requires c.power-m.ensures c.power-many.ensures).w-most, few c.requires)

pub overflow_mul-m : goal.overflow_mul-m
overflow_mul-m c =
    let i = within c.requires c.loop-page.page _ c.power-m.ensures c.power-many.ensures c.min-last.ensures c.loop-page.auto.page c.loop-page-test.true in
    omega (arith, i.low, i.high, few c.requires)

pub overflow_mul-k : goal.overflow_mul-k
overflow_mul-k c = omega (arith, few c.requires)

pub overflow_sub-m : goal.overflow_sub-m
overflow_sub-m c =
    (within c.requires c.loop-page.page _ c.power-m.ensures c.power-many.ensures c.min-last.ensures c.loop-page.auto.page c.loop-page-test.true).low

-- the next page of the list
abbrev handed : {xs cs first out : List ℕ} {r : Layout} {at : Place} {m : ℕ} (k p : ℕ) → m ≡ 2 ^ r.e → In m k p → p < r.pages
    → cs ≡ window xs (256 * k) 256 → at.page ≡ p → Laid xs first out r at → Handed r at cs (m * p - 256 * k) out
handed {xs} {cs} {first} {r = r} {m = m} k p em i l ec q a = record {
  xs = xs;
  first = first;
  so_far = a;
  more = omega arith;
  counts-are = rw q (counts-in r.e m k p xs cs em i ec);
  near = omega (arith, i.high);
}

pub put_page-next-requires : goal.put_page-next-requires
put_page-next-requires c =
    let l = c.loop-page in
    let i = within c.requires l.page _ c.power-m.ensures c.power-many.ensures c.min-last.ensures l.auto.page c.loop-page-test.true in
    handed c.args.k l.page c.power-m.ensures i (omega (arith, c.loop-page-test.true, c.min-last.ensures)) c.requires.counts-are l.invariant.at
    (l.invariant.laid c.requires)

pub loop-page-preserved : goal.loop-page-preserved
loop-page-preserved c =
    let l = c.loop-page in
    let i = within c.requires l.page _ c.power-m.ensures c.power-many.ensures c.min-last.ensures l.auto.page c.loop-page-test.true in
    record {
      laid = λ a. c.put_page-next.ensures.1
          (handed c.args.k l.page c.power-m.ensures i (omega (arith, c.loop-page-test.true, c.min-last.ensures)) a.counts-are l.invariant.at (l.invariant.laid a));
      at = omega (arith, c.put_page-next.ensures.0, l.invariant.at);
    }

-- the place behind the block's last page
pub returns : goal.returns
returns c =
    let b = c.requires in
    let low : c.args.at.page ≤ c.min-last.result =
    omega (
      arith,
      c.min-last.ensures,
      b.more,
      first-page b c.power-many.ensures,
      mul-le-mul_left c.power-many.result (let x : c.args.k ≤ c.args.k + 1 = omega arith in x),
    ) in (
      omega (arith, low, c.min-last.ensures, c.loop-page.invariant.at, c.loop-page.auto, ap (λ (z : ℕ). z * (c.args.k + 1)) c.power-many.ensures),
      λ a. c.loop-page.invariant.laid a,
    )
