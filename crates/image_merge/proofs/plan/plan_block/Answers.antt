-- `image_merge::plan::plan_block` meets its contract. Assumes nothing.
use mathlib.Core.Path.{◌≡◌, sym, ap, ◌∙◌}
use mathlib.Core.List.{List}
use Prim.Native.Nat.{ℕ, ◌+◌, ◌-◌, ◌*◌, ◌^◌, ◌≤◌, ◌<◌, min}
use native.Mathlib.Nat.{mul-le-mul_left, mul-le-mul_right}
use native.Mathlib.Omega.{arith}
use Rattle.lists.specs.Lists.{sum, window}
use Rattle.image.proofs.Blocks.{In, Sizes, in_block, sizes}
use Rattle.image_plan.specs.Code.Planning.{Awaits, Drafted}
use Rattle.image_plan.specs.declared.Plan.{Plan}
use Rattle.image_merge.specs.Code.{Block}
use Rattle.image_merge.proofs.BlockLaws.{block-sum}
use Rattle.image_merge.proofs.plan.plan_block.Goals as goal

-- the block's sizes, and its pages
module _ {k : ℕ} {plan : Plan} {cs : List ℕ} (a : Block cs k plan) where
  abbrev e : ℕ
  e = plan.e

  own : {m w : ℕ} → m ≡ 2 ^ e → w ≡ 2 ^ (8 - e) → Sizes m w
  own em ew = sizes e _ _ a.drafted.e-high em ew

  first-page : {w : ℕ} → w ≡ 2 ^ (8 - e) → plan.done ≡ min (w * k) plan.pages
  first-page ew = a.done-is ∙ ap (λ (z : ℕ). min (z * k) plan.pages) (sym ew)

  within : {m w : ℕ} (p last : ℕ) → m ≡ 2 ^ e → w ≡ 2 ^ (8 - e) → last ≡ min (w * (k + 1)) plan.pages → plan.done ≤ p → p < last → In m k p
  within p last em ew el lo hi = in_block k p (own em ew) (omega (arith, first-page ew, lo, el, hi)) (omega (arith, el, hi))

  -- the next page of the list
  abbrev awaits : {m s : ℕ} {next : Plan} (p : ℕ) → m ≡ 2 ^ e → In m k p → p < plan.pages → s ≡ sum (window cs (m * p - 256 * k) m)
      → next.done ≡ p → Drafted e a.zs next → Awaits next s
  awaits {m} {s} {next} p em i l es q d = record {
    e = e;
    xs = a.zs;
    drafted = d;
    more = omega (arith, a.drafted.pages-are, d.pages-are);
    sum_is = rw q (block-sum e m k p a.zs cs s d.e-high em i a.counts-are a.small es);
  }

pub power-m-requires : goal.power-m-requires
power-m-requires c = omega (arith, c.requires.drafted.e-high)

pub overflow_sub-plan : goal.overflow_sub-plan
overflow_sub-plan c = omega (arith, c.requires.drafted.e-high)

pub overflow_add-k : goal.overflow_add-k
overflow_add-k c = omega (arith, c.requires.few)

pub overflow_mul-many : goal.overflow_mul-many
overflow_mul-many c =
    omega (arith, mul-le-mul_right (c.args.k + 1) (own c.requires c.power-m.ensures c.power-many.ensures).w-most, c.requires.few)

pub overflow_mul-m : goal.overflow_mul-m
overflow_mul-m c =
    let i = within c.requires c.loop-page.page _ c.power-m.ensures c.power-many.ensures c.min-last.ensures c.loop-page.auto.page c.loop-page-test.true in
    omega (arith, i.low, i.high, c.requires.few)

pub overflow_mul-k : goal.overflow_mul-k
overflow_mul-k c = omega (arith, c.requires.few)

pub overflow_sub-m : goal.overflow_sub-m
overflow_sub-m c =
    (within c.requires c.loop-page.page _ c.power-m.ensures c.power-many.ensures c.min-last.ensures c.loop-page.auto.page c.loop-page-test.true).low

pub sum_of-s-requires : goal.sum_of-s-requires
sum_of-s-requires c =
    let i = within c.requires c.loop-page.page _ c.power-m.ensures c.power-many.ensures c.min-last.ensures c.loop-page.auto.page c.loop-page-test.true in
    (omega (arith, i.high), omega (arith, (own c.requires c.power-m.ensures c.power-many.ensures).m-most))

pub add_page-next-requires : goal.add_page-next-requires
add_page-next-requires c =
    let l = c.loop-page in
    let i = within c.requires l.page _ c.power-m.ensures c.power-many.ensures c.min-last.ensures l.auto.page c.loop-page-test.true in
    awaits c.requires l.page c.power-m.ensures i (omega (arith, c.loop-page-test.true, c.min-last.ensures)) c.sum_of-s.ensures l.invariant.at
    (l.invariant.drafted c.requires)

pub loop-page-preserved : goal.loop-page-preserved
loop-page-preserved c =
    let l = c.loop-page in
    let i = within c.requires l.page _ c.power-m.ensures c.power-many.ensures c.min-last.ensures l.auto.page c.loop-page-test.true in
    record {
      drafted = λ a. c.add_page-next.ensures.1
          (awaits a l.page c.power-m.ensures i (omega (arith, c.loop-page-test.true, c.min-last.ensures)) c.sum_of-s.ensures l.invariant.at
          (l.invariant.drafted a));
      at = omega (arith, c.add_page-next.ensures.0, l.invariant.at);
    }

pub returns : goal.returns
returns c = λ a. (
  c.loop-page.invariant.drafted a,
  omega (
    arith,
    c.loop-page.invariant.at,
    c.loop-page.auto,
    c.loop-page-test.false,
    (c.loop-page.invariant.drafted a).pages-are,
    a.drafted.pages-are,
    c.min-last.ensures,
    first-page a c.power-many.ensures,
    mul-le-mul_left c.power-many.result (let x : c.args.k ≤ c.args.k + 1 = omega arith in x),
    ap (λ (z : ℕ). z * (c.args.k + 1)) c.power-many.ensures,
  ),
)
