-- `freeze_plan::add_parts` meets its contract. Assumes nothing.
use mathlib.Core.Path.{◌≡◌, refl}
use mathlib.Core.List.{List}
use Prim.Native.Nat.{ℕ, ◌+◌, ◌-◌, ◌*◌, ◌^◌, ◌≤◌, ◌<◌}
use native.Mathlib.Nat.{mul-le-mul_right}
use native.Mathlib.Omega.{arith}
use lib.ListN.{get_or}
use Rattle.lists.specs.Lists.{sum, window}
use Rattle.pages.proofs.SoundPage.{pages-few}
use Rattle.store.specs.Reading.{list_in}
use Rattle.image_plan.specs.Code.Planning.{Awaits, Drafted}
use Rattle.image_plan.specs.declared.Plan.{Plan}
use Rattle.image_plan.proofs.PageByPage.{awaited}
use Rattle.freeze_plan.specs.Code.Steps.{Within}
use Rattle.freeze_plan.proofs.PageParts.{Part, few, low, page-branch, part_in, part-most, part-sum, starts-in}
use Rattle.freeze_plan.proofs.add_parts.Goals as goal

pub overflow_sub-e : goal.overflow_sub-e
overflow_sub-e c = omega (arith, low c.args.plan.e c.requires.1)

pub power-many-requires : goal.power-many-requires
power-many-requires c = omega arith

pub part_sums-requires : goal.part_sums-requires
part_sums-requires c =
    page-branch c.args.plan.e c.args.own.now.of_page c.code-code.ensures (omega arith) refl c.requires.0.drafted.e-low c.requires.1

-- a page of the loop is one of page p of the store
part : {s : List ℕ} {p end : ℕ} {plan : Plan} (m d : ℕ) → Within s p end plan → m ≡ 2 ^ (6 - plan.e) → 2 ^ plan.e < 64
    → plan.done ≤ d → d < end → Part m p d
part {s} {p} {end} {plan} m d w em k lo hi =
    let low : m * p ≤ plan.done = starts-in plan.e m p plan.done em k (w.ahead (omega (arith, w.end-one))) in
    part_in plan.e m p d end em k hi w.end-in (omega arith)

pub overflow_mul-many : goal.overflow_mul-many
overflow_mul-many c =
    let i = part c.power-many.result c.loop-page.page c.requires.0 c.power-many.ensures c.requires.1 c.loop-page.auto.page c.loop-page-test.true in
    let w = few c.args.plan.e c.power-many.result c.power-many.ensures c.requires.0.drafted.e-low in
    omega (arith, mul-le-mul_right c.args.own.now.page w, c.args.own.now.of_page.inside, pages-few c.args.own.now.of_page)

pub overflow_sub-page : goal.overflow_sub-page
overflow_sub-page c =
    (part c.power-many.result c.loop-page.page c.requires.0 c.power-many.ensures c.requires.1 c.loop-page.auto.page c.loop-page-test.true).low

pub offset_bounds-sums-page : goal.offset_bounds-sums-page
offset_bounds-sums-page c =
    let i = part c.power-many.result c.loop-page.page c.requires.0 c.power-many.ensures c.requires.1 c.loop-page.auto.page c.loop-page-test.true in
    let w = few c.args.plan.e c.power-many.result c.power-many.ensures c.requires.0.drafted.e-low in
    omega (arith, i.low, i.high, w)

pub bounds-sums-page : goal.bounds-sums-page
bounds-sums-page c =
    let i = part c.power-many.result c.loop-page.page c.requires.0 c.power-many.ensures c.requires.1 c.loop-page.auto.page c.loop-page-test.true in
    let w = few c.args.plan.e c.power-many.result c.power-many.ensures c.requires.0.drafted.e-low in
    omega (arith, i.low, i.high, w)

-- the next page, with its sum
abbrev awaits : (s : List ℕ) (e m p d : ℕ) (r : Plan) (own : ℕ) → sum (list_in s) ≤ 4294967295 → Drafted e (list_in s) r → r.done ≡ d → d < r.pages
    → m ≡ 2 ^ (6 - e) → 2 ^ e < 64 → Part m p d → own ≡ sum (window (list_in s) (64 * p + 2 ^ e * (d - m * p)) (2 ^ e))
    → Awaits r own
awaits s e m p d r own so a n l em k i q =
    let x = part-sum (list_in s) e m p d own em k i q in
    awaited (2 ^ e) d own a n l refl x (part-most e (list_in s) d own so x)

pub add_page-next-requires : goal.add_page-next-requires
add_page-next-requires c =
    let a = c.args in
    let n = c.loop-page in
    let m = c.power-many.result in
    let i = part m n.page c.requires.0 c.power-many.ensures c.requires.1 n.auto.page c.loop-page-test.true in
    let r = page-branch a.plan.e c.args.own.now.of_page c.code-code.ensures (omega arith) refl c.requires.0.drafted.e-low c.requires.1 in
    let own = (c.part_sums.ensures r).inside (n.page - m * a.own.now.page) (omega arith) (omega (arith, c.power-many.ensures, i.low, i.high)) in
    awaits a.own.now.bytes.now a.plan.e m a.own.now.page n.page n.next (get_or c.part_sums.new.out (n.page - m * a.own.now.page) 0) c.requires.0.total-fits n.invariant.drafted n.invariant.at
    (omega (arith, c.loop-page-test.true, c.requires.0.end-one, c.requires.0.drafted.pages-are, n.invariant.drafted.pages-are))
    c.power-many.ensures c.requires.1 i own

pub loop-page-preserved : goal.loop-page-preserved
loop-page-preserved c =
    let a = c.args in
    let n = c.loop-page in
    let m = c.power-many.result in
    let i = part m n.page c.requires.0 c.power-many.ensures c.requires.1 n.auto.page c.loop-page-test.true in
    let r = page-branch a.plan.e c.args.own.now.of_page c.code-code.ensures (omega arith) refl c.requires.0.drafted.e-low c.requires.1 in
    let own = (c.part_sums.ensures r).inside (n.page - m * a.own.now.page) (omega arith) (omega (arith, c.power-many.ensures, i.low, i.high)) in
    record {
      drafted =
          c.add_page-next.ensures.1
          (awaits a.own.now.bytes.now a.plan.e m a.own.now.page n.page n.next (get_or c.part_sums.new.out (n.page - m * a.own.now.page) 0) c.requires.0.total-fits n.invariant.drafted n.invariant.at
          (omega (arith, c.loop-page-test.true, c.requires.0.end-one, c.requires.0.drafted.pages-are, n.invariant.drafted.pages-are))
          c.power-many.ensures c.requires.1 i own);
      at = omega (arith, c.add_page-next.ensures.0, n.invariant.at);
    }
