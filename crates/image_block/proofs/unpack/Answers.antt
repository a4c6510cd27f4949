-- `image_block::unpack` meets its contract. Assumes nothing.
use mathlib.Core.Path.{◌≡◌, ap, ◌∙◌}
use mathlib.Core.List.{List}
use Prim.Native.Nat.{ℕ, ◌+◌, ◌*◌, ◌^◌, ◌≤◌, ◌<◌}
use native.Mathlib.Omega.{arith}
use lib.ListN.{replicate}
use Rattle.lists.specs.Lists.{splice, window}
use Rattle.image.specs.Read.{e_of, list_of}
use Rattle.image.specs.declared.head.Head.{Head}
use Rattle.image.proofs.Accepted.{accepted-only}
use Rattle.lists.proofs.Blocks.{block-is, none-put, one-put}
use Rattle.image.proofs.Blocks.{page-is}
use Rattle.image_block.proofs.Blocks.{Known, first_fits, inside, known, room}
use Rattle.image_block.proofs.unpack.Goals as goal

pub power-m-requires : goal.power-m-requires
power-m-requires c = omega (arith, c.args.image.now.head_of.e-is, (accepted-only _ c.args.image.now.accepted).limits.e-high)

pub overflow_sub-e : goal.overflow_sub-e
overflow_sub-e c = omega (arith, c.args.image.now.head_of.e-is, (accepted-only _ c.args.image.now.accepted).limits.e-high)

pub overflow_mul-first : goal.overflow_mul-first
overflow_mul-first c = omega (arith, first_fits c.args.image.now.head.e c.power-many.result c.args.b c.power-many.ensures c.requires)

-- there is room for page j of the block, in whose array those before it stand
fits : {s : List ℕ} {h : Head} {b m w first some : ℕ} → Known s h b m w first some → {j : ℕ} → j < some → m * j + m ≤ 256
fits {m = m} {w = w} k {j} l = room m w j k.sizes-are.whole (omega (arith, k.some-few, l))

pub loop-j-init : goal.loop-j-init
loop-j-init c = none-put _ _ (list_of c.args.image.now.bytes.now) (c.power-many.result * c.args.b)

pub overflow_add-first : goal.overflow_add-first
overflow_add-first c =
    let i = c.args.image.now in
    let k = known i c.requires c.power-m.ensures c.power-many.ensures c.saturating_sub.ensures c.min-some.ensures in
    omega (arith, k.first_small, k.some-few, k.sizes-are.w-most, c.loop-j-test.true)

pub overflow_mul-m : goal.overflow_mul-m
overflow_mul-m c =
    let i = c.args.image.now in
    let k = known i c.requires c.power-m.ensures c.power-many.ensures c.saturating_sub.ensures c.min-some.ensures in
    omega (arith, fits k c.loop-j-test.true)

pub page_counts-requires : goal.page_counts-requires
page_counts-requires c =
    let i = c.args.image.now in
    let k = known i c.requires c.power-m.ensures c.power-many.ensures c.saturating_sub.ensures c.min-some.ensures in
    let l = c.loop-j-test.true in
    let e = ap (λ (y : ℕ). 2 ^ y) (c.places_of-places.result.page ∙ ap e_of c.places_of-places.ensures) in
    (rw c.places_of-places.ensures (inside k c.loop-j.j l), omega (arith, fits k l, k.m-is, e))

pub loop-j-preserved : goal.loop-j-preserved
loop-j-preserved c =
    let i = c.args.image.now in
    let k = known i c.requires c.power-m.ensures c.power-many.ensures c.saturating_sub.ensures c.min-some.ensures in
    let o = c.loop-j in
    let m = c.power-m.result in
    let xs = list_of c.args.image.now.bytes.now in
    let first = c.power-many.result * c.args.b in
    one-put c.fill.new.self o.counts _ m xs first o.j (omega (arith, fits k c.loop-j-test.true, c.fill.ensures.len, c.told-counts)) o.invariant
    (rw c.places_of-places.ensures at c.page_counts.ensures ∙ ap (splice o.counts (m * o.j)) (page-is (e_of c.args.image.now.bytes.now) m xs (first + o.j) k.m-is))

pub returns : goal.returns
returns c =
    let i = c.args.image.now in
    let k = known i c.requires c.power-m.ensures c.power-many.ensures c.saturating_sub.ensures c.min-some.ensures in
    let xs = list_of c.args.image.now.bytes.now in
    let j : c.loop-j.j ≡ c.min-some.result = omega (arith, c.loop-j-test.false) in
    block-is _ _ xs c.fill.new.self c.loop-j.counts _ _ c.loop-j.j k.sizes-are.whole k.cover
    (j ∙ k.some_is) (c.fill.ensures.after (λ y h. h) ∙ ap (λ (n : ℕ). replicate n 0) c.told-counts) c.loop-j.invariant
    ∙ ap (λ (z : ℕ). window xs z 256) k.begins
