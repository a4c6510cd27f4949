-- `match_seek::front::Front::pass_hours` meets its contract. Assumes nothing.
use mathlib.Core.Path.{refl}
use Prim.Native.Nat.{◌+◌, ◌-◌}
use native.Mathlib.Omega.{arith}
use lib.ListN.{length}
use Rattle.image_cursor.proofs.CursorLaws.{hours}
use Rattle.match_page.proofs.PageLaws.{page-small}
use Rattle.match_seek.proofs.PassLaws.{count-at, count-behind, later-within, length-behind, passing-next, seeks-next}
use Rattle.match_seek.proofs.SeekLaws.{first-low}
use Rattle.match_seek.proofs.front.Front.pass_hours.Goals as goal

pub overflow_add-next-in-loop-count : goal.overflow_add-next-in-loop-count
overflow_add-next-in-loop-count g c =
    let a = c.args.self.now.image.now in
    let k = c.skip-gone.result.lo - c.args.at.lo in
    let m = page-small _ a.accepted a.head_of _ c.args.self.now.run_is in
    let b = count-behind c.args.counts.now k _ _ (omega (arith, c.skip-gone.ensures.1)) c.loop-count-test.true c.from.ensures in
    record { fits = omega (arith, m, c.loop-count.invariant.1.1, b.1, c.type_inv.counts (k + c.loop-count.count-index)) }

pub loop-count-preserved : goal.loop-count-preserved
loop-count-preserved g c =
    let f = c.args.self.now in
    let a = f.image.now in
    let v = c.skip-gone.ensures in
    let l = c.loop-count in
    let k = c.skip-gone.result.lo - c.args.at.lo in
    let b = count-behind c.args.counts.now k _ _ (omega (arith, v.1)) c.loop-count-test.true c.from.ensures in
    let n = length c.args.counts.now in
    let e = count-at _ c.args.at.lo n _ l.next.lo _ _ c.requires.1.1 b.0 (omega (arith, v.0, l.invariant.0)) b.1 in (
      omega (arith, l.invariant.0),
      passing-next _ _ _ _ l.invariant.1 (omega (arith, b.0, v.0, l.invariant.0, c.requires.1.0.inside, hours _ a.head_of)) _ _ _ e refl refl
          f.run_is _ _ f.in_hand c.if-sum-next.false (c.carries.ensures c.if-carries.false),
    )

pub returns-then-sum-next : goal.returns-then-sum-next
returns-then-sum-next g c =
    let f = c.args.self.now in
    let a = f.image.now in
    let v = c.skip-gone.ensures in
    let l = c.loop-count in
    let k = c.skip-gone.result.lo - c.args.at.lo in
    let b = count-behind c.args.counts.now k _ _ (omega (arith, v.1)) c.loop-count-test.true c.from.ensures in
    let n = length c.args.counts.now in
    let e = count-at _ c.args.at.lo n _ l.next.lo _ _ c.requires.1.1 b.0 (omega (arith, v.0, l.invariant.0)) b.1 in
    later-within _ _ _ _ _ _ c.requires.1.0
    (seeks-next _ _ f.page _ l.invariant.1 (omega (arith, b.0, v.0, l.invariant.0, c.requires.1.0.inside, hours _ a.head_of)) _ _ _ e refl refl)
    (omega (arith, v.0, l.invariant.0)) (omega (arith, b.0, v.0, l.invariant.0))

pub returns : goal.returns
returns g c =
    let f = c.args.self.now in
    let v = c.skip-gone.ensures in
    let w = c.requires.0 in
    let d = c.requires.1.0 in
    let k = c.skip-gone.result.lo - c.args.at.lo in
    let b = length-behind c.args.counts.now k (omega (arith, v.1)) in
    let i = first-low _ _ _ f.run_is _ w.0 w.1 in
    later-within _ _ _ _ _ _ d c.loop-count.invariant.1.0
    (omega (arith, b, v.0, c.loop-count.invariant.0, c.loop-count-test.false, d.some (omega (arith, i, hours _ f.image.now.head_of))))
    (omega (arith, b, v.0, c.loop-count.invariant.0, c.loop-count.auto.count-index-end))
