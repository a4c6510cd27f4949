-- `match_seek::front::Front::skip` meets its contract. Assumes nothing.
use Prim.Native.Nat.{◌*◌}
use native.Mathlib.Omega.{arith}
use lib.ListN.{length}
use Rattle.image_cursor.proofs.CursorLaws.{hours}
use Rattle.match_page.proofs.PageLaws.{page-small}
use Rattle.match_seek.proofs.PassLaws.{above-four, four-are, four-inside, four-small, passing-four}
use Rattle.match_seek.proofs.front.Front.skip.Goals as goal

pub overflow_add-first : goal.overflow_add-first
overflow_add-first g c =
    let a = c.args.self.now.image.now in
    let l = c.loop-a in
    let m = page-small _ a.accepted a.head_of _ c.args.self.now.run_is in
    let s = four-small _ _ l.a-index c.as_chunks.ensures.front c.loop-a-test.true (λ k. omega (arith, c.type_inv.counts k)) in
    record { fits = omega (arith, m, l.invariant.1.1, c.from.ensures, s 0 (omega arith)) }

pub overflow_add-second : goal.overflow_add-second
overflow_add-second g c =
    let a = c.args.self.now.image.now in
    let l = c.loop-a in
    let m = page-small _ a.accepted a.head_of _ c.args.self.now.run_is in
    let s = four-small _ _ l.a-index c.as_chunks.ensures.front c.loop-a-test.true (λ k. omega (arith, c.type_inv.counts k)) in
    record { fits = omega (arith, m, l.invariant.1.1, c.from.ensures, c.from-in-loop-a.ensures, s 0 (omega arith), s 1 (omega arith)) }

pub overflow_add-third : goal.overflow_add-third
overflow_add-third g c =
    let a = c.args.self.now.image.now in
    let l = c.loop-a in
    let m = page-small _ a.accepted a.head_of _ c.args.self.now.run_is in
    let s = four-small _ _ l.a-index c.as_chunks.ensures.front c.loop-a-test.true (λ k. omega (arith, c.type_inv.counts k)) in
    record { fits = omega (arith, m, l.invariant.1.1, c.from.ensures, c.from-in-loop-a.ensures, c.from-in-loop-a-2.ensures, s 0 (omega arith), s 1 (omega arith), s 2 (omega arith)) }

pub overflow_add-fourth : goal.overflow_add-fourth
overflow_add-fourth g c =
    let a = c.args.self.now.image.now in
    let l = c.loop-a in
    let m = page-small _ a.accepted a.head_of _ c.args.self.now.run_is in
    let s = four-small _ _ l.a-index c.as_chunks.ensures.front c.loop-a-test.true (λ k. omega (arith, c.type_inv.counts k)) in
    record { fits = omega (arith, m, l.invariant.1.1, c.from.ensures, c.from-in-loop-a.ensures, c.from-in-loop-a-2.ensures, c.from-in-loop-a-3.ensures, s 0 (omega arith), s 1 (omega arith), s 2 (omega arith), s 3 (omega arith)) }

pub returns-then-sum-fourth : goal.returns-then-sum-fourth
returns-then-sum-fourth g c =
    let f = c.args.self.now in
    let a = f.image.now in
    let u = c.any_carries.ensures c.if-any_carries.false in
    let n = length c.args.counts.now in
    let i = c.loop-a.a-index in
    let k = c.as_chunks.ensures.front in
    let v = four-are _ _ i k c.loop-a-test.true _ _ _ _ c.from.ensures c.from-in-loop-a.ensures c.from-in-loop-a-2.ensures c.from-in-loop-a-3.ensures in
    above-four _ _ _ f.run_is _ _ f.in_hand c.args.at.lo n (4 * i) _ c.requires.1.1 (omega (arith, c.requires.1.0.inside, hours _ a.head_of))
    (four-inside _ _ i k c.loop-a-test.true) _ c.loop-a.invariant.1 c.loop-a.invariant.0 _ _ _ _ v.0 v.1 v.2 v.3 u _ c.first_above.ensures

pub loop-a-preserved : goal.loop-a-preserved
loop-a-preserved g c =
    let f = c.args.self.now in
    let a = f.image.now in
    let u = c.any_carries.ensures c.if-any_carries.false in
    let n = length c.args.counts.now in
    let i = c.loop-a.a-index in
    let k = c.as_chunks.ensures.front in
    let v = four-are _ _ i k c.loop-a-test.true _ _ _ _ c.from.ensures c.from-in-loop-a.ensures c.from-in-loop-a-2.ensures c.from-in-loop-a-3.ensures in (
      omega (arith, c.loop-a.invariant.0),
      passing-four _ _ _ f.run_is _ _ f.in_hand c.args.at.lo n (4 * i) _ c.requires.1.1 (omega (arith, c.requires.1.0.inside, hours _ a.head_of))
          (four-inside _ _ i k c.loop-a-test.true) _ c.loop-a.invariant.1 c.loop-a.invariant.0 _ _ _ _ v.0 v.1 v.2 v.3 u c.if-sum-fourth.false,
    )
