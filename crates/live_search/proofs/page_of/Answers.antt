-- `live_search::page_of` meets its contract. The loop's invariant: the pages before do not reach the figure. Assumes nothing.
use Prim.Native.Nat.{◌+◌, ◌≤◌, ◌<◌}
use native.Mathlib.Omega.{arith}
use Rattle.store.proofs.SoundFacts.{facts}
use Rattle.live_search.proofs.SpotLaws.{goes, more, small, starts, stops}
use Rattle.live_search.proofs.page_of.Goals as goal

pub entry_at-requires : goal.entry_at-requires
entry_at-requires c = omega arith

pub get-all-requires-clause-in_bounds : goal.get-all-requires-clause-in_bounds
get-all-requires-clause-in_bounds c =
    let f = facts c.args.s.bytes.now c.args.s.is_sound in
    omega (arith, f.long, f.pages-low, c.entry_at.ensures)

pub loop-before-init : goal.loop-before-init
loop-before-init c =
    starts c.args.s.bytes.now c.args.s.is_sound c.args.q _ _ c.requires.0 c.entry_at.ensures c.get-all.ensures.is

pub overflow_add-before : goal.overflow_add-before
overflow_add-before c =
    let l = c.loop-before in
    omega (arith, small c.args.s.bytes.now c.args.s.is_sound c.args.q c.requires.1 l.page l.before l.all l.invariant)

pub overflow_add-before-in-loop-before : goal.overflow_add-before-in-loop-before
overflow_add-before-in-loop-before c =
    let l = c.loop-before in
    omega (arith, small c.args.s.bytes.now c.args.s.is_sound c.args.q c.requires.1 l.page l.before l.all l.invariant)

pub overflow_add-page : goal.overflow_add-page
overflow_add-page c =
    let l = c.loop-before in
    omega (arith, (facts c.args.s.bytes.now c.args.s.is_sound).pages-high, l.invariant.inside)

pub entry_at-requires-in-loop-before : goal.entry_at-requires-in-loop-before
entry_at-requires-in-loop-before c =
    let l = c.loop-before in
    omega (arith, (facts c.args.s.bytes.now c.args.s.is_sound).pages-high, l.invariant.inside)

pub get-all-requires-in-loop-before-clause-in_bounds : goal.get-all-requires-in-loop-before-clause-in_bounds
get-all-requires-in-loop-before-clause-in_bounds c =
    let l = c.loop-before in
    let i : l.before + l.all < c.args.q = omega arith in
    let m = more c.args.s.bytes.now c.args.s.is_sound c.args.q c.requires.1 l.page l.before l.all l.invariant i in
    omega (arith, (facts c.args.s.bytes.now c.args.s.is_sound).long, m, c.entry_at-in-loop-before.ensures)

pub loop-before-smaller : goal.loop-before-smaller
loop-before-smaller c =
    let l = c.loop-before in
    omega (arith, l.invariant.inside)

pub loop-before-preserved : goal.loop-before-preserved
loop-before-preserved c =
    let l = c.loop-before in
    let i : l.before + l.all < c.args.q = omega arith in
    goes c.args.s.bytes.now c.args.s.is_sound c.args.q c.requires.1 l.page l.before l.all l.invariant _ _ i
    c.entry_at-in-loop-before.ensures c.get-all-in-loop-before.ensures.is

pub overflow_sub-result : goal.overflow_sub-result
overflow_sub-result c = omega (arith, c.loop-before.invariant.below)

pub returns : goal.returns
returns c =
    let l = c.loop-before in
    let i : c.args.q ≤ l.before + l.all = omega arith in
    stops c.args.s.bytes.now c.args.s.is_sound c.args.q c.requires.1 l.page l.before l.all l.invariant i
