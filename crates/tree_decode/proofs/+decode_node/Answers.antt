-- `tree_decode::decode_node` meets its contract. Assumes nothing.
use mathlib.Core.Path.{◌≡◌, sym, ap, ◌∙◌}
use Prim.Native.Nat.{ℕ, ◌-◌, ◌^◌, ◌≤◌}
use native.Mathlib.Omega.{arith}
use Rattle.lists.specs.Lists.{splice}
use Rattle.tree.proofs.Rooting.{halved}
use Rattle.tree_word.proofs.Decoding.{both_halves, height-written}
use Rattle.tree_word.proofs.WordBits.{loaded, word-exact, word_counts}
use Rattle.tree_decode.proofs.Halving.{of-height, read, root-some, first-half, second-half}
use Rattle.tree_decode.proofs.+decode_node.Goals as goal

above : {h : ℕ} → 4 ≤ h → h ≡ 0 → ⊥
above {h} l e = omega arith

pub decode_word-requires : goal.decode_word-requires
decode_word-requires t c =
    let one = c.fits.ensures c.if-fits.true in
    (one, word-exact (loaded _ c.requires.0.lies one.bits c.load.ensures) c.requires.0.code, c.requires.2)

pub returns-then-fits : goal.returns-then-fits
returns-then-fits t c =
    let one = c.fits.ensures c.if-fits.true in
    c.decode_word.ensures ∙ ap (splice c.args.out.now c.args.from) (word_counts (loaded _ c.requires.0.lies one.bits c.load.ensures) c.requires.0.code)

pub unwrap-r-requires : goal.unwrap-r-requires
unwrap-r-requires t c =
    root-some c.requires.0 (above c.requires.1) _ c.root_by_shifts.ensures

pub eights-requires : goal.eights-requires
eights-requires t c =
    let half = halved c.args.h (above c.requires.1) in
    let eight : 2 ^ (c.args.h - 1) ≡ 8 = rw c.if-down-eq3.true in
    (of-height c.if-down-eq3.true (first-half c.requires.0 (above c.requires.1) _ c.root_by_shifts.ensures c.unwrap-r.ensures), omega (arith, half, eight, c.requires.2))

pub eights-requires-then-down-eq3 : goal.eights-requires-then-down-eq3
eights-requires-then-down-eq3 t c =
    let half = halved c.args.h (above c.requires.1) in
    let eight : 2 ^ (c.args.h - 1) ≡ 8 = rw c.if-down-eq3.true in
    (of-height c.if-down-eq3.true (second-half c.requires.0 (above c.requires.1) _ c.root_by_shifts.ensures c.unwrap-r.ensures), omega (arith, half, eight, c.requires.2))

pub returns-then-down-eq3 : goal.returns-then-down-eq3
returns-then-down-eq3 t c =
    let eight : 2 ^ (c.args.h - 1) ≡ 8 = rw c.if-down-eq3.true in
    let a = c.args in
    both_halves (read c.requires.0 (above c.requires.1) _ c.root_by_shifts.ensures c.unwrap-r.ensures).node a.out.now _ _ a.from 8 (sym eight) (omega (arith, c.requires.2))
    (height-written (a.h - 1) _ 3 _ _ _ _ _ c.if-down-eq3.true c.eights.ensures)
    (height-written (a.h - 1) _ 3 _ _ _ _ _ c.if-down-eq3.true c.eights-then-down-eq3.ensures)

pub decode_node-requires : goal.decode_node-requires
decode_node-requires t c =
    let half = halved c.args.h (above c.requires.1) in
    (omega (arith, c.requires.1), (first-half c.requires.0 (above c.requires.1) _ c.root_by_shifts.ensures c.unwrap-r.ensures, omega (arith, c.if-down-eq3.false), omega (arith, half, c.requires.2)))

pub decode_node-requires-2 : goal.decode_node-requires-2
decode_node-requires-2 t c =
    let half = halved c.args.h (above c.requires.1) in
    (omega (arith, c.requires.1), (second-half c.requires.0 (above c.requires.1) _ c.root_by_shifts.ensures c.unwrap-r.ensures, omega (arith, c.if-down-eq3.false), omega (arith, half, c.requires.2, c.power-half.ensures)))

pub returns : goal.returns
returns t c =
    let a = c.args in
    both_halves (read c.requires.0 (above c.requires.1) _ c.root_by_shifts.ensures c.unwrap-r.ensures).node a.out.now _ _ a.from _ c.power-half.ensures (omega (arith, c.requires.2)) c.decode_node.ensures c.decode_node-2.ensures
