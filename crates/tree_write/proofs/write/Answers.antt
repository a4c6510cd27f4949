-- `tree_write::write` meets its contract: the tree is written over its own zeros. Assumes nothing.
use mathlib.Core.Path.{◌≡◌, sym, ap, ◌∙◌}
use Prim.Native.Nat.{ℕ, ◌+◌, ◌^◌, ◌≤◌}
use native.Mathlib.Omega.{arith}
use lib.ListN.{length, replicate, length-replicate}
use Rattle.lists.specs.Lists.{splice, window}
use Rattle.lists.proofs.Parts.{splice-over}
use Rattle.bits.specs.Bits.{bits}
use Rattle.bits.proofs.Laws.{length-bits}
use Rattle.reserve.specs.Reserve.{reserve}
use Rattle.tree.specs.Tree.{tree}
use Rattle.tree.proofs.Shape.{length-tree}
use Rattle.tree_write.proofs.Blank.{blank-cleared}
use Rattle.tree_write.proofs.write.Goals as goal

pub nodes-requires : goal.nodes-requires
nodes-requires c =
    let room : c.args.at + c.args.r ≤ length (bits c.args.out.now) = omega (arith, length-bits c.args.out.now, c.requires.lies.0.inside, c.requires.r_value) in
    let z = c.clear_bits in
    let blank = blank-cleared (bits c.args.out.now) (bits z.new.out) c.args.at c.args.r room z.ensures in record { lies = (omega (arith, c.requires.lies.0, z.auto.out), c.requires.lies.1, c.requires.lies.2); blank = rw (sym c.requires.r_value) blank }

pub returns : goal.returns
returns c =
    let room : c.args.at + c.args.r ≤ length (bits c.args.out.now) = omega (arith, length-bits c.args.out.now, c.requires.lies.0.inside, c.requires.r_value) in
    let n = c.nodes in
    let z = c.clear_bits in
    let a = c.args in
    let T = tree a.h (window a.counts.now a.from (2 ^ a.h)) in
    let lz = length-replicate {A = ℕ} a.r 0 in
    let lT : length T ≡ a.r = length-tree a.h (window a.counts.now a.from (2 ^ a.h)) ∙ ap (reserve a.h) (sym c.requires.lies.1) ∙ sym c.requires.r_value in
    n.ensures ∙ ap (λ y. splice y a.at T) z.ensures
    ∙ splice-over (bits a.out.now) (replicate a.r 0) T a.at (omega (arith, lz, lT)) (omega (arith, lz, room))
