-- `pages::code::encode` meets its contract: bits that a tree is put at the front of are those of the page's bytes and zeros (`coded`).
-- Assumes nothing.
use mathlib.Core.Path.{◌≡◌, sym, ap, ◌∙◌}
use mathlib.Core.List.{List}
use Prim.Native.Nat.{ℕ}
use native.Mathlib.Omega.{arith}
use lib.ListN.{length, length-replicate}
use Rattle.lists.specs.Lists.{part, sum}
use Rattle.lists.proofs.Zeros.{part-zeros}
use Rattle.bits.specs.Bits.{bits}
use Rattle.reserve.specs.Reserve.{reserve}
use Rattle.bits.proofs.Packing.{zeros-bits}
use Rattle.pages.proofs.Coding.{coded, lies, window-all}
use Rattle.pages.proofs.code.encode.Goals as goal

pub nodes-requires : goal.nodes-requires
nodes-requires c =
    let a = c.args in
    let p = c.requires in
    let n : length a.counts.now ≡ 64 = omega arith in
    let y = lies a.code.now a.s (ap length p.blank ∙ length-replicate {A = ℕ} 240 0) p.total.1 in
    let l = length-replicate {A = ℕ} 240 0 in record {
      lies = (y, p.total.0 ∙ sym (ap sum (window-all a.counts.now 64 n)), omega arith);
      blank = ap (λ (z : List ℕ). part z 0 (reserve 6 a.s)) (ap bits p.blank ∙ zeros-bits 240)
          ∙ part-zeros 1920 0 (reserve 6 a.s) (omega (arith, y.inside, ap length p.blank));
    }

pub returns : goal.returns
returns c =
    let a = c.args in
    let p = c.requires in
    let n : length a.counts.now ≡ 64 = omega arith in
    let w = c.nodes in
    coded a.code.now w.new.out a.counts.now a.s p.blank n p.total.0 p.total.1
    (λ i. omega (arith, c.type_inv.code i)) w.ensures
