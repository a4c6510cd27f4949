-- `chains::block::put_block` meets its contract. Assumes nothing.
use Rattle.std.proofs.Common.{◌≡◌, ℕ, ◌+◌, List, get_or, take, set, ap, subst, ◌∙◌, arith}
use Rattle.std.proofs.lemmas.List.{take_all}
use Rattle.std.proofs.lemmas.List.Edits.{sets}
use Rattle.lists.proofs.Parts.{sets-next}
use Rattle.chains.proofs.block.put_block.Goals as goal

pub loop-i-preserved : goal.loop-i-preserved
loop-i-preserved c =
    let a = c.args in
    let l = c.loop-i in
    let i = l.i in
    let v = a.code.now in
    let put = sets a.s.now a.at (take i v) in
    ap (λ (z : List ℕ). set z (a.at + i) (get_or v i 0)) l.invariant
    ∙ subst (λ (k : ℕ). set put (a.at + i) (get_or v k 0) ≡ sets a.s.now a.at (take (i + 1) v)) {x = 0 + i} {y = i} (omega arith)
    (sets-next a.s.now v a.at 0 i (omega (arith, c.loop-i-test.true)))

pub returns : goal.returns
returns c =
    let a = c.args in
    let l = c.loop-i in
    l.invariant ∙ ap (sets a.s.now a.at) (take_all l.i a.code.now c.loop-i-test.false)
