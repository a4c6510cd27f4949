-- `move_counts::push` meets its contract. Assumes nothing.
use mathlib.Core.Path.{◌≡◌, refl, ap, ◌∙◌}
use mathlib.Core.List.{List, [], ◌∷◌, ◌++◌, append-nil}
use Prim.Native.Nat.{ℕ, ◌-◌}
use native.Mathlib.Omega.{arith}
use lib.ListN.{drop_of_length-le, length, take, drop, length-drop, length-take}
use lib.Seq.{take_all}
use Rattle.store.specs.Plain.{inserted}
use Rattle.move_counts.proofs.Turning.{hand-last, hand-on}
use Rattle.move_counts.proofs.push.Goals as goal

pub loop-count-init : goal.loop-count-init
unfolding inserted
loop-count-init c = refl

pub loop-count-preserved : goal.loop-count-preserved
loop-count-preserved c =
    let l = c.loop-count in
    rw (c.swap.ensures.x_after, c.swap.ensures.y_after) (hand-on l.count-items l.count-index l.next (omega arith) ∙ l.invariant)

pub returns : goal.returns
returns c =
    let l = c.loop-count in
    let x : List ℕ = c.args.counts.now in
    let few : length (drop c.args.j x) ≡ 64 - c.args.j = omega (arith, length-drop c.args.j x) in
    let rest : drop (64 - c.args.j) (drop c.args.j x) ≡ [] = drop_of_length-le (drop c.args.j x) (omega arith) in
    ap (λ (z : List ℕ). take c.args.j x ++ (l.count-items ++ z)) rest
    ∙ ap (λ (z : List ℕ). take c.args.j x ++ z) (append-nil l.count-items)
    ∙ hand-last x l.count-items c.args.j c.args.v l.count-index l.next (omega arith) c.requires
    (omega (arith, length-take (64 - c.args.j) (drop c.args.j x))) (omega arith)
    (l.invariant ∙ ap (λ (z : List ℕ). c.args.v ∷ z) (take_all (64 - c.args.j) (drop c.args.j x) (omega arith)))
