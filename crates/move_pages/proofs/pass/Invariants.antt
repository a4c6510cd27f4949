-- `move_pages::pass` meets its contract. The loop's invariant: the pass has come to page p. Assumes nothing.
use mathlib.Core.List.{List}
use Prim.Native.Nat.{ℕ}
use Rattle.move_pages.specs.Code.Pass.{PassTo}
use Rattle.move_pages.proofs.pass.Given as goal

abbrev pub invariant-loop-p : goal.invariant-loop-p
invariant-loop-p l = PassTo l.plan l.late 0 (λ (z : List ℕ). l.p) l.initial.s l.s
