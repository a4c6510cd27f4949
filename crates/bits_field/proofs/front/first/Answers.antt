-- `bits_field::front::first` meets its contract. Assumes nothing.
use mathlib.Core.Path.{sym, ap, ◌∙◌}
use Prim.Native.Nat.{ℕ}
use native.Mathlib.Nat.{add-zero}
use native.Mathlib.Omega.{arith}
use Rattle.lists.specs.Lists.{part}
use Rattle.bits.specs.Bits.{bits, value}
use Rattle.bits.proofs.Laws.{length-bits}
use Rattle.bits_field.proofs.front.first.Goals as goal

pub returns : goal.returns
returns c =
    let a = c.args in
    c.part.ensures
    ∙ sym (c.load.ensures 0 a.n (omega (arith, c.requires)) (omega (arith, c.requires, length-bits a.s.now)))
    ∙ ap (λ (k : ℕ). value (part (bits a.s.now) k a.n)) (add-zero a.at)
