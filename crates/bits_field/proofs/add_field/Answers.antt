-- `bits_field::add_field` meets its contract: where the word has zeros a sum is what stands there then, and the word that it stores is
-- the one that `put_field` stores (`put_is`). Assumes nothing.
use mathlib.Core.Path.{◌≡◌, ◌∙◌, ap}
use Prim.Native.Nat.{ℕ, ◌+◌, ◌-◌, ◌*◌, ◌/◌, ◌%◌, ◌^◌, ◌<◌}
use native.Mathlib.Nat.{mod-eq_of_lt}
use native.Mathlib.Omega.{arith}
use lib.ListN.{length}
use Rattle.lists.specs.Lists.{splice}
use Rattle.bits.specs.Bits.{bits, field}
use Rattle.bits.proofs.Words.{added_is, added-fits, none_is, put_is}
use Rattle.bits_field.proofs.Leading.{placed}
use Rattle.bits_field.proofs.add_field.Goals as goal
use Rattle.bits_field.proofs.add_field.Goals.{After-load8-w}

-- how many bits of the word are below the field
abbrev low : After-load8-w → ℕ
low c = 64 - (c.args.at - 8 * c.place-o.result) - c.args.width

empty : (c : After-load8-w) → c.load8-w.result / 2 ^ low c % 2 ^ c.args.width ≡ 0
empty c =
    let a = c.args in
    let p = placed a.at (length a.out.now) a.width c.place-o.ensures c.requires.v_bound.1 c.requires.width_bound.0 c.requires.width_bound.3 in
    none_is a.out.now c.place-o.result a.at a.width c.load8-w.result p.0 p.1 p.2 c.requires.width_bound.2 c.load8-w.ensures c.requires.out_value

fits : (c : After-load8-w) → c.load8-w.result + c.args.v * 2 ^ low c < 2 ^ 64
fits c =
    let a = c.args in
    let p = placed a.at (length a.out.now) a.width c.place-o.ensures c.requires.v_bound.1 c.requires.width_bound.0 c.requires.width_bound.3 in
    added-fits c.load8-w.result a.width (low c) a.v (empty c) c.load8-w.type_inv (omega (arith, p)) c.requires.v_bound.0

-- the shift loses nothing
shifted : (c : After-load8-w) → c.args.v * 2 ^ low c % 2 ^ 64 ≡ c.args.v * 2 ^ low c
shifted c = mod-eq_of_lt (omega (arith, fits c))

pub overflow_add-w : goal.overflow_add-w
overflow_add-w c = let d = (goal.at.overflow_add-w c).After-load8-w in rw (shifted d) (omega (arith, fits d))

pub returns : goal.returns
returns c =
    let d = (goal.at.returns c).After-load8-w in
    let a = c.args in
    let w = c.load8-w in
    let p = placed a.at (length a.out.now) a.width c.place-o.ensures c.requires.v_bound.1 c.requires.width_bound.0 c.requires.width_bound.3 in
    c.store8.ensures
    ∙ ap (λ (x : ℕ). splice (bits a.out.now) (8 * c.place-o.result) (field 64 x))
    (ap (λ (z : ℕ). w.result + z) (shifted d) ∙ added_is w.result a.width (low d) a.v (empty d))
    ∙ put_is a.out.now c.place-o.result a.at a.width w.result a.v p.0 p.1 p.2 w.ensures c.requires.v_bound.0
