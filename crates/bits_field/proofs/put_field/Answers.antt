-- `bits_field::put_field` meets its contract. Assumes nothing.
use Rattle.std.proofs.Common.{ℕ, ◌≡◌, ◌*◌, ap, arith, ◌∙◌, length}
use Rattle.lists.specs.Lists.{splice}
use Rattle.bits.specs.Bits.{bits, field}
use Rattle.bits.proofs.Words.{empty-put, put_is}
use Rattle.bits_field.proofs.Leading.{placed}
use Rattle.bits_field.proofs.put_field.Goals as goal

pub returns-then-width-eq0 : goal.returns-then-width-eq0
returns-then-width-eq0 c =
    let a = c.args in
    let e : a.width ≡ 0 = omega arith in
    empty-put (bits a.out.now) a.at a.width a.v e

pub returns : goal.returns
returns c =
    let a = c.args in
    let p = placed a.at (length a.out.now) a.width c.place-o.ensures c.requires.in_bounds c.requires.width_bound.0 c.requires.width_bound.2 in
    let w = c.load8-w in
    c.store8.ensures
    ∙ ap (λ (x : ℕ). splice (bits a.out.now) (8 * c.place-o.result) (field 64 x)) c.with_field.ensures
    ∙ put_is a.out.now c.place-o.result a.at a.width w.result a.v p.0 p.1 p.2 w.ensures c.requires.v_bound
