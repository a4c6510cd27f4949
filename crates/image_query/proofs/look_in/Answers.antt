-- `image_query::look_in` meets its contract. Assumes nothing.
use mathlib.Core.Path.{sym, subst, ap, ◌∙◌}
use Prim.Native.Nat.{ℕ, ◌*◌}
use native.Mathlib.Omega.{arith}
use lib.Pow.{pow_pos}
use Rattle.std.specs.Int.{from_bool}
use Rattle.tree.specs.Code.Node.{Lies}
use Rattle.image.proofs.HeadLaws.{bounds}
use Rattle.image_query.proofs.LookSteps.{look-good, kept_by}
use Rattle.image_query.proofs.look_in.Goals as goal

pub power-m-requires : goal.power-m-requires
power-m-requires c = omega (arith, (bounds _ _ c.args.image.now.opened).e-high)

pub nonzero_rem-i : goal.nonzero_rem-i
nonzero_rem-i c = omega (arith, c.power-m.ensures, pow_pos c.args.image.now.head.e)

pub overflow_mul-from : goal.overflow_mul-from
overflow_mul-from c =
    let q = c.args.image.now.opened.head in
    omega (arith, kept_by c.args.keep c.args.page.before c.from.ensures, c.requires.total, q.total-is, q.total-small)

pub walk-requires : goal.walk-requires
walk-requires c =
    let r = c.args.page in
    let q = c.args.image.now.opened.head in (
      subst (λ (e : ℕ). Lies c.args.image.now.bytes.now r.at e r.sum) (sym q.e-is) c.requires.lies,
      omega (arith, kept_by c.args.keep r.before c.from.ensures, c.requires.total, q.total-is, q.total-small),
    )

pub returns : goal.returns
returns c =
    c.walk.ensures
    ∙ look-good _ _ c.args.image.now.opened c.args.i (from_bool c.args.keep) c.args.page _ _ c.requires c.power-m.ensures
    (ap (λ (k : ℕ). k * c.args.page.before) c.from.ensures)
