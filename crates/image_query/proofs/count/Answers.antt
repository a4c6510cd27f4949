-- `image_query::count` meets its contract. Assumes nothing.
use mathlib.Core.Path.{◌≡◌, ◌∙◌}
use native.Mathlib.Omega.{arith}
use Rattle.std.specs.Prelude.{Some, None, Err}
use Rattle.answers.specs.declared.refusal.Refusal.TheVariants.{Header, Body}
use Rattle.answers.specs.Image.{told}
use Rattle.image_query.proofs.LookSteps.{count-five, count-found, count-lost, count-seven, look-between, look-page}
use Rattle.image_query.proofs.count.Goals as goal

pub returns-in_err-image : goal.returns-in_err-image
unfolding told
returns-in_err-image c =
    let e : c.from_residual.result ≡ Err Header = grind arith in
    rw e (count-five _ _ c.in_err-image.ensures.0)

pub returns-then-image-i : goal.returns-then-image-i
unfolding told
returns-then-image-i c = rw (← c.in_ok-image.ensures) (count-seven c.in_ok-image.image.opened _ c.if-image-i.true)

pub root_of-requires : goal.root_of-requires
root_of-requires c = look-page _ _ c.in_ok-image.image.opened _ 0 c.page_with-p.ensures c.if-image-i.false

pub root_before-requires : goal.root_before-requires
root_before-requires c = look-page _ _ c.in_ok-image.image.opened _ 0 c.page_with-p.ensures c.if-image-i.false

pub returns-in_err-page : goal.returns-in_err-page
unfolding told
returns-in_err-page c =
    let b = look-between _ _ c.in_ok-image.image.opened c.args.i 0 _ _ c.page_between-found.result c.page_with-p.ensures c.root_of.ensures c.root_before.ensures
    c.page_between-found.ensures in
    let e : c.from_residual-in_err-page.result ≡ Err Body = grind arith in
    let n : c.page_between-found.result ≡ None = grind arith in
    rw (e, ← c.in_ok-image.ensures) (count-lost c.in_ok-image.image.opened c.args.i c.if-image-i.false (rw n at b))

pub look_in-requires : goal.look_in-requires
look_in-requires c =
    let b = look-between _ _ c.in_ok-image.image.opened c.args.i 0 _ _ c.page_between-found.result c.page_with-p.ensures c.root_of.ensures c.root_before.ensures
    c.page_between-found.ensures in
    let n : c.page_between-found.result ≡ Some c.in_ok-page.page = grind arith in
    rw n at b

pub returns : goal.returns
returns c =
    rw (← c.in_ok-image.ensures) (c.count_of.ensures ∙ count-found c.in_ok-image.image.opened _ c.if-image-i.false c.look_in.ensures)
