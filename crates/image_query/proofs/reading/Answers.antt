-- `image_query::reading` meets its contract. Assumes nothing.
use mathlib.Core.Path.{◌≡◌, ap, ◌∙◌}
use native.Mathlib.Omega.{arith}
use Rattle.std.specs.Prelude.{Some, None, Err}
use Rattle.answers.specs.declared.refusal.Refusal.TheVariants.{Header, Body}
use Rattle.answers.specs.Image.{told}
use Rattle.image_query.proofs.LookSteps.{look-between, look-page, reading-five, reading-found, reading-lost, reading-none, reading-seven}
use Rattle.image_query.proofs.reading.Goals as goal

pub returns-in_err-image : goal.returns-in_err-image
unfolding told
returns-in_err-image c =
    let e : c.from_residual.result ≡ Err Header = grind arith in
    rw e (reading-five _ _ c.in_err-image.ensures.0)

pub returns-then-image-i : goal.returns-then-image-i
unfolding told
returns-then-image-i c = rw (← c.in_ok-image.ensures) (reading-seven c.in_ok-image.image.opened _ c.if-image-i.true)

pub returns-then-i-eq0 : goal.returns-then-i-eq0
unfolding told
returns-then-i-eq0 c = rw (← c.in_ok-image.ensures) (reading-none c.in_ok-image.image.opened _ c.if-i-eq0.true)

pub root_of-requires : goal.root_of-requires
root_of-requires c = look-page _ _ c.in_ok-image.image.opened _ 1 c.page_with-p.ensures (omega arith)

pub root_before-requires : goal.root_before-requires
root_before-requires c = look-page _ _ c.in_ok-image.image.opened _ 1 c.page_with-p.ensures (omega arith)

pub returns-in_err-page : goal.returns-in_err-page
unfolding told
returns-in_err-page c =
    let b = look-between _ _ c.in_ok-image.image.opened _ 1 _ _ c.page_between-found.result c.page_with-p.ensures c.root_of.ensures c.root_before.ensures
    c.page_between-found.ensures in
    let e : c.from_residual-in_err-page.result ≡ Err Body = grind arith in
    let n : c.page_between-found.result ≡ None = grind arith in
    rw (e, ← c.in_ok-image.ensures) (reading-lost c.in_ok-image.image.opened c.args.i (omega arith) c.if-image-i.false (rw n at b))

pub look_through-requires : goal.look_through-requires
look_through-requires c =
    let b = look-between _ _ c.in_ok-image.image.opened _ 1 _ _ c.page_between-found.result c.page_with-p.ensures c.root_of.ensures c.root_before.ensures
    c.page_between-found.ensures in
    let n : c.page_between-found.result ≡ Some c.in_ok-page.page = grind arith in
    rw n at b

pub returns : goal.returns
returns c =
    rw (← c.in_ok-image.ensures) (ap told c.ok_or-2.ensures.value ∙ reading-found c.in_ok-image.image.opened _ (omega arith) c.if-image-i.false c.look_through.ensures)
