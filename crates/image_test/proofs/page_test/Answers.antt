-- `image_test::page_test` meets its contract. Assumes nothing.
use native.Mathlib.Omega.{arith}
use mathlib.Core.Path.{◌≡◌, sym, ap, ◌∙◌}
use mathlib.Core.List.{List}
use Prim.Native.Nat.{ℕ, ◌+◌, ◌-◌}
use Rattle.reserve.specs.Reserve.{digits, reserve}
use Rattle.image.specs.Code.Head.{Opened}
use Rattle.image.specs.Code.Page.{RootOf}
use Rattle.image.specs.declared.head.Head.{Head}
use Rattle.image.specs.declared.page.Root.{Root}
use Rattle.image_test.proofs.CheckSteps.{Own, Standing, elsewhere, end-small, falls, inexact, own-small, own-within, page-passes, root-passes}
use Rattle.image_test.proofs.CheckSteps.{tree-lies, tree_over}
use Rattle.image.proofs.HeadLaws.{bounds}
use Rattle.image_test.proofs.page_test.Goals as goal

-- the root was read
own : {s : List ℕ} {h : Head} {p : ℕ} {r : Root} → Opened s h → RootOf s p r → Own s h p r
own {r = r} o g = record { opened = o; root = g }

-- it stands in its place, and its tree is measured
standing : {s : List ℕ} {h : Head} {p : ℕ} {r : Root} {start before d k : ℕ} → Own s h p r → r.end ≡ start + d → d ≡ digits h.total
    → k ≡ reserve h.e (r.value - before) → Standing s h p r start before k
standing g e d k = record { own_root = g; end-at = omega (arith, e, d); tree-bits = k }

pub returns-in_err-own : goal.returns-in_err-own
returns-in_err-own c = rw c.from_residual.ensures (root-passes c.in_err-own.ensures)

pub returns-then-own-start : goal.returns-then-own-start
returns-then-own-start c =
    elsewhere (own c.args.image.now.opened c.in_ok-own.ensures) (c.from.ensures ∙ c.root_width.ensures) c.if-own-start.true

pub returns-in_err-sum : goal.returns-in_err-sum
returns-in_err-sum c =
    rw c.from_residual-in_err-sum.ensures (falls (own c.args.image.now.opened c.in_ok-own.ensures) (omega (arith, c.in_err-sum.ensures)))

pub reserve_of-size-requires : goal.reserve_of-size-requires
reserve_of-size-requires c =
    let g = own c.args.image.now.opened c.in_ok-own.ensures in
    ((bounds _ _ g.opened).e-high, omega (arith, own-small g, c.in_ok-sum.ensures))

pub overflow_add-end : goal.overflow_add-end
overflow_add-end c =
    let g = own c.args.image.now.opened c.in_ok-own.ensures in
    let w = standing g c.if-own-start.false (c.from.ensures ∙ c.root_width.ensures) (c.reserve_of-size.ensures ∙ ap (reserve _) c.in_ok-sum.ensures.1) in
    omega (arith, end-small w)

pub returns-then-head-end : goal.returns-then-head-end
returns-then-head-end c =
    let g = own c.args.image.now.opened c.in_ok-own.ensures in
    let w = standing g c.if-own-start.false (c.from.ensures ∙ c.root_width.ensures) (c.reserve_of-size.ensures ∙ ap (reserve _) c.in_ok-sum.ensures.1) in
    tree_over w c.if-head-end.true

pub overflow_add-at : goal.overflow_add-at
overflow_add-at c =
    let g = own c.args.image.now.opened c.in_ok-own.ensures in
    let f = bounds _ _ g.opened in
    omega (arith, own-within g, g.opened.head.bits_small, g.opened.head.code_is, f.code-at, f.few)

pub nodes-requires : goal.nodes-requires
nodes-requires c =
    let g = own c.args.image.now.opened c.in_ok-own.ensures in
    let w = standing g c.if-own-start.false (c.from.ensures ∙ c.root_width.ensures) (c.reserve_of-size.ensures ∙ ap (reserve _) c.in_ok-sum.ensures.1) in
    (rw c.in_ok-sum.ensures.1 (tree-lies w c.if-head-end.false), c.reserve_of-size.ensures)

pub returns-then-not-nodes : goal.returns-then-not-nodes
returns-then-not-nodes c =
    let g = own c.args.image.now.opened c.in_ok-own.ensures in
    let w = standing g c.if-own-start.false (c.from.ensures ∙ c.root_width.ensures) (c.reserve_of-size.ensures ∙ ap (reserve _) c.in_ok-sum.ensures.1) in
    inexact w (sym (rw c.in_ok-sum.ensures.1 at c.nodes.ensures) ∙ c.if-not-nodes.true)

pub returns : goal.returns
returns c =
    let g = own c.args.image.now.opened c.in_ok-own.ensures in
    let w = standing g c.if-own-start.false (c.from.ensures ∙ c.root_width.ensures) (c.reserve_of-size.ensures ∙ ap (reserve _) c.in_ok-sum.ensures.1) in
    page-passes w c.args.widest c.in_ok-sum.ensures.0 c.if-head-end.false (sym (rw c.in_ok-sum.ensures.1 at c.nodes.ensures) ∙ c.if-not-nodes.false)
