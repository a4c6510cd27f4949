-- `image::page::page_between` meets its contract. Assumes nothing.
use mathlib.Core.Path.{◌≡◌, ap}
use mathlib.Core.Bool.{not}
use Prim.Native.Nat.{ℕ}
use native.Mathlib.Omega.{arith}
use Rattle.std.specs.Prelude.{Option, Some}
use Rattle.image.specs.declared.head.Head.{Head}
use Rattle.image.specs.declared.page.Root.{Root}
use Rattle.image.specs.Code.Page.{Rooted}
use Rattle.image.proofs.HeadLaws.{bounds}
use Rattle.image.proofs.RootLaws.{Roots, above-total, below-before, own-within, page-bad, page-good, tree-most, tree-passes}
use Rattle.image.proofs.page.page_between.Goals as goal

-- both roots were read
abbrev roots : {h : Head} {own : Option Root} {last : Option ℕ} {t : Root} {x : ℕ} → (a : Rooted h own last) → own ≡ Some t → last ≡ Some x
    → Roots a.s h a.p t x
roots a e f = record { opened = a.opened; own = rw e at a.own_at; last = rw f at a.last-at }

pub returns-in_err-own : goal.returns-in_err-own
returns-in_err-own c a = rw c.from_residual.ensures (page-bad _ a.p 0 (ap not (rw c.in_err-own.was at a.own_at)))

pub returns-in_err-before : goal.returns-in_err-before
returns-in_err-before c a = rw c.from_residual-in_err-before.ensures (page-bad _ a.p 1 (ap not (rw c.in_err-before.was at a.last-at)))

pub returns-then-head-own : goal.returns-then-head-own
returns-then-head-own c a =
    page-bad _ a.p 2 (above-total (roots a c.in_ok-own.was c.in_ok-before.was) c.if-head-own.true)

pub returns-in_err-sum : goal.returns-in_err-sum
returns-in_err-sum c a =
    let g = roots a c.in_ok-own.was c.in_ok-before.was in
    rw c.from_residual-in_err-sum.ensures (page-bad _ a.p 4 (below-before g (omega (arith, c.in_err-sum.ensures))))

pub reserve_of-requires : goal.reserve_of-requires
reserve_of-requires c =
    let o = c.requires.opened in
    ((bounds _ _ o).e-high, omega (arith, o.head.total-small, c.in_ok-sum.ensures))

pub overflow_add-own : goal.overflow_add-own
overflow_add-own c =
    let g = roots c.requires c.in_ok-own.was c.in_ok-before.was in
    omega (arith, own-within g, g.opened.head.bits_small, c.reserve_of.ensures, tree-most g c.in_ok-sum.ensures.1 c.if-head-own.false)

pub returns-then-head-own-2 : goal.returns-then-head-own-2
returns-then-head-own-2 c a =
    let g = roots a c.in_ok-own.was c.in_ok-before.was in
    page-bad _ a.p 5 (tree-passes g c.in_ok-sum.ensures.1 c.reserve_of.ensures c.if-head-own-2.true)

pub overflow_add-at : goal.overflow_add-at
overflow_add-at c =
    let g = roots c.requires c.in_ok-own.was c.in_ok-before.was in
    let o = g.opened in
    let f = bounds _ _ o in
    omega (arith, own-within g, o.head.bits_small, o.head.code_is, f.code-at, f.few, f.head-high)

pub returns : goal.returns
returns c a =
    let g = roots a c.in_ok-own.was c.in_ok-before.was in
    page-good g c.in_ok-sum.ensures.1 c.reserve_of.ensures c.if-head-own.false c.in_ok-sum.ensures.0 c.if-head-own-2.false
