-- `image::page::root_of` meets its contract. Assumes nothing.
use mathlib.Core.Path.{◌≡◌, ap, ◌∙◌}
use mathlib.Core.List.{List}
use Prim.Native.Nat.{ℕ, ◌+◌, ◌*◌}
use native.Mathlib.Omega.{arith}
use Rattle.bits.specs.Numbers.{Number, number_at}
use Rattle.image.specs.Image.{header_length, table_at}
use Rattle.image.specs.Read.{wide_of}
use Rattle.image.proofs.HeadLaws.{bounds}
use Rattle.image.proofs.RootLaws.{root-bad, root-good}
use Rattle.image.proofs.page.root_of.Goals as goal

-- page p's start bit stands in the table
start_is : {s : List ℕ} (p : ℕ) {t a r : ℕ} → Number s a 4 r → a ≡ t + 4 * p → t ≡ header_length (wide_of s)
    → r ≡ number_at s (table_at (wide_of s) p) 4
start_is {s} p g h k = g.is ∙ ap (λ (z : ℕ). number_at s z 4) (h ∙ ap (λ (z : ℕ). z + 4 * p) k)

pub table_at-requires : goal.table_at-requires
table_at-requires c =
    let f = bounds _ _ c.args.image.now.opened in
    (f.table-low, omega (arith, f.few, c.requires))

pub get-start-requires-clause-in_bounds : goal.get-start-requires-clause-in_bounds
get-start-requires-clause-in_bounds c =
    let o = c.args.image.now.opened in
    omega (arith, (bounds _ _ o).long, c.requires, c.table_at.ensures, o.head.table_is)

pub returns-then-head-end : goal.returns-then-head-end
returns-then-head-end c =
    let o = c.args.image.now.opened in
    root-bad _ _ o c.args.p _ _ (start_is c.args.p c.get-start.ensures c.table_at.ensures o.head.table_is) c.root_width-w.ensures (omega arith) c.if-head-end.true

pub overflow_add-head : goal.overflow_add-head
overflow_add-head c =
    let o = c.args.image.now.opened in
    let f = bounds _ _ o in
    omega (arith, f.few, f.head-high, f.code-at, o.head.code_is, c.get-start.ensures.small)

pub get_field-value-requires : goal.get_field-value-requires
get_field-value-requires c =
    let o = c.args.image.now.opened in
    let q = o.head in
    let f = bounds _ _ o in
    let w = c.root_width-w.ensures in
    let g = c.get-start.ensures.small in record {
      width_bound = (
        omega (arith, q.code_is, f.code-at, f.long),
        omega (arith, q.code_is, f.code-at, f.few, f.head-high, f.narrow, f.width, w, g),
        omega (arith, w, f.width, f.narrow),
      );
      in_bounds = omega (arith, f.long, f.head-low);
    }

pub returns : goal.returns
returns c =
    let o = c.args.image.now.opened in
    root-good _ _ o c.args.p _ _ (start_is c.args.p c.get-start.ensures c.table_at.ensures o.head.table_is)
    c.root_width-w.ensures (omega arith) c.if-head-end.false c.get_field-value.ensures
