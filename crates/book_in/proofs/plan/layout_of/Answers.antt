-- `book_in::plan::layout_of` meets its contract. Assumes nothing.
use mathlib.Core.List.{List}
use mathlib.Core.Path.{sym, subst}
use Prim.Native.Nat.{ℕ}
use Rattle.std.proofs.Common.{rules}
use Rattle.image_plan.specs.Code.Planning.{Drafted}
use Rattle.image_plan.specs.declared.Plan.{Plan}
use Rattle.book.proofs.BookLaws.{length-listed}
use Rattle.book_in.proofs.plan.layout_of.Goals as goal

pub returns-in_err-plan : goal.returns-in_err-plan
returns-in_err-plan c = search (rules, c.in_err-plan.ensures _ (length-listed c.args.book.now))

-- the plan's e is e
own-e : {e : ℕ} {xs : List ℕ} {r : Plan} → Drafted e xs r → Drafted r.e xs r
own-e {xs = xs} {r} d = subst (λ (z : ℕ). Drafted z xs r) (sym d.e-is) d

pub add_pages-requires : goal.add_pages-requires
add_pages-requires c = own-e (c.in_ok-plan.ensures.1 _ (length-listed c.args.book.now))

pub returns : goal.returns
returns c =
    let d = c.in_ok-plan.ensures.1 _ (length-listed c.args.book.now) in
    rw d.e-is at (c.finish.ensures (record { e = _; xs = _; drafted = c.add_pages.ensures.0; all = c.add_pages.ensures.1 }))
