-- `freeze_plan::add_within` meets its contract. Assumes nothing.
use mathlib.Core.List.{List}
use mathlib.Core.Path.{◌≡◌}
use Prim.Native.Nat.{ℕ, ◌+◌, ◌*◌, ◌^◌, ◌≤◌, ◌<◌}
use native.Mathlib.Omega.{arith}
use Rattle.lists.specs.Lists.{reading}
use Rattle.store.specs.Reading.{list_in}
use Rattle.image_plan.specs.declared.Plan.{Plan}
use Rattle.freeze_plan.specs.Code.Steps.{Ending, Within}
use Rattle.freeze_plan.proofs.PageEnds.{ends_with}
use Rattle.freeze_plan.proofs.add_within.Goals as goal

pub power-m-requires : goal.power-m-requires
power-m-requires c = omega (arith, c.requires.within.drafted.e-high)

pub add_parts-requires : goal.add_parts-requires
add_parts-requires c = (c.requires.within, omega (arith, c.power-m.ensures, c.if-m-lt-HOURS.true))

pub returns-then-m-lt-HOURS : goal.returns-then-m-lt-HOURS
returns-then-m-lt-HOURS c = c.add_parts.ensures

-- a page no smaller than the store's ends with page p, if at all
abbrev at-end : (s : List ℕ) (p all end m : ℕ) (r : Plan) → Within s p end r → all ≡ reading (list_in s) (64 * (p + 1))
    → m ≡ 2 ^ r.e → 64 ≤ m → Ending all end r
at-end s p all end m r w q em k = record {
  e = r.e;
  xs = list_in s;
  drafted = w.drafted;
  total-fits = w.total-fits;
  end-one = w.end-one;
  next = λ (l : r.done < end).
      ends_with r.e p r.done end (list_in s) all q (omega (arith, em, k)) l w.end-in (w.ahead (omega (arith, l, w.end-one)));
}

pub add_ending-requires : goal.add_ending-requires
add_ending-requires c =
    let a = c.args in
    at-end a.own.now.bytes.now a.own.now.page a.all a.end c.power-m.result a.plan c.requires.within c.requires.reading c.power-m.ensures c.if-m-lt-HOURS.false

pub returns : goal.returns
returns c =
    let a = c.args in
    c.add_ending.ensures
    (at-end a.own.now.bytes.now a.own.now.page a.all a.end c.power-m.result a.plan c.requires.within c.requires.reading c.power-m.ensures c.if-m-lt-HOURS.false)
