-- `freeze_plan::add_pages` meets its contract. Assumes nothing.
use mathlib.Core.Path.{◌≡◌}
use Prim.Native.Nat.{◌+◌, ◌*◌, ◌^◌, ◌<◌}
use Rattle.lists.specs.Lists.{reading}
use Rattle.store.specs.Reading.{list_in}
use Rattle.image_plan.specs.Code.Planning.{Drafted}
use Rattle.freeze_plan.proofs.add_pages.Given as goal

abbrev pub invariant-loop-p : goal.invariant-loop-p
invariant-loop-p l = record {
  all-is : l.all ≡ reading (list_in l.s.bytes.now) (64 * l.p);
  drafted : Drafted l.plan.e (list_in l.s.bytes.now) l.next;
  ahead : l.next.done < l.next.pages → 64 * l.p < 2 ^ l.plan.e * (l.next.done + 1);
}
