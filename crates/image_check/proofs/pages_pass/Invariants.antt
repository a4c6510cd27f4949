-- `image_check::pages_pass` meets its contract. The loop's invariant: the answer is that of the pages from p on. Assumes nothing.
use mathlib.Core.Path.{◌≡◌}
use Prim.Native.Nat.{◌-◌, ◌≤◌}
use Rattle.image.specs.Read.{page_count_of}
use Rattle.image_test.specs.Code.Test.{pages_from}
use Rattle.image_check.proofs.pages_pass.Given as goal

abbrev pub invariant-loop-p : goal.invariant-loop-p
invariant-loop-p l = record {
  inside : l.end ≤ l.image.head.bits;
  rest_is : pages_from l.widest l.image.bytes.now (page_count_of l.image.bytes.now) 0 0 0
      ≡ pages_from l.widest l.image.bytes.now (l.image.head.pages - l.p) l.p l.end l.root;
}
