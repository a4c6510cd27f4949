-- `image_put::blocks::put_blocks` meets its contract. Assumes nothing.
use mathlib.Core.Path.{◌≡◌}
use Prim.Native.Nat.{◌-◌, ◌*◌, ◌^◌, min}
use Rattle.image_put.specs.Code.Writing.{Laid}
use Rattle.image_put.proofs.blocks.put_blocks.Given as goal

abbrev pub invariant-loop-k : goal.invariant-loop-k
invariant-loop-k g l = record {
  laid : Laid (g.B.Blocks.list l.source) l.fn.out l.out l.r l.at;
  at : l.at.page ≡ min (2 ^ (8 - l.r.e) * l.k) l.r.pages;
}
