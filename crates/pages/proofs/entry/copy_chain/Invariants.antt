-- `pages::entry::copy_chain` meets its contract. The loop's invariant: what the bytes will be in the end is what they are once the codes
-- of the cells that are left are put behind those that were copied. Assumes nothing.
use mathlib.Core.Path.{◌≡◌}
use Prim.Native.Nat.{◌-◌, ◌*◌}
use lib.ListN.{length}
use Rattle.lists.specs.Lists.{splice}
use Rattle.store.specs.Code.Links.{Steps}
use Rattle.pages.specs.Gathered.{code_from}
use Rattle.pages.proofs.entry.copy_chain.Given as goal

abbrev pub invariant-loop-j : goal.invariant-loop-j
invariant-loop-j l =
    (length l.out ≡ length l.initial.out) × Steps l.s l.base l.at (l.k - l.j)
    × (splice l.initial.out 0 (code_from l.s l.base l.e l.k) ≡ splice l.out (30 * l.j) (code_from l.s l.base l.at (l.k - l.j)))
