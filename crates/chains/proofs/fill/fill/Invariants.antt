-- `chains::fill::fill` meets its contract. Assumes nothing.
use mathlib.Core.Path.{◌≡◌}
use Prim.Native.Nat.{◌-◌, ◌*◌}
use lib.ListN.{length, drop}
use Rattle.store.specs.Code.Links.{Steps, filled}
use Rattle.chains.proofs.fill.fill.Given as goal

abbrev pub invariant-loop-j : goal.invariant-loop-j
invariant-loop-j l =
    (length l.s ≡ length l.initial.s) × (Steps l.s l.base l.at (l.n - l.j)) × (filled l.initial.s l.base l.e l.n l.code ≡ filled l.s l.base l.at (l.n - l.j) (drop (30 * l.j) l.code))
