-- `chains::links::link_after` meets its contract: as many cells are left as the turns that are. Assumes nothing.
use Prim.Native.Nat.{◌-◌}
use mathlib.Core.Path.{◌≡◌}
use Rattle.store.specs.Code.Links.{nth_link, Steps}
use Rattle.chains.proofs.links.link_after.Given as goal

abbrev pub invariant-loop : goal.invariant-loop
invariant-loop l =
    (Steps l.s l.base l.at (l.k - l.counter)) × (nth_link l.s l.base l.a l.k ≡ nth_link l.s l.base l.at (l.k - l.counter))
