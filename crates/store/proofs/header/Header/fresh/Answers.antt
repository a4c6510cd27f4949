-- `store::header::Header::fresh` meets its contract. Assumes nothing.
use mathlib.Core.Path.{refl, sym}
use Prim.Native.Nat.{suc}
use Rattle.lists.proofs.Tables.{length-tabulate}
use Rattle.store.specs.Layout.{fresh}
use Rattle.store.proofs.FreshLaws.{fresh-first}
use Rattle.store.proofs.header.Header.fresh.Goals as goal

pub returns : goal.returns
unfolding fresh
returns c =
    let n = c.args.cells in
    record {
      pages-is = refl;
      cells_is = refl;
      first-is = sym (fresh-first n c.requires);
      free-is = sym (length-tabulate n suc);
      hours-is = refl;
    }
