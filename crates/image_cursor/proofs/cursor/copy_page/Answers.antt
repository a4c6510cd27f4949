-- `image_cursor::cursor::copy_page` meets its contract. Assumes nothing.
use mathlib.Core.Path.{◌≡◌}
use native.Mathlib.Omega.{arith}
use lib.ListN.{length, take, drop, length-take}
use lib.Seq.{take_at}
use Rattle.image_cursor.proofs.cursor.copy_page.Goals as goal

pub returns-clause-taken : goal.returns-clause-taken
returns-clause-taken c =
    let l : length (take c.args.n c.args.page.now) ≡ c.args.n = omega (arith, length-take c.args.n c.args.page.now, c.told-page, c.requires) in
    rw c.copy_from_slice.ensures.after (take_at (take c.args.n c.args.page.now) (drop c.args.n c.args.counts.now) c.args.n l)
