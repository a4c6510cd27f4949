-- `image_busiest::window::first_sum` meets its contract. Assumes nothing.
use mathlib.Core.Path.{◌≡◌, ◌∙◌}
use native.Mathlib.Omega.{arith}
use Rattle.std.specs.Prelude.{Some}
use Rattle.runs.specs.Runs.{run_sum}
use Rattle.image.specs.Read.{list_of}
use Rattle.image_busiest.proofs.ReadingLaws.{first-sum-is}
use Rattle.image_busiest.proofs.window.first_sum.Goals as goal

pub unwrap-requires : goal.unwrap-requires
unwrap-requires c =
    let a = c.args.image.now in
    let e : c.look.result ≡ Some (run_sum (list_of a.bytes.now) 0 c.args.k) =
    (rw c.image.ensures.0 at c.look.ensures) ∙ first-sum-is _ a.accepted a.head_of c.args.k c.requires.0 c.requires.1 in
    grind arith

pub returns : goal.returns
returns c =
    let a = c.args.image.now in
    let e : c.look.result ≡ Some (run_sum (list_of a.bytes.now) 0 c.args.k) =
    (rw c.image.ensures.0 at c.look.ensures) ∙ first-sum-is _ a.accepted a.head_of c.args.k c.requires.0 c.requires.1 in
    grind arith
