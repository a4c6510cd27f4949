-- How the code of reach answers once it has found a page. What it means is `Reach`: proofs/ReachLaws.antt. Assumes nothing.
use Rattle.std.specs.Prelude.{List, ℕ, ◌+◌, ◌-◌, ◌*◌, ◌^◌, leb}
use Rattle.answers.specs.Refusals.{body_damaged}
use Rattle.lists.specs.Lists.{pick}
use Rattle.bits.specs.Bits.{bits}
use Rattle.tree.specs.Read.{Sought, nowhere, at-index, seek}
use Rattle.answers.specs.Image.{Reply, given, refused}
use Rattle.image.specs.Read.{e_of, n_of, before_of, sum_of, tree_at}
use Rattle.image.specs.Query.{page_fine}

-- an index in the page whose first hour is f, of n hours in all
unfoldable pub placed : ℕ → ℕ → Sought → Reply
placed f n nowhere = refused body_damaged
placed f n (at-index i) = pick (leb (f + i) n) (given (f + i)) (refused body_damaged)

-- the reply for the figure q from page p, whose root is q or more and the one before it below q
unfoldable pub reach_from : List ℕ → ℕ → ℕ → Reply
reach_from s q p =
    pick (page_fine s p)
    (placed (2 ^ e_of s * p) (n_of s) (seek (e_of s) (sum_of s p) (bits s) (tree_at s p) (q - before_of s p)))
    (refused body_damaged)
