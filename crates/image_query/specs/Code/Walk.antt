-- What the walk to an hour answers. Assumes nothing.
use Rattle.std.specs.Prelude.{Bool, true, false, ◌≡◌, ℕ, leb, Option, None, Some}
use Rattle.lists.specs.Counts.{max_count}
use Rattle.answers.specs.Refusals.{body_damaged}
use Rattle.lists.specs.Lists.{pick}
use Rattle.answers.specs.Image.{Reply, given, refused}
use Rattle.tree.specs.Read.{Found, damaged}
use Rattle.image.specs.Query.{ended}

-- what the answer of a walk to a count stands for
unfoldable pub count_answered : Option ℕ → Reply
count_answered None = refused body_damaged
count_answered (Some r) = pick (leb r max_count) (given r) (refused body_damaged)

-- whether a walk does not end at a count above the widest; one that met damage may be either
pub record Ends (f : Found) (r : Bool) : Type 0 where
  pub kept : r ≡ true → ended f ≡ f
  pub lost : r ≡ false → ended f ≡ damaged
