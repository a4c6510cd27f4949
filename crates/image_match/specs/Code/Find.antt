-- What the search along all pages answers. Assumes nothing.
use Rattle.std.specs.Prelude.{List, ℕ, Option, Some, None}
use Rattle.runs.specs.Runs.{FirstMatch, NoMatch}
use Rattle.answers.specs.declared.image.Run.{Run}

-- what was found: the run, or that there is none
abbrev pub Finds : List ℕ → ℕ → Option Run → Type 0
Finds xs q (Some r) = FirstMatch xs q r.first r.hours
Finds xs q None = NoMatch xs q
