-- An image that the full check accepts. Assumes nothing.
use Rattle.std.specs.Prelude.{List, ◌≡◌, ℕ, Result, Ok, Err}
use Rattle.answers.specs.Image.{fails}
use Rattle.answers.specs.Number.{number}
use Rattle.answers.specs.declared.refusal.Refusal.{Refusal}
use Rattle.image.specs.Check.{check}
use Rattle.image.specs.declared.opened.Accepted.{Accepted}

-- what opening the bytes s gives: them with their header where the check accepts them, else the check's refusal
abbrev pub Accesses : List ℕ → Result Accepted Refusal → Type 0
Accesses s (Ok image) = image.bytes.now ≡ s
Accesses s (Err r) = check s ≡ fails (number r)
