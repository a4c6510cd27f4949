-- Document 01: '`hourlog` reads lines from standard input and writes one line each', .. 'the last line may lack its line end'.
-- Assumes nothing.
use Rattle.std.specs.Prelude.{Option, Some, None, List, [], ◌∷◌, ◌++◌, ◌≡◌, ℕ, ◌≤◌, length, take, eqb}
use Rattle.lists.specs.Lists.{pick}
use Rattle.session.specs.Ascii.{byte}
use Rattle.session.specs.Line.{split_on, command}
use Rattle.session.specs.declared.line.Command.{Command}
use Rattle.session_input.specs.declared.Gathered.{Gathered}
use Rattle.session_input.specs.declared.Gathered.TheVariants.{More, Whole}

-- behind the last line end there is a line only if there are bytes
unfoldable pub closed : List (List ℕ) → List (List ℕ)
closed [] = []
closed ([] ∷ []) = []
closed ((b ∷ l) ∷ []) = (b ∷ l) ∷ []
closed (l ∷ m ∷ ls) = l ∷ closed (m ∷ ls)

-- the lines of an input, without their line ends
unfoldable pub lines : List ℕ → List (List ℕ)
lines input = closed (split_on (byte "\n") input)

-- A line is gathered byte by byte into a buffer of some room. What is held of the line after one more byte: all of it that has room,
-- and nothing after a line end
unfoldable pub holds : ℕ → List ℕ → ℕ → List ℕ
holds room held b = pick (eqb b (byte "\n")) [] (take room (held ++ b ∷ []))

-- the commands that the input's end completes, each None if its line asks nothing: that of a line without its line end, if there is one
unfoldable pub ends : List ℕ → List (Option Command)
ends [] = []
ends (b ∷ bs) = command (b ∷ bs) ∷ []

-- and those that one more byte completes
unfoldable pub completes : List ℕ → ℕ → List (Option Command)
completes held b = pick (eqb b (byte "\n")) (command held ∷ []) []

-- all commands of an input
unfoldable pub gathered : ℕ → List ℕ → List ℕ → List (Option Command)
gathered room held [] = ends held
gathered room held (b ∷ input) = completes held b ++ gathered room (holds room held b) input

-- what an answer says: how much of the buffer is held, and which command is whole
abbrev pub held_length : Gathered → ℕ
held_length (More n) = n
held_length (Whole c) = 0

abbrev pub whole_commands : Gathered → List (Option Command)
whole_commands (More n) = []
whole_commands (Whole c) = c ∷ []

-- the same of the last line
abbrev pub last_commands : Option (Option Command) → List (Option Command)
last_commands None = []
last_commands (Some c) = c ∷ []

-- one step, from n bytes held in a buffer
pub record Gathers (before : List ℕ) (n b : ℕ) (r : Gathered) (after : List ℕ) : Type 0 where
  pub within : held_length r ≤ length before
  pub held : take (held_length r) after ≡ holds (length before) (take n before) b
  pub told : whole_commands r ≡ completes (take n before) b
