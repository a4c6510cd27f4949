-- A session byte by byte: the fold of `turn` over the bytes of its input. Assumes nothing.
use Rattle.std.specs.Prelude.{Option, List, [], ◌∷◌, ◌++◌, map, ℕ}
use Rattle.lists.specs.Lists.{concat}
use Rattle.session_input.specs.Lines.{holds, completes, ends}
use Rattle.session_print.specs.Printed.{printed}
use Rattle.session.specs.declared.line.Command.{Command}
use Rattle.replies.specs.Session.{turn, replies}

-- what a session keeps between two bytes of its input: the store's bytes, and what is held of the line that is begun
pub record State : Type 0 where
  pub store : List ℕ
  pub held : List ℕ

-- before the first byte; 'Before n the store is empty'
abbrev pub start : State
start = record { store = []; held = [] }

-- commands, one after another: what they print, and the store that they leave
unfoldable pub prints : List (Option Command) → List ℕ → List ℕ
prints cs s = concat (map printed (replies cs s))

unfoldable pub leaves : List (Option Command) → List ℕ → List ℕ
leaves [] s = s
leaves (c ∷ cs) s = leaves cs (turn c s).store

-- bytes of the input, one after another: the state that they lead to, and what they print. A line is held up to its 41st byte, by which it
-- is known to be too long
unfoldable pub next : ℕ → State → State
next b p = record { store = leaves (completes p.held b) p.store; held = holds 41 p.held b }

unfoldable pub fed : List ℕ → State → State
fed [] p = p
fed (b ∷ bs) p = fed bs (next b p)

unfoldable pub said : List ℕ → State → List ℕ
said [] p = []
said (b ∷ bs) p = prints (completes p.held b) p.store ++ said bs (next b p)

-- what the input's end prints: 'the last line may lack its line end'
abbrev pub last : State → List ℕ
last p = prints (ends p.held) p.store
