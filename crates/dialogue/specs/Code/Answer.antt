-- What the code that answers a command ensures. Assumes nothing.
use Rattle.std.specs.Prelude.{Option, List, ◌++◌, ◌≡◌, ℕ, ◌+◌, ◌≤◌, take}
use Rattle.session_print.specs.Printed.{printed}
use Rattle.session.specs.declared.line.Command.{Command}
use Rattle.replies.specs.Session.{turn}
use Rattle.dialogue.specs.declared.Standing.{Standing}

-- its line is held no more, and the reply's stands behind those before it
pub record Answers (c : Option Command) (p : Standing) (s out : List ℕ) (r : Standing) (s' out' : List ℕ) : Type 0 where
  pub store : take r.used s' ≡ (turn c (take p.used s)).store
  pub held : r.held ≡ 0
  pub said : take r.said out' ≡ take p.said out ++ printed (turn c (take p.used s)).reply
  pub most : r.said ≤ p.said + 32
