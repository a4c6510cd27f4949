-- What the code that answers a command ensures. Assumes nothing.
use Rattle.std.specs.Prelude.{Option, Result, Ok, Err, List, ◌≡◌, ℕ, take}
use Rattle.session.specs.declared.line.Command.{Command}
use Rattle.answers.specs.Number.{number}
use Rattle.answers.specs.declared.refusal.Refusal.{Refusal}
use Rattle.session_print.specs.declared.Reply.{Reply}
use Rattle.session_print.specs.declared.Reply.TheVariants.{Refused}
use Rattle.replies.specs.Session.{turn}
use Rattle.replies.specs.declared.Response.{Response}

-- the reply to a call: an accepted one's as f says, or the refusal's number
abbrev pub reply_of : {A : Type 0} → (A → Reply) → Result A Refusal → Reply
reply_of f (Ok x) = f x
reply_of f (Err r) = Refused (number r)

-- The store is the first n bytes of a buffer. Afterwards it is as many as the response says, and the reply is the turn's
pub record Responds (c : Option Command) (before : List ℕ) (n : ℕ) (r : Response) (after : List ℕ) : Type 0 where
  pub reply : r.reply ≡ (turn c (take n before)).reply
  pub store : take r.used after ≡ (turn c (take n before)).store
