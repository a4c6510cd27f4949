-- The same session on the plain list, which knows nothing of the store's bytes. Assumes nothing.
use Rattle.std.specs.Prelude.{Option, Some, None, List, [], ◌∷◌, map, ℕ}
use Rattle.answers.specs.Refusals.{fresh_wrong, store_not_sound}
use Rattle.lists.specs.Lists.{concat, every, pick}
use Rattle.store.specs.Plain.{Call, Plain, next, plain_fresh, step}
use Rattle.store.specs.Limits.{limit_tests}
use Rattle.session.specs.Line.{command}
use Rattle.session_input.specs.Lines.{lines}
use Rattle.session_print.specs.Printed.{printed}
use Rattle.session.specs.declared.line.Command.{Command}
use Rattle.session.specs.declared.line.Command.TheVariants.{Fresh, Append, Set, Count, Reading, Reach, Day, Free}
use Rattle.session_print.specs.declared.Reply.{Reply}
use Rattle.session_print.specs.declared.Reply.TheVariants.{Done, Refused}
use Rattle.replies.specs.Session.{reply_for}

-- no list before n
pub data Board : Type 0 where
  empty : Board
  holds : Plain → Board

pub record PlainTurn : Type 0 where
  pub reply : Reply
  pub board : Board

-- 'Before n the store is empty: refused 10'
abbrev pub plain_change : Call → Board → PlainTurn
plain_change c empty = record { reply = Refused store_not_sound; board = empty }
plain_change c (holds L) = record { reply = reply_for (step c L).answer; board = holds (next c L) }

abbrev pub plain_ask : Call → Board → PlainTurn
plain_ask c empty = record { reply = Refused store_not_sound; board = empty }
plain_ask c (holds L) = record { reply = reply_for (step c L).answer; board = holds L }

-- 'pages P from 1 to 1,024; cells C from 1 to 1,800', else n is refused 9 and changes nothing
abbrev pub plain_start : ℕ → ℕ → Board → PlainTurn
plain_start P C b =
    pick (every (limit_tests P C)) (record { reply = Done; board = holds (plain_fresh P C) })
    (record { reply = Refused fresh_wrong; board = b })

unfoldable pub plain_turn : Option Command → Board → PlainTurn
plain_turn (Some (Fresh P C)) b = plain_start P C b
plain_turn (Some (Append v)) b = plain_change (Call.Append v) b
plain_turn (Some (Set i v)) b = plain_change (Call.Set i v) b
plain_turn (Some (Count i)) b = plain_ask (Call.Count i) b
plain_turn (Some (Reading i)) b = plain_ask (Call.Reading i) b
plain_turn (Some (Reach p)) b = plain_ask (Call.Reach p) b
plain_turn (Some (Day d)) b = plain_ask (Call.Day d []) b
plain_turn (Some Free) b = plain_ask Call.Free b
plain_turn None b = record { reply = Reply.Unknown; board = b }

unfoldable pub plain_replies : List (Option Command) → Board → List Reply
plain_replies [] b = []
plain_replies (c ∷ cs) b = (plain_turn c b).reply ∷ plain_replies cs (plain_turn c b).board

unfoldable pub plain_output : List ℕ → List ℕ
plain_output input = concat (map printed (plain_replies (map command (lines input)) empty))
