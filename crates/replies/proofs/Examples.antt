-- Document 01's printed session, byte by byte. Assumes nothing.
use mathlib.Core.Path.{◌≡◌, refl, ◌∙◌}
use mathlib.Core.List.{List, ◌++◌}
use Prim.Native.Nat.{ℕ}
use lib.ListN.{replicate}
use Rattle.days.specs.Days.{changes_fit, day_end, day_hours, day_numbers, day_start, hours_given, rises}
use Rattle.reserve.specs.Reserve.{ceil, reserve}
use Rattle.lists.specs.Lists.{concat, every, least, pick, reached, sum, tabulate}
use Rattle.store.specs.PageCode.{cells}
use Rattle.store.specs.Plain.{change, need, next, page, step}
use Rattle.session.specs.Ascii.{bytes}
use Rattle.session.specs.Number.{is_decimal_digit, value_from, digits_only, number}
use Rattle.session.specs.Line.{on_first, split_on, none, one, two, by_letter, by_parts, command}
use Rattle.session_input.specs.Lines.{closed, lines}
use Rattle.session_print.specs.Printed.{decimal_in, printed}
use Rattle.replies.specs.Session.{output}
use Rattle.replies.specs.PlainSession.{plain_turn, plain_replies, plain_output}
use Rattle.replies.proofs.SessionLaws.{session-is-plain}

plain-session :
    plain_output (bytes "n 1 2\na 122\nf\ns 0 123\nf\na 5\nr 2\nw 124\nw 129\ns 1 4294967295\ns 0 100000\n")
    ≡ bytes "ok\nok\n1\nok\n0\nok\n128\n2\nrefused 8\nrefused 3\nrefused 12\n"
unfolding plain_output plain_replies plain_turn concat every least pick reached sum tabulate cells ceil reserve change need next page step is_decimal_digit
    value_from digits_only number on_first split_on none one two by_letter by_parts command closed lines decimal_in printed
plain-session = refl

pub printed-session :
    output (bytes "n 1 2\na 122\nf\ns 0 123\nf\na 5\nr 2\nw 124\nw 129\ns 1 4294967295\ns 0 100000\n")
    ≡ bytes "ok\nok\n1\nok\n0\nok\n128\n2\nrefused 8\nrefused 3\nrefused 12\n"
printed-session = session-is-plain _ ∙ plain-session

-- before n, a refused n, each letter, lines that are none, an n that starts anew, and a last line without its line end
abbrev input : List ℕ
input = bytes "f\ng 0\nn 0 2\nf\nn 1 2\na 5\n\nn 1 1801\ng 0\ng 1\nd 0\ns 0 6\nr 1\nw 7\nx\na  1\nn 1024 1800\ng 0"

abbrev text : List ℕ
text =
    bytes "refused 10\nrefused 10\nrefused 9\nrefused 10\nok\nok\nline?\nrefused 9\n5\nrefused 7\nrefused 7\nok\n6\nrefused 8\n"
    ++ bytes "line?\nline?\nok\nrefused 7\n"

-- 'd day': 24 hours of one coin each
abbrev day_input : List ℕ
day_input = bytes "n 1 2\n" ++ (concat (replicate 24 (bytes "a 1\n")) ++ bytes "d 0\nd 1\n")

abbrev day_text : List ℕ
day_text = bytes "ok\n" ++ (concat (replicate 24 (bytes "ok\n")) ++ bytes "24\nrefused 7\n")

plain-others : (plain_output input ≡ text) × (plain_output day_input ≡ day_text)
unfolding plain_output plain_replies plain_turn concat every least pick reached sum tabulate cells ceil reserve change need next page step is_decimal_digit
    value_from digits_only number on_first split_on none one two by_letter by_parts command closed lines decimal_in printed changes_fit day_end day_start
    day_hours day_numbers hours_given rises
plain-others = (refl, refl)

pub other-sessions : (output input ≡ text) × (output day_input ≡ day_text)
other-sessions = (session-is-plain _ ∙ plain-others.0, session-is-plain _ ∙ plain-others.1)
