-- `respond::respond` meets its contract. Assumes nothing.
use mathlib.Core.Path.{refl, ap, ◌∙◌}
use Rattle.std.specs.Prelude.{Some}
use Rattle.store.specs.Plain.{Call}
use Rattle.replies.specs.Session.{turn}
use Rattle.replies.proofs.TurnLaws.{asks-it, changes-it, leaves-it, of_part}
use Rattle.respond.proofs.respond.Goals as goal

pub returns-in-Fresh : goal.returns-in-Fresh
returns-in-Fresh c =
    of_part c.min-n.ensures (c.in-Some.is ∙ ap Some c.in-Fresh.is) c.renew.ensures

pub returns-in-Append : goal.returns-in-Append
unfolding turn
returns-in-Append c =
    let r = c.append in
    changes-it (Call.Append _) c.min-n.ensures
    c.in-Some.is c.in-Append.is r.result c.response_to.ensures refl r.ensures.called r.auto.s

pub returns-in-Set : goal.returns-in-Set
unfolding turn
returns-in-Set c =
    let r = c.set in
    changes-it (Call.Set _ _) c.min-n.ensures
    c.in-Some.is c.in-Set.is r.result c.response_to-in-Set.ensures refl r.ensures.called r.auto.s

pub returns-in-Count : goal.returns-in-Count
unfolding turn
returns-in-Count c =
    asks-it (Call.Count _) c.min-n.ensures
    c.in-Some.is c.in-Count.is c.count.result c.response_to-in-Count.ensures refl c.count.ensures.answer

pub returns-in-Reading : goal.returns-in-Reading
unfolding turn
returns-in-Reading c =
    asks-it (Call.Reading _) c.min-n.ensures
    c.in-Some.is c.in-Reading.is c.reading.result c.response_to-in-Reading.ensures refl c.reading.ensures.answer

pub returns-in-Reach : goal.returns-in-Reach
unfolding turn
returns-in-Reach c =
    asks-it (Call.Reach _) c.min-n.ensures
    c.in-Some.is c.in-Reach.is c.reach.result c.response_to-in-Reach.ensures refl c.reach.ensures.answer

pub returns-in-Day : goal.returns-in-Day
unfolding turn
returns-in-Day c =
    asks-it (Call.Day _ _) c.min-n.ensures
    c.in-Some.is c.in-Day.is c.day.result c.response_to-in-Day.ensures refl c.day.ensures.answer

pub returns-in-Free : goal.returns-in-Free
unfolding turn
returns-in-Free c =
    asks-it Call.Free c.min-n.ensures
    c.in-Some.is c.in-Free.is c.free.result c.response_to-in-Free.ensures refl c.free.ensures.answer

pub returns-in_default : goal.returns-in_default
unfolding turn
returns-in_default c = leaves-it c.min-n.ensures c.in_default.is refl
