-- `match_seek::visit` meets its contract. Assumes nothing.
use Rattle.match_seek.proofs.visit.Given as goal

abbrev pub ghost-seek : goal.ghost-seek
ghost-seek g a = g.q
