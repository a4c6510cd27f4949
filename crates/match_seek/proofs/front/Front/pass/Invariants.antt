-- `match_seek::front::Front::pass` meets its contract. Assumes nothing.
use Rattle.match_seek.proofs.front.Front.pass.Given as goal

abbrev pub ghost-pass_hours : goal.ghost-pass_hours
ghost-pass_hours g a = g.q
