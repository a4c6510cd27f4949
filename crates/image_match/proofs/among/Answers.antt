-- `image_match::among` meets its contract. Assumes nothing.
use native.Mathlib.Omega.{arith}
use Rattle.image_match.specs.Match.{no-coins, none}
use Rattle.image_match.proofs.AnswerLaws.{found-answer, none-larger}
use Rattle.image_match.proofs.among.Goals as goal

pub returns-then-q-eq0 : goal.returns-then-q-eq0
returns-then-q-eq0 c = no-coins c.args.image.now.accepted c.if-q-eq0.true

pub returns-then-image-q : goal.returns-then-image-q
returns-then-image-q c =
    let a = c.args.image.now in
    none a.accepted (omega (arith, c.if-q-eq0.false)) (none-larger _ _ a.accepted _ a.head_of c.if-image-q.true)

pub returns : goal.returns
returns c = found-answer _ _ c.args.image.now.accepted (omega (arith, c.if-q-eq0.false)) _ c.find.ensures
