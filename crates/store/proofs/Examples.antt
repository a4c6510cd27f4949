-- Document 01's printed session on the plain list, computed. Assumes nothing.
use mathlib.Core.Path.{◌≡◌, refl}
use mathlib.Core.List.{List, [], ◌∷◌}
use Rattle.reserve.specs.Reserve.{ceil, reserve}
use Rattle.lists.specs.Lists.{least, pick, reached, sum, tabulate}
use Rattle.store.specs.PageCode.{cells}
use Rattle.store.specs.Plain.{Append, Call, Free, Reach, Reading, Set, change, need, next, page}
use Rattle.answers.specs.Store.{answered, changed, refused}
use Rattle.store.specs.Plain.{plain_answers, plain_fresh, step}

-- 'Input `n 1 2`, `a 122`, `f`, `s 0 123`, `f`, `a 5`, `r 2`, `w 124`, `w 129`, `s 1 4294967295`, `s 0 100000` prints `ok`, `ok`, `1`, `ok`,
-- `0`, `ok`, `128`, `2`, `refused 8`, `refused 3`, `refused 12`'
unfoldable pub session : List Call
session =
    Append 122 ∷ Free ∷ Set 0 123 ∷ Free ∷ Append 5 ∷ Reading 2 ∷ Reach 124 ∷ Reach 129 ∷ Set 1 4294967295 ∷ Set 0 100000 ∷ []

unfoldable pub session-answers : plain_answers session (plain_fresh 1 2)
    ≡ changed 1 0
    ∷ answered 1
    ∷ changed 1 0
    ∷ answered 0
    ∷ changed 0 0
    ∷ answered 128
    ∷ answered 2
    ∷ refused 8
    ∷ refused 3
    ∷ refused 12
    ∷ []
unfolding session plain_answers next step change need page cells ceil reserve reached least tabulate sum pick
session-answers = refl
