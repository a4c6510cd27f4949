-- The live calls by examples, in the numbers of documents 01 and 02: what C gets at each border, from both sides, and which of two refusals that
-- fit is answered. A line is a call and its word (`ExampleForms`): a number, `taken` and `returned` cells, or `refused` and a refusal's number.
-- A `Session` starts on a fresh store and goes on from line to line; the lines under `Holding` are asked each on its own, of any store that holds
-- the list. Assumes nothing.
use mathlib.Core.List.{List, [], ◌∷◌, ◌++◌, map}
use mathlib.Core.Path.{◌≡◌, refl, ap, ◌∙◌}
use Prim.Native.Nat.{ℕ, ◌≤◌}
use native.Mathlib.Omega.{arith}
use lib.ListN.{length, replicate}
use borrow.Author.Tests.{lt-ltb}
use Rattle.lists.specs.Lists.{pick, tabulate}
use Rattle.reserve.specs.Reserve.{reserve}
use Rattle.answers.specs.Store.{refused as turned}
use Rattle.coin_cost.specs.Cost.{cells_for, gain, page_gain}
use Rattle.store.specs.Plain.{Append, Count, Day, Free, Insert, Outcome, Plain, Reach, Reading, Set, Strike, step}
use Rattle.store.proofs.DayLaws.{old-day}
use Rattle.demands.proofs.ExampleForms.{Holding, Session, ◌gives◌, held, refused, returned, session, taken}
use Rattle.demands.proofs.Computing.{the-plain-list}

-- the plain list of a store of P pages and C cells that holds these counts
abbrev log : (pages cells : ℕ) → List ℕ → Plain
log P C xs = record { pages = P; cells = C; counts = xs }

-- so many hours without a coin
abbrev idle : ℕ → List ℕ
idle n = replicate n 0

-- ---- document 01: 'Input `n 1 2`, `a 122`, `f`, `s 0 123`, `f`, `a 5`, `r 2`, `w 124`, `w 129`, `s 1 4294967295`, `s 0 100000` prints `ok`, `ok`,
-- `1`, `ok`, `0`, `ok`, `128`, `2`, `refused 8`, `refused 3`, `refused 12`'
pub printed-session :
    Session 1 2
    (Append 122 gives taken 1
    ∷ Free gives 1
    ∷ Set 0 123 gives taken 1
    ∷ Free gives 0
    ∷ Append 5 gives 0
    ∷ Reading 2 gives 128
    ∷ Reach 124 gives 2
    ∷ Reach 129 gives refused 8
    ∷ Set 1 4294967295 gives refused 3
    ∷ Set 0 100000 gives refused 12
    ∷ [])
unfolding the-plain-list
printed-session = session refl refl

-- ---- append: 'refused 11 if 64P hours are logged, 3 if the total would pass its limit, 12 if the new need is above C; else v joins the end'
-- 'none for sum 0', 'R(64,122)=240 (one cell), R(64,123)=241 (two)'; a page of 1,771 coins has two cells, one of 1,772 three
pub append-cells :
    Session 1 2
    (Append 0 gives 0
    ∷ Append 122 gives taken 1
    ∷ Append 0 gives 0
    ∷ Append 1 gives taken 1
    ∷ Append 1648 gives 0
    ∷ Reading 5 gives 1771
    ∷ Append 1 gives refused 12
    ∷ Append 0 gives 0
    ∷ Reading 6 gives 1771
    ∷ [])
unfolding the-plain-list
append-cells = session refl refl

-- 'R(64,4294967295)=1820 (eight)': a total of 4,294,967,295 is accepted, and one coin more is refused 3, also where 12 fits
pub append-total :
    Session 1 8
    (Append 4294967295 gives taken 8 ∷ Append 1 gives refused 3 ∷ Append 0 gives 0 ∷ Count 1 gives 0 ∷ Reading 2 gives 4294967295 ∷ [])
    × Session 1 1
    (Append 122 gives taken 1 ∷ Append 4294967174 gives refused 3 ∷ Append 4294967173 gives refused 12 ∷ Append 0 gives 0 ∷ [])
unfolding the-plain-list
append-total = (session refl refl, session refl refl)

-- hour 63 is the last of one page, hour 127 of two; a full log is refused 11, also where the total would pass its limit
pub append-full :
    Holding (log 1 1 (idle 63)) (Append 0 gives 0 ∷ Append 1 gives taken 1 ∷ [])
    × Holding (log 1 1 (idle 64)) (Append 0 gives refused 11 ∷ Append 1 gives refused 11 ∷ [])
    × Holding (log 2 1 (idle 127)) (Append 0 gives 0 ∷ [])
    × Holding (log 2 1 (idle 128)) (Append 0 gives refused 11 ∷ [])
    × Holding (log 1 8 (4294967295 ∷ idle 62)) (Append 1 gives refused 3 ∷ [])
    × Holding (log 1 8 (4294967295 ∷ idle 63)) (Append 1 gives refused 11 ∷ [])
unfolding the-plain-list
append-full = (held refl, held refl, held refl, held refl, held refl, held refl)

-- ---- set: '7 if i ≥ N; 3; 12; else count i becomes v'. It returns the rise and the fall of the need, 'so one of the two is 0'
pub sets :
    Session 1 8
    (Set 0 0 gives refused 7
    ∷ Append 5 gives taken 1
    ∷ Append 7 gives 0
    ∷ Set 1 9 gives 0
    ∷ Set 2 9 gives refused 7
    ∷ Count 1 gives 9
    ∷ Set 0 4294967287 gives refused 3
    ∷ Set 2 4294967295 gives refused 7
    ∷ Set 0 4294967286 gives taken 7
    ∷ Count 0 gives 4294967286
    ∷ Free gives 0
    ∷ Set 0 0 gives returned 7
    ∷ Set 1 0 gives returned 1
    ∷ Free gives 8
    ∷ [])
    × Session 1 1
    (Append 100 gives taken 1
    ∷ Append 22 gives 0
    ∷ Set 0 101 gives refused 12
    ∷ Set 2 101 gives refused 7
    ∷ Set 0 4294967274 gives refused 3
    ∷ Set 0 4294967273 gives refused 12
    ∷ Set 0 100 gives 0
    ∷ [])
unfolding the-plain-list
sets = (session refl refl, session refl refl)

-- ---- count: '7 if i ≥ N'; reading: '7 if i > N', 'the reading at 0 is 0'; reach: '8 if p is above the total; else the smallest i with reading
-- at i ≥ p'. 'Going right when the figure equals the left sum: reach 1 would miss hour 0'
pub questions :
    Holding (log 1 1 (0 ∷ 0 ∷ 5 ∷ 0 ∷ 3 ∷ 0 ∷ []))
    (Count 0 gives 0
    ∷ Count 2 gives 5
    ∷ Count 5 gives 0
    ∷ Count 6 gives refused 7
    ∷ Reading 0 gives 0
    ∷ Reading 2 gives 0
    ∷ Reading 3 gives 5
    ∷ Reading 5 gives 8
    ∷ Reading 6 gives 8
    ∷ Reading 7 gives refused 7
    ∷ Reach 0 gives 0
    ∷ Reach 1 gives 3
    ∷ Reach 5 gives 3
    ∷ Reach 6 gives 5
    ∷ Reach 8 gives 5
    ∷ Reach 9 gives refused 8
    ∷ [])
    × Holding (log 1 1 (1 ∷ 1 ∷ [])) (Reach 1 gives 1 ∷ Reach 2 gives 2 ∷ Reach 3 gives refused 8 ∷ [])
    × Holding (log 5 9 (replicate 300 1))
    (Count 299 gives 1 ∷ Reading 257 gives 257 ∷ Reach 257 gives 257 ∷ Reach 300 gives 300 ∷ Free gives 4 ∷ [])
    × Holding (log 1 1 [])
    (Count 0 gives refused 7 ∷ Reading 0 gives 0 ∷ Reading 1 gives refused 7 ∷ Reach 0 gives 0 ∷ Reach 1 gives refused 8 ∷ Free gives 1 ∷ [])
unfolding the-plain-list
questions = (held refl, held refl, held refl, held refl)

-- ---- free: 'C - need', where 'page p has hours 64p to 64p + 63': hours 63 and 64 are of two pages, hours 62 and 63 of one
pub free-cells :
    Holding (log 2 9 []) (Free gives 9 ∷ [])
    × Holding (log 2 9 (idle 62 ++ 1 ∷ 1 ∷ [])) (Free gives 8 ∷ [])
    × Holding (log 2 9 (idle 63 ++ 1 ∷ 1 ∷ [])) (Free gives 7 ∷ [])
    × Holding (log 2 9 (idle 63 ++ 123 ∷ 123 ∷ [])) (Free gives 5 ∷ [])
unfolding the-plain-list
free-cells = (held refl, held refl, held refl, held refl)

-- ---- document 02, note 4. Hour j has j coins here, so that a sum tells its hours. 'An empty list gives the old answers': 24 hours a day, and '7
-- if 24d + 24 > N'
abbrev rising : ℕ → List ℕ
rising n = tabulate n (λ j. j)

pub old-days :
    Holding (log 1 8 (rising 47)) (Day 0 [] gives 276 ∷ Day 1 [] gives refused 7 ∷ [])
    × Holding (log 1 8 (rising 48)) (Day 0 [] gives 276 ∷ Day 1 [] gives 852 ∷ Day 2 [] gives refused 7 ∷ [])
unfolding the-plain-list
old-days = (held refl, held refl)

-- 'Days in the list have the hours it gives, others 24. Day d starts after the hours of all days before it, and 7 now stands for a day whose end
-- is above N': a day 0 of 25 hours has hours 0 to 24 and day 1 hours 25 to 48; one of 23 has hours 0 to 22, and day 1 hours 23 to 46
pub changed-days :
    Holding (log 1 8 (rising 24)) (Day 0 (0 ∷ 25 ∷ []) gives refused 7 ∷ Day 0 (0 ∷ 23 ∷ []) gives 253 ∷ Day 0 (1 ∷ 25 ∷ []) gives 276 ∷ [])
    × Holding (log 1 8 (rising 25)) (Day 0 (0 ∷ 25 ∷ []) gives 300 ∷ [])
    × Holding (log 1 8 (rising 46)) (Day 1 (0 ∷ 23 ∷ []) gives refused 7 ∷ Day 1 (1 ∷ 23 ∷ []) gives refused 7 ∷ [])
    × Holding (log 1 8 (rising 47))
    (Day 1 (0 ∷ 23 ∷ []) gives 828 ∷ Day 1 (1 ∷ 23 ∷ []) gives 805 ∷ Day 1 (0 ∷ 23 ∷ 1 ∷ 25 ∷ []) gives refused 7 ∷ [])
    × Holding (log 1 8 (rising 48)) (Day 1 (0 ∷ 25 ∷ []) gives refused 7 ∷ Day 1 (0 ∷ 23 ∷ 1 ∷ 25 ∷ []) gives 875 ∷ [])
    × Holding (log 1 8 (rising 49)) (Day 1 (0 ∷ 25 ∷ []) gives 876 ∷ Day 1 (1 ∷ 25 ∷ []) gives 900 ∷ Day 1 (2 ∷ 25 ∷ []) gives 852 ∷ [])
unfolding the-plain-list
changed-days = (held refl, held refl, held refl, held refl, held refl, held refl)

-- a change behind day 365: 400 days of 24 hours, then one of 25, then one of 24; 12 coins an hour
pub late-change :
    Holding (log 152 1800 (replicate 9624 12)) (Day 400 (400 ∷ 25 ∷ []) gives refused 7 ∷ Day 400 [] gives 288 ∷ [])
    × Holding (log 152 1800 (replicate 9625 12)) (Day 400 (400 ∷ 25 ∷ []) gives 300 ∷ [])
    × Holding (log 152 1800 (replicate 9648 12)) (Day 401 (400 ∷ 25 ∷ []) gives refused 7 ∷ [])
    × Holding (log 152 1800 (replicate 9649 12)) (Day 401 (400 ∷ 25 ∷ []) gives 288 ∷ [])
unfolding the-plain-list
late-change = (held refl, held refl, held refl, held refl)

-- nothing wraps: day 4,294,967,295 ends behind hour 103,079,215,103, where no log is
pub last-day : (L : Plain) → length L.counts ≤ 65536 → (step (Day 4294967295 []) L).answer ≡ turned 7
unfolding pick
last-day L l =
    ap (λ (o : Outcome). o.answer) (old-day 4294967295 L)
    ∙ rw (lt-ltb (length L.counts) 103079215104 (omega (arith, l)))

-- 'It refuses with 16 .. a list with an odd number of entries, or whose day numbers don't rise strictly or whose hours are neither 23 nor 25':
-- wherever in the list that is, and before 7
pub wrong-changes :
    Holding (log 1 8 (rising 48))
    (Day 0 (1 ∷ []) gives refused 16
    ∷ Day 0 (1 ∷ 25 ∷ 2 ∷ []) gives refused 16
    ∷ Day 0 (1 ∷ 25 ∷ 1 ∷ 23 ∷ []) gives refused 16
    ∷ Day 0 (2 ∷ 25 ∷ 1 ∷ 23 ∷ []) gives refused 16
    ∷ Day 0 (1 ∷ 25 ∷ 2 ∷ 23 ∷ []) gives 276
    ∷ Day 0 (1 ∷ 25 ∷ 3 ∷ 23 ∷ 2 ∷ 25 ∷ []) gives refused 16
    ∷ Day 0 (0 ∷ 22 ∷ []) gives refused 16
    ∷ Day 0 (0 ∷ 23 ∷ []) gives 253
    ∷ Day 0 (0 ∷ 24 ∷ []) gives refused 16
    ∷ Day 0 (0 ∷ 25 ∷ []) gives 300
    ∷ Day 0 (0 ∷ 26 ∷ []) gives refused 16
    ∷ Day 0 (8 ∷ 25 ∷ 9 ∷ 24 ∷ []) gives refused 16
    ∷ Day 9 [] gives refused 7
    ∷ Day 9 (0 ∷ 24 ∷ []) gives refused 16
    ∷ [])
unfolding the-plain-list
wrong-changes = held refl

-- ---- document 02, note 5: 'insert v before hour i (i from 0 to N), and strike hour i (i below N)'
pub inserts-and-strikes :
    Session 1 1
    (Strike 0 gives refused 7
    ∷ Insert 1 7 gives refused 7
    ∷ Insert 0 7 gives taken 1
    ∷ Insert 1 5 gives 0
    ∷ Insert 0 9 gives 0
    ∷ Insert 1 2 gives 0
    ∷ Insert 5 1 gives refused 7
    ∷ Count 0 gives 9
    ∷ Count 1 gives 2
    ∷ Count 2 gives 7
    ∷ Count 3 gives 5
    ∷ Strike 4 gives refused 7
    ∷ Strike 3 gives 0
    ∷ Strike 0 gives 0
    ∷ Count 0 gives 2
    ∷ Count 1 gives 7
    ∷ Count 2 gives refused 7
    ∷ Strike 1 gives 0
    ∷ Strike 0 gives returned 1
    ∷ Reading 0 gives 0
    ∷ Count 0 gives refused 7
    ∷ [])
unfolding the-plain-list
inserts-and-strikes = session refl refl

-- 'Refusals 10, 7, 11, 3 and 12 apply in that order': each two of the last four, where both fit
pub insert-refusals :
    Holding (log 1 1 (idle 63)) (Insert 64 0 gives refused 7 ∷ Insert 63 0 gives 0 ∷ Insert 0 0 gives 0 ∷ [])
    × Holding (log 1 1 (idle 64)) (Insert 65 0 gives refused 7 ∷ Insert 64 0 gives refused 11 ∷ Insert 0 0 gives refused 11 ∷ [])
    × Holding (log 1 8 (4294967295 ∷ []))
    (Insert 2 1 gives refused 7 ∷ Insert 1 1 gives refused 3 ∷ Insert 0 1 gives refused 3 ∷ Insert 0 0 gives 0 ∷ [])
    × Holding (log 1 8 (4294967295 ∷ idle 63)) (Insert 0 1 gives refused 11 ∷ [])
    × Holding (log 1 1 (122 ∷ []))
    (Insert 2 1 gives refused 7 ∷ Insert 0 1 gives refused 12 ∷ Insert 0 4294967174 gives refused 3 ∷ Insert 0 0 gives 0 ∷ [])
    × Holding (log 1 1 (122 ∷ idle 63)) (Insert 0 1 gives refused 11 ∷ [])
unfolding the-plain-list
insert-refusals = (held refl, held refl, held refl, held refl, held refl, held refl)

-- '12 exactly if the new list needs more than C': a strike may need a cell more, where it moves coins to the page before. 'Each returns the rise
-- and the fall of the whole need': where one page gives a cell back and another takes one, both are 0
pub across-pages :
    Holding (log 2 2 (idle 63 ++ 122 ∷ 1 ∷ 1 ∷ []))
    (Strike 0 gives refused 12 ∷ Strike 63 gives 0 ∷ Strike 66 gives refused 7 ∷ Strike 65 gives 0 ∷ [])
    × Holding (log 2 3 (idle 63 ++ 122 ∷ 1 ∷ 1 ∷ [])) (Strike 0 gives taken 1 ∷ [])
    × Holding (log 2 2 (idle 63 ++ 123 ∷ [])) (Insert 0 0 gives 0 ∷ Insert 64 1 gives refused 12 ∷ Insert 63 0 gives 0 ∷ [])
    × Holding (log 2 3 (idle 62 ++ 61 ∷ 62 ∷ [])) (Insert 0 0 gives 0 ∷ Free gives 1 ∷ [])
unfolding the-plain-list
across-pages = (held refl, held refl, held refl, held refl)

-- ---- document 02, note 6: 'at most ceil(d / 40) more cells, or eight if that is less', and 'a page with twice the sum reserves at most 63 more
-- bits': for 64 coins in place of 32 these are 63. An hour that goes from 7 to 9 coins gains 2, one that goes to 3 or stays none; if an hour is
-- inserted before hours 62 and 63 of 9 and 5 coins, page 1 gains 5, and page 0 none
pub costs :
    (map cells_for (0 ∷ 1 ∷ 40 ∷ 41 ∷ 80 ∷ 280 ∷ 281 ∷ 320 ∷ 321 ∷ 4294967295 ∷ []) ≡ 0 ∷ 1 ∷ 1 ∷ 2 ∷ 2 ∷ 7 ∷ 8 ∷ 8 ∷ 8 ∷ 8 ∷ [])
    × (map (reserve 6) (32 ∷ 64 ∷ []) ≡ 120 ∷ 183 ∷ [])
    × (map (gain (5 ∷ 7 ∷ []) 1) (9 ∷ 7 ∷ 3 ∷ []) ≡ 2 ∷ 0 ∷ 0 ∷ [])
    × (map (page_gain (idle 62 ++ 9 ∷ 5 ∷ []) (idle 63 ++ 9 ∷ 5 ∷ [])) (0 ∷ 1 ∷ []) ≡ 0 ∷ 5 ∷ [])
unfolding the-plain-list
costs = (refl, refl, refl, refl)
