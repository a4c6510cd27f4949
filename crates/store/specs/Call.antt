-- The calls on a store's bytes. Assumes nothing.
use Rattle.std.specs.Prelude.{List, [], ◌∷◌, ◌≡◌, ℕ, ◌/◌, length}
use Rattle.answers.specs.Refusals.{fresh_wrong, store_not_sound}
use Rattle.lists.specs.Lists.{pick}
use Rattle.store.specs.Limits.{page_hours}
use Rattle.store.specs.Plain.{Append, Call, Outcome, Plain, Set, step}
use Rattle.answers.specs.Store.{Answer, answered, changed, refused}
use Rattle.store.specs.Layout.{Model, bytes_of, fresh}
use Rattle.store.specs.Fitting.{fits}
use Rattle.store.specs.OneCell.{give_cell, listed, take_cell, times}
use Rattle.store.specs.Settle.{settled, settled_by_cells}
use Rattle.store.specs.Reading.{read}
use Rattle.store.specs.Sound.{sound}

-- an accepted change settles the chains; nothing else changes anything
unfoldable pub settle : Model → Outcome → Answer → Model
settle m o (changed r f) = settled m o.list
settle m o (answered n) = m
settle m o (refused k) = m

-- the store after a call
unfoldable pub after : Call → Model → Model
after c m = settle m (step c m.plain) (step c m.plain).answer

-- what a call answers, and the bytes afterwards
pub record Result : Type 0 where
  pub answer : Answer
  pub bytes : List ℕ

-- a sound store answers what its list answers; 'every other live call: 10, not sound', and no byte changes
unfoldable pub call : Call → List ℕ → Result
call c s = pick (sound s) (record { answer = (step c (read s).plain).answer; bytes = bytes_of (after c (read s)) })
    (record { answer = refused store_not_sound; bytes = s })

-- the answer r and the bytes t are those of the call c on the store s
pub record Called (c : Call) (s : List ℕ) (r : Answer) (t : List ℕ) : Type 0 where
  pub answer : r ≡ (call c s).answer
  pub bytes : t ≡ (call c s).bytes

-- a list of calls: the bytes at the end, and the answers, one by one
unfoldable pub store_end : List Call → List ℕ → List ℕ
store_end [] s = s
store_end (c ∷ cs) s = store_end cs (call c s).bytes

unfoldable pub store_answers : List Call → List ℕ → List Answer
store_answers [] s = []
store_answers (c ∷ cs) s = (call c s).answer ∷ store_answers cs (call c s).bytes

-- fresh: 'P, C or buffer length wrong' is refused 9; else the buffer becomes a fresh store
unfoldable pub fresh_call : List ℕ → ℕ → ℕ → Result
fresh_call b P C =
    pick (fits b P C) (record { answer = answered 0; bytes = bytes_of (fresh P C) }) (record { answer = refused fresh_wrong; bytes = b })

-- the answer r and the bytes t are those of fresh on the buffer b
pub record Started (b : List ℕ) (P C : ℕ) (r : Answer) (t : List ℕ) : Type 0 where
  pub answer : r ≡ (fresh_call b P C).answer
  pub bytes : t ≡ (fresh_call b P C).bytes

-- a call that changes one hour, i
pub data OneHour : Call → Plain → ℕ → Type 0 where
  appended : (v : ℕ) (L : Plain) → OneHour (Append v) L (length L.counts)
  set_at : (i v : ℕ) (L : Plain) → OneHour (Set i v) L i

-- An accepted append or set of hour i, on any bytes: its page gives back the f cells and takes the r cells that are answered, and that is
-- all that changes on any chain
abbrev pub HourInOrder : Type 0
HourInOrder = (c : Call) (s : List ℕ) (i r f : ℕ) → OneHour c (read s).plain i → (call c s).answer ≡ changed r f
    → read (call c s).bytes
    ≡ listed (step c (read s).plain).list.counts (times r (take_cell (i / page_hours)) (times f (give_cell (i / page_hours)) (read s)))

-- An accepted change, on any bytes: first the pages that shrink give back cells and then those that grow take cells, one by one, and that is
-- all that changes on any chain
abbrev pub CellsInOrder : Type 0
CellsInOrder = (c : Call) (s : List ℕ) (r f : ℕ) → (call c s).answer ≡ changed r f
    → read (call c s).bytes ≡ settled_by_cells (read s) (step c (read s).plain).list
