-- Demand 1: 'Nothing a caller lends can keep a call from ending in its result or in one of its numbered refusals. A refused call changes
-- no byte.' Assumes nothing.
use Rattle.std.specs.Prelude.{Bool, true, false, List, ◌⊎◌, ◌≡◌, ℕ, ◌+◌, ◌^◌, ◌≤◌, ◌<◌, get_or}
use Rattle.image.specs.Read.{n_of}
use Rattle.store.specs.Plain.{Append, Count, Day, Free, Insert, Reach, Reading, Set, Strike}
use Rattle.hourlog_c.specs.Public.{Ends, Fresh, Freeze, ImageBusiest, ImageCheck, ImageCount, ImageFromBcd, ImageLength, ImageMatch, ImageReach}
use Rattle.words.specs.End.{End}
use Rattle.hourlog_c.specs.Public.{ImageMerge, ImageReading, ImageToBcd, ImageWrite, Live, Repair}
use Rattle.hourlog_c.specs.Public.{PublicCall, lent}
use Rattle.words.specs.End.{no_such_run, refusal, the_cells, the_hours, the_number, the_run, the_sums}
use Rattle.words.specs.ReadBack.{Reads}
use Rattle.hourlog_c.specs.Export.{Answers}
use Rattle.demands.specs.Reasons.{Wins, reasons}

-- what a call gives that is not refused: a number, the cells taken and given back, N and S, a run's first hour and its sum, a
-- run's first hour and its hours or that there is none
pub data Kind : Type 0 where
  a_number : Kind
  cells_moved : Kind
  hours_and_total : Kind
  first_and_sum : Kind
  hours_or_none : Kind

abbrev pub Gives : Kind → End → Type 0
Gives k (the_number n) = k ≡ a_number
Gives k (the_cells t r) = k ≡ cells_moved
Gives k (the_sums n s) = k ≡ hours_and_total
Gives k (the_run f s) = k ≡ first_and_sum
Gives k (the_hours f n) = k ≡ hours_or_none
Gives k no_such_run = k ≡ hours_or_none
Gives k (refusal j) = ⊥

-- The end of a call's row, where no reason to turn it down fits: what it gives, and whether it is a question, which changes nothing
pub record Row : Type 0 where
  pub gives : Kind
  pub question : Bool

unfoldable pub row : PublicCall → Row
row (Fresh s P C) = record { gives = a_number; question = false }
row (Live (Append v) s) = record { gives = cells_moved; question = false }
row (Live (Set i v) s) = record { gives = cells_moved; question = false }
row (Live (Insert i v) s) = record { gives = cells_moved; question = false }
row (Live (Strike i) s) = record { gives = cells_moved; question = false }
row (Live (Count i) s) = record { gives = a_number; question = true }
row (Live (Reading i) s) = record { gives = a_number; question = true }
row (Live (Reach p) s) = record { gives = a_number; question = true }
row (Live (Day d changes) s) = record { gives = a_number; question = true }
row (Live Free s) = record { gives = a_number; question = true }
row (Repair s b) = record { gives = a_number; question = false }
row (Freeze s e i) = record { gives = a_number; question = false }
row (ImageLength xs e) = record { gives = a_number; question = true }
row (ImageWrite xs e i) = record { gives = a_number; question = false }
row (ImageCheck i) = record { gives = hours_and_total; question = true }
row (ImageCount i k) = record { gives = a_number; question = true }
row (ImageReading i k) = record { gives = a_number; question = true }
row (ImageReach i p) = record { gives = a_number; question = true }
row (ImageBusiest i k) = record { gives = first_and_sum; question = true }
row (ImageFromBcd b e i) = record { gives = a_number; question = false }
row (ImageToBcd i b) = record { gives = a_number; question = false }
row (ImageMatch i q) = record { gives = hours_or_none; question = true }
row (ImageMerge f s e i) = record { gives = a_number; question = false }

-- an answer that the call's reasons allow: the refusal of the first that fits, or a result of the call's kind
abbrev pub Allowed : PublicCall → End → Type 0
Allowed c (the_number n) = Gives (row c).gives (the_number n)
Allowed c (the_cells t u) = Gives (row c).gives (the_cells t u)
Allowed c (the_sums n s) = Gives (row c).gives (the_sums n s)
Allowed c (the_run f s) = Gives (row c).gives (the_run f s)
Allowed c (the_hours f n) = Gives (row c).gives (the_hours f n)
Allowed c no_such_run = Gives (row c).gives no_such_run
Allowed c (refusal k) = Wins k (reasons c)

-- What may stand in the place of refusal k: 'On an image that check doesn't accept, reach past refusals 5 and 8 may give refusal 6 or any index
-- from 0 to N. Nothing else is left free'
abbrev pub Index : PublicCall → ℕ → ℕ → Type 0
Index c k n = (i : List ℕ) × (p : ℕ) × (c ≡ ImageReach i p) × (k ≡ 6) × (n ≤ n_of i)

-- a store that is to be sound is lent as bytes
abbrev pub Bytes : PublicCall → Type 0
Bytes (Fresh s P C) = Unit {0}
Bytes (Live c s) = (i : ℕ) → get_or s i 0 < 256
Bytes (Repair s b) = Unit {0}
Bytes (Freeze s e i) = (j : ℕ) → get_or s j 0 < 256
Bytes (ImageLength xs e) = Unit {0}
Bytes (ImageWrite xs e i) = Unit {0}
Bytes (ImageCheck i) = Unit {0}
Bytes (ImageCount i j) = Unit {0}
Bytes (ImageReading i j) = Unit {0}
Bytes (ImageReach i p) = Unit {0}
Bytes (ImageBusiest i j) = Unit {0}
Bytes (ImageFromBcd b e i) = Unit {0}
Bytes (ImageToBcd i b) = Unit {0}
Bytes (ImageMatch i q) = Unit {0}
Bytes (ImageMerge f s e i) = Unit {0}

-- C gets the word w, below zero as a signed number of 64 bits: minus the refusal of the first reason that fits, and nothing that was lent has
-- changed
pub record Refused (c : PublicCall) (w : ℕ) (t : List (List ℕ)) : Type 0 where
  pub number : ℕ
  pub wins : Wins number (reasons c)
  pub minus : w + number ≡ 2 ^ 64
  pub kept : t ≡ lent c

-- zero or above: a result of the call's kind, which C reads in the word
pub record Given (c : PublicCall) (w : ℕ) (t : List (List ℕ)) : Type 0 where
  pub result : End
  pub kind : Gives (row c).gives result
  pub ends : Ends c result t
  pub reads : Reads result w

-- The whole claim, for every public call, whatever bytes and numbers it is given. That the function itself ends, in one of these answers, is
-- its contract: no public call has a `requires`
pub record Demand1 : Type 0 where
  -- there is an answer to end in
  pub some : (c : PublicCall) → (a : End) × (t : List (List ℕ)) × Ends c a t
  -- 'its result or one of its numbered refusals', and this one because it is the first whose reason fits
  pub allowed : (c : PublicCall) (a : End) (t : List (List ℕ)) → Bytes c → Ends c a t → Allowed c a
  -- 'Where several fit, the earlier row wins': where k is the first that fits, the call ends in refusal k and nothing else
  pub refuses : (c : PublicCall) (a : End) (t : List (List ℕ)) → Bytes c → Ends c a t → (k : ℕ) → Wins k (reasons c)
      → (a ≡ refusal k) ⊎ ((n : ℕ) × Index c k n × (a ≡ the_number n))
  -- 'A refused call changes no byte'
  pub refused-keeps : (c : PublicCall) (k : ℕ) (t : List (List ℕ)) → Ends c (refusal k) t → t ≡ lent c
  -- nor does a question
  pub question-keeps : (c : PublicCall) (a : End) (t : List (List ℕ)) → (row c).question ≡ true → Ends c a t → t ≡ lent c
  -- the same in the words that C gets, from what the exports promise
  pub below : (c : PublicCall) (w : ℕ) (t : List (List ℕ)) → Answers c w t → 2 ^ 63 ≤ w → Refused c w t
  pub above : (c : PublicCall) (w : ℕ) (t : List (List ℕ)) → Answers c w t → w < 2 ^ 63 → Given c w t
  pub first-that-fits : (c : PublicCall) (w : ℕ) (t : List (List ℕ)) → Answers c w t → (k : ℕ) → Wins k (reasons c) → (w + k ≡ 2 ^ 64) ⊎ Index c k w
