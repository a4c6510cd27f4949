-- Demand 3: one claim about a whole list of calls on a fresh store. Assumes nothing.
use Rattle.std.specs.Prelude.{true, List, [], ◌∷◌, ◌++◌, ◌↔◌, ◌≡◌, ℕ, suc, ◌-◌, ◌*◌, ◌≤◌, ◌<◌, length, get_or, take, set}
use Rattle.answers.specs.Refusals.{cells_short}
use Rattle.lists.specs.Lists.{tabulate, concat, sum, occurrences}
use Rattle.bits.specs.Numbers.{number_at}
use Rattle.store.specs.Limits.{max_total, page_hours}
use Rattle.store.specs.PageCode.{cells}
use Rattle.store.specs.Plain.{Plain, Call, Append, Set, Insert, Strike, Free, inserted, page, need, plain_end, plain_answers, plain_fresh, struck}
use Rattle.answers.specs.Store.{Answer, answered, refused}
use Rattle.store.specs.Layout.{cells_start, size}
use Rattle.store.specs.Fitting.{Fitting}
use Rattle.store.specs.Reading.{Runs, first_in, sum_in, chain_in, spare_in, read}
use Rattle.store.specs.Sound.{sound, is_cell}
use Rattle.store.specs.Call.{call, store_end, store_answers, fresh_call}
use Rattle.store.specs.Items.{Items}
use Rattle.hourlog_c.specs.Public.{Fresh, Live, beside}
use Rattle.words.specs.End.{end_of_store}
use Rattle.words.specs.Words.{word_of}
use Rattle.hourlog_c.specs.Export.{Answers}

-- a store that fresh made in the buffer b, after a list of calls; and the plain list that was fed the same calls
abbrev pub store_after : List ℕ → ℕ → ℕ → List Call → List ℕ
store_after b P C cs = store_end cs (fresh_call b P C).bytes

abbrev pub list_after : ℕ → ℕ → List Call → Plain
list_after P C cs = plain_end cs (plain_fresh P C)

-- answer n of the list of calls
abbrev pub nth_answer : List ℕ → ℕ → ℕ → List Call → ℕ → Answer
nth_answer b P C cs n = get_or (store_answers cs (fresh_call b P C).bytes) n (answered 0)

-- an append, set, insert or strike that passes the checks before 12, and the list that it asks for
pub data Passes : Call → Plain → List ℕ → Type 0 where
  appends : (v : ℕ) (L : Plain) → length L.counts < page_hours * L.pages → sum (L.counts ++ v ∷ []) ≤ max_total
      → Passes (Append v) L (L.counts ++ v ∷ [])
  sets : (i v : ℕ) (L : Plain) → i < length L.counts → sum (set L.counts i v) ≤ max_total → Passes (Set i v) L (set L.counts i v)
  inserts : (i v : ℕ) (L : Plain) → i ≤ length L.counts → length L.counts < page_hours * L.pages → sum (inserted L.counts i v) ≤ max_total
      → Passes (Insert i v) L (inserted L.counts i v)
  -- 'strike never meets 11 or 3'
  strikes : (i : ℕ) (L : Plain) → i < length L.counts → Passes (Strike i) L (struck L.counts i)

-- the bytes s are a sound store of P pages and C cells, and hold the list xs
pub record StoreHolds (s : List ℕ) (P C : ℕ) (xs : List ℕ) : Type 0 where
  -- sound, by the test and clause by clause; as many bytes as are to be; and the list is what they say
  pub is-sound : sound s ≡ true
  pub items : Items s
  pub long : length s ≡ size P C
  pub list : (read s).plain ≡ record { pages = P; cells = C; counts = xs }
  -- each page's chain has the cells that the formula asks for, and ends; so has and does the free chain
  pub page-sum : (p : ℕ) → p < P → sum_in s p ≡ sum (page xs p)
  pub page-cells : (p : ℕ) → p < P → length (chain_in s P p) ≡ cells (sum (page xs p))
  pub page-ends : (p : ℕ) → p < P → Runs s (cells_start P) (first_in s p) (chain_in s P p)
  pub free-cells : length (spare_in s P) ≡ C - need xs P
  pub free-ends : Runs s (cells_start P) (number_at s 6 2) (spare_in s P)
  -- each cell, 1 to C, is on exactly one chain, and nothing else is on any
  pub once : (c : ℕ) → occurrences c (concat (tabulate P (chain_in s P)) ++ spare_in s P) ≡ is_cell C c
  -- free cells are those that the formula leaves, and the figure that is answered is this
  pub need-fits : need xs P ≤ C
  pub free : (call Free s).answer ≡ answered (C - need xs P)

-- For P pages and C cells within the limits, any buffer b of the right length and any list of calls (`Demand3` below). As the list is any
-- list, all of this holds after every call of it.
pub record HoldsAfter (b : List ℕ) (P C : ℕ) (cs : List Call) : Type 0 where
  pub accepted : (fresh_call b P C).answer ≡ answered 0
  -- each answer is the plain list's, and the store holds its state
  pub answers : store_answers cs (fresh_call b P C).bytes ≡ plain_answers cs (plain_fresh P C)
  pub holds : StoreHolds (store_after b P C cs) P C (list_after P C cs).counts
  -- call n, one of these that passes the earlier checks, is refused 12 exactly when the changed list needs more than C cells
  pub when-12 : (n : ℕ) → n < length cs → (ys : List ℕ) → Passes (get_or cs n Free) (list_after P C (take n cs)) ys
      → (nth_answer b P C cs n ≡ refused cells_short) ↔ (C < need ys P)
  -- and never with at least eight cells a page
  pub never-12 : 8 * P ≤ C → (n : ℕ) → nth_answer b P C cs n ≡ refused cells_short → ⊥
  -- a refused call changes no byte: after call n, if it is refused, the store is what the n calls before it left
  pub kept : (n k : ℕ) → nth_answer b P C cs n ≡ refused k → store_after b P C (take (suc n) cs) ≡ store_after b P C (take n cs)

-- A run of the exports, each on the bytes that the one before left: the calls, the bytes before, the words that C got, the bytes at the end
pub data Run : List Call → List ℕ → List ℕ → List ℕ → Type 0 where
  over : (s : List ℕ) → Run [] s [] s
  goes_on : (c : Call) (cs : List Call) (s u t : List ℕ) (w : ℕ) (ws : List ℕ) → Answers (Live c s) w (u ∷ beside c) → Run cs u ws t
      → Run (c ∷ cs) s (w ∷ ws) t

-- the words of a list of answers
unfoldable pub words_of : List Answer → List ℕ
words_of [] = []
words_of (a ∷ rest) = word_of (end_of_store a) ∷ words_of rest

-- the same claim of such a run: the words are those of the plain list's answers, and the bytes at the end hold its state
pub record HoldsInWords (P C : ℕ) (cs : List Call) (w : ℕ) (ws t : List ℕ) : Type 0 where
  pub ok : w ≡ 0
  pub words : ws ≡ words_of (plain_answers cs (plain_fresh P C))
  pub holds : StoreHolds t P C (list_after P C cs).counts

-- The whole claim: wherever refusal 9 does not stand ('P, C or buffer length wrong'), and for every list of calls; of the calls as they are
-- defined, and of any run of the exports on what hourlog_fresh left
pub record Demand3 : Type 0 where
  pub calls : (b : List ℕ) (P C : ℕ) → Fitting b P C → (cs : List Call) → HoldsAfter b P C cs
  pub exports : (b : List ℕ) (P C : ℕ) → Fitting b P C → (w : ℕ) (s : List ℕ) → Answers (Fresh b P C) w (s ∷ []) → (cs : List Call) (ws t : List ℕ)
      → Run cs s ws t → HoldsInWords P C cs w ws t
