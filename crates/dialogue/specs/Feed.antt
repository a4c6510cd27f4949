-- What the session program does between a read and a write, and what its loop has to do with that. Assumes nothing.
use Rattle.std.specs.Prelude.{List, [], ◌∷◌, ◌++◌, ◌≡◌, ℕ, ◌+◌, ◌*◌, ◌≤◌, length, take}
use Rattle.dialogue.specs.Dialogue.{State, fed, said, last}
use Rattle.dialogue.specs.declared.Standing.{Standing}

-- the state that a place in the buffers of the store and of the line stands for
abbrev pub stand : Standing → List ℕ → List ℕ → State
stand p store line = record { store = take p.used store; held = take p.held line }

-- `feed` takes bytes of the input from the state p to the state q. m bytes of the output stand there before; what the bytes print comes
-- behind them, and then there are n. A line ends in a byte, and its reply has at most 32
pub record Feeds (input : List ℕ) (p : State) (m : ℕ) (before : List ℕ) (q : State) (n : ℕ) (after : List ℕ) : Type 0 where
  pub state : q ≡ fed input p
  pub text : take n after ≡ take m before ++ said input p
  pub most : n ≤ m + 32 * length input

-- `close` puts n bytes into the output at the input's end
pub record Closes (p : State) (n : ℕ) (after : List ℕ) : Type 0 where
  pub text : take n after ≡ last p
  pub most : n ≤ 32

-- The loop: each chunk that is read goes to `feed` once, where the chunk before left off, and what `feed` gives is written once; at the
-- input's end the same of `close`. The chunks, and all that is written. That the program's loop does so is not proved
pub data Loops : State → List (List ℕ) → List ℕ → Type 0 where
  at-end : {p : State} {n : ℕ} {out : List ℕ} → Closes p n out → Loops p [] (take n out)
  reads : {p q : State} {chunk : List ℕ} {n : ℕ} {before out : List ℕ} {chunks : List (List ℕ)} {rest : List ℕ}
      → Feeds chunk p 0 before q n out → Loops q chunks rest → Loops p (chunk ∷ chunks) (take n out ++ rest)
