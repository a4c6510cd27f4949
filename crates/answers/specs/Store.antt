-- What a call on a store answers, and what the code's answers mean. Assumes nothing.
use Rattle.std.specs.Prelude.{ℕ, Result, Ok, Err}
use Rattle.answers.specs.Number.{number}
use Rattle.answers.specs.declared.refusal.Refusal.{Refusal}
use Rattle.answers.specs.declared.store.Change.{Change}

-- the cells taken and given back, a number, or a refusal: 'A refusal is its number alone'
pub data Answer : Type 0 where
  changed : ℕ → ℕ → Answer
  answered : ℕ → Answer
  refused : ℕ → Answer

-- 'An accepted append or set returns how many cells it took and gave back'
abbrev pub told_change : Result Change Refusal → Answer
told_change (Ok c) = changed c.taken c.returned
told_change (Err r) = refused (number r)

-- a question returns the number asked for
abbrev pub told_number : Result ℕ Refusal → Answer
told_number (Ok n) = answered n
told_number (Err r) = refused (number r)

-- fresh returns 0
abbrev pub told_done : Result (Unit {0}) Refusal → Answer
told_done (Ok u) = answered 0
told_done (Err r) = refused (number r)
