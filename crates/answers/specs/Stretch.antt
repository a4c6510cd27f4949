-- What busiest answers, and what the code's answer means. Assumes nothing.
use Rattle.std.specs.Prelude.{ℕ, Result, Ok, Err}
use Rattle.answers.specs.Number.{number}
use Rattle.answers.specs.declared.image.Stretch.{Stretch as Found}
use Rattle.answers.specs.declared.refusal.Refusal.{Refusal}

-- a run's first hour and its sum, or a refusal
pub data Stretch : Type 0 where
  Run : ℕ → ℕ → Stretch
  Refused : ℕ → Stretch

abbrev pub told : Result Found Refusal → Stretch
told (Ok s) = Run s.first s.total
told (Err r) = Refused (number r)
