-- What match answers, and what the code's answer means. Assumes nothing.
use Rattle.std.specs.Prelude.{ℕ, Option, Result, Ok, Err}
use Rattle.std.specs.Prelude.{Some as There, None as Nowhere}
use Rattle.answers.specs.Number.{number}
use Rattle.answers.specs.declared.image.Run.{Run as Found}
use Rattle.answers.specs.declared.refusal.Refusal.{Refusal}

-- a run's first hour and its hours, no run, or a refusal
pub data Bag : Type 0 where
  Run : ℕ → ℕ → Bag
  None : Bag
  Refused : ℕ → Bag

abbrev pub told : Result (Option Found) Refusal → Bag
told (Ok (There r)) = Run r.first r.hours
told (Ok Nowhere) = None
told (Err r) = Refused (number r)
