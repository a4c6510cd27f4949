-- What a call on an image answers, and what the code's answers mean. Assumes nothing.
use Rattle.std.specs.Prelude.{ℕ, Result, Ok, Err}
use Rattle.answers.specs.Number.{number}
use Rattle.answers.specs.declared.image.Contents.{Contents}
use Rattle.answers.specs.declared.refusal.Refusal.{Refusal}

-- a number, or a refusal: 'A refusal is its number alone'
pub data Reply : Type 0 where
  given : ℕ → Reply
  refused : ℕ → Reply

unfoldable pub told : Result ℕ Refusal → Reply
told (Ok n) = given n
told (Err r) = refused (number r)

-- 'check (returns N and S)', or a refusal
pub data Verdict : Type 0 where
  holds : ℕ → ℕ → Verdict
  fails : ℕ → Verdict

unfoldable pub ruled : Result Contents Refusal → Verdict
ruled (Ok c) = holds c.hours c.total
ruled (Err r) = fails (number r)
