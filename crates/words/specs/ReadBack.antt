-- What C reads in a word, by the functions of include/hourlog.h. Assumes nothing.
use Rattle.std.specs.Prelude.{◌≡◌, ℕ, ◌-◌, ◌/◌, ◌%◌, ◌^◌, ◌<◌, ◌≤◌}
use Rattle.words.specs.End.{End, no_such_run, refusal, the_cells, the_hours, the_number, the_run, the_sums}

-- as a signed number of 64 bits: zero or above; or below zero, and then minus k
abbrev pub Above : ℕ → Type 0
Above w = w < 2 ^ 63

pub record Below (w k : ℕ) : Type 0 where
  pub sign : 2 ^ 63 ≤ w
  pub word : w < 2 ^ 64
  pub refusal : 2 ^ 64 - w ≡ k

-- hourlog_taken and hourlog_returned
abbrev pub taken : ℕ → ℕ
taken w = w % 2 ^ 16

abbrev pub returned : ℕ → ℕ
returned w = w / 2 ^ 16 % 2 ^ 16

-- hourlog_checked_total and hourlog_checked_hours
abbrev pub checked_total : ℕ → ℕ
checked_total w = w % 2 ^ 40

abbrev pub checked_hours : ℕ → ℕ
checked_hours w = w / 2 ^ 40 % 2 ^ 32

-- hourlog_busiest_sum and hourlog_busiest_first
abbrev pub busiest_sum : ℕ → ℕ
busiest_sum w = w % 2 ^ 40

abbrev pub busiest_first : ℕ → ℕ
busiest_first w = w / 2 ^ 40 % 2 ^ 32

-- hourlog_matched_first and hourlog_matched_hours: no hours for no run
abbrev pub matched_first : ℕ → ℕ
matched_first w = w % 2 ^ 32

abbrev pub matched_hours : ℕ → ℕ
matched_hours w = w / 2 ^ 32 % 2 ^ 32

-- in the word w C reads this answer
abbrev pub Reads : End → ℕ → Type 0
Reads (the_number n) w = Above w × (w ≡ n)
Reads (the_cells t r) w = Above w × (taken w ≡ t) × (returned w ≡ r)
Reads (the_sums n s) w = Above w × (checked_hours w ≡ n) × (checked_total w ≡ s)
Reads (the_run f s) w = Above w × (busiest_first w ≡ f) × (busiest_sum w ≡ s)
Reads (the_hours f n) w = Above w × (matched_first w ≡ f) × (matched_hours w ≡ n) × (1 ≤ n)
Reads no_such_run w = Above w × (w ≡ 0)
Reads (refusal k) w = Below w k
