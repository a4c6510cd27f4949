-- The words that C gets: 64 bits, read as a signed number. Zero or above is the answer, below zero is minus the refusal's number.
-- Assumes nothing.
use Rattle.std.specs.Prelude.{ℕ, ◌+◌, ◌-◌, ◌*◌, ◌%◌, ◌^◌}
use Rattle.words.specs.End.{End, no_such_run, refusal, the_cells, the_hours, the_number, the_run, the_sums}

-- minus k, in 64 bits
unfoldable pub minus : ℕ → ℕ
minus k = (2 ^ 64 - k) % 2 ^ 64

-- two numbers in one word, the second one's unit at the k-th bit; exact where the sum is below 2^64 (`pair-exact`), as for every answer
-- (`reads` of `Answers`)
unfoldable pub pair : ℕ → ℕ → ℕ → ℕ
pair k a b = (a + b * 2 ^ k) % 2 ^ 64

-- append, set, insert and strike give taken + returned·2^16, check gives S + N·2^40, busiest gives the sum + first·2^40, match the
-- first hour + hours·2^32, and 0 where there is no run
unfoldable pub word_of : End → ℕ
word_of (the_number n) = n
word_of (the_cells t r) = pair 16 t r
word_of (the_sums n s) = pair 40 s n
word_of (the_run f s) = pair 40 s f
word_of (the_hours f n) = pair 32 f n
word_of no_such_run = 0
word_of (refusal k) = minus k
