-- The formula that the code computes: both cases of the reserve at once. proofs/Bounds.antt shows it equal to `reserve`. Assumes nothing.
use Rattle.std.specs.Prelude.{ℕ, ◌+◌, ◌-◌, ◌*◌, ◌/◌, ◌^◌, ◌≤◌}

-- at m the smaller of h and t, n = 2^m, and the shift's amount k
abbrev pub one_formula : ℕ → ℕ → ℕ → ℕ → ℕ → ℕ → ℕ
one_formula h t s m n k = n * (t + 1 - m) + s * (h - m) + s * (n - 1) / 2 ^ k - (t + 1)

-- the bounds of its parts
pub record Bounded (h t s m n : ℕ) : Type 0 where
  pub few : t ≤ 40
  pub low-h : m ≤ h
  pub low-t : m ≤ t
  pub pos : 1 ≤ n
  pub levels : n * (t + 1 - m) ≤ 256 * 41
  pub above : s * (h - m) ≤ 1099511627776 * 8
  pub shared : s * (n - 1) ≤ 1099511627776 * 256
  pub enough : t + 1 ≤ n * (t + 1 - m)
