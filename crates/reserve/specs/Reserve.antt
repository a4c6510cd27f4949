-- Document 01, 'What a subtree reserves': the definition, both cases, as printed. Assumes nothing.
use Rattle.std.specs.Prelude.{ℕ, zero, suc, ◌+◌, ◌-◌, ◌*◌, ◌/◌, ◌^◌, ◌≡◌, refl, leb}
use Rattle.lists.specs.Lists.{pick}

-- how many binary digits n has, of which at most k are looked at: halved until nothing is left
unfoldable pub digits_within : ℕ → ℕ → ℕ
digits_within zero n = zero
digits_within (suc k) zero = zero
digits_within (suc k) (suc n) = suc (digits_within k (suc n / 2))

-- 'Let t be the binary digits of s, 0 for s = 0'. A number n has no more than n digits.
unfoldable pub digits : ℕ → ℕ
unfolding digits_within
digits n = digits_within n n

-- floor (s / u) is s / u; ceil (s / u)
unfoldable pub ceil : ℕ → ℕ → ℕ
ceil s u = (s + (u - 1)) / u

-- 'n·(t - h + 1) + floor(s·(n-1) / 2^(t-1)) - t - 1 if 2s ≥ n'. Here h ≤ t. What is subtracted stands last in one sum, and is never more
-- than what it is taken from (`dense-exact`), so that no difference of natural numbers is cut off.
unfoldable pub dense : ℕ → ℕ → ℕ → ℕ
dense h t s = 2 ^ h * (t + 1 - h) + s * (2 ^ h - 1) / 2 ^ (t - 1) - (t + 1)

-- '2^t + 2s - ceil(s / 2^(t-1)) - t - 1 + s·(h - t) otherwise'. Here t ≤ h; nothing is cut off (`sparse-exact`).
unfoldable pub sparse : ℕ → ℕ → ℕ → ℕ
unfolding ceil
sparse h t s = 2 ^ t + 2 * s + s * (h - t) - (ceil s (2 ^ (t - 1)) + t + 1)

-- R(2^h, s)
unfoldable pub reserve : ℕ → ℕ → ℕ
unfolding digits dense sparse pick
reserve h zero = zero
reserve h (suc k) = pick (leb (2 ^ h) (2 * suc k)) (dense h (digits (suc k)) (suc k)) (sparse h (digits (suc k)) (suc k))

-- 'The crawled text prints 2^t - 1 as the divisor. That is wrong: n = 2, s = 2 would reserve 1 bit where the code has 2'
pub two-of-two : reserve 1 2 ≡ 2
unfolding reserve digits digits_within dense
two-of-two = refl
