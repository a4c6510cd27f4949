-- Words of 64 bits. Assumes nothing.
use Rattle.std.proofs.Common.{◌≡◌, ℕ, ◌+◌, ◌*◌, ◌%◌, ◌^◌, ◌<◌, ◌≤◌, refl, ◌∙◌, mod-eq_of_lt, arith}
use Rattle.words.specs.End.{End, no_such_run, refusal, the_cells, the_hours, the_number, the_run, the_sums}
use Rattle.words.specs.Words.{minus, pair, word_of}
use Rattle.words.specs.ReadBack.{Reads}

pub minus_is : (r k : ℕ) → k < 2 ^ 32 → r < 2 ^ 64 → (r + k) % 2 ^ 64 ≡ 0 → r ≡ minus k
unfolding minus
minus_is r k a b e = omega arith

add-mod : (a x : ℕ) → (a + x % 2 ^ 64) % 2 ^ 64 ≡ (a + x) % 2 ^ 64
add-mod a x = omega arith

pub pair_is : (r k a b : ℕ) → r ≡ (a + (b * 2 ^ k) % 2 ^ 64) % 2 ^ 64 → r ≡ pair k a b
unfolding pair
pair_is r k a b e = e ∙ add-mod a (b * 2 ^ k)

-- two small numbers are packed without loss
pub pair-exact : (k a b : ℕ) → a + b * 2 ^ k < 2 ^ 64 → pair k a b ≡ a + b * 2 ^ k
unfolding pair
pair-exact k a b l = mod-eq_of_lt l

-- ---- answers whose words lose nothing: cells are no more than a store has, N and S within their limits, refusals 1 to 20
abbrev pub Small : End → Type 0
Small (the_number n) = n ≤ 1099511627775
Small (the_cells t r) = (t ≤ 1800) × (r ≤ 1800)
Small (the_sums n s) = (n ≤ 65536) × (s ≤ 1099511627775)
Small (the_run f s) = (f ≤ 65536) × (s < 1099511627776)
Small (the_hours f n) = (f ≤ 65536) × (1 ≤ n) × (n ≤ 65536)
Small no_such_run = Unit {0}
Small (refusal k) = (1 ≤ k) × (k ≤ 20)

pub small-reads : (a : End) → Small a → Reads a (word_of a)
unfolding word_of minus
small-reads (the_number n) w = (omega arith, refl)
small-reads (the_cells t r) w =
    let e : pair 16 t r ≡ t + r * 2 ^ 16 = pair-exact 16 t r (omega (arith, w.0, w.1)) in
    rw e (omega (arith, w.0, w.1), omega (arith, w.0, w.1), omega (arith, w.0, w.1))
small-reads (the_sums n s) w =
    let e : pair 40 s n ≡ s + n * 2 ^ 40 = pair-exact 40 s n (omega (arith, w.0, w.1)) in
    rw e (omega (arith, w.0, w.1), omega (arith, w.0, w.1), omega (arith, w.0, w.1))
small-reads (the_run f s) w =
    let e : pair 40 s f ≡ s + f * 2 ^ 40 = pair-exact 40 s f (omega (arith, w.0, w.1)) in
    rw e (omega (arith, w.0, w.1), omega (arith, w.0, w.1), omega (arith, w.0, w.1))
small-reads (the_hours f n) w =
    let e : pair 32 f n ≡ f + n * 2 ^ 32 = pair-exact 32 f n (omega (arith, w.0, w.2)) in
    rw e (omega (arith, w.0, w.2), omega (arith, w.0, w.2), omega (arith, w.0, w.2), w.1)
small-reads no_such_run w = (omega arith, refl)
small-reads (refusal k) w = record { sign = omega (arith, w.0, w.1); word = omega (arith, w.0, w.1); refusal = omega (arith, w.0, w.1) }
