-- A test for damage: a number above another, or not. Assumes nothing.
use mathlib.Core.Path.{◌≡◌, ap}
use mathlib.Core.Bool.{true, false, not}
use Prim.Native.Nat.{ℕ, ◌≤◌, ◌<◌}
use lib.Dec.{ltb}
use borrow.Author.Tests.{le-ltb, lt-ltb, ltb-true, ltb-false, not-true, not-false}

pub within : (a b : ℕ) → a ≤ b → not (ltb b a) ≡ true
within a b l = ap not (le-ltb b a l)

pub beyond : (a b : ℕ) → b < a → not (ltb b a) ≡ false
beyond a b l = ap not (lt-ltb b a l)

pub is_within : (a b : ℕ) → not (ltb b a) ≡ true → a ≤ b
is_within a b e = ltb-false b a (not-true (ltb b a) e)

pub is-beyond : (a b : ℕ) → not (ltb b a) ≡ false → b < a
is-beyond a b e = ltb-true b a (not-false (ltb b a) e)
