-- The first of four numbers above another, found without jumps. Assumes nothing.
use mathlib.Core.Bool.{Bool, true, false}
use mathlib.Core.Path.{◌≡◌, refl}
use Prim.Native.Nat.{ℕ, ◌+◌, ◌≤◌, ◌<◌}
use native.Mathlib.Omega.{arith}
use borrow.Author.Tests.{leb-true, leb-false}
use lib.Dec.{leb}
use Rattle.lists.specs.Lists.{pick}
use Rattle.match_seek.specs.Code.Seek.{FirstAbove}
use Rattle.match_seek.specs.Code.Seek.FirstAbove.{at_first, at_second, at-third, at-fourth}

-- a test as a number
pub bit-small : (x : Bool) (k : ℕ) → k ≡ pick x 1 0 → k ≤ 1
unfolding pick
bit-small true k e = omega arith
bit-small false k e = omega arith

module _ (sum lo a b c d : ℕ) where
  above_as : (k l v w : ℕ) → k ≡ l → v ≡ w → FirstAbove sum lo a b c d (record { lo = l; want = w })
      → FirstAbove sum lo a b c d (record { lo = k; want = v })
  above_as k l v w e f x = rw (e, f) x

  -- what the code computes by the tests x, y and z whether a, b and c are within the sum
  pub record Picked (x y z : Bool) (i j k late later want : ℕ) : Type 0 where
    pub one : i ≡ pick x 1 0
    pub two : j ≡ pick y 1 0
    pub three : k ≡ pick z 1 0
    pub late_is : late ≡ pick z d c
    pub later-is : later ≡ pick y late b
    pub want_is : want ≡ pick x later a

  module _ (m : a ≤ b) (n : b ≤ c) (o : sum < d) (i j k late later want : ℕ) where
    pub first_of : Picked (leb a sum) (leb b sum) (leb c sum) i j k late later want
        → FirstAbove sum lo a b c d (record { lo = lo + 1 + (i + j + k); want = want })
    unfolding pick
    first_of = go (leb a sum) (leb b sum) (leb c sum) refl refl refl
      where
        go : (x y z : Bool) → leb a sum ≡ x → leb b sum ≡ y → leb c sum ≡ z → Picked x y z i j k late later want
            → FirstAbove sum lo a b c d (record { lo = lo + 1 + (i + j + k); want = want })
        go false false false e f g p = above_as _ _ _ _ (omega arith) p.want_is (at_first (leb-false a sum e))
        go true false false e f g p = above_as _ _ _ _ (omega arith) (omega arith) (at_second (leb-true a sum e) (leb-false b sum f))
        go true true false e f g p = above_as _ _ _ _ (omega arith) (omega arith) (at-third (leb-true b sum f) (leb-false c sum g))
        go true true true e f g p = above_as _ _ _ _ (omega arith) (omega arith) (at-fourth (leb-true c sum g) o)
        go false true z e f g p = absurd (omega (arith, leb-false a sum e, leb-true b sum f))
        go false false true e f g p = absurd (omega (arith, leb-false b sum f, leb-true c sum g))
        go true false true e f g p = absurd (omega (arith, leb-false b sum f, leb-true c sum g))
