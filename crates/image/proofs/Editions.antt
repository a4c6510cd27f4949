-- The two editions of the header, over plain numbers. Assumes nothing.
use mathlib.Core.Bool.{Bool, true, false}
use mathlib.Core.Path.{◌≡◌, refl}
use Prim.Native.Nat.{ℕ, ◌+◌, ◌^◌, ◌≤◌, ◌<◌}
use native.Mathlib.Omega.{arith}
use lib.Dec.{eqb}
use borrow.Author.Tests.{ltb-false}
use Rattle.image.specs.Image.{bits_place, edition, header_length, max_total, narrow_total, size, total_width, wide}

pub edition-wide : (b : Bool) → eqb (edition b) 2 ≡ b
edition-wide false = refl
edition-wide true = refl

pub edition-byte : (b : Bool) → edition b < 256
edition-byte false = omega arith
edition-byte true = omega arith

-- how long it is
pub total-low : (b : Bool) → 8 + total_width b ≤ header_length b
total-low false = omega arith
total-low true = omega arith

pub header-low : (b : Bool) → bits_place b + 4 ≤ header_length b
header-low false = omega arith
header-low true = omega arith

pub header-least : (b : Bool) → 16 ≤ header_length b
header-least false = omega arith
header-least true = omega arith

pub header-most : (b : Bool) → header_length b ≤ 24
header-most false = omega arith
header-most true = omega arith

pub size-more : (b : Bool) (e n l : ℕ) → header_length b ≤ size b e n l
unfolding size
size-more b e n l = omega arith

pub size_same : {a b : Bool} {e f n k l j : ℕ} → a ≡ b → e ≡ f → n ≡ k → l ≡ j → size a e n l ≡ size b f k j
size_same p q r s = λ i. size (p i) (q i) (r i) (s i)

-- a total fits the bytes of its edition
pub total-fits : (s : ℕ) → s ≤ max_total → (b : Bool) → wide s ≡ b → s < 256 ^ total_width b
unfolding wide
total-fits s l false q = omega (arith, ltb-false narrow_total s q)
total-fits s l true q = omega arith
