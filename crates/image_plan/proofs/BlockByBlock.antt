-- The loops of the crates above over blocks of 256 hours: how many pages come before a block. Assumes nothing.
use mathlib.Core.Path.{◌≡◌, refl}
use Prim.Native.Nat.{ℕ, ◌+◌, ◌-◌, ◌*◌, ◌/◌, ◌%◌, ◌^◌, ◌≤◌, ◌<◌, min}
use native.Mathlib.Decide.{dec_le}
use native.Mathlib.Omega.{arith}
use Rattle.image.specs.Image.{pages}
use Rattle.image.proofs.Blocks.{Sizes, block-begins, hours-in, sizes}

own : {e : ℕ} → e ≤ 8 → Sizes (2 ^ e) (2 ^ (8 - e))
own {e} h = sizes e (2 ^ e) (2 ^ (8 - e)) h refl refl

-- of n hours: q pages of p are in the k blocks so far
module _ {e p q : ℕ} (n k : ℕ) (h : e ≤ 8) (ep : p ≡ pages e n) (eq : q ≡ min (2 ^ (8 - e) * k) p) where
  -- a block is left
  pub one-left : k < n / 256 + min 1 (n % 256) → (q < p) × (q ≡ 2 ^ (8 - e) * k)
  one-left l = go (dec_le p (2 ^ (8 - e) * k))
    where
      go : Dec (p ≤ 2 ^ (8 - e) * k) → (q < p) × (q ≡ 2 ^ (8 - e) * k)
      go (yes y) = absurd (omega (arith, l, hours-in e (2 ^ e) (2 ^ (8 - e)) k n (own h) refl (omega (arith, y, ep))))
      go (no y) = (omega arith, omega arith)

  -- none is left
  pub none-left : n / 256 + min 1 (n % 256) ≤ k → p ≤ q
  none-left l = go (dec_le p (2 ^ (8 - e) * k))
    where
      go : Dec (p ≤ 2 ^ (8 - e) * k) → p ≤ q
      go (yes y) = omega arith
      go (no y) =
          absurd (omega (arith, l, block-begins e (2 ^ e) (2 ^ (8 - e)) k (2 ^ (8 - e) * k) n (own h) refl refl (omega (arith, y, ep))))
