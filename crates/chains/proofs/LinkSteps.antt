-- The walk along links, step by step, and the writes to a page. Assumes nothing.
use mathlib.Core.Path.{◌≡◌, refl}
use mathlib.Core.List.{List}
use Prim.Native.Nat.{ℕ, zero, suc, ◌+◌, ◌-◌, ◌≤◌, max}
use native.Mathlib.Omega.{arith}
use lib.ListN.{length}
use Rattle.bits.specs.Numbers.{number_at}
use Rattle.store.specs.Layout.{cell_at, entry_at}
use Rattle.store.specs.Code.Links.{Steps, cut, filled, joined, nth_link, put, rewritten}

-- the first of k cells from the link at a is passed: n are left
pub record Step (s : List ℕ) (base a k n : ℕ) : Type 0 where
  pub fits : a + 2 ≤ length s
  pub cell : 1 ≤ number_at s a 2
  pub room : cell_at base (number_at s a 2) + 32 ≤ length s
  pub more : Steps s base (cell_at base (number_at s a 2)) n
  pub same : nth_link s base a k ≡ nth_link s base (cell_at base (number_at s a 2)) n

pub step_of : (s : List ℕ) (base a k n : ℕ) → k ≡ suc n → Steps s base a k → Step s base a k n
unfolding nth_link
step_of s base a k n e h =
    let m : Steps s base a (suc n) = rw e at h in
    record { fits = m.0; cell = m.1; room = m.2; more = m.3; same = rw e }

pub steps-fit : (s : List ℕ) (base a k : ℕ) → k ≡ 0 → Steps s base a k → (a + 2 ≤ length s) × (nth_link s base a k ≡ a)
unfolding nth_link
steps-fit s base a zero e h = (h, refl)
steps-fit s base a (suc k) e h = absurd (omega (arith, e))

-- the writes to a page, one after another
pub rewritten-is : (s s₁ s₂ s₃ s₄ s₅ s₆ code : List ℕ) (base p e k n most w x hours : ℕ) → e ≡ entry_at p → w ≡ number_at s 8 2 → most ≡ max k n
    → s₁ ≡ joined s base (e + 4) k → s₂ ≡ filled s₁ base (e + 4) most code → s₃ ≡ cut s₂ base (e + 4) n → s₄ ≡ put s₃ 8 2 (w + k - n)
    → s₅ ≡ put s₄ e 4 x → s₆ ≡ put s₅ 12 4 hours → s₆ ≡ rewritten s base p k n code x hours
unfolding rewritten
rewritten-is s s₁ s₂ s₃ s₄ s₅ s₆ code base p e k n most w x hours i a b c d f g h j = cc
