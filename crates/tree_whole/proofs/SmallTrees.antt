-- Trees of 16, 32 and 64 counts that own 57 bits at most. Assumes nothing.
use mathlib.Core.Path.{◌≡◌, sym, ap, ◌∙◌}
use mathlib.Core.Bool.{true}
use Prim.Native.Nat.{ℕ, suc, ◌+◌, ◌-◌, ◌*◌, ◌/◌, ◌%◌, ◌^◌, ◌<◌}
use native.Mathlib.Nat.{pow-succ'}
use native.Mathlib.Omega.{arith}
use Rattle.bits.specs.Bits.{field}
use Rattle.reserve.specs.Reserve.{digits}
use Rattle.tree.specs.Code.Exact.{exact}
use Rattle.tree_word.proofs.WordHalves.{Top, top}
use Rattle.reserve.proofs.Fit.{bound}
use Rattle.reserve.proofs.Line.{A, B}
use Rattle.tree_whole.specs.Code.FitsWord.{FitsWord}

pub sixteen : {h s : ℕ} → h ≡ 4 → s < 37 → FitsWord h s
unfolding A B
sixteen {h} {s} e l = rw e (omega (arith, bound 4 s 6))

pub thirty_two : {h s : ℕ} → h ≡ 5 → s < 17 → FitsWord h s
unfolding A B
thirty_two {h} {s} e l = rw e (omega (arith, bound 5 s 5))

pub sixty-four : {h s : ℕ} → h ≡ 6 → s < 13 → FitsWord h s
unfolding A B
sixty-four {h} {s} e l = rw e (omega (arith, bound 6 s 4))

-- ---- one of them, of height h, above its halves

pub up : {h s : ℕ} → FitsWord h s → suc (h - 1) ≡ h
up {h} f = omega (arith, f.least)

pub half-is : {h s : ℕ} → FitsWord h s → 2 ^ h ≡ 2 * 2 ^ (h - 1)
half-is {h} f = ap (λ (k : ℕ). 2 ^ k) (sym (up f)) ∙ pow-succ' 2 (h - 1)

pub below : {h s w t l : ℕ} → FitsWord h s → exact h s (field 64 w) 0 ≡ true → t ≡ digits s → l ≡ w / 2 ^ (64 - (0 + t)) % 2 ^ t
    → Top (h - 1) s w t l
below {h} {s} {w} f x et el = top (ap (λ (k : ℕ). exact k s (field 64 w) 0) (up f) ∙ x) (rw (up f) f.bits) et el
