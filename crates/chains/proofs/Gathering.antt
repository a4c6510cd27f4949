-- The code of a chain, gathered cell by cell. Assumes nothing.
use mathlib.Core.Path.{◌≡◌, refl, sym, ap, ap₂, ◌∙◌}
use mathlib.Core.List.{List, ◌++◌, append_assoc, append-nil}
use Prim.Native.Nat.{ℕ, suc, ◌+◌, ◌-◌, ◌*◌, ◌≤◌, ◌<◌}
use native.Mathlib.Omega.{arith}
use lib.ListN.{length, take, drop, length-append}
use lib.Seq.{length-take-le, sets, take_at}
use Rattle.lists.specs.Lists.{part, splice}
use Rattle.lists.proofs.Parts.{length_part, sets-splice}
use Rattle.bits.specs.Numbers.{Number, number_at}
use Rattle.store.specs.Layout.{cell_at}
use Rattle.store.specs.Reading.{chain_from, code_in}

-- x is the code of j of k cells, which is gathered in code, and that of those left, from the link at a on
abbrev pub SoFar : (s : List ℕ) (base : ℕ) (x : List ℕ) (k j : ℕ) (code : List ℕ) (a : ℕ) → Type 0
SoFar s base x k j code a = x ≡ take (30 * j) code ++ code_in s base (chain_from s base (k - j) (number_at s a 2))

module _ (s : List ℕ) (base : ℕ) (x : List ℕ) (k j : ℕ) where
  -- the link at a names c, which starts at r: its code joins the rest
  pub gather-next : {a c : ℕ} → Number s a 2 c → j < k → {r : ℕ} → r ≡ cell_at base c → (code code' : List ℕ) → 30 * j + 30 ≤ length code
      → r + 32 ≤ length s → code' ≡ sets code (30 * j) (part s (r + 2) 30) → SoFar s base x k j code a → SoFar s base x k (j + 1) code' r
  unfolding chain_from code_in splice
  gather-next {a} n l {r} at code code' lc ls e g =
      let front : List ℕ = take (30 * j) code in
      let b : List ℕ = part s (r + 2) 30 in
      let lb : length b ≡ 30 = length_part s (r + 2) 30 (omega arith) in
      let lf : length front ≡ 30 * j = length-take-le (30 * j) code (omega arith) in
      let back : List ℕ = drop (30 * j + length b) code in
      let rest : List ℕ = code_in s base (chain_from s base (k - (j + 1)) (number_at s r 2)) in
      let one : k - j ≡ suc (k - (j + 1)) = omega arith in
      let head : code_in s base (chain_from s base (k - j) (number_at s a 2)) ≡ b ++ rest = rw (one, sym n.is, at) refl in
      let new : take (30 * (j + 1)) code' ≡ front ++ b =
      ap (take (30 * (j + 1))) (e ∙ sets-splice b code (30 * j) (omega arith) ∙ sym (append_assoc front b back))
      ∙ take_at (front ++ b) back (30 * (j + 1)) (length-append front b ∙ omega arith) in
      g ∙ ap (λ (z : List ℕ). front ++ z) head ∙ sym (append_assoc front b rest) ∙ ap (λ (z : List ℕ). z ++ rest) (sym new)

  -- all are gathered
  pub gather-end : (a : ℕ) (code : List ℕ) → k ≤ j → j ≤ k → SoFar s base x k j code a → take (30 * k) code ≡ x
  unfolding chain_from code_in
  gather-end a code l u g =
      let w : j ≡ k = omega arith in
      let none : k - j ≡ 0 = omega arith in
      sym (g ∙ ap₂ (λ (i n : ℕ). take (30 * i) code ++ code_in s base (chain_from s base n (number_at s a 2))) w none ∙ append-nil (take (30 * k) code))
