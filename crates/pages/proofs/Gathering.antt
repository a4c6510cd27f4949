-- The code along a chain, copied cell by cell. Assumes nothing.
use mathlib.Core.Path.{◌≡◌, sym, ap, ap₂, subst, ◌∙◌}
use mathlib.Core.List.{List, ◌++◌}
use Prim.Native.Nat.{ℕ, zero, suc, ◌+◌, ◌-◌, ◌*◌, ◌≤◌, ◌<◌}
use native.Mathlib.Omega.{arith}
use lib.ListN.{length, drop, length-append, length-take, length-drop}
use lib.Seq.{sets}
use Rattle.lists.specs.Lists.{part, splice}
use Rattle.lists.proofs.Parts.{sets-splice, splice-more, splice-nil}
use Rattle.bits.specs.Numbers.{number_at}
use Rattle.store.specs.Layout.{cell_at}
use Rattle.store.specs.Reading.{chain_from, code_in}
use Rattle.store.specs.Code.Links.{Steps}
use Rattle.chains.proofs.LinkSteps.{step_of}
use Rattle.pages.specs.Gathered.{code_from}

code-short : (k : ℕ) (s : List ℕ) (base a : ℕ) → length (code_from s base a k) ≤ 30 * k
unfolding code_in chain_from
code-short zero s base a = omega arith
code-short (suc k) s base a =
    let c : ℕ = cell_at base (number_at s a 2) in
    omega (arith, length-append (part s (c + 2) 30) (code_from s base c k), length-take 30 (drop (c + 2) s), code-short k s base c)

-- the next cell's code, and that behind it
code-next : (s : List ℕ) (base a k n : ℕ) → k ≡ suc n
    → code_from s base a k ≡ part s (cell_at base (number_at s a 2) + 2) 30 ++ code_from s base (cell_at base (number_at s a 2)) n
unfolding code_in chain_from
code-next s base a k n e = rw e

-- what is left to copy after a turn; c is the cell's number, b its address, o and t the bytes before and after it
pub turned : (s o t : List ℕ) (base a c b k j : ℕ) → j < k → Steps s base a (k - j) → 30 * k ≤ length o → c ≡ number_at s a 2 → b ≡ cell_at base c
    → t ≡ sets o (30 * j) (part s (b + 2) 30)
    → Steps s base b (k - (j + 1)) × (splice o (30 * j) (code_from s base a (k - j)) ≡ splice t (30 * (j + 1)) (code_from s base b (k - (j + 1))))
turned s o t base a c b k j l h n ec eb et =
    let w = step_of s base a (k - j) (k - (j + 1)) (omega arith) h in
    let q : cell_at base (number_at s a 2) ≡ b = ap (cell_at base) (sym ec) ∙ sym eb in
    let x : List ℕ = part s (b + 2) 30 in
    let y : List ℕ = code_from s base b (k - (j + 1)) in
    let lx : length x ≡ 30 = omega (arith, q, w.room, length-take 30 (drop (b + 2) s), length-drop (b + 2) s) in
    let next : 30 * j + length x ≡ 30 * (j + 1) = omega arith in
    let ly : length y ≤ 30 * (k - (j + 1)) = code-short (k - (j + 1)) s base b in (
      subst (λ (z : ℕ). Steps s base z (k - (j + 1))) q w.more,
      ap (splice o (30 * j)) (code-next s base a (k - j) (k - (j + 1)) (omega arith) ∙ ap (λ (u : ℕ). part s (u + 2) 30 ++ code_from s base u (k - (j + 1))) q)
          ∙ sym (splice-more o (30 * j) x y (omega arith))
          ∙ ap₂ (λ (u : List ℕ) (v : ℕ). splice u v y) (sym (et ∙ sets-splice x o (30 * j) (omega arith))) next,
    )

pub all-copied : (s o : List ℕ) (base a k b : ℕ) → k ≡ 0 → o ≡ splice o b (code_from s base a k)
unfolding code_in chain_from
all-copied s o base a zero b e = sym (splice-nil o b)
all-copied s o base a (suc k) b e = absurd (omega (arith, e))
