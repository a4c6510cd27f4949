-- The free chain's walk, cell by cell: what is left to test where it stands. Assumes nothing.
use mathlib.Core.Path.{◌≡◌, sym, ap, ap₂, ◌∙◌}
use mathlib.Core.Bool.{Bool, true, false, ◌&&◌, and-false, and-true}
use mathlib.Core.List.{List}
use Prim.Native.Nat.{ℕ, suc, ◌+◌, ◌-◌, ◌*◌, ◌≤◌, ◌<◌}
use native.Mathlib.Omega.{arith}
use lib.ListN.{length, set, replicate, replicate-append-replicate}
use borrow.Author.Tests.{eq-eqb, ne_eqb}
use Rattle.lists.specs.Lists.{part, same}
use Rattle.lists.proofs.Parts.{length_part}
use Rattle.lists.proofs.Tests.{same-join}
use Rattle.bits.specs.Numbers.{Number, number_at}
use Rattle.store.specs.Layout.{cell_at}
use Rattle.store.specs.Reading.{chain_from, code_in}
use Rattle.store.specs.Code.Checked.{cell_test, ends-well, go_on, walk_marks}
use Rattle.sound_free.specs.Code.Free.{every_cell_marked, free_chain_fits, free_from}

-- n cells from the number c on are clear
abbrev clears : List ℕ → ℕ → ℕ → ℕ → Bool
clears s base n c = same (code_in s base (chain_from s base n c)) (replicate (30 * n) 0)

-- the first of them, and the others
clear-more : (s : List ℕ) (base n c : ℕ) → cell_at base c + 32 ≤ length s
    → clears s base (suc n) c ≡ (same (part s (cell_at base c + 2) 30) (replicate 30 0) && clears s base n (number_at s (cell_at base c) 2))
unfolding chain_from code_in
clear-more s base n c l =
    let e : 30 * suc n ≡ 30 + 30 * n = omega arith in
    let rest : List ℕ = code_in s base (chain_from s base n (number_at s (cell_at base c) 2)) in
    ap (same (code_in s base (chain_from s base (suc n) c))) (ap (λ (z : ℕ). replicate z 0) e ∙ sym (replicate-append-replicate 30 (30 * n) 0))
    ∙ same-join (part s (cell_at base c + 2) 30) rest (replicate 30 0) (replicate (30 * n) 0) (length_part s (cell_at base c + 2) 30 (omega arith))

pub free-start : (s : List ℕ) (base C : ℕ) (m : List ℕ) {f : ℕ} → f ≡ number_at s 8 2 → free_chain_fits s base C m ≡ free_from s base C (f - 0) m 6
unfolding free_chain_fits
free-start s base C m {f} k = let e : number_at s 8 2 ≡ f - 0 = omega (arith, k) in ap (λ (n : ℕ). free_from s base C n m 6) e

-- j of f cells are passed, and the link at a names none that passes its test
pub free-broken : (s : List ℕ) (base C f j : ℕ) (m : List ℕ) (a : ℕ) → j < f → cell_test C m (number_at s a 2) ≡ false → false ≡ free_from s base C (f - j) m a
unfolding free_from walk_marks go_on ends-well
free-broken s base C f j m a l e =
    let one : f - j ≡ suc (f - (j + 1)) = omega arith in
    sym (ap (λ (i : ℕ). free_from s base C i m a) one ∙ rw e)

-- j of f cells are passed, and the link at a names c
module _ {s : List ℕ} (base C f j : ℕ) (m : List ℕ) {a c : ℕ} (k : Number s a 2 c) where
  abbrev n : ℕ
  n = f - (j + 1)

  one : j < f → f - j ≡ suc n
  one l = omega arith

  none : f ≤ j → f - j ≡ 0
  none l = omega arith

  -- the cell starts at r, and its block is clear or not
  module _ (l : j < f) {r : ℕ} (at : r ≡ cell_at base c) (fits : r + 32 ≤ length s) {z : Bool}
      (block : z ≡ same (part s (r + 2) 30) (replicate 30 0)) where
    clear-is : clears s base (suc n) (number_at s a 2) ≡ (z && clears s base n (number_at s r 2))
    clear-is =
        ap (clears s base (suc n)) (sym k.is) ∙ clear-more s base n c (omega (arith, at))
        ∙ ap (λ (i : ℕ). same (part s (i + 2) 30) (replicate 30 0) && clears s base n (number_at s i 2)) (sym at)
        ∙ ap (λ (y : Bool). y && clears s base n (number_at s r 2)) (sym block)

    pub free-set : z ≡ false → false ≡ free_from s base C (f - j) m a
    unfolding free_from
    free-set e =
        let w : Bool = ends-well (walk_marks s base C (suc n) m a) (every_cell_marked C) in
        sym (ap (λ (i : ℕ). free_from s base C i m a) (one l)
        ∙ ap (λ (y : Bool). w && y) (clear-is ∙ ap (λ (y : Bool). y && clears s base n (number_at s r 2)) e) ∙ and-false w)

    -- the cell is good: the rest decides
    pub free-next : z ≡ true → cell_test C m c ≡ true → free_from s base C (f - j) m a ≡ free_from s base C n (set m c 1) r
    unfolding free_from walk_marks go_on
    free-next e t =
        let go : ends-well (walk_marks s base C (suc n) m a) (every_cell_marked C) ≡ ends-well (walk_marks s base C n (set m c 1) r) (every_cell_marked C) =
        rw (sym k.is, at) (rw t) in
        ap (λ (i : ℕ). free_from s base C i m a) (one l)
        ∙ ap₂ ◌&&◌ go (clear-is ∙ ap (λ (y : Bool). y && clears s base n (number_at s r 2)) e)

  -- the chain does not end
  pub free_open : f ≤ j → (c ≡ 0 → ⊥) → false ≡ free_from s base C (f - j) m a
  unfolding free_from walk_marks go_on ends-well
  free_open l h = sym (ap (λ (i : ℕ). free_from s base C i m a) (none l) ∙ rw (sym k.is) (rw (ne_eqb c 0 h)))

  -- it ends: every cell is to be marked
  pub free-ends : f ≤ j → c ≡ 0 → free_from s base C (f - j) m a ≡ every_cell_marked C m
  unfolding free_from walk_marks go_on ends-well chain_from code_in same
  free-ends l h = ap (λ (i : ℕ). free_from s base C i m a) (none l) ∙ rw (eq-eqb (number_at s a 2) 0 (sym k.is ∙ h)) (and-true (every_cell_marked C m))
