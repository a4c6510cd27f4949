-- The clear bytes of a free cell, joined by an OR or as a number, and the cells' marks, which are all the same number. Assumes nothing.
use mathlib.Core.Path.{◌≡◌, refl, sym, ap, ap₂, ◌∙◌}
use mathlib.Core.Bool.{Bool, true, false, ◌&&◌, and-true}
use mathlib.Core.List.{List, [], ◌∷◌}
use Prim.Native.Nat.{ℕ, zero, suc, ◌+◌, ◌*◌, ◌≤◌, ◌<◌}
use native.Mathlib.Omega.{arith}
use lib.ListN.{length, get_or, take, drop, replicate, length-replicate, replicate-append-replicate}
use lib.Dec.{eqb}
use borrow.Author.Tests.{eq-eqb, eqb-true}
use Rattle.std.proofs.lemmas.List.{get_or-take}
use Rattle.std.proofs.lemmas.Grind.{get_or_after_one}
use Rattle.std.proofs.lemmas.Nat.{le_or_l, le_or_r}
use Rattle.std.specs.Prelude.{◌↔◌, EachIndex, IsTrue, bit_or}
use Rattle.std.specs.List.{fold}
use Rattle.lists.specs.Lists.{part, same, tabulate}
use Rattle.lists.proofs.Parts.{length_part, part-more}
use Rattle.lists.proofs.Tables.{tabulate-ext, tabulate-get_d}
use Rattle.lists.proofs.Tests.{agree, both, left, right, same-join}
use Rattle.bits.specs.Numbers.{number, number_at}
use Rattle.sound_free.specs.Code.Free.{every_cell_marked}

each-same : (xs : List ℕ) (v : ℕ) → ((k : ℕ) → k < length xs → get_or xs k 0 ≡ v) → same xs (replicate (length xs) v) ≡ true
unfolding same
each-same [] v h = refl
each-same (x ∷ xs) v h = both (eq-eqb x v (h 0 (omega arith))) (each-same xs v (λ k l. h (suc k) (omega arith)))

same-each : (xs : List ℕ) (v : ℕ) → same xs (replicate (length xs) v) ≡ true → (k : ℕ) → k < length xs → get_or xs k 0 ≡ v
unfolding same
same-each [] v e k l = absurd (omega arith)
same-each (x ∷ xs) v e zero l = eqb-true x v (left (eqb x v) (same xs (replicate (length xs) v)) e)
same-each (x ∷ xs) v e (suc k) l = same-each xs v (right (eqb x v) (same xs (replicate (length xs) v)) e) k (omega arith)

pub all-same : (xs : List ℕ) (v n : ℕ) {r : Bool} → length xs ≡ n → (IsTrue r ↔ EachIndex xs (λ k. get_or xs k 0 ≡ v)) → r ≡ same xs (replicate n v)
all-same xs v n {r} e h =
    agree r (same xs (replicate n v)) (λ t. rw (← e) (each-same xs v (h.0 t))) (λ t. h.1 (same-each xs v (rw (← e) at t)))

-- ---- bytes joined by an OR, from a on: nothing is left where a and each byte is 0
or-zero : (a b : ℕ) → eqb (bit_or a b) 0 ≡ (eqb a 0 && eqb b 0)
or-zero a b =
    agree (eqb (bit_or a b) 0) (eqb a 0 && eqb b 0)
    (λ e. let z = eqb-true (bit_or a b) 0 e in both (eq-eqb a 0 (omega (arith, le_or_l a b))) (eq-eqb b 0 (omega (arith, le_or_r a b))))
    (λ e. eq-eqb (bit_or a b) 0 (ap₂ bit_or (eqb-true a 0 (left (eqb a 0) (eqb b 0) e)) (eqb-true b 0 (right (eqb a 0) (eqb b 0) e))))

and-over : (x y z : Bool) → ((x && y) && z) ≡ (x && (y && z))
and-over true y z = refl
and-over false y z = refl

or-all : (xs : List ℕ) (a : ℕ) → eqb (fold bit_or a xs) 0 ≡ (eqb a 0 && same xs (replicate (length xs) 0))
unfolding same
or-all [] a = sym (and-true (eqb a 0))
or-all (x ∷ xs) a =
    let rest = same xs (replicate (length xs) 0) in
    or-all xs (bit_or a x) ∙ ap (λ (z : Bool). z && rest) (or-zero a x) ∙ and-over (eqb a 0) (eqb x 0) rest

-- a cell's 30 bytes of code
pub or-clear : (s : List ℕ) (a : ℕ) {n : ℕ} → a + 30 ≤ length s → n ≡ fold bit_or 0 (part s a 30) → eqb n 0 ≡ same (part s a 30) (replicate 30 0)
or-clear s a {n} l e =
    ap (λ (z : ℕ). eqb z 0) e ∙ or-all (part s a 30) 0 ∙ ap (λ (k : ℕ). same (part s a 30) (replicate k 0)) (length_part s a 30 l)

-- the marks of the cells 1 to C
pub marks-same : (m : List ℕ) (C : ℕ) {k : ℕ} {r : Bool} → (IsTrue r ↔ EachIndex (take k (drop 1 m)) (λ i. get_or (take k (drop 1 m)) i 0 ≡ 1))
    → k ≡ C → C < length m → r ≡ every_cell_marked C m
unfolding every_cell_marked
marks-same m C {k} {r} h e l =
    let n : length (part m 1 C) ≡ C = length_part m 1 C (omega arith) in
    let t : tabulate C (λ j. get_or (part m 1 C) j 0) ≡ part m 1 C =
    ap (λ (z : ℕ). tabulate z (λ j. get_or (part m 1 C) j 0)) (sym n) ∙ tabulate-get_d (part m 1 C) 0 in
    let f : tabulate C (λ j. get_or (part m 1 C) j 0) ≡ tabulate C (λ j. get_or m (suc j) 0) =
    tabulate-ext C (λ j. get_or (part m 1 C) j 0) (λ j. get_or m (suc j) 0)
    (λ j q. get_or-take C (drop 1 m) j 0 q ∙ get_or_after_one m j 0 ∙ ap (λ (z : ℕ). get_or m z 0) {x = 1 + j} {y = suc j} (omega arith)) in
    all-same (take k (drop 1 m)) 1 C (rw e n) h
    ∙ ap (λ (z : ℕ). same (part m 1 z) (replicate C 1)) e
    ∙ ap (λ (z : List ℕ). same z (replicate C 1)) (sym t ∙ f)

-- ---- numbers that add up to 0
plus-zero : (a b : ℕ) → eqb (a + b) 0 ≡ (eqb a 0 && eqb b 0)
plus-zero a b =
    agree (eqb (a + b) 0) (eqb a 0 && eqb b 0)
    (λ e. both (eq-eqb a 0 (omega (arith, eqb-true (a + b) 0 e))) (eq-eqb b 0 (omega (arith, eqb-true (a + b) 0 e))))
    (λ e. eq-eqb (a + b) 0 (omega (arith, eqb-true a 0 (left (eqb a 0) (eqb b 0) e), eqb-true b 0 (right (eqb a 0) (eqb b 0) e))))

times_zero : (b : ℕ) → eqb (256 * b) 0 ≡ eqb b 0
times_zero b =
    agree (eqb (256 * b) 0) (eqb b 0) (λ e. eq-eqb b 0 (omega (arith, eqb-true (256 * b) 0 e)))
    (λ e. eq-eqb (256 * b) 0 (omega (arith, eqb-true b 0 e)))

-- the number in bytes is 0 just where they are
zero_number : (xs : List ℕ) → eqb (number xs) 0 ≡ same xs (replicate (length xs) 0)
unfolding number same
zero_number [] = refl
zero_number (x ∷ xs) = plus-zero x (256 * number xs) ∙ ap (λ (b : Bool). eqb x 0 && b) (times_zero (number xs) ∙ zero_number xs)

pub block-zero : (s : List ℕ) (a w t : ℕ) → a + w ≤ length s → t ≡ number_at s a w → eqb t 0 ≡ same (part s a w) (replicate w 0)
block-zero s a w t l e =
    ap (λ (z : ℕ). eqb z 0) e ∙ zero_number (part s a w) ∙ ap (λ (z : ℕ). same (part s a w) (replicate z 0)) (length_part s a w l)

-- t is 0 just where i bytes from a on are; so it is with the next w, and the number in them
pub block-next : (s : List ℕ) (a i w t n : ℕ) → a + (i + w) ≤ length s → n ≡ number_at s (a + i) w → eqb t 0 ≡ same (part s a i) (replicate i 0)
    → eqb (t + n) 0 ≡ same (part s a (i + w)) (replicate (i + w) 0)
block-next s a i w t n l e h =
    plus-zero t n ∙ ap₂ ◌&&◌ h (block-zero s (a + i) w n (omega arith) e)
    ∙ sym (ap₂ same (part-more s a i w) (sym (replicate-append-replicate i w 0))
    ∙ same-join (part s a i) (part s (a + i) w) (replicate i 0) (replicate w 0)
    (length_part s a i (omega arith) ∙ sym (length-replicate {A = ℕ} i 0)))
