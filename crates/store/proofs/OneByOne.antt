-- Document 01's order of taking and giving back cells, for the chains of a store. Assumes nothing.
use mathlib.Core.Path.{◌≡◌, refl, sym, ap, ap₂, ◌∙◌}
use mathlib.Core.List.{List, [], ◌∷◌, ◌++◌, append-nil, append_assoc}
use Prim.Native.Nat.{ℕ, zero, suc, ◌+◌, ◌-◌, ◌≤◌, ◌<◌}
use native.Mathlib.Nat.{not-suc-le-zero}
use native.Mathlib.Omega.{arith}
use lib.ListN.{length, get_or, take, drop, length-set, length-drop, drop_of_length-le}
use lib.Seq.{append_snoc, drop-append-add, drop-append-le, get_or-set_same, length-take-le, set-get_or, set-set}
use lib.Seq.{take_all, take-append-add, take-append-le, take-suc, take-take}
use Rattle.lists.specs.Lists.{first}
use Rattle.store.specs.Layout.{Model, resize}
use Rattle.store.specs.OneCell.{InOrder, chain_of, give_cell, listed, rechained, take_cell, times}

-- ---- `resize`, at once
grows : (m : Model) (ys : List ℕ) (p d : ℕ)
    → resize m ys p (length (chain_of m p) + d) ≡ listed ys (rechained m p (chain_of m p ++ take d m.spare) (drop d m.spare))
unfolding resize
grows m ys p d = rw (take-append-add (chain_of m p) m.spare d, drop-append-add (chain_of m p) m.spare d)

shrinks : (m : Model) (ys : List ℕ) (p k : ℕ) → k ≤ length (chain_of m p)
    → resize m ys p k ≡ listed ys (rechained m p (take k (chain_of m p)) (drop k (chain_of m p) ++ m.spare))
unfolding resize
shrinks m ys p k l = rw (take-append-le k (chain_of m p) m.spare l, drop-append-le k (chain_of m p) m.spare l)

-- ---- one cell at a time
-- a page whose chain stays
same : (m : Model) (p : ℕ) (own spare : List ℕ) → chain_of m p ≡ own → m.spare ≡ spare → m ≡ rechained m p own spare
same m p own spare a b =
    ap (λ (z : List (List ℕ)). record { plain = m.plain; chains = z; spare = m.spare }) (sym (set-get_or m.chains p []))
    ∙ ap₂ (rechained m p) a b

-- a page's chain, changed twice
twice : (m : Model) (p : ℕ) (own spare own₂ spare₂ : List ℕ)
    → rechained (rechained m p own spare) p own₂ spare₂ ≡ rechained m p own₂ spare₂
twice m p own spare own₂ spare₂ = rw (set-set m.chains p own own₂)

front : (sp : List ℕ) (d : ℕ) → suc d ≤ length sp → first sp ∷ take d (drop 1 sp) ≡ take (suc d) sp
unfolding first
front [] d l = absurd (not-suc-le-zero l)
front (c ∷ cs) d l = refl

behind : (sp : List ℕ) (d : ℕ) → drop d (drop 1 sp) ≡ drop (suc d) sp
behind [] zero = refl
behind [] (suc d) = refl
behind (c ∷ cs) d = refl

taken : (d : ℕ) (m : Model) (p : ℕ) → p < length m.chains → d ≤ length m.spare
    → times d (take_cell p) m ≡ rechained m p (chain_of m p ++ take d m.spare) (drop d m.spare)
unfolding times take_cell
taken zero m p lp l = same m p _ _ (sym (append-nil (chain_of m p))) refl
taken (suc d) m p lp l =
    let c = first m.spare ∷ [] in
    let n = rechained m p (chain_of m p ++ c) (drop 1 m.spare) in
    taken d n p (omega (arith, length-set m.chains p (chain_of m p ++ c))) (omega (arith, length-drop 1 m.spare))
    ∙ twice m p (chain_of m p ++ c) (drop 1 m.spare) (chain_of n p ++ take d n.spare) (drop d n.spare)
    ∙ ap₂ (rechained m p)
    (ap (λ (z : List ℕ). z ++ take d n.spare) (get_or-set_same m.chains p (chain_of m p ++ c) [] lp)
    ∙ append_assoc (chain_of m p) c (take d n.spare)
    ∙ ap (λ (z : List ℕ). chain_of m p ++ z) (front m.spare d l))
    (behind m.spare d)

-- the last of n + 1 cells, put behind those from k on
last-back : (k n : ℕ) (cs sp : List ℕ) → k ≤ n → suc n ≡ length cs → drop k (take n cs) ++ (get_or cs n 0 ∷ sp) ≡ drop k cs ++ sp
last-back k n cs sp l e =
    sym (append_snoc (drop k (take n cs)) (get_or cs n 0) sp)
    ∙ ap (λ (z : List ℕ). z ++ sp)
    (sym (drop-append-le k (take n cs) (get_or cs n 0 ∷ []) (omega (arith, length-take-le n cs (omega arith))))
    ∙ ap (drop k) (sym (take-suc cs n 0 (omega arith)) ∙ take_all (suc n) cs (omega arith)))

given : (d k : ℕ) (m : Model) (p : ℕ) → p < length m.chains → k + d ≡ length (chain_of m p)
    → times d (give_cell p) m ≡ rechained m p (take k (chain_of m p)) (drop k (chain_of m p) ++ m.spare)
unfolding times give_cell
given zero k m p lp e =
    same m p _ _ (sym (take_all k (chain_of m p) (omega arith)))
    (sym (ap (λ (z : List ℕ). z ++ m.spare) (drop_of_length-le (chain_of m p) {i = k} (omega arith))))
given (suc d) k m p lp e =
    let cs = chain_of m p in
    let j = length cs - 1 in
    let n = rechained m p (take j cs) (get_or cs j 0 ∷ m.spare) in
    let own : chain_of n p ≡ take j cs = get_or-set_same m.chains p (take j cs) [] lp in
    given d k n p (omega (arith, length-set m.chains p (take j cs)))
    (omega (arith, ap (λ (z : List ℕ). length z) own, length-take-le j cs (omega arith)))
    ∙ twice m p (take j cs) n.spare (take k (chain_of n p)) (drop k (chain_of n p) ++ n.spare)
    ∙ ap₂ (rechained m p)
    (ap (take k) own ∙ take-take k j cs (omega arith))
    (ap (λ (z : List ℕ). drop k z ++ n.spare) own ∙ last-back k j cs m.spare (omega arith) (omega arith))

pub in_order : (m : Model) (ys : List ℕ) (p : ℕ) → p < length m.chains → InOrder m ys p
in_order m ys p lp = record {
  grown = grows m ys p;
  takes = λ d l. grows m ys p d ∙ ap (listed ys) (sym (taken d m p lp l));
  shrunk = shrinks m ys p;
  gives = λ k d e. shrinks m ys p k (omega arith) ∙ ap (listed ys) (sym (given d k m p lp e));
}
