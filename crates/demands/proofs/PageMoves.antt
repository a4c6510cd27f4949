-- What becomes of the chains in a store's bytes where one page takes cells or gives them back. Assumes nothing.
use mathlib.Core.List.{List, [], ◌++◌}
use mathlib.Core.Path.{◌≡◌, refl, sym, ap, ◌∙◌}
use Prim.Native.Nat.{ℕ, zero, suc, ◌+◌, ◌-◌, ◌*◌, ◌≤◌, ◌<◌}
use native.Mathlib.Decide.{ℕ_discrete}
use native.Mathlib.Omega.{arith}
use lib.ListN.{length, get_or, drop, take}
use lib.Seq.{get_or-set_other, get_or-set_same}
use Rattle.lists.specs.Lists.{tabulate}
use Rattle.lists.proofs.Tables.{get_d_tabulate, length-tabulate}
use Rattle.store.specs.Layout.{Model}
use Rattle.store.specs.OneCell.{chain_of, give_cell, listed, rechained, take_cell, times}
use Rattle.store.specs.Reading.{chain_in, page_count_of, read, read_for, spare_in}
use Rattle.store.proofs.OneByOne.{in_order}

-- ---- the chains that a store's bytes have
pub chains-read : (s : List ℕ) (P : ℕ) → page_count_of s ≡ P → (read s).chains ≡ tabulate P (chain_in s P)
unfolding read read_for
chains-read s P e = ap (λ (n : ℕ). tabulate n (chain_in s n)) e

pub spare-read : (s : List ℕ) (P : ℕ) → page_count_of s ≡ P → (read s).spare ≡ spare_in s P
unfolding read read_for
spare-read s P e = ap (spare_in s) e

chain-read : (s : List ℕ) (P q : ℕ) → page_count_of s ≡ P → q < P → chain_of (read s) q ≡ chain_in s P q
chain-read s P q e l = ap (λ (z : List (List ℕ)). get_or z q []) (chains-read s P e) ∙ get_d_tabulate P (chain_in s P) q [] l

-- What becomes of the chains of a store s of P pages, which is then t, where page p alone takes r cells and gives back f
pub record PageMoves (s t : List ℕ) (P p r f : ℕ) : Type 0 where
  -- 'so one of the two is 0'
  pub one-alone : r * f ≡ 0
  -- 'A page that grows takes cells from the front of the free chain, in that order, onto the end of its own'
  pub free-enough : r ≤ length (spare_in s P)
  pub takes : f ≡ 0 → (chain_in t P p ≡ chain_in s P p ++ take r (spare_in s P)) × (spare_in t P ≡ drop r (spare_in s P))
  -- 'A page that shrinks gives its last cell to the front of the free chain, then the one before it'
  pub own-enough : f ≤ length (chain_in s P p)
  pub gives : r ≡ 0 → let k = length (chain_in s P p) - f in
      (chain_in t P p ≡ take k (chain_in s P p)) × (spare_in t P ≡ drop k (chain_in s P p) ++ spare_in s P)
  -- and no other page's chain changes
  pub others : (q : ℕ) → q < P → (q ≡ p → ⊥) → chain_in t P q ≡ chain_in s P q

one-is-none : (r f : ℕ) → r * f ≡ 0 → (f ≡ 0 → ⊥) → r ≡ 0
one-is-none r zero e n = absurd (n refl)
one-is-none r (suc f) e n = omega (arith, e)

module _ (s t : List ℕ) (P p r f : ℕ) (ys : List ℕ) (es : page_count_of s ≡ P) (et : page_count_of t ≡ P) (lp : p < P)
    (e : read t ≡ listed ys (times r (take_cell p) (times f (give_cell p) (read s)))) where
  abbrev m : Model
  m = read s

  rows : p < length m.chains
  rows = omega (arith, ap (λ (z : List (List ℕ)). length z) (chains-read s P es), length-tabulate P (chain_in s P))

  grown : f ≡ 0 → r ≤ length m.spare → read t ≡ listed ys (rechained m p (chain_of m p ++ take r m.spare) (drop r m.spare))
  unfolding times
  grown z l =
      e
      ∙ ap (λ (n : ℕ). listed ys (times r (take_cell p) (times n (give_cell p) m))) z
      ∙ sym ((in_order m ys p rows).takes r l)
      ∙ (in_order m ys p rows).grown r

  shrunk : r ≡ 0 → (k : ℕ) → k + f ≡ length (chain_of m p)
      → read t ≡ listed ys (rechained m p (take k (chain_of m p)) (drop k (chain_of m p) ++ m.spare))
  unfolding times
  shrunk z k n =
      e
      ∙ ap (λ (j : ℕ). listed ys (times j (take_cell p) (times f (give_cell p) m))) z
      ∙ sym ((in_order m ys p rows).gives k f n)
      ∙ (in_order m ys p rows).shrunk k (omega arith)

  -- the two chains that change, and the others
  own-and-free : (own free : List ℕ) → read t ≡ listed ys (rechained m p own free) → (chain_in t P p ≡ own) × (spare_in t P ≡ free)
  own-and-free own free q = (
    sym (chain-read t P p et lp) ∙ ap (λ (z : Model). chain_of z p) q ∙ get_or-set_same m.chains p own [] rows,
    sym (spare-read t P et) ∙ ap (λ (z : Model). z.spare) q,
  )

  other : (own free : List ℕ) → read t ≡ listed ys (rechained m p own free) → (q : ℕ) → q < P → (q ≡ p → ⊥) → chain_in t P q ≡ chain_in s P q
  other own free j q l ne =
      sym (chain-read t P q et l)
      ∙ ap (λ (z : Model). chain_of z q) j
      ∙ get_or-set_other m.chains p q own [] ne
      ∙ chain-read s P q es l

  rest : r * f ≡ 0 → r ≤ length m.spare → f ≤ length (chain_of m p) → Dec (f ≡ 0) → (q : ℕ) → q < P → (q ≡ p → ⊥) → chain_in t P q ≡ chain_in s P q
  rest z lr lf (yes y) = other (chain_of m p ++ take r m.spare) (drop r m.spare) (grown y lr)
  rest z lr lf (no y) =
      let k : ℕ = length (chain_of m p) - f in
      other (take k (chain_of m p)) (drop k (chain_of m p) ++ m.spare) (shrunk (one-is-none r f z y) k (omega arith))

  pub page-moves : r * f ≡ 0 → r ≤ length (spare_in s P) → f ≤ length (chain_in s P p) → PageMoves s t P p r f
  page-moves z lr lf =
      let own : chain_of m p ≡ chain_in s P p = chain-read s P p es lp in
      let free : m.spare ≡ spare_in s P = spare-read s P es in
      let k : ℕ = length (chain_in s P p) - f in
      let mr : r ≤ length m.spare = omega (arith, ap length free) in
      let mf : f ≤ length (chain_of m p) = omega (arith, ap length own) in
      record {
        one-alone = z;
        free-enough = lr;
        takes = λ y. rw (own, free) at (own-and-free (chain_of m p ++ take r m.spare) (drop r m.spare) (grown y mr));
        own-enough = lf;
        gives = λ y.
            rw (own, free) at
            (own-and-free (take k (chain_of m p)) (drop k (chain_of m p) ++ m.spare) (shrunk y k (omega (arith, ap length own))));
        others = rest z mr mf (ℕ_discrete f 0);
      }
