-- What the bytes of a good store say of chains: each is whole, has the cells that it needs, and ends. Assumes nothing.
use mathlib.Core.Path.{◌≡◌, sym, ap, ap₂, ◌∙◌}
use mathlib.Core.Bool.{true}
use mathlib.Core.List.{List, [], ◌∷◌, ◌++◌}
use Prim.Native.Nat.{ℕ, ◌+◌, ◌≤◌, ◌<◌}
use native.Mathlib.Omega.{arith}
use lib.ListN.{length, get_or}
use Rattle.lists.specs.Lists.{concat, occurrences, sum, tabulate}
use Rattle.bits.specs.Numbers.{number, number_at}
use Rattle.store.specs.Limits.{max_cells}
use Rattle.store.specs.PageCode.{cells}
use Rattle.store.specs.Plain.{need, page}
use Rattle.store.specs.Layout.{Model, bytes_of, cell_at, size, cells_start, entry_at}
use Rattle.store.specs.Reading.{Runs, chain_in, first_in, read, read_for, spare_in, sum_in}
use Rattle.store.specs.Sound.{Good, is_cell, on_chains, sound}
use Rattle.store.proofs.Chained.{good-chained}
use Rattle.store.proofs.Holds.{Holds, holds-bytes}
use Rattle.store.proofs.Joining.{chain_head, chain_left, chain-right, chain-tail}
use Rattle.store.proofs.Keep.{spare-is}
use Rattle.store.proofs.Numbers.{number-two}
use Rattle.store.proofs.PageChange.{page-and-spare}
use Rattle.store.proofs.ReadBack.{chain-is, pages-is, read_is, sum_is}
use Rattle.store.proofs.SoundLaws.{sound-bytes}
use Rattle.store.proofs.Spread.{spread-of}
use Rattle.store.proofs.Writes.{Chain, Linked}

pub linked_runs : (s : List ℕ) (base C a : ℕ) (cs : List ℕ) → C ≤ max_cells → Chain C cs → Linked s base a cs 0 → Runs s base (number_at s a 2) cs
linked_runs s base C a [] l j h = ap number h ∙ number-two 0 (omega arith)
linked_runs s base C a (c ∷ cs) l j h =
    let w = chain_head C c cs j in
    (ap number h.0 ∙ number-two c (omega (arith, w.1)), w.0, linked_runs s base C (cell_at base c) cs l (chain-tail j) h.1)

-- the bytes s say the list xs in P pages and C cells, and chains as they are to be
pub record Says (s : List ℕ) (P C : ℕ) (xs : List ℕ) : Type 0 where
  pub is-sound : sound s ≡ true
  pub long : length s ≡ size P C
  pub list : (read s).plain ≡ record { pages = P; cells = C; counts = xs }
  pub page-sum : (p : ℕ) → p < P → sum_in s p ≡ sum (page xs p)
  pub page-cells : (p : ℕ) → p < P → length (chain_in s P p) ≡ cells (sum (page xs p))
  pub page-ends : (p : ℕ) → p < P → Runs s (cells_start P) (first_in s p) (chain_in s P p)
  pub free-cells : length (spare_in s P) + need xs P ≡ C
  pub free-ends : Runs s (cells_start P) (number_at s 6 2) (spare_in s P)
  pub once : (c : ℕ) → occurrences c (concat (tabulate P (chain_in s P)) ++ spare_in s P) ≡ is_cell C c

module _ (m : Model) (g : Good m) where
  s : List ℕ
  s = bytes_of m

  h : Holds s m
  unfolding s
  h = holds-bytes m g

  same : read s ≡ m
  same = read_is s m (good-chained m g) h

  spare-same : spare_in s m.plain.pages ≡ m.spare
  unfolding read read_for
  spare-same = ap (spare_in s) (sym (pages-is s m (good-chained m g) h)) ∙ ap (λ (z : Model). z.spare) same

  chains-same : tabulate m.plain.pages (chain_in s m.plain.pages) ≡ m.chains
  unfolding read read_for
  chains-same = ap (λ (z : ℕ). tabulate z (chain_in s z)) (sym (pages-is s m (good-chained m g) h)) ∙ ap (λ (z : Model). z.chains) same

  pub says : Says (bytes_of m) m.plain.pages m.plain.cells m.plain.counts
  unfolding s on_chains
  says = record {
    is-sound = sound-bytes m g;
    long = h.size;
    list = ap (λ (z : Model). z.plain) same;
    page-sum = sum_is s m (good-chained m g) h;
    page-cells = λ p l. ap length (chain-is s m (good-chained m g) h p l) ∙ g.lengths p l;
    page-ends = λ p l.
        rw (chain-is s m (good-chained m g) h p l)
        (linked_runs s (cells_start m.plain.pages) m.plain.cells (entry_at p + 4) (get_or m.chains p []) g.limits.cells-high
        (chain_left (get_or m.chains p []) m.spare (page-and-spare m (good-chained m g) p l)) ((spread-of s m g.rows h).links p l));
    free-cells = ap (λ (z : List ℕ). length z + need m.plain.counts m.plain.pages) spare-same ∙ spare-is m g;
    free-ends =
        rw spare-same
        (linked_runs s (cells_start m.plain.pages) m.plain.cells 6 m.spare g.limits.cells-high
        (chain-right (get_or m.chains 0 []) m.spare (page-and-spare m (good-chained m g) 0 g.limits.pages-low)) (spread-of s m g.rows h).free);
    once = λ c. ap₂ (λ (x : List (List ℕ)) (y : List ℕ). occurrences c (concat x ++ y)) chains-same spare-same ∙ g.once c;
  }
