-- Document 01, 'The live store': cells that a page takes and gives back, one at a time. Assumes nothing.
use Rattle.std.specs.Prelude.{List, [], ◌∷◌, ◌++◌, ◌≡◌, ℕ, zero, suc, ◌+◌, ◌-◌, ◌≤◌, length, get_or, take, drop, set}
use Rattle.lists.specs.Lists.{first}
use Rattle.store.specs.Plain.{relisted}
use Rattle.store.specs.Layout.{Model, resize}

-- page p's chain
abbrev pub chain_of : Model → ℕ → List ℕ
chain_of m p = get_or m.chains p []

-- page p's chain and the free chain become these
abbrev pub rechained : Model → ℕ → List ℕ → List ℕ → Model
rechained m p own spare = record { plain = m.plain; chains = set m.chains p own; spare = spare }

-- 'A page that grows takes cells from the front of the free chain, in that order, onto the end of its own'
unfoldable pub take_cell : ℕ → Model → Model
take_cell p m = rechained m p (chain_of m p ++ first m.spare ∷ []) (drop 1 m.spare)

-- 'A page that shrinks gives its last cell to the front of the free chain, then the one before it'
unfoldable pub give_cell : ℕ → Model → Model
give_cell p m =
    let last = length (chain_of m p) - 1 in
    rechained m p (take last (chain_of m p)) (get_or (chain_of m p) last 0 ∷ m.spare)

-- so many times
unfoldable pub times : ℕ → (Model → Model) → Model → Model
times zero f m = m
times (suc n) f m = times n f (f m)

-- the same chains, for the list ys
abbrev pub listed : List ℕ → Model → Model
listed ys m = record { plain = relisted m.plain ys; chains = m.chains; spare = m.spare }

-- what `resize` does to page p's chain and to the free chain: at once, and one cell at a time in document 01's order
pub record InOrder (m : Model) (ys : List ℕ) (p : ℕ) : Type 0 where
  pub grown : (d : ℕ) → resize m ys p (length (chain_of m p) + d) ≡ listed ys (rechained m p (chain_of m p ++ take d m.spare) (drop d m.spare))
  pub takes : (d : ℕ) → d ≤ length m.spare → resize m ys p (length (chain_of m p) + d) ≡ listed ys (times d (take_cell p) m)
  pub shrunk : (k : ℕ) → k ≤ length (chain_of m p)
      → resize m ys p k ≡ listed ys (rechained m p (take k (chain_of m p)) (drop k (chain_of m p) ++ m.spare))
  pub gives : (k d : ℕ) → k + d ≡ length (chain_of m p) → resize m ys p k ≡ listed ys (times d (give_cell p) m)
