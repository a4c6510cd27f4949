-- How the chains change when the list does, in any number of pages. Assumes nothing.
use Rattle.std.specs.Prelude.{List, ◌++◌, ℕ, zero, suc, ◌-◌, min, length, take, drop}
use Rattle.lists.specs.Lists.{sum}
use Rattle.store.specs.PageCode.{cells}
use Rattle.store.specs.Plain.{Plain, page}
use Rattle.store.specs.Layout.{Model}
use Rattle.store.specs.OneCell.{chain_of, give_cell, rechained, take_cell, times}

-- page p is to have k cells: the line between its chain and the free chain behind it moves
unfoldable pub size_to : ℕ → ℕ → Model → Model
size_to p k m = rechained m p (take k (chain_of m p ++ m.spare)) (drop k (chain_of m p ++ m.spare))

-- pages 0 to n - 1, the lowest first
unfoldable pub pagewise : ℕ → (ℕ → Model → Model) → Model → Model
pagewise zero f m = m
pagewise (suc n) f m = f n (pagewise n f m)

-- the cells that the list ys asks for at page p
abbrev pub wanted : List ℕ → ℕ → ℕ
wanted ys p = cells (sum (page ys p))

-- the plain list L, with the chains of w
abbrev pub with_list : Plain → Model → Model
with_list L w = record { plain = L; chains = w.chains; spare = w.spare }

-- first every page that shrinks gives back cells
unfoldable pub shrunk : Model → List ℕ → Model
shrunk m ys = pagewise m.plain.pages (λ p. size_to p (min (length (chain_of m p)) (wanted ys p))) m

-- then every page that grows takes cells. Where one page alone changes, as by an append or a set, it is `resize` (`settled-off`)
unfoldable pub settled : Model → Plain → Model
settled m L = with_list L (pagewise m.plain.pages (λ p. size_to p (wanted L.counts p)) (shrunk m L.counts))

-- the same one cell at a time
unfoldable pub settled_by_cells : Model → Plain → Model
settled_by_cells m L =
    let old = wanted m.plain.counts in
    let new = wanted L.counts in
    with_list L
    (pagewise m.plain.pages (λ p. times (new p - old p) (take_cell p)) (pagewise m.plain.pages (λ p. times (old p - new p) (give_cell p)) m))
