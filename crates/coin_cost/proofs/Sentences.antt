-- What document 02's note 6 says, figure by figure. Each law takes what it says from `coin-cost`; a claim that says less fails here.
-- Assumes nothing.
use mathlib.Core.List.{List, [], ◌∷◌}
use mathlib.Core.Path.{◌≡◌, subst}
use Prim.Native.Nat.{ℕ, ◌+◌, ◌-◌, ◌*◌, ◌/◌, min, ◌≤◌, ◌<◌}
use native.Mathlib.Omega.{arith}
use lib.ListN.{length, get_or, set}
use Rattle.lists.specs.Lists.{sum, tabulate}
use Rattle.reserve.specs.Reserve.{ceil, reserve}
use Rattle.answers.specs.Store.{changed}
use Rattle.store.specs.Limits.{max_total}
use Rattle.store.specs.PageCode.{cells}
use Rattle.store.specs.Plain.{Append, Call, Set, page, step}
use Rattle.store.specs.Reading.{list_in, read}
use Rattle.store.specs.Call.{call}
use Rattle.coin_cost.specs.Cost.{TakesAtMost, by_append, by-set, cells_for, gain, page_gain}
use Rattle.coin_cost.proofs.Claim.{coin-cost}

-- 'for every page and every d .. d more coins in one hour take at most ceil(d / 40) more cells'
pub hour-takes : (xs : List ℕ) (j d : ℕ) → j < length xs → cells (sum (set xs j (get_or xs j 0 + d))) ≤ cells (sum xs) + (d + 39) / 40
unfolding ceil
hour-takes xs j d l = omega (arith, coin-cost.forty xs j d l)

-- a page of sum s and one of s + d, then
pub sum-takes : (s d : ℕ) → cells (s + d) ≤ cells s + (d + 39) / 40
unfolding sum
sum-takes s d =
    let k : cells (s + d + 0) ≤ cells (s + 0) + (d + 39) / 40 = hour-takes (s ∷ []) 0 d (omega arith) in
    let a : s + d + 0 ≡ s + d = omega arith in
    let b : s + 0 ≡ s = omega arith in
    rw (a, b) at k

-- 'or eight if that is less'
pub hour-eight : (xs : List ℕ) (j d : ℕ) → j < length xs → sum xs + d ≤ max_total → cells (sum (set xs j (get_or xs j 0 + d))) ≤ cells (sum xs) + 8
unfolding cells_for
hour-eight xs j d l t = omega (arith, coin-cost.lesser xs j d l t)

-- 'a page with twice the sum reserves at most 63 more bits'
pub twice-the-sum : (s : ℕ) → reserve 6 (2 * s) ≤ reserve 6 s + 63
twice-the-sum s = omega (arith, coin-cost.twice s)

-- so at most one more cell
pub twice-a-cell : (s : ℕ) → cells (2 * s) ≤ cells s + 1
unfolding cells ceil
twice-a-cell s = omega (arith, twice-the-sum s)

-- 'The append and set calls then promise the first figure': an append of v coins, and a set that gives hour i v coins, on any bytes
pub append-takes : (s : List ℕ) (v r f : ℕ) → (call (Append v) s).answer ≡ changed r f → (r ≤ (v + 39) / 40) × (r ≤ 8)
unfolding cells_for ceil
append-takes s v r f e =
    let k : r ≤ cells_for v = subst (TakesAtMost (cells_for v)) e (coin-cost.calls (Append v) s v (by_append v (list_in s))) in
    omega arith

pub set-takes : (s : List ℕ) (i v r f : ℕ) → (call (Set i v) s).answer ≡ changed r f → (r ≤ (v - get_or (list_in s) i 0 + 39) / 40) × (r ≤ 8)
unfolding cells_for ceil gain
set-takes s i v r f e =
    let d : ℕ = gain (list_in s) i v in
    let k : r ≤ cells_for d = subst (TakesAtMost (cells_for d)) e (coin-cost.calls (Set i v) s d (by-set i v (list_in s))) in
    omega arith

-- so a set that does not raise its hour takes none
pub set-lower : (s : List ℕ) (i v r f : ℕ) → v ≤ get_or (list_in s) i 0 → (call (Set i v) s).answer ≡ changed r f → r ≡ 0
set-lower s i v r f l e = omega (arith, set-takes s i v r f e)

-- any accepted change: each page takes at most ceil(d / 40) cells for the d coins that it gains, or eight if that is less
pub pages-take : (c : Call) (s : List ℕ) (r f : ℕ) → (call c s).answer ≡ changed r f
    → r ≤ sum (tabulate (read s).plain.pages (λ p. min ((sum (page (step c (read s).plain).list.counts p) - sum (page (list_in s) p) + 39) / 40) 8))
unfolding cells_for ceil page_gain
pages-take c s r f e = coin-cost.changes c s r f e
