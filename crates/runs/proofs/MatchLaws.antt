-- The first run with a given sum, looked for from one first hour after another, by the reading at which such a run must end; that there is
-- one or none, and one alone. Assumes nothing.
use mathlib.Core.List.{List}
use mathlib.Core.Logic.{◌⊎◌, inl, inr}
use mathlib.Core.Path.{◌≡◌, ap}
use Prim.Native.Nat.{ℕ, zero, suc, ◌+◌, ◌-◌, ◌≤◌, ◌<◌}
use native.Mathlib.Decide.{dec_le, ℕ_discrete}
use native.Mathlib.Omega.{arith}
use lib.ListN.{length}
use Rattle.lists.specs.Lists.{reading}
use Rattle.runs.specs.Runs.{FirstMatch, Matches, NoMatch}
use Rattle.runs.specs.Code.{NoneBefore}
use Rattle.runs.proofs.PrefixSums.{reading-grows, run-reading}

-- the reading behind a run with sum q
reading-behind : (xs : List ℕ) (q j n : ℕ) → Matches xs q j n → reading xs (j + n) ≡ reading xs j + q
reading-behind xs q j n m = omega (arith, run-reading xs j n, m.sum_is)

-- t is the reading at none of the first n hours
abbrev pub Unread : List ℕ → ℕ → ℕ → Type 0
Unread xs t n = (k : ℕ) → k < n → reading xs k ≡ t → ⊥

pub none-before-first : (xs : List ℕ) (q : ℕ) → NoneBefore xs q 0
none-before-first xs q j n l m = omega arith

module _ (xs : List ℕ) (q lo : ℕ) (p : NoneBefore xs q lo) where
  -- no reading is q above that at lo: no run from lo on has the sum
  pub none-before-next : Unread xs (reading xs lo + q) (length xs + 1) → NoneBefore xs q (lo + 1)
  none-before-next u j n l m = go (dec_le lo j)
    where
      go : Dec (lo ≤ j) → ⊥
      go (yes d) =
          let e : j ≡ lo = omega arith in
          u (j + n) (omega (arith, m.inside)) (omega (arith, reading-behind xs q j n m, ap (reading xs) e))
      go (no d) = p j n (omega arith) m

  -- the first reading that is: the run from lo on ends there
  pub match-from : (hi : ℕ) → 1 ≤ q → hi ≤ length xs → reading xs hi ≡ reading xs lo + q → Unread xs (reading xs lo + q) hi
      → FirstMatch xs q lo (hi - lo)
  match-from hi l i e u =
      let o : lo + (hi - lo) ≡ hi = omega (arith, above (dec_le hi lo)) in
      record {
        matches = record {
          some = omega (arith, above (dec_le hi lo));
          inside = omega arith;
          sum_is = omega (arith, run-reading xs lo (hi - lo), ap (reading xs) o);
        };
        earliest = λ j n m. from j n m (dec_le lo j);
        fewest = λ n m. least n m (dec_le (hi - lo) n);
      }
    where
      above : Dec (hi ≤ lo) → lo < hi
      above (yes d) = omega (arith, reading-grows xs hi lo d)
      above (no d) = omega arith

      from : (j n : ℕ) → Matches xs q j n → Dec (lo ≤ j) → lo ≤ j
      from j n m (yes d) = d
      from j n m (no d) = absurd (p j n (omega arith) m)

      least : (n : ℕ) → Matches xs q lo n → Dec (hi - lo ≤ n) → hi - lo ≤ n
      least n m (yes d) = d
      least n m (no d) = absurd (u (lo + n) (omega arith) (reading-behind xs q lo n m))

  -- all readings are below that: there is no such run
  pub no-match-from : reading xs (length xs) < reading xs lo + q → NoMatch xs q
  no-match-from l j n m = go (dec_le lo j)
    where
      go : Dec (lo ≤ j) → ⊥
      go (yes d) =
          omega (arith, reading-grows xs lo j d, reading-grows xs (j + n) (length xs) m.inside, reading-behind xs q j n m)
      go (no d) = p j n (omega arith) m

-- ---- there is one, or none
abbrev pub FirstOrNone : List ℕ → ℕ → Type 0
FirstOrNone xs q = ((first : ℕ) × (hours : ℕ) × FirstMatch xs q first hours) ⊎ NoMatch xs q

-- the first of n hours at which the reading is t
abbrev FirstRead : List ℕ → ℕ → ℕ → Type 0
FirstRead xs t n = (k : ℕ) × (k < n) × (reading xs k ≡ t) × Unread xs t k

first_read : (xs : List ℕ) (t n : ℕ) → FirstRead xs t n ⊎ Unread xs t n
first_read xs t zero = inr (λ (k : ℕ) (l : k < 0) e. omega arith)
first_read xs t (suc n) = go (first_read xs t n) (ℕ_discrete (reading xs n) t)
  where
    last : Unread xs t n → (reading xs n ≡ t → ⊥) → (k : ℕ) → k < suc n → reading xs k ≡ t → Dec (n ≤ k) → ⊥
    last u f k l e (yes d) =
        let g : k ≡ n = omega arith in
        f (omega (arith, ap (reading xs) g))
    last u f k l e (no d) = u k (omega arith) e

    go : FirstRead xs t n ⊎ Unread xs t n → Dec (reading xs n ≡ t) → FirstRead xs t (suc n) ⊎ Unread xs t (suc n)
    go (inl r) d = inl (r.0, omega (arith, r.1), r.2, r.3)
    go (inr u) (yes e) = inl (n, omega arith, e, u)
    go (inr u) (no f) = inr (λ k l e. last u f k l e (dec_le n k))

-- from hour lo on, or else from the next
from-lo : (xs : List ℕ) (q lo : ℕ) → 1 ≤ q → NoneBefore xs q lo → (NoneBefore xs q (lo + 1) → FirstOrNone xs q) → FirstOrNone xs q
from-lo xs q lo l p on = go (first_read xs (reading xs lo + q) (length xs + 1))
  where
    go : FirstRead xs (reading xs lo + q) (length xs + 1) ⊎ Unread xs (reading xs lo + q) (length xs + 1) → FirstOrNone xs q
    go (inl r) = inl (lo, r.0 - lo, match-from xs q lo p r.0 l (omega (arith, r.1)) r.2 r.3)
    go (inr u) = on (none-before-next xs q lo p u)

-- no more first hours than the list has
found_from : (xs : List ℕ) (q : ℕ) → 1 ≤ q → (n lo : ℕ) → length xs ≤ lo + n → NoneBefore xs q lo → FirstOrNone xs q
found_from xs q l zero lo h p = inr (no-match-from xs q lo p (omega (arith, reading-grows xs (length xs) lo (omega arith))))
found_from xs q l (suc n) lo h p = from-lo xs q lo l p (λ (r : NoneBefore xs q (lo + 1)). found_from xs q l n (lo + 1) (omega arith) r)

pub some-match : (xs : List ℕ) (q : ℕ) → 1 ≤ q → FirstOrNone xs q
some-match xs q l = found_from xs q l (length xs) 0 (omega arith) (none-before-first xs q)

-- ---- there is one alone
pub one-match : (xs : List ℕ) (q f g m n : ℕ) → FirstMatch xs q f m → FirstMatch xs q g n → (f ≡ g) × (m ≡ n)
one-match xs q f g m n a b =
    let e : f ≡ g = omega (arith, a.earliest g n b.matches, b.earliest f m a.matches) in
    let c : FirstMatch xs q f n = rw e (b) in
    (e, omega (arith, a.fewest n c.matches, c.fewest m a.matches))

-- and not beside 'none'
pub match-or-none : (xs : List ℕ) (q f n : ℕ) → FirstMatch xs q f n → NoMatch xs q → ⊥
match-or-none xs q f n a b = b f n a.matches
