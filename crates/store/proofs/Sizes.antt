-- How large the answers of the calls are, whatever the bytes. Assumes nothing.
use mathlib.Core.Path.{◌≡◌, refl, subst}
use mathlib.Core.Bool.{Bool, true, false}
use mathlib.Core.List.{List, ◌∷◌, [], ◌++◌}
use Prim.Native.Nat.{ℕ, ◌≤◌}
use native.Mathlib.Omega.{arith}
use lib.ListN.{length, set}
use Rattle.lists.specs.Lists.{pick, sum}
use Rattle.lists.proofs.Reach.{reached-le}
use Rattle.lists.proofs.Sums.{sum-take-le}
use Rattle.store.specs.Limits.{max_cells, max_total}
use Rattle.store.specs.Fitting.{fits}
use Rattle.store.specs.Plain.{Append, Call, Count, Day, Free, Insert, Outcome, Plain, Reach, Reading, Set, Strike}
use Rattle.answers.specs.Store.{Answer, answered, changed, refused}
use Rattle.days.specs.Days.{day_end}
use Rattle.store.specs.Plain.{change, inserted, need, refuse, step, struck}
use Rattle.store.specs.Layout.{bytes_of, fresh}
use Rattle.store.specs.Reading.{read}
use Rattle.store.specs.Sound.{sound}
use Rattle.store.specs.Call.{Result, call, fresh_call}
use Rattle.store.proofs.CallLaws.{call-10, sound-call}
use Rattle.store.proofs.HourLaws.{get_d_le}
use Rattle.store.proofs.Keep.{spare-is}
use Rattle.store.proofs.SoundFacts.{facts}
use Rattle.store.proofs.StepLaws.{Change, change-is, done, over, short}

-- cells are no more than a store has, a number is no more than the total's limit, refusals are 1 to 20
abbrev pub Small : Answer → Type 0
Small (changed r f) = (r ≤ max_cells) × (f ≤ max_cells)
Small (answered n) = n ≤ 4294967295
Small (refused k) = (1 ≤ k) × (k ≤ 20)

-- ---- the plain list
module _ (L : Plain) (few : L.cells ≤ max_cells) (hours : length L.counts ≤ 65536) (total : sum L.counts ≤ max_total)
    (enough : need L.counts L.pages ≤ L.cells) where
  refused-or : (b : Bool) (k : ℕ) (o : Outcome) → 1 ≤ k → k ≤ 20 → Small o.answer → Small (pick b (refuse k L) o).answer
  unfolding pick
  refused-or true k o low high w = (low, high)
  refused-or false k o low high w = w

  change-small : (ys : List ℕ) → Small (change L ys).answer
  change-small ys = go (change-is L ys)
    where
      go : {o : Outcome} → Change L ys o → Small o.answer
      go (over a) = omega arith
      go (short a d) = omega arith
      go (done a d) = omega arith

  step_small : (c : Call) → Small (step c L).answer
  unfolding step
  step_small (Append v) = refused-or _ 11 _ (omega arith) (omega arith) (change-small (L.counts ++ v ∷ []))
  step_small (Set i v) = refused-or _ 7 _ (omega arith) (omega arith) (change-small (set L.counts i v))
  step_small (Insert i v) =
      refused-or _ 7 _ (omega arith) (omega arith) (refused-or _ 11 _ (omega arith) (omega arith) (change-small (inserted L.counts i v)))
  step_small (Strike i) = refused-or _ 7 _ (omega arith) (omega arith) (change-small (struck L.counts i))
  step_small (Count i) = refused-or _ 7 _ (omega arith) (omega arith) (omega (arith, get_d_le L.counts i))
  step_small (Reading i) = refused-or _ 7 _ (omega arith) (omega arith) (omega (arith, sum-take-le i L.counts))
  step_small (Reach p) = refused-or _ 8 _ (omega arith) (omega arith) (omega (arith, reached-le p L.counts))
  step_small (Day d cs) =
      refused-or _ 16 _ (omega arith) (omega arith)
      (refused-or _ 7 _ (omega arith) (omega arith) (omega (arith, sum-take-le (day_end cs d) L.counts)))
  step_small Free = omega arith

-- ---- the calls, on any bytes
pub call-small : (c : Call) (s : List ℕ) → Small (call c s).answer
call-small c s = go (sound s) refl
  where
    go : (b : Bool) → sound s ≡ b → Small (call c s).answer
    go false e = subst Small (call-10 c s e).answer (omega arith)
    go true e =
        let f = facts s e in
        subst Small (sound-call c s e).answer
        (step_small (read s).plain f.good.limits.cells-high (omega (arith, f.good.hours, f.good.limits.pages-high)) f.total-fits
        (omega (arith, spare-is (read s) f.good)) c)

pub fresh-small : (b : List ℕ) (P C : ℕ) → Small (fresh_call b P C).answer
unfolding fresh_call pick
fresh-small b P C = go (fits b P C)
  where
    made : Result
    made = record { answer = answered 0; bytes = bytes_of (fresh P C) }

    go : (t : Bool) → Small (pick t made (record { answer = refused 9; bytes = b })).answer
    go true = omega arith
    go false = omega arith
