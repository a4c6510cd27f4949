-- What a live call does not answer: 10 of a sound store, and of the rise and the fall that a change answers, both. Assumes nothing.
use mathlib.Core.Path.{◌≡◌, refl, sym, subst, ◌∙◌}
use mathlib.Core.Logic.{◌↔◌}
use mathlib.Core.Bool.{Bool, true, false}
use mathlib.Core.List.{List, ◌∷◌, [], ◌++◌}
use Prim.Native.Nat.{ℕ, ◌*◌}
use native.Mathlib.Omega.{arith}
use lib.ListN.{set}
use Rattle.lists.specs.Lists.{pick}
use Rattle.store.specs.Plain.{Append, Call, Count, Day, Free, Insert, Outcome, Plain, Reach, Reading, Set, Strike}
use Rattle.answers.specs.Store.{Answer, answered, changed, refused}
use Rattle.store.specs.Plain.{change, inserted, need, refuse, step, struck}
use Rattle.store.specs.Reading.{read}
use Rattle.store.specs.Sound.{sound}
use Rattle.store.specs.Call.{call}
use Rattle.store.proofs.CallLaws.{call-10, sound-call}
use Rattle.store.proofs.ChangeLaws.{one_side}
use Rattle.store.proofs.StepLaws.{Change, change-is, done, over, short}

-- an answer that the plain list may give
abbrev Plainly : Answer → Type 0
Plainly (changed r f) = r * f ≡ 0
Plainly (answered n) = n ≡ n
Plainly (refused k) = k ≡ 10 → ⊥

refused-or : (L : Plain) (b : Bool) (k : ℕ) (o : Outcome) → (k ≡ 10 → ⊥) → Plainly o.answer → Plainly (pick b (refuse k L) o).answer
unfolding pick
refused-or L true k o i w = i
refused-or L false k o i w = w

change-plainly : (L : Plain) (ys : List ℕ) → Plainly (change L ys).answer
change-plainly L ys = go (change-is L ys)
  where
    go : {o : Outcome} → Change L ys o → Plainly o.answer
    go (over a) = λ e. omega arith
    go (short a d) = λ e. omega arith
    go (done a d) = one_side (need ys L.pages) (need L.counts L.pages)

step-plainly : (c : Call) (L : Plain) → Plainly (step c L).answer
unfolding step
step-plainly (Append v) L = refused-or L _ 11 _ (λ e. omega arith) (change-plainly L (L.counts ++ v ∷ []))
step-plainly (Set i v) L = refused-or L _ 7 _ (λ e. omega arith) (change-plainly L (set L.counts i v))
step-plainly (Insert i v) L =
    refused-or L _ 7 _ (λ e. omega arith) (refused-or L _ 11 _ (λ e. omega arith) (change-plainly L (inserted L.counts i v)))
step-plainly (Strike i) L = refused-or L _ 7 _ (λ e. omega arith) (change-plainly L (struck L.counts i))
step-plainly (Count i) L = refused-or L _ 7 _ (λ e. omega arith) refl
step-plainly (Reading i) L = refused-or L _ 7 _ (λ e. omega arith) refl
step-plainly (Reach p) L = refused-or L _ 8 _ (λ e. omega arith) refl
step-plainly (Day d cs) L = refused-or L _ 16 _ (λ e. omega arith) (refused-or L _ 7 _ (λ e. omega arith) refl)
step-plainly Free L = refl

-- ---- the calls, on any bytes
-- 'store, every other live call: 10, not sound'
pub ten-exactly : (c : Call) (s : List ℕ) → ((call c s).answer ≡ refused 10) ↔ (sound s ≡ false)
ten-exactly c s = (only (sound s) refl, λ e. sym (call-10 c s e).answer)
  where
    only : (b : Bool) → sound s ≡ b → (call c s).answer ≡ refused 10 → sound s ≡ false
    only false e q = e
    only true e q = absurd (subst Plainly ((sound-call c s e).answer ∙ q) (step-plainly c (read s).plain) refl)

-- 'so one of the two is 0'
pub one_of_two : (c : Call) (s : List ℕ) (r f : ℕ) → (call c s).answer ≡ changed r f → r * f ≡ 0
one_of_two c s r f q = go (sound s) refl
  where
    go : (b : Bool) → sound s ≡ b → r * f ≡ 0
    go true e = subst Plainly ((sound-call c s e).answer ∙ q) (step-plainly c (read s).plain)
    go false e = let h = (call-10 c s e).answer ∙ q in let z : ◌≡◌ {A = ℕ} 0 1 = cc in absurd (omega arith)
