-- What append and set take, on the plain list and on any bytes. Assumes nothing.
use mathlib.Core.Bool.{Bool, true, false}
use mathlib.Core.List.{List, [], ◌∷◌, ◌++◌}
use mathlib.Core.Path.{◌≡◌, refl, subst, ◌∙◌}
use Prim.Native.Nat.{ℕ, ◌+◌, ◌-◌, ◌*◌, ◌/◌, ◌≤◌, ◌<◌}
use native.Mathlib.Omega.{arith}
use lib.ListN.{length, get_or, set, get_or-eq_default}
use borrow.Author.Tests.{leb-false}
use Rattle.lists.specs.Lists.{pick, sum, tabulate}
use Rattle.answers.specs.Store.{Answer, changed}
use Rattle.store.specs.Plain.{Call, Outcome, Plain, change, need, page, refuse, step}
use Rattle.store.specs.Limits.{max_total}
use Rattle.store.specs.Reading.{list_in, read}
use Rattle.store.specs.Sound.{sound}
use Rattle.store.specs.Call.{Called, call}
use Rattle.store.proofs.CallLaws.{call-10, sound-call, with-end, with-inside}
use Rattle.store.proofs.HourLaws.{With, page-sum, with-hour}
use Rattle.store.proofs.Keep.{need-off}
use Rattle.store.proofs.ReadBack.{page-le}
use Rattle.store.proofs.SoundFacts.{facts}
use Rattle.store.proofs.StepLaws.{Change, End, change-is, done, made, not_done, over, said, short, step_end}
use Rattle.coin_cost.specs.Cost.{Gains, TakesAtMost, by_append, by-set, cells_for, gain, page_gain}
use Rattle.coin_cost.proofs.CellLaws.{need-rises, rises}

-- ---- one hour of a list
-- the page of the hour alone takes cells
hour-rises : (xs ys : List ℕ) (i v P : ℕ) → With xs ys i v → i < 64 * P → sum ys ≤ max_total → need ys P ≤ need xs P + cells_for (gain xs i v)
unfolding gain
hour-rises xs ys i v P w l t =
    omega (
      arith,
      need-off xs ys i P w.off (omega arith),
      rises (sum (page xs (i / 64))) (sum (page ys (i / 64))) (gain xs i v) (omega (arith, page-le ys (i / 64))) (omega (arith, page-sum xs ys i v w)),
    )

-- ---- the plain list
takes-or : (k j : ℕ) (L : Plain) (b : Bool) (o : Outcome) → (b ≡ false → TakesAtMost k o.answer) → TakesAtMost k (pick b (refuse j L) o).answer
unfolding pick
takes-or k j L true o h = tt
takes-or k j L false o h = h refl

change-takes : (L : Plain) (ys : List ℕ) (i v : ℕ) → With L.counts ys i v → i < 64 * L.pages
    → TakesAtMost (cells_for (gain L.counts i v)) (change L ys).answer
change-takes L ys i v w l = go (change-is L ys)
  where
    go : {o : Outcome} → Change L ys o → TakesAtMost (cells_for (gain L.counts i v)) o.answer
    go (over a) = tt
    go (short a d) = tt
    go (done a d) = omega (arith, hour-rises L.counts ys i v L.pages w l a)

-- the hour behind the last gains all that it gets
gain-end : (xs : List ℕ) (v : ℕ) → gain xs (length xs) v ≡ v
unfolding gain
gain-end xs v = let e : get_or xs (length xs) 0 ≡ 0 = get_or-eq_default xs 0 (omega arith) in omega arith

step-takes : (c : Call) (L : Plain) (d : ℕ) → length L.counts ≤ 64 * L.pages → Gains c L.counts d → TakesAtMost (cells_for d) (step c L).answer
unfolding step
step-takes c L d h (by_append v xs) =
    takes-or _ 11 L _ _ (λ e.
    let l : length L.counts < 64 * L.pages = leb-false _ _ e in
    subst (λ (z : ℕ). TakesAtMost (cells_for z) (change L (L.counts ++ v ∷ [])).answer) (gain-end L.counts v)
    (change-takes L (L.counts ++ v ∷ []) (length L.counts) v
    (subst (λ (ys : List ℕ). With L.counts ys (length L.counts) v) (with-end L.counts v) (with-hour L.counts (length L.counts) v (omega arith))) l))
step-takes c L d h (by-set i v xs) =
    takes-or _ 7 L _ _ (λ e.
    let l : i < length L.counts = leb-false _ _ e in
    change-takes L (set L.counts i v) i v
    (subst (λ (ys : List ℕ). With L.counts ys i v) (with-inside L.counts i v l) (with-hour L.counts i v (omega arith))) (omega arith))

end-takes : (L : Plain) (r f : ℕ) {o : Outcome} → End L o → o.answer ≡ changed r f
    → r ≤ sum (tabulate L.pages (λ p. cells_for (page_gain L.counts o.list.counts p)))
end-takes L r f (said n) e = let z : ◌≡◌ {A = ℕ} 0 1 = cc in absurd (omega arith)
end-takes L r f (not_done n) e = let z : ◌≡◌ {A = ℕ} 0 1 = cc in absurd (omega arith)
end-takes L r f (made ys ly ls ln) e =
    let rise : need ys L.pages - need L.counts L.pages ≡ r = cc in
    omega (arith, need-rises L.counts ys L.pages ls)

-- ---- the calls, on any bytes
pub call-takes : (c : Call) (s : List ℕ) (d : ℕ) → Gains c (list_in s) d → TakesAtMost (cells_for d) (call c s).answer
call-takes c s d g = go (sound s) refl
  where
    go : (b : Bool) → sound s ≡ b → TakesAtMost (cells_for d) (call c s).answer
    go false e = subst (TakesAtMost (cells_for d)) (call-10 c s e).answer tt
    go true e = subst (TakesAtMost (cells_for d)) (sound-call c s e).answer (step-takes c (read s).plain d (facts s e).good.hours g)

-- so whoever has the answer and the bytes of the call has its cost too
pub with-cost : (c : Call) {s t : List ℕ} {a : Answer} {d : ℕ} → Gains c (list_in s) d → Called c s a t → Called c s a t × TakesAtMost (cells_for d) a
with-cost c {s} {t} {a} {d} g w = (w, rw w.answer (call-takes c s d g))

pub change-rises : (c : Call) (s : List ℕ) (r f : ℕ) → (call c s).answer ≡ changed r f
    → r ≤ sum (tabulate (read s).plain.pages (λ p. cells_for (page_gain (list_in s) (step c (read s).plain).list.counts p)))
change-rises c s r f q = go (sound s) refl
  where
    go : (b : Bool) → sound s ≡ b → r ≤ sum (tabulate (read s).plain.pages (λ p. cells_for (page_gain (list_in s) (step c (read s).plain).list.counts p)))
    go true e = end-takes (read s).plain r f (step_end c (read s).plain (facts s e).good.hours) ((sound-call c s e).answer ∙ q)
    go false e = let h = (call-10 c s e).answer ∙ q in let z : ◌≡◌ {A = ℕ} 0 1 = cc in absurd (omega arith)
