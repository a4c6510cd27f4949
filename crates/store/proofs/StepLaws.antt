-- Each call keeps a store good and does to its list what the plain list does. Assumes nothing.
use mathlib.Core.Path.{◌≡◌, refl}
use mathlib.Core.Bool.{Bool, true, false}
use mathlib.Core.List.{List, [], ◌∷◌, ◌++◌}
use Prim.Native.Nat.{ℕ, ◌-◌, ◌*◌, ◌≤◌, ◌<◌}
use native.Mathlib.Omega.{arith}
use lib.ListN.{length, set, length-append, length-set}
use lib.Dec.{ltb}
use borrow.Author.Tests.{ltb-true, ltb-false, leb-false}
use Rattle.lists.specs.Lists.{pick, sum}
use Rattle.store.specs.Limits.{max_total}
use Rattle.store.specs.Call.{after, settle}
use Rattle.store.specs.Settle.{settled}
use Rattle.store.specs.Layout.{Model}
use Rattle.store.specs.Plain.{Append, Call, Count, Day, Free, Insert, Outcome, Plain, Reach, Strike, inserted, relisted, struck}
use Rattle.answers.specs.Store.{Answer, answered, changed, refused}
use Rattle.store.specs.Plain.{Reading, Set, change, need, next, step}
use Rattle.store.specs.Sound.{Good}
use Rattle.store.proofs.Inserting.{length_inserted, length-struck}
use Rattle.store.proofs.SettledGood.{settled-good}

-- 'the rise and the fall of need'
abbrev pub moved : Plain → List ℕ → Answer
moved L ys = changed (need ys L.pages - need L.counts L.pages) (need L.counts L.pages - need ys L.pages)

-- the three ends of a change, each with what holds there
pub data Change (L : Plain) (ys : List ℕ) : Outcome → Type 0 where
  over : max_total < sum ys → Change L ys (record { answer = refused 3; list = L })
  short : sum ys ≤ max_total → L.cells < need ys L.pages → Change L ys (record { answer = refused 12; list = L })
  done : sum ys ≤ max_total → need ys L.pages ≤ L.cells → Change L ys (record { answer = moved L ys; list = relisted L ys })

pub change-is : (L : Plain) (ys : List ℕ) → Change L ys (change L ys)
unfolding change pick
change-is L ys = go (ltb max_total (sum ys)) (ltb L.cells (need ys L.pages)) refl refl
  where
    go : (a b : Bool) → ltb max_total (sum ys) ≡ a → ltb L.cells (need ys L.pages) ≡ b → Change L ys (change L ys)
    go true b e d = rw e (over (ltb-true _ _ e))
    go false true e d = rw (e, d) (short (ltb-false _ _ e) (ltb-true _ _ d))
    go false false e d = rw (e, d) (done (ltb-false _ _ e) (ltb-false _ _ d))

-- a call's end: a refusal or an answer that changes nothing, or a new list
pub data End (L : Plain) : Outcome → Type 0 where
  said : (n : ℕ) → End L (record { answer = answered n; list = L })
  not_done : (n : ℕ) → End L (record { answer = refused n; list = L })
  made : (ys : List ℕ) → length ys ≤ 64 * L.pages → sum ys ≤ max_total → need ys L.pages ≤ L.cells
      → End L (record { answer = moved L ys; list = relisted L ys })

change-end : {L : Plain} {ys : List ℕ} {o : Outcome} → length ys ≤ 64 * L.pages → Change L ys o → End L o
change-end ly (over h) = not_done 3
change-end ly (short h j) = not_done 12
change-end ly (done h j) = made _ ly h j

pick_end : (L : Plain) (b : Bool) (x y : Outcome) → End L x → (b ≡ false → End L y) → End L (pick b x y)
unfolding pick
pick_end L true x y h j = h
pick_end L false x y h j = j refl

pub step_end : (c : Call) (L : Plain) → length L.counts ≤ 64 * L.pages → End L (step c L)
unfolding step
step_end (Append v) L h =
    pick_end L _ _ _ (not_done 11) (λ e.
    let l : length L.counts < 64 * L.pages = leb-false _ _ e in
    change-end (omega (arith, length-append L.counts (v ∷ []))) (change-is L (L.counts ++ v ∷ [])))
step_end (Set i v) L h = pick_end L _ _ _ (not_done 7) (λ e. change-end (omega (arith, length-set L.counts i v)) (change-is L (set L.counts i v)))
step_end (Insert i v) L h =
    pick_end L _ _ _ (not_done 7) (λ a. pick_end L _ _ _ (not_done 11) (λ b.
    let li : i ≤ length L.counts = ltb-false _ _ a in
    let l : length L.counts < 64 * L.pages = leb-false _ _ b in
    change-end (omega (arith, length_inserted L.counts i v li)) (change-is L (inserted L.counts i v))))
step_end (Strike i) L h =
    pick_end L _ _ _ (not_done 7) (λ a.
    let l : i < length L.counts = leb-false _ _ a in
    change-end (omega (arith, length-struck L.counts i l)) (change-is L (struck L.counts i)))
step_end (Count i) L h = pick_end L _ _ _ (not_done 7) (λ _. said _)
step_end (Reading i) L h = pick_end L _ _ _ (not_done 7) (λ _. said _)
step_end (Reach p) L h = pick_end L _ _ _ (not_done 8) (λ _. said _)
step_end (Day d cs) L h = pick_end L _ _ _ (not_done 16) (λ _. pick_end L _ _ _ (not_done 7) (λ _. said _))
step_end Free L h = said _

settle-good : (m : Model) {o : Outcome} → Good m → End m.plain o → Good (settle m o o.answer)
unfolding settle
settle-good m g (said n) = g
settle-good m g (not_done n) = g
settle-good m g (made ys ly ls ln) = settled-good m ys g ln ly ls

pub after-good : (c : Call) (m : Model) → Good m → Good (after c m)
unfolding after
after-good c m g = settle-good m g (step_end c m.plain g.hours)

settle-plain : (m : Model) {o : Outcome} → End m.plain o → (settle m o o.answer).plain ≡ o.list
unfolding settle settled
settle-plain m (said n) = refl
settle-plain m (not_done n) = refl
settle-plain m (made ys ly ls ln) = refl

pub after-plain : (c : Call) (m : Model) → Good m → (after c m).plain ≡ next c m.plain
unfolding after next
after-plain c m g = settle-plain m (step_end c m.plain g.hours)

-- ---- P and C stay those that fresh was given
pick-keeps : (b : Bool) (x y : Outcome) (n : ℕ) (f : Plain → ℕ) → f x.list ≡ n → f y.list ≡ n → f (pick b x y).list ≡ n
unfolding pick
pick-keeps true x y n f h j = h
pick-keeps false x y n f h j = j

module _ (f : Plain → ℕ) (h : (L : Plain) (ys : List ℕ) → f (relisted L ys) ≡ f L) where
  change-keeps : (L : Plain) (ys : List ℕ) → f (change L ys).list ≡ f L
  unfolding change
  change-keeps L ys = pick-keeps _ _ _ (f L) f refl (pick-keeps _ _ _ (f L) f refl (h L ys))

  pub next-keeps : (c : Call) (L : Plain) → f (next c L) ≡ f L
  unfolding next step
  next-keeps (Append v) L = pick-keeps _ _ _ (f L) f refl (change-keeps L _)
  next-keeps (Set i v) L = pick-keeps _ _ _ (f L) f refl (change-keeps L _)
  next-keeps (Insert i v) L = pick-keeps _ _ _ (f L) f refl (pick-keeps _ _ _ (f L) f refl (change-keeps L _))
  next-keeps (Strike i) L = pick-keeps _ _ _ (f L) f refl (change-keeps L _)
  next-keeps (Count i) L = pick-keeps _ _ _ (f L) f refl refl
  next-keeps (Reading i) L = pick-keeps _ _ _ (f L) f refl refl
  next-keeps (Reach p) L = pick-keeps _ _ _ (f L) f refl refl
  next-keeps (Day d cs) L = pick-keeps _ _ _ (f L) f refl (pick-keeps _ _ _ (f L) f refl refl)
  next-keeps Free L = refl

pub next-pages : (c : Call) (L : Plain) → (next c L).pages ≡ L.pages
next-pages = next-keeps (λ (L : Plain). L.pages) (λ L ys. refl)

pub next-cells : (c : Call) (L : Plain) → (next c L).cells ≡ L.cells
next-cells = next-keeps (λ (L : Plain). L.cells) (λ L ys. refl)
