-- An accepted change takes and gives back cells in document 01's order. Assumes nothing.
use mathlib.Core.Path.{◌≡◌, refl, sym, ap, ◌∙◌}
use mathlib.Core.Bool.{Bool, true, false}
use mathlib.Core.List.{List, [], ◌∷◌, ◌++◌}
use Prim.Native.Nat.{ℕ, ◌+◌, ◌-◌, ◌*◌, ◌/◌, ◌≤◌, ◌<◌}
use native.Mathlib.Omega.{arith}
use native.Mathlib.Decide.{dec_le}
use lib.ListN.{length, set}
use lib.Seq.{get_or-set_other}
use borrow.Author.Tests.{leb-false}
use Rattle.lists.specs.Lists.{pick, sum}
use Rattle.lists.proofs.Occurrences.{get_d-snoc}
use Rattle.store.specs.Plain.{Call, Outcome, Plain, need, page, relisted, step}
use Rattle.answers.specs.Store.{changed, refused}
use Rattle.store.specs.Layout.{Model, bytes_of, resize}
use Rattle.store.specs.PageCode.{cells}
use Rattle.store.specs.Reading.{read}
use Rattle.store.specs.Sound.{Good, sound}
use Rattle.store.specs.Settle.{settled_by_cells}
use Rattle.store.specs.Call.{CellsInOrder, HourInOrder, OneHour, after, appended, call, set_at, settle}
use Rattle.store.specs.OneCell.{chain_of, give_cell, listed, take_cell, times}
use Rattle.store.proofs.CallLaws.{call-10, sound-call}
use Rattle.store.proofs.CellByCell.{cell-by-cell}
use Rattle.store.proofs.Holds.{holds-bytes}
use Rattle.store.proofs.Keep.{Off, need-off, spare-is}
use Rattle.store.proofs.OneByOne.{in_order}
use Rattle.store.proofs.OnePage.{settled-off}
use Rattle.store.proofs.Chained.{good-chained}
use Rattle.store.proofs.ReadBack.{read_is}
use Rattle.store.proofs.SoundFacts.{facts}
use Rattle.store.proofs.StepLaws.{Change, End, after-good, change-is, done, made, moved, not_done, over, said, short, step_end}

-- ---- the bytes after a call say the model after it
module _ (c : Call) (s : List ℕ) (r f : ℕ) (e : (call c s).answer ≡ changed r f) where
  is-sound : sound s ≡ true
  is-sound = go (sound s) refl
    where
      go : (b : Bool) → sound s ≡ b → sound s ≡ true
      go true h = h
      go false h =
          let a : refused 10 ≡ changed r f = (call-10 c s h).answer ∙ e in
          let z : ◌≡◌ {A = ℕ} 0 1 = cc in absurd (omega arith)

  said-so : (step c (read s).plain).answer ≡ changed r f
  said-so = (sound-call c s is-sound).answer ∙ e

  read-after : read (call c s).bytes ≡ after c (read s)
  read-after =
      let g : Good (after c (read s)) = after-good c (read s) (facts s is-sound).good in
      ap read (sym (sound-call c s is-sound).bytes)
      ∙ read_is (bytes_of (after c (read s))) (after c (read s)) (good-chained (after c (read s)) g) (holds-bytes (after c (read s)) g)

-- ---- any change
by-cells : (m : Model) (r f : ℕ) {o : Outcome} → Good m → End m.plain o → o.answer ≡ changed r f
    → settle m o o.answer ≡ settled_by_cells m o.list
unfolding settle
by-cells m r f g (said n) e = let z : ◌≡◌ {A = ℕ} 0 1 = cc in absurd (omega arith)
by-cells m r f g (not_done n) e = let z : ◌≡◌ {A = ℕ} 0 1 = cc in absurd (omega arith)
by-cells m r f g (made ys ly ls ln) e = sym (cell-by-cell m ys g ln)

pub cells-in-order : CellsInOrder
unfolding after
cells-in-order c s r f e =
    let g = (facts s (is-sound c s r f e)).good in
    read-after c s r f e ∙ by-cells (read s) r f g (step_end c (read s).plain g.hours) (said-so c s r f e)

-- ---- a change of hour i alone
data HourEnd (L : Plain) (i : ℕ) : Outcome → Type 0 where
  kept : (k : ℕ) → HourEnd L i (record { answer = refused k; list = L })
  moves : (ys : List ℕ) → Off L.counts ys i → i < 64 * L.pages → need ys L.pages ≤ L.cells
      → HourEnd L i (record { answer = moved L ys; list = relisted L ys })

change-hour : {L : Plain} {ys : List ℕ} {o : Outcome} (i : ℕ) → Off L.counts ys i → i < 64 * L.pages → Change L ys o → HourEnd L i o
change-hour i o li (over h) = kept 3
change-hour i o li (short h j) = kept 12
change-hour i o li (done h j) = moves _ o li j

pick-hour : (L : Plain) (i : ℕ) (b : Bool) (x y : Outcome) → HourEnd L i x → (b ≡ false → HourEnd L i y) → HourEnd L i (pick b x y)
unfolding pick
pick-hour L i true x y h j = h
pick-hour L i false x y h j = j refl

hour-end : (c : Call) (L : Plain) (i : ℕ) → OneHour c L i → length L.counts ≤ 64 * L.pages → HourEnd L i (step c L)
unfolding step
hour-end c L i (appended v M) h =
    pick-hour L _ _ _ _ (kept 11) (λ e.
    let l : length L.counts < 64 * L.pages = leb-false _ _ e in
    change-hour (length L.counts) (get_d-snoc L.counts v) l (change-is L (L.counts ++ v ∷ [])))
hour-end c L i (set_at j v M) h =
    pick-hour L _ _ _ _ (kept 7) (λ e.
    let l : i < length L.counts = leb-false _ _ e in
    change-hour i (λ j ne. get_or-set_other L.counts i j v 0 ne) (omega arith) (change-is L (set L.counts i v)))

to-size : (m : Model) (ys : List ℕ) (p r f k : ℕ) → p < length m.chains → r ≡ k - length (chain_of m p) → f ≡ length (chain_of m p) - k
    → r ≤ length m.spare → Dec (length (chain_of m p) ≤ k) → resize m ys p k ≡ listed ys (times r (take_cell p) (times f (give_cell p) m))
unfolding times
to-size m ys p r f k lp er ef l (yes h) =
    let none : f ≡ 0 = omega arith in
    let more : k ≡ length (chain_of m p) + r = omega arith in
    rw none (ap (resize m ys p) more ∙ (in_order m ys p lp).takes r l)
to-size m ys p r f k lp er ef l (no h) =
    let none : r ≡ 0 = omega arith in
    let less : k + f ≡ length (chain_of m p) = omega arith in
    rw none ((in_order m ys p lp).gives k f less)

hour-order : (m : Model) (i r f : ℕ) {o : Outcome} → Good m → HourEnd m.plain i o → o.answer ≡ changed r f
    → settle m o o.answer ≡ listed o.list.counts (times r (take_cell (i / 64)) (times f (give_cell (i / 64)) m))
unfolding settle
hour-order m i r f g (kept k) e = let z : ◌≡◌ {A = ℕ} 0 1 = cc in absurd (omega arith)
hour-order m i r f g (moves ys o li ln) e =
    let P = m.plain.pages in
    let xs = m.plain.counts in
    let rise : need ys P - need xs P ≡ r = cc in
    let fall : need xs P - need ys P ≡ f = cc in
    let lp : i / 64 < P = omega arith in
    let both = need-off xs ys i P o lp in
    let own = g.lengths (i / 64) lp in
    settled-off m ys i g o li
    ∙ to-size m ys (i / 64) r f (cells (sum (page ys (i / 64)))) (omega (arith, g.rows)) (omega (arith, both, own)) (omega (arith, both, own))
    (omega (arith, spare-is m g)) (dec_le _ _)

pub hour-in-order : HourInOrder
unfolding after
hour-in-order c s i r f h e =
    let g = (facts s (is-sound c s r f e)).good in
    read-after c s r f e ∙ hour-order (read s) i r f g (hour-end c (read s).plain i h g.hours) (said-so c s r f e)
