-- Document 02's order, cell by cell. Assumes nothing.
use mathlib.Core.Path.{◌≡◌, refl, sym, ap, ◌∙◌}
use mathlib.Core.List.{List, []}
use Prim.Native.Nat.{ℕ, zero, suc, ◌+◌, ◌-◌, ◌≤◌, ◌<◌, min}
use native.Mathlib.Omega.{arith}
use lib.ListN.{length}
use Rattle.store.specs.Plain.{need, relisted}
use Rattle.store.specs.Layout.{Model, resize}
use Rattle.store.specs.OneCell.{chain_of, give_cell, listed, take_cell, times}
use Rattle.store.specs.Sound.{Good}
use Rattle.store.proofs.OneByOne.{in_order}
use Rattle.store.specs.Settle.{pagewise, settled, settled_by_cells, shrunk, size_to, wanted, with_list}
use Rattle.store.proofs.Sized.{Sized, enough-shrink, room, sized}
use Rattle.store.proofs.SettledGood.{grows-enough, shrunk-sized}

-- ---- one page
times-plain : (n : ℕ) (f : Model → Model) (m : Model) → ((w : Model) → (f w).plain ≡ w.plain) → (times n f m).plain ≡ m.plain
unfolding times
times-plain zero f m h = refl
times-plain (suc n) f m h = times-plain n f (f m) h ∙ h m

give-plain : (p : ℕ) (w : Model) → (give_cell p w).plain ≡ w.plain
unfolding give_cell
give-plain p w = refl

take-plain : (p : ℕ) (w : Model) → (take_cell p w).plain ≡ w.plain
unfolding take_cell
take-plain p w = refl

-- `resize` is `size_to` with another list
back : (w x : Model) (p k : ℕ) → resize w [] p k ≡ listed [] x → x.plain ≡ w.plain → size_to p k w ≡ x
unfolding resize size_to
back w x p k e h =
    ap (λ (z : Model). record { plain = w.plain; chains = z.chains; spare = z.spare }) e
    ∙ ap (λ z. record { plain = z; chains = x.chains; spare = x.spare }) (sym h)

gives : (w : Model) (p k d : ℕ) → p < length w.chains → k + d ≡ length (chain_of w p) → times d (give_cell p) w ≡ size_to p k w
gives w p k d lp e = sym (back w (times d (give_cell p) w) p k ((in_order w [] p lp).gives k d e) (times-plain d (give_cell p) w (give-plain p)))

takes : (w : Model) (p k d : ℕ) → p < length w.chains → k ≡ length (chain_of w p) + d → d ≤ length w.spare → times d (take_cell p) w ≡ size_to p k w
takes w p k d lp e l =
    sym (rw e (back w (times d (take_cell p) w) p (length (chain_of w p) + d) ((in_order w [] p lp).takes d l)
    (times-plain d (take_cell p) w (take-plain p))))

-- ---- page by page
along : (f g : ℕ → Model → Model) (m : Model) (n : ℕ) → ((q : ℕ) → q < n → f q (pagewise q g m) ≡ g q (pagewise q g m)) → pagewise n f m ≡ pagewise n g m
unfolding pagewise
along f g m zero h = refl
along f g m (suc n) h = ap (f n) (along f g m n (λ q lq. h q (omega arith))) ∙ h n (omega arith)

module _ (m : Model) (ys : List ℕ) (g : Good m) where
  abbrev P : ℕ
  P = m.plain.pages

  abbrev old : ℕ → ℕ
  old = wanted m.plain.counts

  abbrev new : ℕ → ℕ
  new = wanted ys

  abbrev kept : ℕ → ℕ
  kept p = min (length (chain_of m p)) (new p)

  shrinks : pagewise P (λ p. times (old p - new p) (give_cell p)) m ≡ shrunk m ys
  unfolding shrunk
  shrinks = along (λ p. times (old p - new p) (give_cell p)) (λ p. size_to p (kept p)) m P (λ q lq.
      let w : Model = pagewise q (λ p. size_to p (kept p)) m in
      let h : Sized m kept q w = sized m kept q (omega (arith, g.rows)) (enough-shrink m kept q (λ j. omega arith)) in
      gives w q (kept q) (old q - new q) (omega (arith, g.rows, h.rows)) (omega (arith, ap length (h.rest q (omega arith)), g.lengths q lq)))

  grows : need ys P ≤ m.plain.cells → pagewise P (λ p. times (new p - old p) (take_cell p)) (shrunk m ys) ≡ pagewise P (λ p. size_to p (new p)) (shrunk m ys)
  grows enough = along (λ p. times (new p - old p) (take_cell p)) (λ p. size_to p (new p)) (shrunk m ys) P (λ q lq.
      let w : Model = pagewise q (λ p. size_to p (new p)) (shrunk m ys) in
      let a = shrunk-sized m ys g in
      let e = grows-enough m ys g enough in
      let h : Sized (shrunk m ys) new q w = sized (shrunk m ys) new q (omega (arith, g.rows, a.rows)) (λ j lj. e j (omega arith)) in
      let own : length (chain_of w q) ≡ kept q = ap length (h.rest q (omega arith)) ∙ a.done q lq in
      let was = g.lengths q lq in
      takes w q (new q) (new q - old q) (omega (arith, g.rows, a.rows, h.rows)) (omega (arith, own, was))
      (omega (arith, own, was, room (shrunk m ys) new q w (e q lq) h)))

  pub cell-by-cell : need ys P ≤ m.plain.cells → settled_by_cells m (relisted m.plain ys) ≡ settled m (relisted m.plain ys)
  unfolding settled_by_cells settled
  cell-by-cell enough =
      ap (λ (z : Model). with_list (relisted m.plain ys) (pagewise P (λ p. times (new p - old p) (take_cell p)) z)) shrinks ∙ ap (with_list (relisted m.plain ys)) (grows enough)
