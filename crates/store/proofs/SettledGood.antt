-- A store whose list changes as a whole stays good. Assumes nothing.
use mathlib.Core.Path.{◌≡◌, ap, ◌∙◌}
use mathlib.Core.List.{List}
use Prim.Native.Nat.{ℕ, ◌*◌, ◌≤◌, min}
use native.Mathlib.Omega.{arith}
use lib.ListN.{length}
use Rattle.lists.specs.Lists.{sum, tabulate}
use Rattle.lists.proofs.Tables.{tabulate-ext}
use Rattle.store.specs.Limits.{max_total}
use Rattle.store.specs.Plain.{need, relisted}
use Rattle.store.specs.Layout.{Model}
use Rattle.store.specs.OneCell.{chain_of}
use Rattle.store.specs.Sound.{Good, on_chains}
use Rattle.store.proofs.Keep.{spare-is}
use Rattle.store.specs.Settle.{pagewise, settled, shrunk, size_to, wanted}
use Rattle.store.proofs.Sized.{Enough, Sized, enough-grow, enough-shrink, long, sized}

module _ (m : Model) (ys : List ℕ) (g : Good m) where
  abbrev P : ℕ
  P = m.plain.pages

  abbrev kept : ℕ → ℕ
  kept p = min (length (chain_of m p)) (wanted ys p)

  -- the pages that shrink
  pub shrunk-sized : Sized m kept P (shrunk m ys)
  unfolding shrunk
  shrunk-sized = sized m kept P (omega (arith, g.rows)) (enough-shrink m kept P (λ q. omega arith))

  module _ (enough : need ys P ≤ m.plain.cells) where
    -- 'a page that grows always finds enough free cells'
    pub grows-enough : Enough (shrunk m ys) (wanted ys) P
    unfolding need
    grows-enough =
        let h = shrunk-sized in
        let old : sum (tabulate P (long m)) ≡ need m.plain.counts P = ap sum (tabulate-ext P (long m) (wanted m.plain.counts) g.lengths) in
        let now : sum (tabulate P (long (shrunk m ys))) ≡ sum (tabulate P kept) = ap sum (tabulate-ext P (long (shrunk m ys)) kept h.done) in
        enough-grow (shrunk m ys) (wanted ys) P (λ q lq. omega (arith, h.done q lq)) (omega (arith, h.left, old, now, spare-is m g))

    pub settled-sized : Sized (shrunk m ys) (wanted ys) P (pagewise P (λ p. size_to p (wanted ys p)) (shrunk m ys))
    settled-sized = sized (shrunk m ys) (wanted ys) P (omega (arith, g.rows, shrunk-sized.rows)) grows-enough

    pub settled-good : length ys ≤ 64 * P → sum ys ≤ max_total → Good (settled m (relisted m.plain ys))
    unfolding settled on_chains
    settled-good ly ls =
        let a = shrunk-sized in
        let b = settled-sized in
        record {
          limits = g.limits;
          hours = ly;
          total = ls;
          rows = b.rows ∙ a.rows ∙ g.rows;
          lengths = λ p lp. b.done p lp;
          once = λ c. b.once c ∙ a.once c ∙ g.once c;
          all = b.all ∙ a.all ∙ g.all;
        }
