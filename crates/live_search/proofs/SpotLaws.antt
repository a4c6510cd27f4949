-- The walk over the page sums to a figure. Assumes nothing.
use mathlib.Core.Path.{◌≡◌, sym, ap, ◌∙◌}
use mathlib.Core.Bool.{true}
use mathlib.Core.List.{List}
use Prim.Native.Nat.{ℕ, ◌+◌, ◌-◌, ◌*◌, ◌≤◌, ◌<◌}
use native.Mathlib.Omega.{arith}
use native.Mathlib.Decide.{dec_le}
use Rattle.lists.specs.Lists.{reached, reading, sum}
use Rattle.bits.specs.Numbers.{number_at}
use Rattle.store.specs.Limits.{max_total}
use Rattle.store.specs.Plain.{page}
use Rattle.store.specs.Reading.{list_in, page_count_of}
use Rattle.store.specs.Sound.{sound}
use Rattle.store.proofs.SoundFacts.{facts, sum-read}
use Rattle.pages.proofs.Prefix.{before-all, before-fits, reading-next, reading-none}
use Rattle.live_search.specs.Code.Search.{Spots}
use Rattle.live_page.proofs.PageSums.{reached-page}
use Rattle.store.specs.Layout.{entry_at}

-- what holds before each turn: the pages before p do not reach the figure; all is page p's sum
pub record Going (xs : List ℕ) (P q p before all : ℕ) : Type 0 where
  pub inside : p < P
  pub before-is : before ≡ reading xs (64 * p)
  pub below : before < q
  pub all-is : all ≡ sum (page xs p)

module _ (s : List ℕ) (e : sound s ≡ true) where
  abbrev xs : List ℕ
  xs = list_in s

  abbrev P : ℕ
  P = page_count_of s

  sum-at : (p a r : ℕ) → p < P → a ≡ entry_at p → r ≡ number_at s a 4 → r ≡ sum (page xs p)
  sum-at p a r l ea er = sum-read s p a r ea er ∙ (facts s e).sums p l

  pub starts : (q a r : ℕ) → 1 ≤ q → a ≡ entry_at 0 → r ≡ number_at s a 4 → Going xs P q 0 0 r
  starts q a r l ea er =
      let n : 0 < P = omega (arith, (facts s e).pages-low) in
      record { inside = n; before-is = reading-none xs; below = l; all-is = sum-at 0 a r n ea er }

  module _ (q : ℕ) (fits : q ≤ sum xs) (p before all : ℕ) (g : Going xs P q p before all) where
    next : before + all ≡ reading xs (64 * (p + 1))
    next = omega (arith, reading-next xs p, g.before-is, g.all-is)

    pub small : before + all ≤ max_total
    small = omega (arith, next, before-fits s e (64 * (p + 1)))

    -- a figure that a page does not reach is reached in a later one
    pub more : before + all < q → p + 1 < P
    more l = go (dec_le P (p + 1))
      where
        go : Dec (P ≤ p + 1) → p + 1 < P
        go (yes h) =
            let i : p + 1 ≡ P = omega (arith, g.inside) in
            absurd (omega (arith, ap (λ (z : ℕ). reading xs (64 * z)) i, before-all s e, next))
        go (no h) = omega arith

    pub goes : (a r : ℕ) → before + all < q → a ≡ entry_at (p + 1) → r ≡ number_at s a 4 → Going xs P q (p + 1) (before + all) r
    goes a r l ea er = record { inside = more l; before-is = next; below = l; all-is = sum-at (p + 1) a r (more l) ea er }

    pub stops : q ≤ before + all → Spots xs P q p (q - before)
    stops l = record {
      inside = g.inside;
      before = omega (arith, g.before-is, g.below);
      some = omega (arith, g.below);
      enough = omega (arith, g.all-is);
    }

pub spot-reached : (xs : List ℕ) (P q p rest r : ℕ) → Spots xs P q p rest → r ≡ 64 * p + reached rest (page xs p) → r ≡ reached q xs
spot-reached xs P q p rest r w e = e ∙ sym (reached-page xs p rest w.some w.enough) ∙ ap (λ (z : ℕ). reached z xs) w.before
