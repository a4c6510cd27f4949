-- Page p of a store whose cells start at base; it has sum t and k cells. Assumes nothing.
use mathlib.Core.Path.{◌≡◌, refl, sym, ap, ap₂, ◌∙◌}
use mathlib.Core.List.{List, [], ◌++◌}
use Prim.Native.Nat.{ℕ, ◌+◌, ◌-◌, ◌*◌, ◌≤◌, ◌<◌}
use native.Mathlib.Omega.{arith}
use lib.ListN.{length, get_or, replicate}
use Rattle.lists.specs.Lists.{fill, splice, sum}
use Rattle.lists.proofs.Zeros.{splice-zeros}
use Rattle.store.specs.PageCode.{cells, page_bytes}
use Rattle.store.specs.Plain.{page}
use Rattle.store.specs.Layout.{Model, cells_start, entry_at}
use Rattle.store.specs.Reading.{chain_in, code_in, page_count_of, read, sum_in}
use Rattle.store.specs.Code.Chained.{Chained}
use Rattle.store.specs.Code.Links.{Steps}
use Rattle.store.specs.Code.Hours.{OfPage}
use Rattle.store.proofs.Joining.{chain_left, walk_steps}
use Rattle.store.proofs.PageChange.{page-and-spare}
use Rattle.store.proofs.PageCodeLaws.{cells-most, length-page}
use Rattle.store.proofs.ReadBack.{code-in}
use Rattle.store.proofs.Spread.{spread-of}
use Rattle.store.proofs.SoundFacts.{ChainFacts, chain-facts}
use Rattle.pages.specs.Gathered.{Gathered, code_from}

module _ {s : List ℕ} {base p t k : ℕ} (o : OfPage s base p t k) where
  abbrev m : Model
  m = read s

  abbrev x : List ℕ
  x = page m.plain.counts p

  f : ChainFacts s
  f = chain-facts s o.holds

  abbrev g : Chained m
  g = f.chained

  base_same : base ≡ cells_start m.plain.pages
  base_same = o.base-is ∙ ap cells_start f.pages-are

  inside : p < m.plain.pages
  inside = omega (arith, f.pages-are, o.inside)

  pub sum_same : t ≡ sum x
  sum_same = o.sum_is ∙ f.sums p o.inside

  pub sum-small : t < 4294967296
  sum-small = omega (arith, o.sum_is, f.sum_fits p o.inside)

  pub few : k ≤ 8
  few = omega (arith, o.cells_is, cells-most t (omega (arith, sum-small)))

  pub pages-few : page_count_of s ≤ 1024
  pages-few = omega (arith, f.pages-are, g.limits.pages-high)

  pub base-low : base < 65536
  base-low = omega (arith, o.base-is, pages-few)

  -- its chain can be walked
  pub page-steps : (a : ℕ) → a ≡ entry_at p → Steps s base (a + 4) k
  page-steps a q =
      let cs : List ℕ = get_or m.chains p [] in
      let n : length cs ≡ k = g.lengths p inside ∙ ap cells (sym sum_same) ∙ sym o.cells_is in
      let size = f.holds.size in
      rw (q, base_same, ← n)
      (walk_steps s (cells_start m.plain.pages) m.plain.cells (entry_at p + 4) cs 0 g.limits.cells-high (omega arith) (omega (arith, inside))
      (chain_left cs m.spare (page-and-spare m g p inside)) ((spread-of s m g.rows f.holds).links p inside))

  -- and holds the code of its counts
  code_same : code_in s base (chain_in s (page_count_of s) p) ≡ page_bytes x
  code_same = rw (base_same, f.pages-are) (code-in s m g f.holds p inside)

  chain_same : (a : ℕ) → a ≡ entry_at p → code_from s base (a + 4) k ≡ code_in s base (chain_in s (page_count_of s) p)
  unfolding chain_in
  chain_same a q = rw o.base-is (ap₂ (λ (i j : ℕ). code_from s (cells_start (page_count_of s)) (i + 4) j) q (o.cells_is ∙ ap cells o.sum_is))

  pub gathered : (a : ℕ) (r : List ℕ) → a ≡ entry_at p → r ≡ splice (replicate 240 0) 0 (code_from s base (a + 4) k) → Gathered s p r
  unfolding fill
  gathered a r q h =
      let z : List ℕ = replicate (240 - 30 * cells (sum_in s p)) 0 in
      let n : length (page_bytes x) ≡ 30 * cells (sum_in s p) = length-page x ∙ ap (λ (i : ℕ). 30 * cells i) (sym sum_same ∙ o.sum_is) in
      let b : r ≡ page_bytes x ++ z =
      h ∙ ap (splice (replicate 240 0) 0) (chain_same a q ∙ code_same)
      ∙ splice-zeros 240 (page_bytes x)
      ∙ ap (λ (i : ℕ). page_bytes x ++ replicate (240 - i) 0) n in
      record {
        cells_are = b ∙ ap (λ (y : List ℕ). y ++ z) (sym code_same ∙ ap (λ (i : ℕ). code_in s i (chain_in s (page_count_of s) p)) o.base-is);
        code_is = b;
      }

  -- the same with the sum that the entry says
  pub as_said : OfPage s base p (sum_in s p) k
  as_said = record {
    holds = o.holds;
    base-is = o.base-is;
    inside = o.inside;
    sum_is = refl;
    cells_is = o.cells_is ∙ ap cells o.sum_is;
  }

-- an entry of a store s, and a page p, that are known by other names
pub of_store : {s s' : List ℕ} {base p p' t k : ℕ} → OfPage s' base p' t k → (s' ≡ s) × (p' ≡ p) → OfPage s base p t k
of_store {s} {s'} {base} {p} {p'} {t} {k} o e = rw (← e.0, ← e.1) o
