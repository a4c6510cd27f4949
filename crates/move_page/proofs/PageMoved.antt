-- A page moved, in the numbers that the code has. Assumes nothing.
use mathlib.Core.Path.{◌≡◌, sym, ap, ap₂, ◌∙◌}
use mathlib.Core.List.{List, [], ◌++◌}
use Prim.Native.Nat.{ℕ, ◌+◌, ◌-◌, ◌*◌, ◌≤◌, ◌<◌}
use native.Mathlib.Omega.{arith}
use lib.ListN.{length, get_or, replicate}
use Rattle.lists.specs.Lists.{sum}
use Rattle.bits.specs.Numbers.{number_at}
use Rattle.store.specs.PageCode.{cells, page_bytes}
use Rattle.store.specs.Plain.{page}
use Rattle.store.specs.Layout.{Model, bytes_of, cells_start, entry_at, resize}
use Rattle.store.specs.Limits.{max_total}
use Rattle.store.specs.Reading.{list_in, page_count_of, read}
use Rattle.store.specs.Code.Chained.{Chained}
use Rattle.store.specs.Code.Hours.{OfPage}
use Rattle.store.specs.Code.Links.{Rewritable, rewritten}
use Rattle.store.specs.Code.Moving.{repaged}
use Rattle.store.proofs.Chained.{OffPage}
use Rattle.store.proofs.Holds.{page-length}
use Rattle.store.proofs.HourLaws.{get_d_le}
use Rattle.store.proofs.PageChange.{page-bytes, page-rewritable}
use Rattle.store.proofs.Repaged.{repaged-length, repaged-off, repaged-own}
use Rattle.store.proofs.SoundFacts.{ChainFacts, chain-facts, sum-read}
use Rattle.store.proofs.Spread.{Spread, spread-of}
use Rattle.move_counts.specs.Code.Turned.{leaving_index}
use Rattle.move_counts.proofs.Turning.{turned-length, turned-sum}
use Rattle.move_page.specs.declared.PageMove.{PageMove}
use Rattle.move_page.specs.Code.Move.{Movable, Moved, counts_after}

-- the page that is read
pub of-page : {s : List ℕ} {base e before : ℕ} {c : PageMove} {hours : ℕ} → Movable s base c hours → e ≡ entry_at c.page → before ≡ number_at s e 4
    → OfPage s base c.page before c.old
of-page {s} {c = c} q ee eb =
    let b = sum-read s c.page _ _ ee eb in
    record { holds = q.holds; base-is = q.base-is; inside = q.inside; sum_is = b; cells_is = q.old-is ∙ ap cells (sym b) }

module _ {s : List ℕ} {base : ℕ} {c : PageMove} {hours : ℕ} (q : Movable s base c hours) where
  abbrev m : Model
  m = read s

  abbrev p : ℕ
  p = c.page

  abbrev P : ℕ
  P = m.plain.pages

  abbrev x : List ℕ
  x = page (list_in s) p

  abbrev zs : List ℕ
  zs = repaged P (list_in s) p (counts_after s c)

  f : ChainFacts s
  f = chain-facts s q.holds

  abbrev g : Chained m
  g = f.chained

  lp : p < P
  lp = omega (arith, q.inside, f.pages-are)

  own : page zs p ≡ counts_after s c
  own = repaged-own P (list_in s) p (counts_after s c) lp (turned-length c.edit x c.at c.count (page-length (list_in s) p) q.within)

  off : OffPage (list_in s) zs p
  off = repaged-off P (list_in s) p (counts_after s c) g.hours

  long : length zs ≡ 64 * P
  long = repaged-length P (list_in s) p (counts_after s c)

  fits : sum (page zs p) ≤ max_total
  fits = rw own q.fits

  old-long : c.old ≡ length (get_or m.chains p [])
  old-long = q.old-is ∙ ap cells (f.sums p q.inside) ∙ sym (g.lengths p lp)

  room : cells (sum (page zs p)) ≤ length (get_or m.chains p []) + length m.spare
  room = rw own (omega (arith, q.new_is, q.enough, f.free-is, old-long))

  sp : Spread s m
  sp = spread-of s m g.rows f.holds

  pub pages-low : page_count_of s ≤ 1024
  pages-low = omega (arith, f.pages-are, g.limits.pages-high)

  pub size_is : entry_at p + 6 ≤ length s
  size_is = omega (arith, f.long, q.inside)

  -- what the code has read and worked out
  module _ {e before : ℕ} (ee : e ≡ entry_at p) (eb : before ≡ number_at s e 4) {counts : List ℕ} (ec : counts ≡ x) {leaves : ℕ}
      (el : leaves ≡ leaving_index c.edit c.at) where
    before-is : before ≡ sum x
    before-is = sum-read s p _ _ ee eb ∙ f.sums p q.inside

    out-is : get_or counts leaves 0 ≡ get_or x (leaving_index c.edit c.at) 0
    out-is = ap₂ (λ (u : List ℕ) (z : ℕ). get_or u z 0) ec el

    pub out-low : get_or counts leaves 0 ≤ before
    out-low = omega (arith, out-is, before-is, get_d_le x (leaving_index c.edit c.at))

    pub sum-now : before - get_or counts leaves 0 + c.count ≡ sum (counts_after s c)
    sum-now =
        omega (
          arith,
          out-is,
          before-is,
          out-low,
          turned-sum c.edit x c.at c.count (page-length (list_in s) p) q.within,
        )

    module _ {turned : List ℕ} (et : turned ≡ counts_after s c) {code : List ℕ} {sum' : ℕ} (es : sum' ≡ before - get_or counts leaves 0 + c.count)
        (ek : code ≡ page_bytes turned ++ replicate (240 - 30 * cells sum') 0) where
      sum-own : sum' ≡ sum (page zs p)
      sum-own = es ∙ sum-now ∙ sym (ap sum own)

      code-as : code ≡ page_bytes (page zs p) ++ replicate (240 - 30 * cells (sum (page zs p))) 0
      code-as = ek ∙ ap₂ (λ (u : List ℕ) (z : ℕ). page_bytes u ++ replicate (240 - 30 * cells z) 0) (et ∙ sym own) sum-own

      new-as : c.new ≡ cells (sum (page zs p))
      new-as = q.new_is ∙ ap cells (sym (ap sum own))

      base-as : base ≡ cells_start P
      base-as = q.base-is ∙ ap cells_start f.pages-are

      hours-as : hours ≡ length zs
      hours-as = q.hours-are ∙ ap (λ (z : ℕ). 64 * z) f.pages-are ∙ sym long

      pub can-rewrite : Rewritable s base p c.old c.new code sum' hours
      can-rewrite = rw (base-as, code-as, hours-as, old-long, new-as, sum-own) (page-rewritable m g s sp zs p off lp (omega (arith, long)) fits room)

      same : rewritten s base p c.old c.new code sum' hours
          ≡ rewritten s (cells_start P) p (length (get_or m.chains p [])) (cells (sum (page zs p)))
          (page_bytes (page zs p) ++ replicate (240 - 30 * cells (sum (page zs p))) 0) (sum (page zs p)) (length zs)
      same = rw (base-as, code-as, hours-as, old-long, new-as, sum-own)

      pub moved-now : {t : List ℕ} → t ≡ rewritten s base p c.old c.new code sum' hours → Moved s c t
      moved-now e =
          e ∙ same ∙ page-bytes m g s sp zs p off lp (omega (arith, long)) fits room ∙ ap (λ (z : List ℕ). bytes_of (resize m zs p (cells (sum z)))) own
