-- The plan's loops, in the numbers that the code has. Assumes nothing.
use mathlib.Core.Path.{◌≡◌, ap, ◌∙◌}
use mathlib.Core.List.{List}
use Prim.Native.Nat.{ℕ, zero, suc, ◌+◌, ◌-◌, ◌*◌, ◌≤◌, ◌<◌}
use native.Mathlib.Omega.{arith}
use native.Mathlib.Decide.{ℕ_discrete}
use lib.ListN.{length, get_or, set}
use lib.Seq.{get_or-set_other, get_or-set_same}
use Rattle.lists.specs.Lists.{sum}
use Rattle.lists.proofs.Sums.{sum-most, sum-next}
use Rattle.lists.proofs.Tables.{tabulate-ext}
use Rattle.bits.specs.Numbers.{number_at}
use Rattle.store.specs.Limits.{max_pages, max_total}
use Rattle.store.specs.Layout.{entry_at}
use Rattle.store.specs.PageCode.{cells}
use Rattle.store.specs.Plain.{need, page}
use Rattle.store.specs.Reading.{list_in, page_count_of}
use Rattle.store.specs.Settle.{wanted}
use Rattle.store.proofs.Holds.{page-length}
use Rattle.store.proofs.HourLaws.{get_d_le}
use Rattle.store.proofs.PageCodeLaws.{cells-most}
use Rattle.store.proofs.ReadBack.{page-le}
use Rattle.store.proofs.SoundFacts.{Facts, facts, sum-read}
use Rattle.move_counts.specs.Code.Turned.{leaving_index}
use Rattle.move_counts.proofs.Turning.{turned-sum}
use Rattle.move_plan.specs.declared.shift.Shift.{Shift}
use Rattle.move_plan.specs.Code.Plan.{Counted, Leaves, Needs, Shiftable, comes_to, leaves_page, near, shifted}
use Rattle.move_plan.proofs.Shifting.{near-low}

-- one page more
step-at : (f : ℕ → ℕ) (l : List ℕ) (a p v : ℕ) → p < length l → ((q : ℕ) → a ≤ q → q < p → get_or l q 0 ≡ f q) → v ≡ f p
    → (q : ℕ) → a ≤ q → q < p + 1 → get_or (set l p v) q 0 ≡ f q
step-at f l a p v lp h e q la lq = go (ℕ_discrete q p)
  where
    go : Dec (q ≡ p) → get_or (set l p v) q 0 ≡ f q
    go (yes r) = rw r (get_or-set_same l p v 0 lp ∙ e)
    go (no r) = get_or-set_other l p q v 0 r ∙ h q la (omega (arith, r))

pub leaves-next : (m : Shift) (xs l : List ℕ) (p v : ℕ) → p < length l → Leaves m xs l p → v ≡ leaves_page m xs p → Leaves m xs (set l p v) (p + 1)
leaves-next m xs l p v = step-at (leaves_page m xs) l m.first p v

pub leaves-is : (m : Shift) (xs : List ℕ) (p : ℕ) {v : ℕ} → v ≡ get_or (page xs p) (leaving_index m.edit (near m p)) 0 → v ≡ leaves_page m xs p
unfolding leaves_page
leaves-is m xs p e = e

pub counted_next : (m : Shift) (xs l : List ℕ) (p v : ℕ) → p < length l → Counted m xs l p → v ≡ wanted xs p → Counted m xs (set l p v) (p + 1)
counted_next m xs l p v = step-at (wanted xs) l m.first p v

-- ---- a page of the store
module _ {s : List ℕ} {m : Shift} (h : Shiftable s m) where
  abbrev xs : List ℕ
  xs = list_in s

  abbrev ys : List ℕ
  ys = shifted m xs

  f : Facts s
  f = facts s h.is-sound

  pub pages-few : m.end ≤ max_pages
  pages-few = omega (arith, h.inside, f.pages-high)

  pub entry_in : (p : ℕ) → p < m.end → entry_at p + 6 ≤ length s
  entry_in p l = omega (arith, f.long, h.inside)

  module _ {p e r : ℕ} (lp : p < m.end) (ee : e ≡ entry_at p) (er : r ≡ number_at s e 4) where
    sum-page : r ≡ sum (page xs p)
    sum-page = sum-read s p _ _ ee er ∙ f.sums p (omega (arith, h.inside))

    -- a count leaves, a count comes in
    module _ (lo : m.first ≤ p) (leaving : List ℕ) (hl : Leaves m xs leaving m.end) {c : ℕ} (ec : c ≡ comes_to m leaving p) where
      out : get_or leaving p 0 ≡ get_or (page xs p) (leaving_index m.edit (near m p)) 0
      unfolding leaves_page
      out = hl p lo lp

      pub out-low : get_or leaving p 0 ≤ r
      out-low = omega (arith, out, sum-page, get_d_le (page xs p) (leaving_index m.edit (near m p)))

      pub sum-after : r - get_or leaving p 0 + c ≡ sum (page ys p)
      sum-after =
          omega (
            arith,
            out,
            out-low,
            sum-page,
            ec,
            ap sum (h.moves p lo lp leaving hl),
            turned-sum m.edit (page xs p) (near m p) (comes_to m leaving p) (page-length xs p) (near-low m p h.within),
          )

      pub after-fits : r - get_or leaving p 0 + c ≤ max_total
      after-fits = omega (arith, sum-after, page-le ys p, h.total)

      pub cells-asked : {k : ℕ} → k ≡ cells (r - get_or leaving p 0 + c) → k ≡ wanted ys p
      cells-asked ek = ek ∙ ap cells sum-after

  -- ---- the need, page by page: at most eight cells each
  pub had-few : (p : ℕ) → wanted xs p ≤ 8
  had-few p = cells-most (sum (page xs p)) (omega (arith, page-le xs p, f.total-fits))

  pub asked-few : (p : ℕ) → wanted ys p ≤ 8
  asked-few p = cells-most (sum (page ys p)) (omega (arith, page-le ys p, h.total))

  pub need-most : (p : ℕ) → need xs p ≤ 8 * p
  unfolding need
  need-most p = sum-most 8 p (wanted xs) had-few

  need-next : (zs : List ℕ) (p : ℕ) → need zs (p + 1) ≡ need zs p + wanted zs p
  unfolding need
  need-next zs p = sum-next (wanted zs) p

  pub needs-begin : need ys m.first + 0 ≡ need xs m.first + 0
  unfolding need
  needs-begin = ap (λ (z : List ℕ). sum z + 0)
      (tabulate-ext m.first (wanted ys) (wanted xs) (λ q l. ap (λ (z : List ℕ). cells (sum z)) (h.below q l)))

  pub needs-more : (p had asked : ℕ) → need ys p + had ≡ need xs p + asked → {o k : ℕ} → o ≡ wanted xs p → k ≡ wanted ys p
      → need ys (p + 1) + (had + o) ≡ need xs (p + 1) + (asked + k)
  needs-more p had asked e eo ek = omega (arith, need-next ys p, need-next xs p, e, eo, ek)

  pub had-more : (p had : ℕ) → had ≤ need xs p → {o : ℕ} → o ≡ wanted xs p → had + o ≤ need xs (p + 1)
  had-more p had l eo = omega (arith, need-next xs p, eo)

  need-tail : (n k : ℕ) → m.end ≤ n → need ys (n + k) + need xs n ≡ need xs (n + k) + need ys n
  need-tail n zero l = let e : n + 0 ≡ n = omega arith in rw e (omega arith)
  need-tail n (suc k) l =
      let e : n + suc k ≡ n + k + 1 = omega arith in
      rw e
      (omega (
        arith,
        need-next ys (n + k),
        need-next xs (n + k),
        need-tail n k l,
        ap (λ (z : List ℕ). cells (sum z)) (h.above (n + k) (omega arith)),
      ))

  need-up : (zs : List ℕ) (n k : ℕ) → need zs n ≤ need zs (n + k)
  need-up zs n zero = let e : n + 0 ≡ n = omega arith in rw e (omega arith)
  need-up zs n (suc k) = let e : n + suc k ≡ n + k + 1 = omega arith in rw e (omega (arith, need-next zs (n + k), need-up zs n k))

  pub needs-end : (p had asked : ℕ) → p ≡ m.end → need ys p + had ≡ need xs p + asked → had ≤ need xs p → asked ≤ 8 * p → Needs s m had asked
  needs-end p had asked e n l a =
      let k : ℕ = page_count_of s - m.end in
      let w : m.end + k ≡ page_count_of s = omega (arith, h.inside) in
      let t = rw w at (need-tail m.end k (omega arith)) in
      let u = rw w at (need-up xs m.end k) in
      let n₂ = rw e at n in
      let l₂ = rw e at l in
      record { moved = omega (arith, t, n₂); had-low = omega (arith, u, l₂); asked_low = omega (arith, e, pages-few) }
