-- The loops of the crates above, which plan an image page by page: what they hand to each step. Assumes nothing.
use mathlib.Core.Path.{◌≡◌, ap, ◌∙◌}
use mathlib.Core.List.{List}
use Prim.Native.Nat.{ℕ, ◌*◌, ◌^◌, ◌≤◌, ◌<◌}
use native.Mathlib.Omega.{arith}
use lib.ListN.{length}
use lib.Pow.{pow_mono}
use Rattle.lists.specs.Lists.{sum, window}
use Rattle.image.specs.Image.{page, pages}
use Rattle.image.proofs.PageLaws.{pages-tight}
use Rattle.image_plan.specs.Code.Planning.{Awaits, Drafted, PageSum}
use Rattle.image_plan.specs.declared.Plan.{Plan}

-- where page p starts, m being the page size
pub page-from : (e : ℕ) (xs : List ℕ) (p m : ℕ) → e ≤ 8 → length xs ≤ 65536 → p < pages e (length xs) → m ≡ 2 ^ e
    → (m * p < 65536) × (m ≤ 256)
page-from e xs p m h n l em = rw em (omega (arith, pages-tight e (length xs) p l), pow_mono {i = e} {j = 8} h)

-- the sum of a page of counts of 32 bits
pub page-sum : (e : ℕ) (xs : List ℕ) (p m s : ℕ) → e ≤ 8 → m ≡ 2 ^ e → s ≡ sum (window xs (m * p) m) → s ≤ 4294967295 * m → PageSum e xs p s
unfolding page
page-sum e xs p m s h em q b = record {
  page-is = q ∙ ap (λ (z : ℕ). sum (window xs (z * p) z)) em;
  small = omega (arith, em, pow_mono {i = e} {j = 8} h);
}

-- the next page
abbrev pub awaited : {e : ℕ} {xs : List ℕ} {r : Plan} (m p s : ℕ) → Drafted e xs r → r.done ≡ p → p < r.pages → m ≡ 2 ^ e
    → s ≡ sum (window xs (m * p) m) → s ≤ 4294967295 * m → Awaits r s
awaited {e} {xs} {r} m p s d i l em q b =
    record { e = e; xs = xs; drafted = d; more = omega arith; sum_is = rw i (page-sum e xs p m s d.e-high em q b) }
