-- Blocks of the sums, and plans of them. Assumes nothing.
use mathlib.Core.Bool.{true, true≢false}
use mathlib.Core.List.{List}
use mathlib.Core.Path.{◌≡◌, refl, sym, ap, ◌∙◌}
use Prim.Native.Nat.{ℕ, ◌+◌, ◌-◌, ◌*◌, ◌^◌, ◌≤◌, ◌<◌}
use native.Mathlib.Decide.{dec_le}
use native.Mathlib.Omega.{arith}
use lib.ListN.{length, get_or, get_or-eq_default}
use lib.Seq.{ext_get_or}
use lib.Pow.{pow_mono}
use Rattle.std.specs.Prelude.{Result, Ok, Err}
use Rattle.answers.specs.declared.refusal.Refusal.{Refusal}
use Rattle.lists.specs.Counts.{max_count, within}
use Rattle.lists.proofs.CountLaws.{not_within, within-each}
use Rattle.lists.specs.Lists.{sum, window}
use Rattle.lists.proofs.Sums.{sum-most}
use Rattle.image_plan.specs.Code.Planning.{PageSum}
use Rattle.lists.proofs.Blocks.{window-get, window-long}
use Rattle.image.proofs.Blocks.{In, counts-in}
use Rattle.image_merge.specs.Code.{Added, Summed}
use Rattle.image_merge.specs.Merge.{sums}
use Rattle.image_merge.proofs.SumLaws.{get-sums}

-- ---- counts added: the first i are
pub record Adding (cs ds rs : List ℕ) (i : ℕ) : Type 0 where
  pub few : i ≤ 256
  pub long : length rs ≡ 256
  pub those : (j : ℕ) → j < i → (get_or rs j 0 ≡ get_or cs j 0 + get_or ds j 0) × (get_or rs j 0 ≤ max_count)
  pub rest : (j : ℕ) → i ≤ j → get_or rs j 0 ≡ get_or cs j 0

-- ---- a block of the sums
module _ (xs ys cs ds rs : List ℕ) (k : ℕ) (long : length rs ≡ 256) (ec : cs ≡ window xs (256 * k) 256) (ed : ds ≡ window ys (256 * k) 256) where
  sum-at : (i : ℕ) → i < 256 → get_or cs i 0 + get_or ds i 0 ≡ get_or (sums xs ys) (256 * k + i) 0
  sum-at i l =
      let u : get_or cs i 0 ≡ get_or xs (256 * k + i) 0 = ap (λ (z : List ℕ). get_or z i 0) ec ∙ window-get xs (256 * k) 256 i l in
      let v : get_or ds i 0 ≡ get_or ys (256 * k + i) 0 = ap (λ (z : List ℕ). get_or z i 0) ed ∙ window-get ys (256 * k) 256 i l in
      omega (arith, get-sums xs ys (256 * k + i))

  all : Added cs ds rs (Ok tt) → rs ≡ window (sums xs ys) (256 * k) 256
  all a =
      ext_get_or 0 rs (window (sums xs ys) (256 * k) 256) (long ∙ sym (window-long (sums xs ys) (256 * k) 256))
      (λ i l.
      let h : i < 256 = omega (arith, long) in
      (a i h).0 ∙ sum-at i h ∙ sym (window-get (sums xs ys) (256 * k) 256 i h))

  small : Added cs ds rs (Ok tt) → (i : ℕ) → get_or rs i 0 ≤ max_count
  small a i = go (dec_le 256 i)
    where
      go : Dec (256 ≤ i) → get_or rs i 0 ≤ max_count
      go (yes l) = omega (arith, get_or-eq_default rs 0 {n = i} (omega (arith, long)))
      go (no l) = (a i (omega arith)).1

  pub summed : (r : Result (Unit {0}) Refusal) → Added cs ds rs r → Summed (sums xs ys) rs k r
  summed (Ok u) a = (all a, small a)
  summed (Err j) a = let n = a.1 in (a.0, not_within max_count (sums xs ys) (256 * k + n.0) (omega (arith, n.2, sum-at n.0 n.1)))

-- ---- the sum of a page in a block
pub block-sum : (e m k q : ℕ) (zs cs : List ℕ) (s : ℕ) → e ≤ 8 → m ≡ 2 ^ e → In m k q → cs ≡ window zs (256 * k) 256 → ((i : ℕ) → get_or cs i 0 ≤ max_count)
    → s ≡ sum (window cs (m * q - 256 * k) m) → PageSum e zs q s
unfolding window
block-sum e m k q zs cs s h em i ec f q' =
    let few : m ≤ 256 = rw em (pow_mono {i = e} {j = 8} h) in
    let most : sum (window cs (m * q - 256 * k) m) ≤ 4294967295 * m = sum-most 4294967295 m (λ j. get_or cs (m * q - 256 * k + j) 0) (λ j. f (m * q - 256 * k + j)) in
    record {
      page-is = q' ∙ ap (λ (y : ℕ). sum (window cs (m * q - 256 * k) y)) em ∙ ap sum (counts-in e m k q zs cs em i ec);
      small = omega arith;
    }

-- ---- all counts of the blocks so far
pub grown : (zs cs : List ℕ) (k : ℕ) → ((i : ℕ) → i < 256 * k → get_or zs i 0 ≤ max_count) → cs ≡ window zs (256 * k) 256 → ((i : ℕ) → get_or cs i 0 ≤ max_count)
    → (i : ℕ) → i < 256 * (k + 1) → get_or zs i 0 ≤ max_count
grown zs cs k f e g i l = go (dec_le (256 * k) i)
  where
    go : Dec (256 * k ≤ i) → get_or zs i 0 ≤ max_count
    go (no q) = f i (omega arith)
    go (yes q) =
        let j : ℕ = i - 256 * k in
        let w : 256 * k + j ≡ i = omega arith in
        let v : get_or cs j 0 ≡ get_or zs (256 * k + j) 0 = ap (λ (z : List ℕ). get_or z j 0) e ∙ window-get zs (256 * k) 256 j (omega arith) in
        omega (arith, v, g j, ap (λ (z : ℕ). get_or zs z 0) w)

pub all-within : (zs : List ℕ) (k : ℕ) → length zs ≤ 256 * k → ((i : ℕ) → i < 256 * k → get_or zs i 0 ≤ max_count) → within max_count zs ≡ true
all-within zs k l f = within-each max_count zs each
  where
    each : (i : ℕ) → get_or zs i 0 ≤ max_count
    each i = go (dec_le (256 * k) i)
      where
        go : Dec (256 * k ≤ i) → get_or zs i 0 ≤ max_count
        go (no q) = f i (omega arith)
        go (yes q) = omega (arith, get_or-eq_default zs 0 {n = i} (omega arith))

-- where all are counts, those of a block are
pub all-counts : (zs rs : List ℕ) (k : ℕ) (r : Result (Unit {0}) Refusal) → Summed zs rs k r → within max_count zs ≡ true → r ≡ Ok tt
all-counts zs rs k (Ok u) s w = refl
all-counts zs rs k (Err j) s w = absurd (true≢false (sym w ∙ s.1))
