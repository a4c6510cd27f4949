-- Document 02, note 5, in its own words, of the word that C gets. Assumes nothing.
use mathlib.Core.Bool.{true}
use mathlib.Core.List.{List, ◌∷◌, ◌++◌}
use mathlib.Core.Logic.{◌↔◌}
use mathlib.Core.Path.{◌≡◌, refl}
use Prim.Native.Nat.{ℕ, suc, ◌-◌, ◌*◌, ◌^◌, ◌≤◌, ◌<◌}
use native.Mathlib.Nat.{lt_of_not-le}
use native.Mathlib.Omega.{arith}
use lib.ListN.{length, take, drop}
use Rattle.lists.specs.Lists.{sum}
use Rattle.store.specs.Items.{Items}
use Rattle.store.specs.Plain.{Insert, Strike, need}
use Rattle.store.specs.Reading.{list_in, read}
use Rattle.hourlog_c.specs.Export.{Answers}
use Rattle.hourlog_c.specs.Public.{Live}
use Rattle.demands.specs.Reasons.{plain_reasons, reasons}
use Rattle.demands.proofs.Sentences1.{meets, minus-at, minus-exactly, not-below, result-word}
use Rattle.demands.proofs.Winning.{Place, absent, stands, without}

-- ---- insert: 'Refusals 10, 7, 11, 3 and 12 apply in that order, 12 exactly if the new list needs more than C'; each exactly then
module _ (s : List ℕ) (i v w : ℕ) (t : List (List ℕ)) (a : Answers (Live (Insert i v) s) w t) where
  abbrev N : ℕ
  N = length (list_in s)

  abbrev all : ℕ
  all = 64 * (read s).plain.pages

  abbrev ys : List ℕ
  ys = take i (list_in s) ++ (v ∷ drop i (list_in s))

  abbrev its-need : ℕ
  its-need = need ys (read s).plain.pages

  at : (k n : ℕ) → 1 ≤ k → k ≤ 20 → (k ≡ 6 → ⊥) → stands k n (reasons (Live (Insert i v) s)) ≡ true
      → (w ≡ 2 ^ 64 - k) ↔ Place n (reasons (Live (Insert i v) s))
  at k n g h m e = minus-at (Live (Insert i v) s) w t k n g h (λ x. m x.3) e a

  pub refused-7 : (w ≡ 2 ^ 64 - 7) ↔ (Items s × (N < i))
  unfolding reasons plain_reasons without stands
  refused-7 =
      let m = at 7 1 (omega arith) (omega arith) (λ q. omega (arith, q)) refl in
      (λ q. let x = m.0 q in (meets (Insert i v) s w t a x.0, x.1), λ x. m.1 (λ n. n x.0, x.1))

  pub refused-11 : (w ≡ 2 ^ 64 - 11) ↔ (Items s × (i ≤ N) × (all ≤ N))
  unfolding reasons plain_reasons without stands
  refused-11 =
      let m = at 11 2 (omega arith) (omega arith) (λ q. omega (arith, q)) refl in (
        λ q. let x = m.0 q in (meets (Insert i v) s w t a x.0, not-below N i x.1.0, x.1.1),
        λ x. m.1 (λ n. n x.0, (λ (l : N < i). omega (arith, x.1), x.2)),
      )

  pub refused-3 : (w ≡ 2 ^ 64 - 3) ↔ (Items s × (i ≤ N) × (N < all) × (4294967295 < sum ys))
  unfolding reasons plain_reasons without stands
  refused-3 =
      let m = at 3 3 (omega arith) (omega arith) (λ q. omega (arith, q)) refl in (
        λ q. let x = m.0 q in
            (meets (Insert i v) s w t a x.0, not-below N i x.1.0, lt_of_not-le x.1.1.0, x.1.1.1),
        λ x. m.1 (λ n. n x.0, (λ (l : N < i). omega (arith, x.1), (λ (l : all ≤ N). omega (arith, x.2), x.3))),
      )

  pub refused-12 : (w ≡ 2 ^ 64 - 12) ↔ (Items s × (i ≤ N) × (N < all) × (sum ys ≤ 4294967295) × ((read s).plain.cells < its-need))
  unfolding reasons plain_reasons without stands
  refused-12 =
      let m = at 12 4 (omega arith) (omega arith) (λ q. omega (arith, q)) refl in (
        λ q. let x = m.0 q in (
          meets (Insert i v) s w t a x.0,
          not-below N i x.1.0,
          lt_of_not-le x.1.1.0,
          not-below 4294967295 (sum ys) x.1.1.1.0,
          x.1.1.1.1,
        ),
        λ x. m.1 (
          λ n. n x.0,
          (λ (l : N < i). omega (arith, x.1), (λ (l : all ≤ N). omega (arith, x.2), (λ (l : 4294967295 < sum ys). omega (arith, x.3), x.4))),
        ),
      )

  -- and any other is accepted
  pub inserts : Items s → i ≤ N → N < all → sum ys ≤ 4294967295 → its-need ≤ (read s).plain.cells → w < 2 ^ 63
  unfolding reasons plain_reasons
  inserts m p q r h =
      result-word (Live (Insert i v) s) w t a (
        λ n. n m,
        (
          λ (l : N < i). omega arith,
          (λ (l : all ≤ N). omega arith, (λ (l : 4294967295 < sum ys). omega arith, (λ (l : (read s).plain.cells < its-need). omega arith, tt))),
        ),
      )

-- ---- strike
module _ (s : List ℕ) (i w : ℕ) (t : List (List ℕ)) (a : Answers (Live (Strike i) s) w t) where
  abbrev zs : List ℕ
  zs = take i (list_in s) ++ drop (suc i) (list_in s)

  pub strike-7 : (w ≡ 2 ^ 64 - 7) ↔ (Items s × (length (list_in s) ≤ i))
  unfolding reasons plain_reasons without stands
  strike-7 =
      let m = minus-at (Live (Strike i) s) w t 7 1 (omega arith) (omega arith) (λ x. omega (arith, x.3)) refl a in
      (λ q. let x = m.0 q in (meets (Strike i) s w t a x.0, x.1), λ x. m.1 (λ n. n x.0, x.1))

  pub strike-12 : (w ≡ 2 ^ 64 - 12) ↔ (Items s × (i < length (list_in s)) × ((read s).plain.cells < need zs (read s).plain.pages))
  unfolding reasons plain_reasons without stands
  strike-12 =
      let m = minus-at (Live (Strike i) s) w t 12 2 (omega arith) (omega arith) (λ x. omega (arith, x.3)) refl a in (
        λ q. let x = m.0 q in (meets (Strike i) s w t a x.0, lt_of_not-le x.1.0, x.1.1),
        λ x. m.1 (λ n. n x.0, (λ (l : length (list_in s) ≤ i). omega (arith, x.1), x.2)),
      )

  -- 'strike never meets 11 or 3'
  pub strike-never : (w ≡ 2 ^ 64 - 11 → ⊥) × (w ≡ 2 ^ 64 - 3 → ⊥)
  unfolding reasons plain_reasons without
  strike-never = (
    λ q. absent 11 (reasons (Live (Strike i) s)) refl
        ((minus-exactly (Live (Strike i) s) w t 11 (omega arith) (omega arith) (λ x. omega (arith, x.3)) a).0 q),
    λ q. absent 3 (reasons (Live (Strike i) s)) refl
        ((minus-exactly (Live (Strike i) s) w t 3 (omega arith) (omega arith) (λ x. omega (arith, x.3)) a).0 q),
  )

  pub strikes : Items s → i < length (list_in s) → need zs (read s).plain.pages ≤ (read s).plain.cells → w < 2 ^ 63
  unfolding reasons plain_reasons
  strikes m l h =
      result-word (Live (Strike i) s) w t a (
        λ n. n m,
        (λ (k : length (list_in s) ≤ i). omega arith, (λ (k : (read s).plain.cells < need zs (read s).plain.pages). omega arith, tt)),
      )
