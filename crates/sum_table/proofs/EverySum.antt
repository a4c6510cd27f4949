-- Every entry of the table, by tests that antt computes. Assumes nothing.
use mathlib.Core.Bool.{Bool, true, false}
use mathlib.Core.Path.{◌≡◌, refl, sym, ◌∙◌}
use mathlib.Core.List.{List, [], ◌∷◌, ◌++◌}
use Prim.Native.Nat.{ℕ, zero, suc, ◌+◌, ◌-◌, ◌*◌, ◌/◌, ◌%◌, ◌^◌, ◌<◌}
use native.Mathlib.Omega.{arith}
use lib.Dec.{T, ltb}
use lib.ListN.{length, get_or, take}
use lib.Seq.{get_or-take, length-take-le}
use borrow.Author.Tests.{lt-ltb, le-ltb}
use Rattle.lists.specs.Lists.{every, pick, same, tabulate}
use Rattle.lists.proofs.Tests.{Each, each, left, right, same-is}
use Rattle.bits.specs.Bits.{field, value_from}
use Rattle.reserve.specs.Reserve.{digits, reserve}
use Rattle.reserve_table.proofs.EveryEntry.{right_from, entry-is}
use Rattle.tree.specs.Code.Exact.{clear, exact}
use Rattle.tree.specs.Read.{counts, left_of}
use Rattle.sum_table.specs.Code.Sums.{Sums, quarters, few_at}

-- ---- digits and reserves

-- what stands at place i: digits, then reserves of four counts, then the other heights, 64 entries each
unfoldable pub sum_at : ℕ → ℕ
unfolding digits reserve pick
sum_at i = pick (ltb i 256) (digits i) (pick (ltb i 512) (reserve 2 (i - 256)) (reserve ((i - 320) / 64) ((i - 320) % 64)))

-- the first 704 entries, by that rule
ruled : (xs : List ℕ) → length xs ≡ 864 → T (right_from sum_at 0 (take 704 xs)) → (k : ℕ) → k < 704 → get_or xs k 0 ≡ sum_at k
ruled xs n t k l = sym (get_or-take 704 xs k 0 l) ∙ entry-is sum_at (take 704 xs) t k (omega (arith, length-take-le 704 xs (omega (arith, n))))

-- ---- eight counts of small sums

-- the counts of the code v are right, if it is the code of any
unfoldable pub few_right : List ℕ → ℕ → ℕ → Bool
unfolding pick same quarters exact clear counts left_of field value_from
few_right l s v =
    pick (exact 3 s (field (3 * s) v) 0)
    (same (quarters (get_or l (few_at s v) 0) ++ quarters (get_or l (few_at s v + 1) 0)) (counts 3 s (field (3 * s) v) 0)) true

unfoldable pub few_rights : List ℕ → ℕ → Bool
unfolding every tabulate few_right
few_rights l s = every (tabulate (2 ^ (3 * s)) (few_right l s))

each-one : (n : ℕ) (f : ℕ → Bool) → every (tabulate n f) ≡ true → (j : ℕ) → j < n → f j ≡ true
unfolding every tabulate
each-one zero f t j l = absurd (omega arith)
each-one (suc n) f t zero l = left (f 0) (every (tabulate n (λ i. f (suc i)))) t
each-one (suc n) f t (suc j) l = each-one n (λ i. f (suc i)) (right (f 0) (every (tabulate n (λ i. f (suc i)))) t) j (omega arith)

few-right : (l : List ℕ) (s v : ℕ) → few_right l s v ≡ true → exact 3 s (field (3 * s) v) 0 ≡ true
    → quarters (get_or l (few_at s v) 0) ++ quarters (get_or l (few_at s v + 1) 0) ≡ counts 3 s (field (3 * s) v) 0
unfolding few_right pick
few-right l s v t x = same-is _ _ (rw x at t)

-- of no coin, one and two
unfoldable pub all_few : List ℕ → Bool
unfolding every few_rights
all_few l = every (few_rights l 0 ∷ few_rights l 1 ∷ few_rights l 2 ∷ [])

holds : (b : Bool) → T b → b ≡ true
holds true t = refl
holds false t = absurd t

few-sum : (l : List ℕ) → T (all_few l) → (s : ℕ) → s < 3 → few_rights l s ≡ true
unfolding all_few
few-sum l t s k = go s k
  where
    parts : Each (few_rights l 0 ∷ few_rights l 1 ∷ few_rights l 2 ∷ [])
    parts = each (few_rights l 0 ∷ few_rights l 1 ∷ few_rights l 2 ∷ []) (holds (all_few l) t)

    go : (s : ℕ) → s < 3 → few_rights l s ≡ true
    go zero k = parts.0
    go (suc zero) k = parts.1.0
    go (suc (suc zero)) k = parts.1.1.0
    go (suc (suc (suc s))) k = absurd (omega arith)

-- ---- a table of 864 entries, each of them right
pub summed : (xs : List ℕ) → length xs ≡ 864 → T (right_from sum_at 0 (take 704 xs)) → T (all_few xs) → Sums xs
unfolding sum_at pick few_rights
summed xs n t f =
    record {
      digits_are = λ s l. ruled xs n t s (omega arith) ∙ rw (lt-ltb s 256 l);
      fours-are = λ s l.
          let e : 256 + s - 256 ≡ s = omega arith in
          ruled xs n t (256 + s) (omega arith) ∙ rw (le-ltb (256 + s) 256 (omega arith), lt-ltb (256 + s) 512 (omega arith), e);
      reserves-are = λ h s l m k.
          let q : (h * 64 + 320 + s - 320) / 64 ≡ h = omega arith in
          let r : (h * 64 + 320 + s - 320) % 64 ≡ s = omega arith in
          ruled xs n t (h * 64 + 320 + s) (omega arith)
          ∙ rw (le-ltb (h * 64 + 320 + s) 256 (omega arith), le-ltb (h * 64 + 320 + s) 512 (omega arith), q, r);
      few-are = λ s v k l x. few-right xs s v (each-one (2 ^ (3 * s)) (few_right xs s) (few-sum xs f s k) v l) x;
    }
