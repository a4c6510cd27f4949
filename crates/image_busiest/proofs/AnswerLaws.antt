-- The call has an answer on any bytes, and one alone. Assumes nothing.
use mathlib.Core.Bool.{true}
use mathlib.Core.List.{List}
use mathlib.Core.Logic.{◌⊎◌, inl, inr, ⊎_elim}
use mathlib.Core.Path.{◌≡◌, refl, ap, ◌∙◌}
use Prim.Native.Nat.{ℕ, ◌+◌, ◌≤◌, ◌<◌}
use native.Mathlib.Decide.{dec_le}
use native.Mathlib.Omega.{arith}
use lib.ListN.{length}
use Rattle.answers.specs.Image.{fails}
use Rattle.answers.specs.Stretch.{Stretch}
use Rattle.answers.specs.Stretch.Stretch.{Run, Refused}
use Rattle.lists.proofs.Sums.{sum-take-le}
use Rattle.image.specs.Check.{accepted, check}
use Rattle.image.specs.Read.{list_of}
use Rattle.image.proofs.Accepted.{accepted-only}
use Rattle.image.proofs.CheckLaws.{accepted-or, five-or-six, not-both, one-refusal}
use Rattle.runs.specs.Runs.{Busiest}
use Rattle.runs.proofs.BusiestLaws.{one-busiest, some-busiest}
use Rattle.runs.proofs.PrefixSums.{run-reading}
use Rattle.image_busiest.specs.Busiest.{BusiestCall, no-such-run, not-accepted, the-run}

pub some-answer : (s : List ℕ) (k : ℕ) → (a : Stretch) × BusiestCall s k a
some-answer s k = go (accepted-or s) (dec_le k 0) (dec_le k (length (list_of s)))
  where
    go : (accepted s ≡ true) ⊎ ((j : ℕ) × (check s ≡ fails j)) → Dec (k ≤ 0) → Dec (k ≤ length (list_of s)) → (a : Stretch) × BusiestCall s k a
    go (inr r) d f = (Refused r.0, not-accepted r.0 r.1)
    go (inl a) (yes z) f = (Refused 13, no-such-run a (inl (omega arith)))
    go (inl a) (no z) (no f) = (Refused 13, no-such-run a (inr (omega arith)))
    go (inl a) (no z) (yes f) =
        let b = some-busiest (list_of s) k f in
        (Run b.0 b.1, the-run a (omega arith) b.0 b.1 b.2)

-- a run that there is not
outside : (xs : List ℕ) (k f t : ℕ) → 1 ≤ k → Busiest xs k f t → (k ≡ 0) ⊎ (length xs < k) → ⊥
outside xs k f t l b (inl z) = omega arith
outside xs k f t l b (inr g) = omega (arith, b.inside)

pub one_answer : (s : List ℕ) (k : ℕ) (a b : Stretch) → BusiestCall s k a → BusiestCall s k b → a ≡ b
one_answer s k _ _ (not-accepted i p) (not-accepted j q) = ap Refused (one-refusal s i j p q)
one_answer s k _ _ (not-accepted i p) (no-such-run a o) = absurd (not-both s i p a)
one_answer s k _ _ (not-accepted i p) (the-run a l f t b) = absurd (not-both s i p a)
one_answer s k _ _ (no-such-run a o) (not-accepted j q) = absurd (not-both s j q a)
one_answer s k _ _ (no-such-run a o) (no-such-run b p) = refl
one_answer s k _ _ (no-such-run a o) (the-run b l f t m) = absurd (outside (list_of s) k f t l m o)
one_answer s k _ _ (the-run a l f t b) (not-accepted j q) = absurd (not-both s j q a)
one_answer s k _ _ (the-run a l f t b) (no-such-run c o) = absurd (outside (list_of s) k f t l b o)
one_answer s k _ _ (the-run a l f t b) (the-run c m g u d) =
    let e = one-busiest (list_of s) k f g t u b d in
    ap (λ (z : ℕ). Run z t) e.0 ∙ ap (Run g) e.1

-- how large it is: refusals are 5, 6 and 13
abbrev pub Small : Stretch → Type 0
Small (Run f t) = (f ≤ 65536) × (t < 1099511627776)
Small (Refused j) = (1 ≤ j) × (j ≤ 13)

pub small-answer : (s : List ℕ) (k : ℕ) (a : Stretch) → BusiestCall s k a → Small a
small-answer s k _ (not-accepted j p) = ⊎_elim (λ (e : j ≡ 5). omega arith) (λ (e : j ≡ 6). omega arith) (five-or-six s j p)
small-answer s k _ (no-such-run a o) = omega arith
small-answer s k _ (the-run a l f t b) =
    let m = (accepted-only s a).limits in (
      omega (arith, b.inside, m.hours),
      omega (arith, b.total-is, run-reading (list_of s) f k, sum-take-le (f + k) (list_of s), m.total),
    )
