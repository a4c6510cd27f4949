-- The call has an answer on any bytes, and one alone. Assumes nothing.
use mathlib.Core.Bool.{true}
use Rattle.std.specs.Prelude.{Option, Some, Ok}
use Rattle.std.specs.Prelude.{None as Nowhere}
use mathlib.Core.List.{List}
use mathlib.Core.Logic.{◌⊎◌, inl, inr, ⊎_elim}
use mathlib.Core.Path.{◌≡◌, refl, ap, ◌∙◌}
use Prim.Native.Nat.{ℕ, ◌≤◌, ◌<◌}
use native.Mathlib.Decide.{dec_le}
use native.Mathlib.Omega.{arith}
use lib.ListN.{length}
use Rattle.answers.specs.Image.{fails}
use Rattle.answers.specs.Bag.{Bag, told}
use Rattle.answers.specs.Bag.Bag.{Run, None, Refused}
use Rattle.answers.specs.declared.image.Run.{Run as Found}
use Rattle.lists.specs.Lists.{sum}
use Rattle.lists.proofs.Sums.{sum-take-le}
use Rattle.image.specs.Check.{accepted, check}
use Rattle.image.specs.Code.Head.{HeadOf}
use Rattle.image.specs.Read.{e_of, list_of, s_of}
use Rattle.image.specs.declared.head.Head.{Head}
use Rattle.image.proofs.Accepted.{accepted-only}
use Rattle.image.proofs.ReadLaws.{s-is}
use Rattle.image.proofs.CheckLaws.{accepted-or, five-or-six, not-both, one-refusal}
use Rattle.runs.specs.Runs.{NoMatch}
use Rattle.runs.proofs.MatchLaws.{FirstOrNone, match-or-none, no-match-from, none-before-first, one-match, some-match}
use Rattle.image_match.specs.Code.Find.{Finds}
use Rattle.image_match.specs.Match.{MatchCall, no-coins, none, not-accepted, the-run}

-- no run has more coins than all hours
pub none-larger : (s : List ℕ) (q : ℕ) → accepted s ≡ true → (h : Head) → HeadOf s h → h.total < q → NoMatch (list_of s) q
none-larger s q a h o l =
    let i = accepted-only s a in
    let e : h.total ≡ sum (list_of s) = o.total-is ∙ ap s_of i.bytes ∙ s-is (e_of s) (list_of s) i.limits in
    no-match-from (list_of s) q 0 (none-before-first (list_of s) q) (omega (arith, sum-take-le (length (list_of s)) (list_of s)))

-- what the search finds is the call's answer
pub found-answer : (s : List ℕ) (q : ℕ) → accepted s ≡ true → 1 ≤ q → (r : Option Found) → Finds (list_of s) q r → MatchCall s q (told (Ok r))
found-answer s q a l (Some r) m = the-run a l r.first r.hours m
found-answer s q a l Nowhere m = none a l m

pub some-answer : (s : List ℕ) (q : ℕ) → (a : Bag) × MatchCall s q a
some-answer s q = go (accepted-or s) (dec_le q 0)
  where
    pick-one : accepted s ≡ true → 1 ≤ q → FirstOrNone (list_of s) q → (a : Bag) × MatchCall s q a
    pick-one a l (inl m) = (Run m.0 m.1, the-run a l m.0 m.1 m.2)
    pick-one a l (inr m) = (None, none a l m)

    go : (accepted s ≡ true) ⊎ ((j : ℕ) × (check s ≡ fails j)) → Dec (q ≤ 0) → (a : Bag) × MatchCall s q a
    go (inr r) d = (Refused r.0, not-accepted r.0 r.1)
    go (inl a) (yes z) = (Refused 17, no-coins a (omega arith))
    go (inl a) (no z) = pick-one a (omega arith) (some-match (list_of s) q (omega arith))

pub one_answer : (s : List ℕ) (q : ℕ) (a b : Bag) → MatchCall s q a → MatchCall s q b → a ≡ b
one_answer s q _ _ (not-accepted i p) (not-accepted j r) = ap Refused (one-refusal s i j p r)
one_answer s q _ _ (not-accepted i p) (no-coins a z) = absurd (not-both s i p a)
one_answer s q _ _ (not-accepted i p) (the-run a l f n m) = absurd (not-both s i p a)
one_answer s q _ _ (not-accepted i p) (none a l m) = absurd (not-both s i p a)
one_answer s q _ _ (no-coins a z) (not-accepted j r) = absurd (not-both s j r a)
one_answer s q _ _ (no-coins a z) (no-coins b y) = refl
one_answer s q _ _ (no-coins a z) (the-run b l f n m) = absurd (omega arith)
one_answer s q _ _ (no-coins a z) (none b l m) = absurd (omega arith)
one_answer s q _ _ (the-run a l f n m) (not-accepted j r) = absurd (not-both s j r a)
one_answer s q _ _ (the-run a l f n m) (no-coins b z) = absurd (omega arith)
one_answer s q _ _ (the-run a l f n m) (the-run b k g o r) =
    let e = one-match (list_of s) q f g n o m r in
    ap (λ (z : ℕ). Run z n) e.0 ∙ ap (Run g) e.1
one_answer s q _ _ (the-run a l f n m) (none b k r) = absurd (match-or-none (list_of s) q f n m r)
one_answer s q _ _ (none a l m) (not-accepted j r) = absurd (not-both s j r a)
one_answer s q _ _ (none a l m) (no-coins b z) = absurd (omega arith)
one_answer s q _ _ (none a l m) (the-run b k g o r) = absurd (match-or-none (list_of s) q g o r m)
one_answer s q _ _ (none a l m) (none b k r) = refl

-- how large it is: refusals are 5, 6 and 17, and a run has an hour
abbrev pub Small : Bag → Type 0
Small (Run f n) = (f ≤ 65536) × (1 ≤ n) × (n ≤ 65536)
Small None = Unit {0}
Small (Refused j) = (1 ≤ j) × (j ≤ 17)

pub small-answer : (s : List ℕ) (q : ℕ) (a : Bag) → MatchCall s q a → Small a
small-answer s q _ (not-accepted j p) = ⊎_elim (λ (e : j ≡ 5). omega arith) (λ (e : j ≡ 6). omega arith) (five-or-six s j p)
small-answer s q _ (no-coins a z) = omega arith
small-answer s q _ (the-run a l f n m) =
    let h = (accepted-only s a).limits.hours in
    (omega (arith, m.matches.inside), m.matches.some, omega (arith, m.matches.inside))
small-answer s q _ (none a l m) = tt
