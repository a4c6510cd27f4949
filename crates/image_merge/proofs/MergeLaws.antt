-- The call, case by case, and what it says. Assumes nothing.
use mathlib.Core.Bool.{Bool, true, false, ◌&&◌}
use mathlib.Core.List.{List, []}
use mathlib.Core.Path.{◌≡◌, refl, sym, ap, ◌∙◌}
use Prim.Native.Nat.{ℕ, ◌≤◌, ◌<◌}
use native.Mathlib.Omega.{arith}
use lib.Dec.{leb}
use borrow.Author.Tests.{le-leb, leb-true, lt-leb}
use Rattle.lists.specs.Counts.{max_count, within}
use Rattle.answers.specs.Image.{Verdict, fails, given, holds, refused, told}
use Rattle.answers.specs.Number.{number}
use Rattle.answers.specs.declared.refusal.Refusal.{Refusal}
use Rattle.answers.specs.declared.refusal.Refusal.TheVariants.{PageSize}
use Rattle.std.specs.Prelude.{Err}
use Rattle.lists.specs.Lists.{pick}
use Rattle.lists.proofs.CountLaws.{within-each}
use Rattle.lists.proofs.Tests.{left, right}
use Rattle.image.specs.Calls.{Result, length_call, past, put_after, result_of, unwritten, write_call}
use Rattle.image.specs.Check.{accepted, check}
use Rattle.image.specs.Read.{list_of}
use Rattle.image.proofs.Accepted.{accepted-only}
use Rattle.image.proofs.CallLaws.{write-refused}
use Rattle.image.proofs.CheckLaws.{check-held, check-holds}
use Rattle.image_merge.specs.Merge.{merge_call, merge_lists, sums}
use Rattle.image_merge.proofs.SumLaws.{sums_none, sums-swap}

-- ---- the tests, one after another
pub e-low : (e : ℕ) (a b out : List ℕ) → e < 2 → result_of (Err PageSize) out ≡ merge_call e a b out
unfolding merge_call pick unwritten told
e-low e a b out l = rw (lt-leb 2 e l)

pub e-high : (e : ℕ) (a b out : List ℕ) → 2 ≤ e → 8 < e → result_of (Err PageSize) out ≡ merge_call e a b out
unfolding merge_call pick unwritten told
e-high e a b out k l = rw (le-leb 2 e k, lt-leb e 8 l)

pub first-no : (e : ℕ) (a b out : List ℕ) (j : Refusal) → 2 ≤ e → e ≤ 8 → check a ≡ fails (number j) → result_of (Err j) out ≡ merge_call e a b out
unfolding merge_call pick past unwritten told
first-no e a b out j k l h = rw (le-leb 2 e k, le-leb e 8 l, h)

pub second-no : (e : ℕ) (a b out : List ℕ) (j : Refusal) → 2 ≤ e → e ≤ 8 → accepted a ≡ true → check b ≡ fails (number j) → result_of (Err j) out ≡ merge_call e a b out
unfolding merge_call pick past unwritten told
second-no e a b out j k l x h = rw (le-leb 2 e k, le-leb e 8 l, check-holds a x, h)

pub past_all : (e : ℕ) (a b out : List ℕ) → 2 ≤ e → e ≤ 8 → accepted a ≡ true → accepted b ≡ true
    → merge_lists e (list_of a) (list_of b) out ≡ merge_call e a b out
unfolding merge_call pick past
past_all e a b out k l x y = rw (le-leb 2 e k, le-leb e 8 l, check-holds a x, check-holds b y)

-- ---- of the lists
pub count_no : (e : ℕ) (xs ys out : List ℕ) → within max_count (sums xs ys) ≡ false → merge_lists e xs ys out ≡ unwritten out 3
unfolding merge_lists pick
count_no e xs ys out h = rw h

pub counts-yes : (e : ℕ) (xs ys out : List ℕ) → within max_count (sums xs ys) ≡ true → merge_lists e xs ys out ≡ write_call e (sums xs ys) out
unfolding merge_lists pick
counts-yes e xs ys out h = rw h

-- ---- laws
-- commutative, bytes too
pub swap : (e : ℕ) (a b out : List ℕ) → accepted a ≡ true → accepted b ≡ true → merge_call e a b out ≡ merge_call e b a out
unfolding merge_call merge_lists past
swap e a b out x y = rw (check-holds a x, check-holds b y, sums-swap (list_of a) (list_of b))

-- with the empty log it is what write makes of the log
no-page-size : (e : ℕ) (a b out : List ℕ) → (leb 2 e && leb e 8) ≡ false → merge_call e a b out ≡ write_call e (list_of a) out
unfolding merge_call write_call length_call put_after pick
no-page-size e a b out h = rw h

pub with-empty : (e : ℕ) (a b out : List ℕ) → accepted a ≡ true → accepted b ≡ true → list_of b ≡ [] → merge_call e a b out ≡ write_call e (list_of a) out
with-empty e a b out x y z = go (leb 2 e && leb e 8) refl
  where
    same-list : sums (list_of a) (list_of b) ≡ list_of a
    same-list = ap (sums (list_of a)) z ∙ sums_none (list_of a)

    go : (t : Bool) → (leb 2 e && leb e 8) ≡ t → merge_call e a b out ≡ write_call e (list_of a) out
    go false p = no-page-size e a b out p
    go true p =
        sym (past_all e a b out (leb-true 2 e (left (leb 2 e) (leb e 8) p)) (leb-true e 8 (right (leb 2 e) (leb e 8) p)) x y)
        ∙ counts-yes e (list_of a) (list_of b) out (ap (within max_count) same-list ∙ within-each max_count (list_of a) (accepted-only a x).counts)
        ∙ ap (λ (zs : List ℕ). write_call e zs out) same-list

-- a call that is not refused: two accepted images, sums that are counts, and write of the sums
pub record Merged (e : ℕ) (a b out : List ℕ) : Type 0 where
  pub first : accepted a ≡ true
  pub second : accepted b ≡ true
  pub counts : within max_count (sums (list_of a) (list_of b)) ≡ true
  pub written : merge_call e a b out ≡ write_call e (sums (list_of a) (list_of b)) out

pub merge-given : (e : ℕ) (a b out : List ℕ) (n : ℕ) → (merge_call e a b out).reply ≡ given n → Merged e a b out
unfolding merge_call merge_lists pick past unwritten
merge-given e a b out n = go (leb 2 e && leb e 8) refl (check a) refl (check b) refl (within max_count zs) refl
  where
    zs : List ℕ
    zs = sums (list_of a) (list_of b)

    W : Result
    W = write_call e zs out

    never : (k : ℕ) → refused k ≡ given n → ⊥
    never k q = let z : ◌≡◌ {A = ℕ} 0 1 = cc in omega arith

    go : (t : Bool) → (leb 2 e && leb e 8) ≡ t → (v : Verdict) → check a ≡ v → (w : Verdict) → check b ≡ w → (u : Bool) → within max_count zs ≡ u
        → (pick t (past v out (past w out (pick u W (unwritten out 3)))) (unwritten out 1)).reply ≡ given n → Merged e a b out
    go false p v x w y u z q = absurd (never 1 q)
    go true p (fails i) x w y u z q = absurd (never i q)
    go true p (holds m s) x (fails i) y u z q = absurd (never i q)
    go true p (holds m s) x (holds i j) y false z q = absurd (never 3 q)
    go true p (holds m s) x (holds i j) y true z q =
        record { first = check-held a m s x; second = check-held b i j y; counts = z; written = rw (p, x, y, z) }

-- 'A refusal is its number alone; no byte changes.'
pub merge-refused : (e : ℕ) (a b out : List ℕ) (k : ℕ) → (merge_call e a b out).reply ≡ refused k → (merge_call e a b out).bytes ≡ out
unfolding merge_call merge_lists pick past unwritten
merge-refused e a b out k = go (leb 2 e && leb e 8) (check a) (check b) (within max_count zs)
  where
    zs : List ℕ
    zs = sums (list_of a) (list_of b)

    W : Result
    W = write_call e zs out

    go : (t : Bool) (v w : Verdict) (u : Bool) → (pick t (past v out (past w out (pick u W (unwritten out 3)))) (unwritten out 1)).reply ≡ refused k
        → (pick t (past v out (past w out (pick u W (unwritten out 3)))) (unwritten out 1)).bytes ≡ out
    go false v w u q = refl
    go true (fails i) w u q = refl
    go true (holds n s) (fails i) u q = refl
    go true (holds n s) (holds i j) false q = refl
    go true (holds n s) (holds i j) true q = write-refused e zs out k q
