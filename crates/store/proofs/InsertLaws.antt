-- Document 02, note 5: what insert and strike say of each other and of append, on the plain list and on bytes. Assumes nothing.
use mathlib.Core.Path.{◌≡◌, refl, sym, ap, ap₂, ◌∙◌}
use mathlib.Core.Bool.{Bool, true, false}
use mathlib.Core.List.{List}
use Prim.Native.Nat.{ℕ, ◌-◌, ◌*◌, ◌≤◌}
use native.Mathlib.Omega.{arith}
use lib.ListN.{length}
use lib.Dec.{leb, ltb}
use borrow.Author.Tests.{le-ltb, lt-leb, ltb-false}
use Rattle.lists.specs.Lists.{pick, sum}
use Rattle.answers.specs.Store.{Answer, changed, refused}
use Rattle.store.specs.Limits.{max_total}
use Rattle.store.specs.Plain.{Append, Insert, Outcome, Plain, Strike, change, inserted, need, next, refuse, relisted, step, struck}
use Rattle.store.specs.Layout.{bytes_of}
use Rattle.store.specs.Reading.{list_in, read}
use Rattle.store.specs.Sound.{sound}
use Rattle.store.specs.Call.{after, call, settle}
use Rattle.store.proofs.Inserting.{inserted-end, length_inserted, struck-inserted, sum-struck}
use Rattle.store.proofs.StepLaws.{Change, change-is, done, moved, over, short}

-- ---- insert at N is append
pub insert-end : (v : ℕ) (L : Plain) → step (Insert (length L.counts) v) L ≡ step (Append v) L
unfolding step pick
insert-end v L = rw (le-ltb (length L.counts) (length L.counts) (omega arith), inserted-end L.counts v)

-- its bytes too
pub insert-end-bytes : (v : ℕ) (s : List ℕ) → call (Insert (length (list_in s)) v) s ≡ call (Append v) s
unfolding call after
insert-end-bytes v s =
    ap (λ (o : Outcome). pick (sound s) (record { answer = o.answer; bytes = bytes_of (settle (read s) o o.answer) })
    (record { answer = refused 10; bytes = s })) (insert-end v (read s).plain)

-- ---- an hour that is inserted and struck again: the list is as before, and the cells go back
no_change : {A : Type 0} (k r f : ℕ) → refused k ≡ changed r f → A
no_change k r f e = let z : ◌≡◌ {A = ℕ} 0 1 = cc in absurd (omega arith)

back : (L : Plain) (ys : List ℕ) (r f : ℕ) {o : Outcome} → sum L.counts ≤ max_total → need L.counts L.pages ≤ L.cells → moved L ys ≡ changed r f
    → Change (relisted L ys) L.counts o → o ≡ record { answer = changed f r; list = L }
back L ys r f ls ln e (over h) = absurd (omega arith)
back L ys r f ls ln e (short h j) = absurd (omega arith)
back L ys r f ls ln e (done h j) =
    let er : need ys L.pages - need L.counts L.pages ≡ r = cc in
    let ef : need L.counts L.pages - need ys L.pages ≡ f = cc in
    ap₂ (λ (a b : ℕ). record { answer = changed a b; list = L }) ef er

struck-back : (L : Plain) (i v r f : ℕ) → i ≤ length L.counts → sum L.counts ≤ max_total → need L.counts L.pages ≤ L.cells
    → moved L (inserted L.counts i v) ≡ changed r f
    → step (Strike i) (relisted L (inserted L.counts i v)) ≡ record { answer = changed f r; list = L }
unfolding step pick
struck-back L i v r f li ls ln e =
    let ys : List ℕ = inserted L.counts i v in
    rw (lt-leb (length ys) i (omega (arith, length_inserted L.counts i v li)))
    (ap (change (relisted L ys)) (struck-inserted L.counts i v li) ∙ back L ys r f ls ln e (change-is (relisted L ys) L.counts))

insert-done : (L : Plain) (i v r f : ℕ) {o : Outcome} → i ≤ length L.counts → sum L.counts ≤ max_total → need L.counts L.pages ≤ L.cells
    → Change L (inserted L.counts i v) o → o.answer ≡ changed r f → step (Strike i) o.list ≡ record { answer = changed f r; list = L }
insert-done L i v r f li ls ln (over h) e = no_change 3 r f e
insert-done L i v r f li ls ln (short h j) e = no_change 12 r f e
insert-done L i v r f li ls ln (done h j) e = struck-back L i v r f li ls ln e

pub strike-inserted : (L : Plain) (i v r f : ℕ) → sum L.counts ≤ max_total → need L.counts L.pages ≤ L.cells
    → (step (Insert i v) L).answer ≡ changed r f → step (Strike i) (next (Insert i v) L) ≡ record { answer = changed f r; list = L }
unfolding next step pick
strike-inserted L i v r f ls ln = go (ltb (length L.counts) i) (leb (64 * L.pages) (length L.counts)) refl
  where
    go : (a b : Bool) → ltb (length L.counts) i ≡ a
        → (pick a (refuse 7 L) (pick b (refuse 11 L) (change L (inserted L.counts i v)))).answer ≡ changed r f
        → step (Strike i) (pick a (refuse 7 L) (pick b (refuse 11 L) (change L (inserted L.counts i v)))).list ≡ record { answer = changed f r; list = L }
    go true b d e = no_change 7 r f e
    go false true d e = no_change 11 r f e
    go false false d e = insert-done L i v r f (ltb-false _ _ d) ls ln (change-is L (inserted L.counts i v)) e

-- ---- 'strike never meets 11 or 3'
abbrev Strikes : Answer → Type 0
Strikes a = (k : ℕ) → a ≡ refused k → (k ≡ 3 → ⊥) × (k ≡ 11 → ⊥)

number_of : {j k : ℕ} → refused j ≡ refused k → j ≡ k
number_of e = cc

strikes : (L : Plain) (i : ℕ) {o : Outcome} → sum L.counts ≤ max_total → Change L (struck L.counts i) o → Strikes o.answer
strikes L i ls (over h) k e = absurd (omega (arith, sum-struck L.counts i))
strikes L i ls (short h j) k e = let n : 12 ≡ k = number_of e in (λ (z : k ≡ 3). omega (arith, n, z), λ (z : k ≡ 11). omega (arith, n, z))
strikes L i ls (done h j) k e = no_change k _ _ (sym e)

pub strike-refusals : (L : Plain) (i : ℕ) → sum L.counts ≤ max_total → Strikes (step (Strike i) L).answer
unfolding step pick
strike-refusals L i ls = go (leb (length L.counts) i)
  where
    go : (b : Bool) → Strikes (pick b (refuse 7 L) (change L (struck L.counts i))).answer
    go true k e = let n : 7 ≡ k = number_of e in (λ (z : k ≡ 3). omega (arith, n, z), λ (z : k ≡ 11). omega (arith, n, z))
    go false k e = strikes L i ls (change-is L (struck L.counts i)) k e
