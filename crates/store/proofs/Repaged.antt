-- Lists put together from pages. Assumes nothing.
use mathlib.Core.Path.{◌≡◌, refl, sym, ap, ◌∙◌}
use mathlib.Core.Bool.{Bool, true, false}
use mathlib.Core.List.{List}
use mathlib.Core.Logic.{◌⊎◌, inl, inr}
use Prim.Native.Nat.{ℕ, ◌+◌, ◌*◌, ◌/◌, ◌%◌, ◌≤◌, ◌<◌}
use native.Mathlib.Omega.{arith}
use native.Mathlib.Decide.{dec_le, ℕ_discrete}
use lib.ListN.{get_or-eq_default, length, get_or}
use lib.Dec.{eqb}
use borrow.Author.Tests.{eq-eqb, ne_eqb}
use Rattle.lists.specs.Lists.{pick, tabulate}
use Rattle.lists.proofs.Tables.{get_d_tabulate, length-tabulate, tabulate-ext, tabulate-get_d}
use Rattle.store.specs.Plain.{page}
use Rattle.store.specs.Code.Moving.{mixed, repaged}
use Rattle.store.proofs.HourLaws.{page-hour}

table-page : (P q : ℕ) (f : ℕ → ℕ) (xs : List ℕ) → q < P → ((j : ℕ) → j < 64 → f (64 * q + j) ≡ get_or xs (64 * q + j) 0) → page (tabulate (64 * P) f) q ≡ page xs q
unfolding page
table-page P q f xs l h =
    tabulate-ext 64 (λ j. get_or (tabulate (64 * P) f) (64 * q + j) 0) (λ j. get_or xs (64 * q + j) 0)
    (λ j lj. get_d_tabulate (64 * P) f (64 * q + j) 0 (omega arith) ∙ h j lj)

in-page : (q j : ℕ) → j < 64 → (64 * q + j) / 64 ≡ q
in-page q j l = omega arith

pub mixed-page : (P : ℕ) (xs ys : List ℕ) (d : ℕ → Bool) (q : ℕ) → q < P → page (mixed P xs ys d) q ≡ pick (d q) (page ys q) (page xs q)
unfolding mixed pick
mixed-page P xs ys d q l = go (d q) refl
  where
    f : ℕ → ℕ
    f h = pick (d (h / 64)) (get_or ys h 0) (get_or xs h 0)

    go : (b : Bool) → d q ≡ b → page (tabulate (64 * P) f) q ≡ pick b (page ys q) (page xs q)
    go true e = table-page P q f ys l (λ j lj. ap (λ (z : Bool). pick z (get_or ys (64 * q + j) 0) (get_or xs (64 * q + j) 0)) (ap d (in-page q j lj) ∙ e))
    go false e = table-page P q f xs l (λ j lj. ap (λ (z : Bool). pick z (get_or ys (64 * q + j) 0) (get_or xs (64 * q + j) 0)) (ap d (in-page q j lj) ∙ e))

pub mixed-length : (P : ℕ) (xs ys : List ℕ) (d : ℕ → Bool) → length (mixed P xs ys d) ≡ 64 * P
unfolding mixed
mixed-length P xs ys d = length-tabulate (64 * P) (λ h. pick (d (h / 64)) (get_or ys h 0) (get_or xs h 0))

pub repaged-length : (P : ℕ) (xs : List ℕ) (p : ℕ) (x : List ℕ) → length (repaged P xs p x) ≡ 64 * P
unfolding repaged
repaged-length P xs p x = length-tabulate (64 * P) (λ h. pick (eqb (h / 64) p) (get_or x (h % 64) 0) (get_or xs h 0))

pub beyond : (P : ℕ) (xs ys : List ℕ) (q : ℕ) → length xs ≤ 64 * P → length ys ≤ 64 * P → P ≤ q → page ys q ≡ page xs q
unfolding page
beyond P xs ys q lx ly l =
    tabulate-ext 64 (λ j. get_or ys (64 * q + j) 0) (λ j. get_or xs (64 * q + j) 0)
    (λ j lj. get_or-eq_default ys 0 {n = 64 * q + j} (omega arith) ∙ sym (get_or-eq_default xs 0 {n = 64 * q + j} (omega arith)))

-- the page that is put in, and the others
module _ (P : ℕ) (xs : List ℕ) (p : ℕ) (x : List ℕ) where
  abbrev put : ℕ → ℕ
  put h = pick (eqb (h / 64) p) (get_or x (h % 64) 0) (get_or xs h 0)

  put-own : (h : ℕ) → h / 64 ≡ p → put h ≡ get_or x (h % 64) 0
  unfolding pick
  put-own h e = rw (eq-eqb (h / 64) p e)

  put_other : (h : ℕ) → (h / 64 ≡ p → ⊥) → put h ≡ get_or xs h 0
  unfolding pick
  put_other h ne = rw (ne_eqb (h / 64) p ne)

  pub repaged-own : p < P → length x ≡ 64 → page (repaged P xs p x) p ≡ x
  unfolding repaged page
  repaged-own l n =
      tabulate-ext 64 (λ j. get_or (tabulate (64 * P) put) (64 * p + j) 0) (λ j. get_or x j 0)
      (λ j lj. get_d_tabulate (64 * P) put (64 * p + j) 0 (omega arith) ∙ put-own (64 * p + j) (omega arith)
      ∙ ap (λ (z : ℕ). get_or x z 0) {x = (64 * p + j) % 64} {y = j} (omega arith))
      ∙ ap (λ (z : ℕ). tabulate z (λ j. get_or x j 0)) (sym n) ∙ tabulate-get_d x 0

  pub repaged-off : length xs ≤ 64 * P → (q : ℕ) → (q ≡ p → ⊥) → page (repaged P xs p x) q ≡ page xs q
  unfolding repaged
  repaged-off lx q ne = go (dec_le P q)
    where
      go : Dec (P ≤ q) → page (repaged P xs p x) q ≡ page xs q
      go (yes l) = beyond P xs (repaged P xs p x) q lx (omega (arith, repaged-length P xs p x)) l
      go (no l) = table-page P q put xs (omega arith) (λ j lj. put_other (64 * q + j) (λ e. ne (omega arith)))

-- one page more has moved
pub mixed-next : (P : ℕ) (xs ys : List ℕ) (d e : ℕ → Bool) (p : ℕ) → e p ≡ true → ((q : ℕ) → (q ≡ p → ⊥) → e q ≡ d q)
    → repaged P (mixed P xs ys d) p (page ys p) ≡ mixed P xs ys e
unfolding repaged mixed pick
mixed-next P xs ys d e p own others = tabulate-ext (64 * P) f k (λ h l. go h l (ℕ_discrete (h / 64) p))
  where
    k : ℕ → ℕ
    k h = pick (e (h / 64)) (get_or ys h 0) (get_or xs h 0)

    was : ℕ → ℕ
    was h = pick (d (h / 64)) (get_or ys h 0) (get_or xs h 0)

    f : ℕ → ℕ
    f h = pick (eqb (h / 64) p) (get_or (page ys p) (h % 64) 0) (get_or (tabulate (64 * P) was) h 0)

    go : (h : ℕ) → h < 64 * P → Dec (h / 64 ≡ p) → f h ≡ k h
    go h l (yes r) =
        put-own P (tabulate (64 * P) was) p (page ys p) h r
        ∙ ap (λ (z : ℕ). get_or (page ys z) (h % 64) 0) (sym r) ∙ page-hour ys h
        ∙ sym (ap (λ (z : Bool). pick z (get_or ys h 0) (get_or xs h 0)) (ap e r ∙ own))
    go h l (no r) =
        put_other P (tabulate (64 * P) was) p (page ys p) h r ∙ get_d_tabulate (64 * P) was h 0 l
        ∙ sym (ap (λ (z : Bool). pick z (get_or ys h 0) (get_or xs h 0)) (others (h / 64) r))

-- lists that agree in every page
pub mixed-same : (P : ℕ) (xs ys : List ℕ) (d e : ℕ → Bool) → ((q : ℕ) → q < P → (e q ≡ d q) ⊎ (page ys q ≡ page xs q)) → mixed P xs ys d ≡ mixed P xs ys e
unfolding mixed pick
mixed-same P xs ys d e h = tabulate-ext (64 * P) (at d) (at e) (λ j l. go j (h (j / 64) (omega arith)))
  where
    at : (ℕ → Bool) → ℕ → ℕ
    at c j = pick (c (j / 64)) (get_or ys j 0) (get_or xs j 0)

    either : (b : Bool) (x y : ℕ) → x ≡ y → pick b x y ≡ y
    either true x y r = r
    either false x y r = refl

    go : (j : ℕ) → (e (j / 64) ≡ d (j / 64)) ⊎ (page ys (j / 64) ≡ page xs (j / 64)) → at d j ≡ at e j
    go j (inl r) = ap (λ (z : Bool). pick z (get_or ys j 0) (get_or xs j 0)) (sym r)
    go j (inr r) =
        let n : get_or ys j 0 ≡ get_or xs j 0 = sym (page-hour ys j) ∙ ap (λ (z : List ℕ). get_or z (j % 64) 0) r ∙ page-hour xs j in
        either (d (j / 64)) _ _ n ∙ sym (either (e (j / 64)) _ _ n)
