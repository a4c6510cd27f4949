-- The pages of a list with an hour inserted or struck. Assumes nothing.
use mathlib.Core.Path.{◌≡◌, sym, ap, ◌∙◌}
use mathlib.Core.Bool.{Bool, true, false}
use mathlib.Core.List.{List}
use Prim.Native.Nat.{ℕ, suc, ◌+◌, ◌-◌, ◌*◌, ◌/◌, ◌≤◌, ◌<◌}
use native.Mathlib.Omega.{arith}
use native.Mathlib.Decide.{dec_le, ℕ_discrete}
use lib.ListN.{get_or-eq_default, length, get_or}
use borrow.Author.Tests.{eq-eqb, le-ltb, lt-ltb, ne_eqb}
use Rattle.lists.specs.Lists.{pick}
use Rattle.lists.proofs.Tables.{tabulate-ext}
use Rattle.store.specs.Plain.{inserted, page, struck}
use Rattle.store.proofs.Holds.{page-length}
use Rattle.store.proofs.HourLaws.{page-at}
use Rattle.store.proofs.Inserting.{inserted-at, inserted-before, inserted-behind, length_inserted, length-struck, struck-before, struck-behind}
use Rattle.store.proofs.Repaged.{beyond}
use Rattle.move_counts.specs.declared.Edit.{Edit}
use Rattle.move_counts.specs.declared.Edit.TheVariants.{Insert, Strike}
use Rattle.move_counts.specs.Code.Turned.{leaving_index, pulled, pushed}
use Rattle.move_counts.proofs.Turning.{pulled-is, pushed-is}
use Rattle.move_plan.specs.declared.shift.Shift.{Shift}
use Rattle.move_plan.specs.Code.Plan.{Leaves, comes_in, comes_to, edited, leaves_page, near, shifted}

-- ---- choices
yes-is : {A : Type 0} {b : Bool} (x y : A) → b ≡ true → pick b x y ≡ x
unfolding pick
yes-is x y e = rw e

no-is : {A : Type 0} {b : Bool} (x y : A) → b ≡ false → pick b x y ≡ y
unfolding pick
no-is x y e = rw e

-- the count that comes in
module _ (m : Shift) (l : List ℕ) (q : ℕ) where
  comes-above : m.edit ≡ Strike → q + 1 < m.end → comes_to m l q ≡ get_or l (q + 1) 0
  unfolding comes_to comes_in
  comes-above k h = rw k (yes-is _ _ (lt-ltb (q + 1) m.end h))

  comes-none : m.edit ≡ Strike → m.end ≤ q + 1 → comes_to m l q ≡ 0
  unfolding comes_to comes_in
  comes-none k h = rw k (no-is _ _ (le-ltb (q + 1) m.end h))

  comes-new : (v : ℕ) → m.edit ≡ Insert v → q ≡ m.first → comes_to m l q ≡ v
  unfolding comes_to comes_in
  comes-new v k h = rw k (yes-is _ _ (eq-eqb q m.first h))

  comes-below : (v : ℕ) → m.edit ≡ Insert v → (q ≡ m.first → ⊥) → comes_to m l q ≡ get_or l (q - 1) 0
  unfolding comes_to comes_in
  comes-below v k h = rw k (no-is _ _ (ne_eqb q m.first h))

-- ---- where a page's counts move from
near-own : (m : Shift) (q : ℕ) → q ≡ m.first → near m q ≡ m.at
unfolding near pick
near-own m q e = rw (eq-eqb q m.first e)

near-other : (m : Shift) (q : ℕ) → (q ≡ m.first → ⊥) → near m q ≡ 0
unfolding near pick
near-other m q ne = rw (ne_eqb q m.first ne)

pub near-low : (m : Shift) (q : ℕ) → m.at < 64 → near m q < 64
near-low m q l = go (ℕ_discrete q m.first)
  where
    go : Dec (q ≡ m.first) → near m q < 64
    go (yes e) = omega (arith, near-own m q e)
    go (no ne) = omega (arith, near-other m q ne)

-- an hour of a page that moves: before the hour that is meant if its index is low, else not
near-hour : (m : Shift) (q : ℕ) → m.first ≤ q → m.at < 64 → (k : ℕ) → near m q ≤ k → 64 * m.first + m.at ≤ 64 * q + k
near-hour m q l w k h = go (ℕ_discrete q m.first)
  where
    go : Dec (q ≡ m.first) → 64 * m.first + m.at ≤ 64 * q + k
    go (yes e) = omega (arith, near-own m q e, e)
    go (no ne) = omega (arith, ne)

near-early : (m : Shift) (q : ℕ) → m.first ≤ q → (k : ℕ) → k < near m q → 64 * q + k < 64 * m.first + m.at
near-early m q l k h = go (ℕ_discrete q m.first)
  where
    go : Dec (q ≡ m.first) → 64 * q + k < 64 * m.first + m.at
    go (yes e) = omega (arith, near-own m q e, e)
    go (no ne) = absurd (omega (arith, near-other m q ne))

-- ---- an insert
module _ (xs : List ℕ) (m : Shift) (v : ℕ) (kind : m.edit ≡ Insert v) (w : m.at < 64) (li : 64 * m.first + m.at ≤ length xs)
    (en : m.end ≡ length xs / 64 + 1) where
  abbrev i : ℕ
  i = 64 * m.first + m.at

  abbrev ys : List ℕ
  ys = inserted xs i v

  pub insert-is : shifted m xs ≡ ys
  unfolding shifted edited
  insert-is = rw kind

  pub insert-below : (q : ℕ) → q < m.first → page ys q ≡ page xs q
  unfolding page
  insert-below q l = tabulate-ext 64 (λ j. get_or ys (64 * q + j) 0) (λ j. get_or xs (64 * q + j) 0) (λ j lj. inserted-before xs i v (64 * q + j) li (omega arith))

  pub insert-above : (q : ℕ) → m.end ≤ q → page ys q ≡ page xs q
  insert-above q l = beyond m.end xs ys q (omega arith) (omega (arith, length_inserted xs i v li)) l

  last : (q : ℕ) → leaves_page m xs q ≡ get_or (page xs q) 63 0
  unfolding leaves_page leaving_index
  last q = rw kind

  insert-comes : (leaving : List ℕ) → Leaves m xs leaving m.end → (q : ℕ) → m.first ≤ q → q < m.end → Dec (q ≡ m.first)
      → get_or ys (64 * q + near m q) 0 ≡ comes_to m leaving q
  insert-comes leaving h q l r (yes e) =
      ap (λ (z : ℕ). get_or ys z 0) {x = 64 * q + near m q} {y = i} (omega (arith, near-own m q e, e)) ∙ inserted-at xs i v li
      ∙ sym (comes-new m leaving q v kind e)
  insert-comes leaving h q l r (no ne) =
      ap (λ (z : ℕ). get_or ys z 0) {x = 64 * q + near m q} {y = suc (64 * (q - 1) + 63)} (omega (arith, near-other m q ne, ne))
      ∙ inserted-behind xs i v (64 * (q - 1) + 63) li (omega (arith, ne))
      ∙ sym (page-at xs (q - 1) 63 (omega arith))
      ∙ sym (comes-below m leaving q v kind ne ∙ h (q - 1) (omega (arith, ne)) (omega arith) ∙ last (q - 1))

  pub insert-moves : (leaving : List ℕ) → Leaves m xs leaving m.end → (q : ℕ) → m.first ≤ q → q < m.end
      → page ys q ≡ pushed (page xs q) (near m q) (comes_to m leaving q)
  insert-moves leaving h q l r =
      pushed-is (page xs q) (near m q) (comes_to m leaving q) (page-length xs q) (near-low m q w) (page ys q) (page-length ys q)
      (λ k b. page-at ys q k (omega (arith, near-low m q w)) ∙ inserted-before xs i v (64 * q + k) li (near-early m q l k b)
      ∙ sym (page-at xs q k (omega (arith, near-low m q w))))
      (page-at ys q (near m q) (near-low m q w) ∙ insert-comes leaving h q l r (ℕ_discrete q m.first))
      (λ k b lk. page-at ys q (suc k) (omega arith) ∙ ap (λ (z : ℕ). get_or ys z 0) {x = 64 * q + suc k} {y = suc (64 * q + k)} (omega arith)
      ∙ inserted-behind xs i v (64 * q + k) li (near-hour m q l w k b) ∙ sym (page-at xs q k (omega arith)))

-- ---- a strike
module _ (xs : List ℕ) (m : Shift) (kind : m.edit ≡ Strike) (w : m.at < 64) (li : 64 * m.first + m.at < length xs)
    (en : m.end ≡ (length xs - 1) / 64 + 1) where
  abbrev h₀ : ℕ
  h₀ = 64 * m.first + m.at

  abbrev zs : List ℕ
  zs = struck xs h₀

  pub strike-is : shifted m xs ≡ zs
  unfolding shifted edited
  strike-is = rw kind

  pub strike-below : (q : ℕ) → q < m.first → page zs q ≡ page xs q
  unfolding page
  strike-below q l = tabulate-ext 64 (λ j. get_or zs (64 * q + j) 0) (λ j. get_or xs (64 * q + j) 0) (λ j lj. struck-before xs h₀ (64 * q + j) (omega arith))

  pub strike-above : (q : ℕ) → m.end ≤ q → page zs q ≡ page xs q
  strike-above q l = beyond m.end xs zs q (omega arith) (omega (arith, length-struck xs h₀ li)) l

  first_count : (q : ℕ) → (q ≡ m.first → ⊥) → leaves_page m xs q ≡ get_or (page xs q) 0 0
  unfolding leaves_page leaving_index
  first_count q ne =
      ap (λ (e : Edit). get_or (page xs q) (leaving_index e (near m q)) 0) kind ∙ ap (λ (z : ℕ). get_or (page xs q) z 0) (near-other m q ne)

  strike-comes : (leaving : List ℕ) → Leaves m xs leaving m.end → (q : ℕ) → m.first ≤ q → Dec (q + 1 < m.end)
      → get_or xs (suc (64 * q + 63)) 0 ≡ comes_to m leaving q
  strike-comes leaving h q l (yes b) =
      ap (λ (z : ℕ). get_or xs z 0) {x = suc (64 * q + 63)} {y = 64 * (q + 1) + 0} (omega arith) ∙ sym (page-at xs (q + 1) 0 (omega arith))
      ∙ sym (comes-above m leaving q kind b ∙ h (q + 1) (omega arith) b ∙ first_count (q + 1) (λ e. omega (arith, e)))
  strike-comes leaving h q l (no b) =
      get_or-eq_default xs 0 {n = suc (64 * q + 63)} (omega arith) ∙ sym (comes-none m leaving q kind (omega arith))

  pub strike-moves : (leaving : List ℕ) → Leaves m xs leaving m.end → (q : ℕ) → m.first ≤ q
      → page zs q ≡ pulled (page xs q) (near m q) (comes_to m leaving q)
  strike-moves leaving h q l =
      pulled-is (page xs q) (near m q) (comes_to m leaving q) (page-length xs q) (near-low m q w) (page zs q) (page-length zs q)
      (λ k b. page-at zs q k (omega (arith, near-low m q w)) ∙ struck-before xs h₀ (64 * q + k) (near-early m q l k b)
      ∙ sym (page-at xs q k (omega (arith, near-low m q w))))
      (λ k b lk. page-at zs q k (omega arith) ∙ struck-behind xs h₀ (64 * q + k) (near-hour m q l w k b)
      ∙ ap (λ (z : ℕ). get_or xs z 0) {x = suc (64 * q + k)} {y = 64 * q + suc k} (omega arith) ∙ sym (page-at xs q (suc k) (omega arith)))
      (page-at zs q 63 (omega arith) ∙ struck-behind xs h₀ (64 * q + 63) (near-hour m q l w 63 (omega (arith, near-low m q w)))
      ∙ strike-comes leaving h q l (dec_le (suc (q + 1)) m.end))
