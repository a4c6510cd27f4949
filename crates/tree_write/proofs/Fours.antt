-- The lowest two levels, written: four counts are three fields, and these are one number. Assumes nothing.
use mathlib.Core.Path.{◌≡◌, sym, ap, ap₂, ◌∙◌}
use mathlib.Core.List.{List, [], ◌++◌, append-nil}
use Prim.Native.Nat.{ℕ, ◌+◌, ◌-◌, ◌*◌, ◌^◌, ◌≤◌, ◌<◌}
use native.Mathlib.Nat.{lt_of_lt_of_le}
use native.Mathlib.Omega.{arith}
use lib.ListN.{length, get_or, take, drop, replicate, length-append}
use lib.Pow.{pow_mono, shl_lt}
use Rattle.lists.specs.Lists.{part, splice, sum, fill, window}
use Rattle.bits.specs.Bits.{bits, field, value}
use Rattle.bits.proofs.Laws.{length-field, length-bits, joined-lt}
use Rattle.bits.proofs.Words.{parts}
use Rattle.reserve.specs.Reserve.{digits, reserve}
use Rattle.reserve.proofs.Exact.{digits-is, digits_le}
use Rattle.reserve.proofs.Fit.{fit_all}
use Rattle.tree.specs.Tree.{tree}
use Rattle.tree_write.specs.Code.Blank.{Blank}
use Rattle.tree.specs.Code.Node.{Lies}
use Rattle.tree.proofs.Windows.{half-left, half-right, half-sums, one-count, two-counts}
use Rattle.tree_write.proofs.Blank.{blank-value}
use Rattle.tree.proofs.TwoCounts.{reserve-pair}
use Rattle.tree_write.proofs.Writing.{in-blank, three}

-- the tree of two counts is one field
tree-pair : (ys : List ℕ) → tree 1 ys ≡ field (digits (sum ys)) (sum (take 1 ys))
unfolding tree fill
tree-pair ys =
    let F : List ℕ = field (digits (sum ys)) (sum (take 1 ys)) in
    let none : reserve 1 (sum ys) - length (F ++ []) ≡ 0 =
    omega (arith, reserve-pair (sum ys), length-append F [], length-field (digits (sum ys)) (sum (take 1 ys))) in
    ap (λ (k : ℕ). (F ++ []) ++ replicate k 0) none ∙ append-nil (F ++ []) ∙ append-nil F

pair_code : (cs : List ℕ) (i s a : ℕ) → s ≡ sum (window cs i 2) → a ≡ get_or cs i 0 → tree 1 (window cs i 2) ≡ field (digits s) a
pair_code cs i s a es ea =
    tree-pair (window cs i 2)
    ∙ ap₂ (λ (x y : ℕ). field (digits x) y) (sym es) (ap sum (half-left cs i 0) ∙ one-count cs i ∙ sym ea)

-- four counts from index from on, of which the first three are a, b and c, that are to be written at bit at
pub record Four (cs o : List ℕ) (at from s a b c : ℕ) : Type 0 where
  pub lies : Lies o at 2 s
  pub total : s ≡ sum (window cs from 4)
  pub blank : Blank (bits o) at (reserve 2 s)
  pub a-is : a ≡ get_or cs from 0
  pub b-is : b ≡ get_or cs (from + 1) 0
  pub c-is : c ≡ get_or cs (from + 2) 0

pub begin : {cs o : List ℕ} {at from s a b c : ℕ} → Lies o at 2 s → s ≡ sum (window cs from 4) → Blank (bits o) at (reserve 2 s) → a ≡ get_or cs from 0
    → b ≡ get_or cs (from + 1) 0 → c ≡ get_or cs (from + 2) 0 → Four cs o at from s a b c
begin y t z ea eb ec = record { lies = y; total = t; blank = z; a-is = ea; b-is = eb; c-is = ec }

-- their three fields, t, f and g bits wide: none is wider than the first, they lie in the bytes, and the left sum l, a and c fit them
pub record Fields (o : List ℕ) (at t f g l a c : ℕ) : Type 0 where
  pub narrow : (f ≤ t) × (g ≤ t) × (t ≤ 40)
  pub inside : at + (t + f + g) ≤ 8 * length o
  pub left-fits : l < 2 ^ t
  pub a-fits : a < 2 ^ f
  pub c-fits : c < 2 ^ g

module _ {cs o : List ℕ} {at from s a b c : ℕ} (q : Four cs o at from s a b c) where
  left-sum : a + b ≡ sum (window cs from 2)
  left-sum = omega (arith, q.a-is, q.b-is, two-counts cs from)

  pub left_le : a + b ≤ s
  left_le = omega (arith, q.total, left-sum, half-sums cs from 1)

  right-sum : s - (a + b) ≡ sum (window cs (from + 2) 2)
  right-sum = omega (arith, q.total, left-sum, half-sums cs from 1)

  right_le : c ≤ s - (a + b)
  right_le = omega (arith, right-sum, q.c-is, two-counts cs (from + 2))

  -- what is written is the tree if it is the three fields
  whole : (r : List ℕ) → r ≡ splice (bits o) at (field (digits s) (a + b) ++ (field (digits (a + b)) a ++ field (digits (s - (a + b))) c))
      → r ≡ splice (bits o) at (tree 2 (window cs from 4))
  whole r e =
      let L : tree 1 (take 2 (window cs from 4)) ≡ field (digits (a + b)) a = ap (tree 1) (half-left cs from 1)
      ∙ pair_code cs from (a + b) a left-sum q.a-is in
      let R : tree 1 (drop 2 (window cs from 4)) ≡ field (digits (s - (a + b))) c =
      ap (tree 1) (half-right cs from 1) ∙ pair_code cs (from + 2) (s - (a + b)) c right-sum q.c-is in
      in-blank 1 at s (a + b) (window cs from 4) (bits o) r q.total (left-sum ∙ ap sum (sym (half-left cs from 1)))
      (omega (arith, q.lies.inside, length-bits o)) q.blank
      (e ∙ ap₂ (λ (x y : List ℕ). splice (bits o) at (field (digits s) (a + b) ++ (x ++ y))) (sym L) (sym R))

  module _ (t f g : ℕ) (et : t ≡ digits s) (ef : f ≡ digits (a + b)) (eg : g ≡ digits (s - (a + b))) where
    owned : t + f + g ≤ reserve 2 s
    owned = omega (arith, fit_all 1 s (a + b) (s - (a + b)) (omega (arith, left_le)), reserve-pair (a + b), reserve-pair (s - (a + b)))

    inside : at + (t + f + g) ≤ 8 * length o
    inside = omega (arith, q.lies.inside, owned)

    left-fits : a + b < 2 ^ t
    left-fits = rw et (omega (arith, left_le, digits-is s))

    a-fits : a < 2 ^ f
    a-fits = rw ef (omega (arith, digits-is (a + b)))

    c-fits : c < 2 ^ g
    c-fits = rw eg (omega (arith, right_le, digits-is (s - (a + b))))

    -- no field is wider than the first
    narrow : (f ≤ t) × (g ≤ t) × (t ≤ 40)
    narrow = (
      omega (arith, digits_le (a + b) t left-fits),
      omega (arith, digits_le (s - (a + b)) t (rw et (omega (arith, digits-is s)))),
      omega (arith, digits_le s 40 q.lies.total),
    )

    pub fields : Fields o at t f g (a + b) a c
    fields = record { narrow = narrow; inside = inside; left-fits = left-fits; a-fits = a-fits; c-fits = c-fits }

    -- one behind the other
    pub in-turn : (o₁ o₂ o₃ : List ℕ) → bits o₁ ≡ splice (bits o) at (field t (a + b)) → bits o₂ ≡ splice (bits o₁) (at + t) (field f a)
        → bits o₃ ≡ splice (bits o₂) (at + t + f) (field g c) → bits o₃ ≡ splice (bits o) at (tree 2 (window cs from 4))
    in-turn o₁ o₂ o₃ e₁ e₂ e₃ =
        let lt = length-field t (a + b) in
        let lf = length-field f a in
        whole (bits o₃)
        (three (bits o) (bits o₁) (bits o₂) (bits o₃) (field t (a + b)) (field f a) (field g c) at (at + t) (at + t + f) e₁ e₂ e₃
        (omega (arith, lt)) (omega (arith, lt, lf)) (omega (arith, lt, lf, length-field g c, length-bits o, inside))
        ∙ rw (et, ef, eg))

    -- as one number: the left sum, and a and c behind it
    module _ (x v : ℕ) (ex : x ≡ (a + b) * 2 ^ f + a) (ev : v ≡ x * 2 ^ g + c) where
      front-lt : x < 2 ^ (t + f)
      front-lt = rw ex (joined-lt t f left-fits a-fits)

      pub number_fits : v < 2 ^ (t + f + g)
      number_fits = rw ev (joined-lt (t + f) g front-lt c-fits)

      pub empty-before : value (part (bits o) at (t + f + g)) ≡ 0
      empty-before = blank-value (bits o) at (reserve 2 s) (t + f + g) q.blank owned

      pub at_once : (r : List ℕ) → bits r ≡ splice (bits o) at (field (t + f + g) v) → bits r ≡ splice (bits o) at (tree 2 (window cs from 4))
      at_once r e =
          whole (bits r)
          (e ∙ ap (λ (z : ℕ). splice (bits o) at (field (t + f + g) z)) (ev ∙ ap (λ (z : ℕ). z * 2 ^ g + c) ex)
          ∙ ap (splice (bits o) at) (parts (t + f + g) t f g (a + b) a c (omega arith) a-fits c-fits)
          ∙ rw (et, ef, eg))

    -- shifted numbers fit a word where the sum has 19 digits at most
    module _ (few : t ≤ 19) where
      pub left-shift : (a + b) * 2 ^ f < 2 ^ 64
      left-shift = lt_of_lt_of_le (shl_lt t f left-fits) (pow_mono {i = t + f} {j = 64} (omega (arith, narrow)))

      pub front-shift : (x : ℕ) → x ≡ (a + b) * 2 ^ f + a → x * 2 ^ g < 2 ^ 64
      front-shift x ex = lt_of_lt_of_le (shl_lt (t + f) g (rw ex (joined-lt t f left-fits a-fits))) (pow_mono {i = t + f + g} {j = 64} (omega (arith, narrow)))
