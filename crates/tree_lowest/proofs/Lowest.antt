-- The lowest two levels of a tree, out of one number: the four counts' bits as the number v in r bits. Assumes nothing.
use mathlib.Core.Path.{◌≡◌, refl, sym, ap, ap₂, ◌∙◌}
use mathlib.Core.Bool.{Bool, true, false, ◌&&◌, and-true}
use mathlib.Core.List.{List, [], ◌∷◌}
use Prim.Native.Nat.{ℕ, zero, suc, ◌+◌, ◌-◌, ◌/◌, ◌%◌, ◌^◌, ◌≤◌, ◌<◌}
use native.Mathlib.Nat.{mod-eq_of_lt}
use native.Mathlib.Omega.{arith}
use Rattle.std.specs.Prelude.{None, Some}
use lib.ListN.{length, drop}
use lib.Seq.{take_all}
use lib.Dec.{leb, eqb}
use lib.Pow.{shr_lt}
use Rattle.std.proofs.lemmas.Bool.{eq-eqb, ne_eqb}
use borrow.Author.Tests.{le-leb, lt-leb}
use Rattle.lists.specs.Counts.{within}
use Rattle.lists.proofs.CountLaws.{within-append}
use Rattle.lists.specs.Lists.{every, same, part}
use Rattle.lists.proofs.Parts.{length_part}
use Rattle.bits.specs.Bits.{field, value, bits}
use Rattle.bits.proofs.Laws.{length-field, length-bits}
use Rattle.bits.proofs.Packing.{bits-bytes, bits-field, bits-take, bits-drop, value-piece, value-lt}
use Rattle.reserve.specs.Reserve.{digits, reserve}
use Rattle.reserve.proofs.Exact.{digits_le}
use Rattle.reserve.proofs.Fit.{fit_all, one-count}
use Rattle.tree.specs.Read.{counts, left_of, left_at, right_at}
use Rattle.tree.specs.Code.Exact.{clear, spare_at, spare_len, exact}
use Rattle.tree.proofs.Clearing.{clear-value}
use Rattle.tree.specs.Code.Node.{Lies}
use Rattle.tree.proofs.Exacts.{counts-local, field-part}
use Rattle.tree.proofs.TwoCounts.{reserve-pair}
use Rattle.tree.proofs.Local.{tests, exact-tests, exact-local}
use Rattle.tree_lowest.specs.Code.Four.{FourIn}
use Rattle.tree_lowest.specs.Code.Narrow.{narrow}
use Rattle.tree_lowest.specs.declared.four.Four.{Four}
use Rattle.tree_lowest.proofs.NarrowLaws.{narrow-is, narrow-not}

-- ---- two counts: their tree is one field
clear-nothing : (b : List ℕ) (a n : ℕ) → n ≡ 0 → clear b a n ≡ true
unfolding clear same
clear-nothing b a zero e = refl
clear-nothing b a (suc n) e = absurd (omega (arith, e))

pub exact-pair : (s : ℕ) (b : List ℕ) (a : ℕ) → exact 1 s b a ≡ leb (left_of s b a) s
unfolding exact every
exact-pair s b a =
    let l : ℕ = left_of s b a in
    let none : spare_len 0 s l ≡ 0 = omega (arith, reserve-pair s, one-count l, one-count (s - l)) in
    rw (clear-nothing b (spare_at 0 s l a) (spare_len 0 s l) none, and-true (leb l s))

-- ---- four counts: left sum l, the pairs' left counts x and y, and zeros
abbrev pub four_tests : ℕ → ℕ → ℕ → ℕ → ℕ → List Bool
four_tests s l x y z = leb l s ∷ leb x l ∷ leb y (s - l) ∷ eqb z 0 ∷ []

-- the counts of two and of four, by the left sums that are read
counts-pair : (s : ℕ) (b : List ℕ) (a x : ℕ) → left_of s b a ≡ x → counts 1 s b a ≡ x ∷ (s - x) ∷ []
unfolding counts
counts-pair s b a x e = rw e

counts-four : (s : ℕ) (b : List ℕ) (a l x y : ℕ) → left_of s b a ≡ l → left_of l b (left_at s a) ≡ x → left_of (s - l) b (right_at 1 s l a) ≡ y
    → counts 2 s b a ≡ x ∷ (l - x) ∷ y ∷ (s - l - y) ∷ []
unfolding counts
counts-four s b a l x y e f g = rw (e, f, g)

-- the bits behind each of the three fields
abbrev pub behind : ℕ → ℕ → ℕ
behind r s = r - digits s

module _ (s r v l : ℕ) (er : r ≡ reserve 2 s) (small : v < 2 ^ r) (el : l ≡ v / 2 ^ behind r s) where
  room : digits s ≤ r
  room = omega (arith, er, fit_all 1 s 0 s (omega arith))

  pub left-four : left_of s (field r v) 0 ≡ l
  unfolding left_of
  left-four =
      let e : r - (0 + digits s) ≡ r - digits s = omega arith in
      let w : v < 2 ^ (digits s + behind r s) = ap-lt (omega (arith, room)) in
      value-piece r v 0 (digits s) (omega (arith, room))
      ∙ ap (λ (k : ℕ). v / 2 ^ k % 2 ^ digits s) e
      ∙ mod-eq_of_lt (shr_lt (digits s) (behind r s) w)
      ∙ sym el
    where
      ap-lt : {k : ℕ} → r ≡ k → v < 2 ^ k
      ap-lt e = rw (sym e) small

  module _ (le : l ≤ s) where
    fits : digits s + digits l + digits (s - l) ≤ r
    fits = omega (arith, er, fit_all 1 s l (s - l) (omega arith), reserve-pair l, reserve-pair (s - l))

    -- the left pair's left count
    abbrev pub left_count : ℕ
    left_count = v / 2 ^ (behind r s - digits l) % 2 ^ digits l

    abbrev pub right_count : ℕ
    right_count = v / 2 ^ (behind r s - digits l - digits (s - l)) % 2 ^ digits (s - l)

    abbrev pub rest : ℕ
    rest = v % 2 ^ (behind r s - digits l - digits (s - l))

    left-count : left_of l (field r v) (left_at s 0) ≡ left_count
    unfolding left_of
    left-count =
        let e : r - (0 + digits s + digits l) ≡ r - digits s - digits l = omega arith in
        value-piece r v (0 + digits s) (digits l) (omega (arith, fits)) ∙ ap (λ (k : ℕ). v / 2 ^ k % 2 ^ digits l) e

    right-count : left_of (s - l) (field r v) (right_at 1 s l 0) ≡ right_count
    unfolding left_of
    right-count =
        let e : r - (0 + digits s + reserve 1 l + digits (s - l)) ≡ r - digits s - digits l - digits (s - l) = omega (arith, reserve-pair l) in
        value-piece r v (0 + digits s + reserve 1 l) (digits (s - l)) (omega (arith, fits, reserve-pair l)) ∙ ap (λ (k : ℕ). v / 2 ^ k % 2 ^ digits (s - l)) e

    pub counts-are : counts 2 s (field r v) 0 ≡ left_count ∷ (l - left_count) ∷ right_count ∷ (s - l - right_count) ∷ []
    counts-are = counts-four s (field r v) 0 l left_count right_count left-four left-count right-count

    left-pair : exact 1 l (field r v) (left_at s 0) ≡ leb left_count l
    left-pair = exact-pair l (field r v) (left_at s 0) ∙ ap (λ (z : ℕ). leb z l) left-count

    right-pair : exact 1 (s - l) (field r v) (right_at 1 s l 0) ≡ leb right_count (s - l)
    right-pair = exact-pair (s - l) (field r v) (right_at 1 s l 0) ∙ ap (λ (z : ℕ). leb z (s - l)) right-count

    spare-four : clear (field r v) (spare_at 1 s l 0) (spare_len 1 s l) ≡ eqb rest 0
    spare-four =
        let n : ℕ = r - digits s - digits l - digits (s - l) in
        let a : spare_at 1 s l 0 ≡ r - n = omega (arith, fits, reserve-pair l, reserve-pair (s - l)) in
        let k : spare_len 1 s l ≡ n = omega (arith, er, fits, reserve-pair l, reserve-pair (s - l)) in
        let z : r - (r - n + n) ≡ 0 = omega arith in
        ap₂ (clear (field r v)) a k
        ∙ clear-value (field r v) (r - n) n (bits-field r v) (omega (arith, length-field r v))
        ∙ ap (λ (x : ℕ). eqb x 0) (value-piece r v (r - n) n (omega arith) ∙ ap (λ (y : ℕ). v / 2 ^ y % 2 ^ n) z ∙ ap (λ (y : ℕ). y % 2 ^ n) (whole v))
      where
        whole : (x : ℕ) → x / 2 ^ 0 ≡ x
        whole x = omega arith

    pub four_is : exact 2 s (field r v) 0 ≡ every (four_tests s l left_count right_count rest)
    unfolding tests every
    four_is =
        exact-tests 1 s (field r v) 0 ∙ ap (λ (z : ℕ). tests 1 s z (field r v) 0) left-four
        ∙ rw (left-pair, right-pair, spare-four)

  pub four-above : s < l → exact 2 s (field r v) 0 ≡ false
  unfolding tests every
  four-above k = exact-tests 1 s (field r v) 0 ∙ ap (λ (z : ℕ). tests 1 s z (field r v) 0) left-four ∙ rw (lt-leb l s k)

-- ---- the same in the code's own numbers: the digits t, f and g of s, l and s - l, and the counts x and y of the pairs
pub record Quad (s r v t l : ℕ) : Type 0 where
  pub reserved : r ≡ reserve 2 s
  pub few : r ≤ 57
  pub small : v < 2 ^ r
  pub total : s < 1099511627776
  pub top : t ≡ digits s
  pub left : l ≡ v / 2 ^ (r - t)

pub quad : {s r v t : ℕ} → (r ≡ reserve 2 s) × (r ≤ 57) × (v < 2 ^ r) × (s < 1099511627776) → t ≡ digits s → Quad s r v t (v / 2 ^ (r - t))
quad p e = record { reserved = p.0; few = p.1; small = p.2; total = p.3; top = e; left = refl }

pub high_fits : (s r t : ℕ) → r ≡ reserve 2 s → t ≡ digits s → t ≤ r
high_fits s r t er et = omega (arith, er, et, fit_all 1 s 0 s (omega arith))

module _ {s r v t l : ℕ} (q : Quad s r v t l) where
  left_is : l ≡ v / 2 ^ behind r s
  left_is = q.left ∙ ap (λ (k : ℕ). v / 2 ^ (r - k)) q.top

  pub quad-above : (l ≤ s → ⊥) → FourIn s (field r v) None
  quad-above k = four-above s r v l q.reserved q.small left_is (omega (arith, k))

  -- the right pair has sum d; its left pair's and its own right counts are u and w
  module _ {d : ℕ} (o : (l ≤ s) × (d ≡ s - l)) (f g : ℕ) (ef : f ≡ digits l) (right : g ≡ digits d) where
    le : l ≤ s
    le = o.0

    eg : g ≡ digits (s - l)
    eg = right ∙ ap digits o.1

    pub widths : (t + f + g ≤ r) × (f < 64) × (g < 64)
    widths = (
      omega (arith, q.top, ef, eg, fits s r v l q.reserved q.small left_is le),
      omega (arith, digits_le l 40 (omega (arith, q.total, o.0))),
      omega (arith, eg, digits_le (s - l) 40 (omega (arith, q.total))),
    )

    tested : (x y z : ℕ) → x ≡ v / 2 ^ (r - t - f) % 2 ^ f → y ≡ v / 2 ^ (r - t - f - g) % 2 ^ g → z ≡ v % 2 ^ (r - t - f - g)
        → exact 2 s (field r v) 0 ≡ every (four_tests s l x y z)
    tested x y z ex ey ez =
        four_is s r v l q.reserved q.small left_is le
        ∙ sym (rw (ex, ey, ez, q.top, ef, eg))

    pub quad-left : (x : ℕ) → x ≡ v / 2 ^ (r - t - f) % 2 ^ f → (x ≤ l → ⊥) → FourIn s (field r v) None
    unfolding every
    quad-left x ex k = tested x _ _ ex refl refl ∙ rw (le-leb l s le, lt-leb x l (omega (arith, k)))

    module _ {u : ℕ} (x y : ℕ) (ex : x ≡ v / 2 ^ (r - t - f) % 2 ^ f) (kx : (x ≤ l) × (u ≡ l - x)) (ey : y ≡ v / 2 ^ (r - t - f - g) % 2 ^ g) where
      pub quad-right : (y ≤ d → ⊥) → FourIn s (field r v) None
      unfolding every
      quad-right k = tested x y _ ex ey refl ∙ rw (le-leb l s le, le-leb x l kx.0, lt-leb y (s - l) (omega (arith, o.1, k)))

      module _ {w : ℕ} (z : ℕ) (ky : (y ≤ d) × (w ≡ d - y)) (ez : z ≡ v % 2 ^ (r - t - f - g)) where
        last : exact 2 s (field r v) 0 ≡ eqb z 0
        unfolding every
        last =
            tested x y z ex ey ez
            ∙ rw (le-leb l s le, le-leb x l kx.0, le-leb y (s - l) (omega (arith, o.1, ky.0)), and-true (eqb z 0))

        pub quad-spare : (z ≡ 0 → ⊥) → FourIn s (field r v) None
        quad-spare n = last ∙ ne_eqb z 0 n

        pub quad-last : z ≡ 0 → FourIn s (field r v) (Some (record { first = x; second = u; third = y; fourth = w }))
        quad-last e =
            record {
              is_exact = last ∙ eq-eqb z 0 e;
              counts-are = counts-are s r v l q.reserved q.small left_is le ∙ sym (rw (ky.1, kx.1, o.1, ex, ey, q.top, ef, eg));
            }

-- ---- the number in a tree's own bits
module _ (b : List ℕ) (a h s r v : ℕ) (y : Lies b a h s) (er : r ≡ reserve h s) (ev : v ≡ value (part (bits b) a r)) where
  inside : a + r ≤ length (bits b)
  inside = omega (arith, er, y.inside, length-bits b)

  pub own-lt : v < 2 ^ r
  own-lt =
      let w = value-lt (part (bits b) a r) 0 (bits-take r (drop a (bits b)) (bits-drop a (bits b) (bits-bytes b))) in
      let n : 2 ^ length (part (bits b) a r) ≡ 2 ^ r = ap (λ (k : ℕ). 2 ^ k) (length_part (bits b) a r inside) in
      omega (arith, ev)

  own_pair : h ≡ 1 → leb v s ≡ exact h s (bits b) a
  unfolding left_of
  own_pair e =
      let w : reserve h s ≡ digits s = ap (λ (k : ℕ). reserve k s) e ∙ reserve-pair s in
      ap (λ (z : ℕ). leb z s) (ev ∙ ap (λ (k : ℕ). value (part (bits b) a k)) (er ∙ w))
      ∙ sym (ap (λ (k : ℕ). exact k s (bits b) a) e ∙ exact-pair s (bits b) a)

  -- the number's bits are the tree's
  own_bits : h ≡ 2 → part (bits b) a (reserve 2 s) ≡ part (field r v) 0 (reserve 2 s)
  own_bits e =
      let w : r ≡ reserve 2 s = er ∙ ap (λ (k : ℕ). reserve k s) e in
      let g : part (bits b) a r ≡ field r v = field-part (bits b) a r (bits-bytes b) inside ∙ ap (field r) (sym ev) in
      let f : part (field r v) 0 r ≡ part (bits b) a r = take_all r (field r v) (omega (arith, length-field r v)) ∙ sym g in
      sym (ap (part (field r v) 0) (sym w) ∙ f ∙ ap (part (bits b) a) w)

  pub own-four : h ≡ 2 → exact 2 s (field r v) 0 ≡ exact h s (bits b) a
  own-four e = exact-local 2 s (field r v) (bits b) 0 a (sym (own_bits e)) ∙ ap (λ (k : ℕ). exact k s (bits b) a) (sym e)

  -- ---- with a limit w for the counts
  module _ (w : ℕ) where
    pub own-pair-not : h ≡ 1 → s < v → false ≡ narrow w h s (bits b) a
    own-pair-not e k = sym (narrow-not w h s (bits b) a (sym (own_pair e) ∙ lt-leb v s k))

    pub own-pair-within : h ≡ 1 → v ≤ s → within w (v ∷ (s - v) ∷ []) ≡ narrow w h s (bits b) a
    unfolding left_of
    own-pair-within e k =
        let d : reserve h s ≡ digits s = ap (λ (z : ℕ). reserve z s) e ∙ reserve-pair s in
        let l : left_of s (bits b) a ≡ v = sym (ev ∙ ap (λ (z : ℕ). value (part (bits b) a z)) (er ∙ d)) in
        let c : counts h s (bits b) a ≡ v ∷ (s - v) ∷ [] = ap (λ (z : ℕ). counts z s (bits b) a) e ∙ counts-pair s (bits b) a v l in
        sym (narrow-is w h s (bits b) a (sym (own_pair e) ∙ le-leb v s k) ∙ ap (within w) c)

    pub own-four-not : h ≡ 2 → FourIn s (field r v) None → false ≡ narrow w h s (bits b) a
    own-four-not e i = sym (narrow-not w h s (bits b) a (sym (own-four e) ∙ i))

    pub own-four-within : h ≡ 2 → (f : Four) → FourIn s (field r v) (Some f)
        → (within w (f.first ∷ f.second ∷ []) && within w (f.third ∷ f.fourth ∷ [])) ≡ narrow w h s (bits b) a
    own-four-within e f i =
        let n : exact h s (bits b) a ≡ true = sym (own-four e) ∙ i.is_exact in
        let x : exact 2 s (bits b) a ≡ true = ap (λ (k : ℕ). exact k s (bits b) a) (sym e) ∙ n in
        let room : a + reserve 2 s ≤ length (bits b) = omega (arith, inside, er, ap (λ (k : ℕ). reserve k s) e) in
        let c : counts h s (bits b) a ≡ f.first ∷ f.second ∷ f.third ∷ f.fourth ∷ [] =
        ap (λ (k : ℕ). counts k s (bits b) a) e ∙ sym (counts-local 2 s (bits b) (field r v) a 0 (bits-bytes b) room (own_bits e) x) ∙ i.counts-are in
        sym (narrow-is w h s (bits b) a n ∙ ap (within w) c ∙ within-append w (f.first ∷ f.second ∷ []) (f.third ∷ f.fourth ∷ []))
