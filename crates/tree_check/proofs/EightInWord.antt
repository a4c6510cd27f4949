-- The check of eight counts whose bits are in one word, as the code takes it. Assumes nothing.
use mathlib.Core.Path.{◌≡◌, refl, sym, ap, ◌∙◌}
use mathlib.Core.Bool.{true, false}
use mathlib.Core.List.{List}
use Prim.Native.Nat.{ℕ, ◌+◌, ◌-◌, ◌/◌, ◌%◌, ◌^◌, ◌≤◌, ◌<◌}
use native.Mathlib.Omega.{arith}
use lib.Dec.{eqb}
use lib.ListN.{length}
use borrow.Author.Tests.{eq-eqb, ne_eqb}
use Rattle.lists.specs.Lists.{part}
use Rattle.bits.specs.Bits.{bits, field, value}
use Rattle.bits.proofs.Laws.{length-bits}
use Rattle.bits.proofs.Packing.{bits-bytes}
use Rattle.bits_field.specs.Code.Front.{Front}
use Rattle.reserve.specs.Reserve.{digits, reserve}
use Rattle.tree.specs.Read.{left_of}
use Rattle.tree.specs.Code.Exact.{clear, exact}
use Rattle.tree.specs.Code.InWord.{InWord, eight_limit}
use Rattle.tree.specs.Code.Node.{Lies}
use Rattle.tree.specs.declared.node.Split.{Split}
use Rattle.tree.proofs.Clearing.{clear-value}
use Rattle.tree.proofs.OneWord.{eight_fits, few-digits, four-fits, loaded}
use Rattle.tree.proofs.Rooting.{Inner, front-sum, left-lies, right-lies, spare-le}
use Rattle.tree_lowest.proofs.Lowest.{own-four, own-lt}
use Rattle.tree_check.proofs.CheckSteps.{exact-bad, exact-last, exact-left-not, exact-spare-not, node, split_at}

-- the word, and the left sum l read from it, whose place has t digits
pub record Eight (b : List ℕ) (a s r w t l : ℕ) : Type 0 where
  pub lies : Lies b a 3 s
  pub reserved : r ≡ reserve 3 s
  pub few : s < eight_limit
  pub word : Front (bits b) a w
  pub top : t ≡ digits s
  pub left : l ≡ w / 2 ^ (64 - (0 + t)) % 2 ^ t

pub eight : {b : List ℕ} {a s r w t l : ℕ} → Lies b a 3 s × (r ≡ reserve 3 s) × (s < eight_limit) → Front (bits b) a w → t ≡ digits s
    → l ≡ w / 2 ^ (64 - (0 + t)) % 2 ^ t → Eight b a s r w t l
eight p f et el = record { lies = p.0; reserved = p.1; few = p.2; word = f; top = et; left = el }

module _ {b : List ℕ} {a s r w t l : ℕ} (y : Eight b a s r w t l) where
  in-word : InWord (bits b) a 3 s w 0
  in-word = loaded y.lies (eight_fits s y.few) y.word

  left_is : l ≡ left_of s (bits b) a
  left_is = front-sum b a 2 s w t l y.lies y.word y.top y.left

  -- four of them own no more bits than a word has
  pub own-small : l ≤ s → (o : ℕ) → o ≡ reserve 2 l → o ≤ 57
  own-small le o eo = omega (arith, eo, four-fits l (few-digits {s = s} (omega (arith, y.few)) l le))

  pub eight-above : s < l → false ≡ exact 3 s (bits b) a
  eight-above k = exact-bad 3 s (bits b) a (λ e. omega (arith, e)) left_is k

  -- both halves' reserves are known
  module _ (le : l ≤ s) (o p : ℕ) (eo : o ≡ reserve 2 l) (ep : p ≡ reserve 2 (s - l)) where
    abbrev n : Split
    n = node a t l o

    inner : Inner (bits b) a 3 s n
    inner = split_at 3 s (bits b) a (omega arith) t l o y.top left_is le eo

    pub eight-room : (t + o + p ≤ r) × (r ≤ 57)
    eight-room = (omega (arith, ep, y.reserved, spare-le y.lies inner), omega (arith, y.reserved, eight_fits s y.few))

    -- bits of the word are bits of the tree
    piece : (i m v : ℕ) → i + m ≤ r → v ≡ w / 2 ^ (64 - (i + m)) % 2 ^ m → v ≡ value (part (bits b) (a + i) m)
    piece i m v k e =
        let z : i + m ≡ 0 + i + m = omega arith in
        e ∙ ap (λ (x : ℕ). w / 2 ^ (64 - x) % 2 ^ m) z ∙ sym (in-word.piece i m (omega (arith, y.reserved)))

    module _ (v : ℕ) (ev : v ≡ w / 2 ^ (64 - (t + o)) % 2 ^ o) where
      left-number : v ≡ value (part (bits b) (a + t) o)
      left-number = piece t o v (omega (arith, eight-room)) ev

      pub left_lt : v < 2 ^ o
      left_lt = own-lt b (a + t) 2 l o v (left-lies y.lies inner) eo left-number

      pub left-four : exact 2 l (field o v) 0 ≡ exact 2 l (bits b) (a + t)
      left-four = own-four b (a + t) 2 l o v (left-lies y.lies inner) eo left-number refl

      pub eight-left-not : exact 2 l (field o v) 0 ≡ false → false ≡ exact 3 s (bits b) a
      eight-left-not f = exact-left-not inner (sym left-four ∙ f)

    module _ (v : ℕ) (ev : v ≡ w / 2 ^ (64 - (t + o + p)) % 2 ^ p) where
      right-number : v ≡ value (part (bits b) (a + t + o) p)
      right-number =
          let e : a + (t + o) ≡ a + t + o = omega arith in
          piece (t + o) p v (omega (arith, eight-room)) ev ∙ ap (λ (z : ℕ). value (part (bits b) z p)) e

      pub right_lt : v < 2 ^ p
      right_lt = own-lt b (a + t + o) 2 (s - l) p v (right-lies y.lies inner) ep right-number

      pub right-four : exact 2 (s - l) (field p v) 0 ≡ exact 2 (s - l) (bits b) (a + t + o)
      right-four = own-four b (a + t + o) 2 (s - l) p v (right-lies y.lies inner) ep right-number refl

    -- the bits left over
    module _ (m v : ℕ) (em : m ≡ r - (t + o + p)) (ev : v ≡ w / 2 ^ (64 - (t + o + p + m)) % 2 ^ m) where
      spare-is : clear (bits b) (a + t + o + p) (a + r - (a + t + o + p)) ≡ eqb v 0
      spare-is =
          let e : a + (t + o + p) ≡ a + t + o + p = omega arith in
          let f : a + r - (a + t + o + p) ≡ m = omega (arith, eight-room) in
          let i : a + t + o + p + m ≤ length (bits b) = omega (arith, eight-room, y.reserved, y.lies.inside, length-bits b) in
          ap (clear (bits b) (a + t + o + p)) f ∙ clear-value (bits b) (a + t + o + p) m (bits-bytes b) i
          ∙ ap (λ (z : ℕ). eqb z 0)
          (sym (piece (t + o + p) m v (omega (arith, eight-room)) ev ∙ ap (λ (z : ℕ). value (part (bits b) z m)) e))

      pub eight-spare-not : (v ≡ 0 → ⊥) → false ≡ exact 3 s (bits b) a
      eight-spare-not f = exact-spare-not inner ep y.reserved (spare-is ∙ ne_eqb v 0 f)

      -- what the right four decide
      pub eight-last : v ≡ 0 → (x z : ℕ) → x ≡ w / 2 ^ (64 - (t + o)) % 2 ^ o → exact 2 l (field o x) 0 ≡ true
          → z ≡ w / 2 ^ (64 - (t + o + p)) % 2 ^ p → exact 2 (s - l) (field p z) 0 ≡ exact 3 s (bits b) a
      eight-last f x z ex g ez =
          right-four z ez ∙ exact-last inner ep y.reserved (spare-is ∙ eq-eqb v 0 f) (sym (left-four x ex) ∙ g)
