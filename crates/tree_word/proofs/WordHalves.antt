-- Both halves, 2^h counts each, of a tree whose bits are all in the word w. Assumes nothing.
use mathlib.Core.Path.{◌≡◌, refl, sym, ap, ap₂, ◌∙◌, subst}
use mathlib.Core.Bool.{true}
use mathlib.Core.List.{List, ◌++◌}
use Prim.Native.Nat.{ℕ, suc, ◌+◌, ◌-◌, ◌*◌, ◌/◌, ◌%◌, ◌^◌, ◌≤◌}
use native.Mathlib.Omega.{arith}
use lib.ListN.{length}
use borrow.Author.Tests.{leb-true}
use Rattle.lists.specs.Lists.{splice}
use Rattle.bits.specs.Bits.{field}
use Rattle.reserve.specs.Reserve.{digits, reserve}
use Rattle.reserve.proofs.Fit.{fit_all, grows}
use Rattle.tree.specs.Read.{left_of, left_at, right_at, counts}
use Rattle.tree.specs.Code.Exact.{exact}
use Rattle.tree_word.proofs.Decoding.{BothExact, both-exact, counts-node, halves-written}
use Rattle.tree_word.proofs.WordBits.{HighEnd, raised, word-exact, word_counts, left-at}

-- as the code works them out: the left sum l, by the digits t of s
pub record Top (h s w t l : ℕ) : Type 0 where
  pub code : exact (suc h) s (field 64 w) 0 ≡ true
  pub whole : reserve (suc h) s ≤ 57
  pub digits_are : t ≡ digits s
  pub left : l ≡ w / 2 ^ (64 - (0 + t)) % 2 ^ t

pub top : {h s w t l : ℕ} → exact (suc h) s (field 64 w) 0 ≡ true → reserve (suc h) s ≤ 57 → t ≡ digits s → l ≡ w / 2 ^ (64 - (0 + t)) % 2 ^ t → Top h s w t l
top x r et el = record { code = x; whole = r; digits_are = et; left = el }

pub top-of : {H h s w t l : ℕ} → H ≡ h + 1 → exact H s (field 64 w) 0 ≡ true → reserve H s ≤ 57 → t ≡ digits s → l ≡ w / 2 ^ (64 - (0 + t)) % 2 ^ t
    → Top h s w t l
top-of {H} {h} {s} {w} e x r =
    let up : suc h ≡ H = omega (arith, e) in
    top (ap (λ (k : ℕ). exact k s (field 64 w) 0) up ∙ x) (rw up r)

module _ {h s w t l : ℕ} (q : Top h s w t l) where
  pub short : t ≤ 57
  short = omega (arith, q.digits_are, q.whole, fit_all h s 0 s (omega arith))

  left_is : left_of s (field 64 w) 0 ≡ l
  left_is = left-at s w 0 0 t l refl q.digits_are (omega (arith, short)) q.left

  both : BothExact h s (field 64 w) 0 l
  both = subst (BothExact h s (field 64 w) 0) left_is (both-exact h s (field 64 w) 0 q.code)

  pub left_le : l ≤ s
  left_le = leb-true l s both.le

  pub room : t + reserve h l + reserve h (s - l) ≤ 57
  room = omega (arith, q.digits_are, q.whole, left_le, fit_all h s l (s - l) (omega (arith, left_le)))

  -- behind the left sum there is room for the reserve y of any sum x within s
  pub behind : (x y : ℕ) → y ≡ reserve h x → x ≤ s → t + y ≤ 57
  behind x y e k = omega (arith, q.digits_are, q.whole, grows h x s k, fit_all h s s 0 (omega arith))

  -- the word's bits behind the left sum, and those behind the left half, whose reserve is x
  left-held : HighEnd (field 64 w) (left_at s 0) h l ((w * 2 ^ t) % 2 ^ 64)
  left-held = raised w (left_at s 0) h l t (omega (arith, q.digits_are)) (omega (arith, room))

  pub left-exact : exact h l (field 64 ((w * 2 ^ t) % 2 ^ 64)) 0 ≡ true
  left-exact = word-exact left-held both.left

  module _ (x : ℕ) (ex : x ≡ reserve h l) where
    right-held : HighEnd (field 64 w) (right_at h s l 0) h (s - l) ((w * 2 ^ (t + x)) % 2 ^ 64)
    right-held = raised w (right_at h s l 0) h (s - l) (t + x) (omega (arith, q.digits_are, ex)) (omega (arith, ex, room))

    pub right-exact : exact h (s - l) (field 64 ((w * 2 ^ (t + x)) % 2 ^ 64)) 0 ≡ true
    right-exact = word-exact right-held both.right

    pub word-halves : counts (suc h) s (field 64 w) 0
        ≡ counts h l (field 64 ((w * 2 ^ t) % 2 ^ 64)) 0 ++ counts h (s - l) (field 64 ((w * 2 ^ (t + x)) % 2 ^ 64)) 0
    word-halves = counts-node h s l (field 64 w) 0 left_is ∙ ap₂ ◌++◌ (sym (word_counts left-held both.left)) (sym (word_counts right-held both.right))

    pub word-written : (o m r : List ℕ) (i half : ℕ) → half ≡ 2 ^ h → i + 2 ^ suc h ≤ length o
        → m ≡ splice o i (counts h l (field 64 ((w * 2 ^ t) % 2 ^ 64)) 0)
        → r ≡ splice m (i + half) (counts h (s - l) (field 64 ((w * 2 ^ (t + x)) % 2 ^ 64)) 0) → r ≡ splice o i (counts (suc h) s (field 64 w) 0)
    word-written o m r i half eh fits em er =
        halves-written h s l (field 64 w) 0 left_is o m r i half eh fits (em ∙ ap (splice o i) (word_counts left-held both.left))
        (er ∙ ap (splice m (i + half)) (word_counts right-held both.right))
