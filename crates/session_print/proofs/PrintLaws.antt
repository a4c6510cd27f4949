-- Texts put into a buffer, one behind another. Assumes nothing.
use mathlib.Core.Path.{◌≡◌, sym, ap, ◌∙◌}
use mathlib.Core.List.{List, [], ◌∷◌, ◌++◌, append_assoc}
use Prim.Native.Nat.{ℕ, ◌+◌, ◌≤◌}
use native.Mathlib.Omega.{arith}
use lib.ListN.{length, take, drop, length-append}
use lib.Seq.{take_at, length-take-le}
use Rattle.lists.specs.Lists.{splice}
use Rattle.session.specs.Ascii.{bytes}
use Rattle.session_print.specs.Printed.{decimal, printed, Prints}
use Rattle.session_print.specs.declared.Reply.{Reply}
use Rattle.session_print.specs.declared.Reply.TheVariants.{Number, Done, Refused, Unknown}
use Rattle.session_print.proofs.DecimalLaws.{decimal-length}
use Rattle.lists.proofs.Parts.{splice-then}

-- a number's line, from the digits that stand in a buffer of their own
pub number_put : (out : List ℕ) (at n : ℕ) (text mid fin : List ℕ) (end r : ℕ) → at + 21 ≤ length out → text ≡ decimal n
    → mid ≡ splice out at text → end ≡ at + length text → fin ≡ splice mid end (10 ∷ []) → r ≡ end + 1
    → (r ≡ at + length (decimal n ++ (10 ∷ []))) × (fin ≡ splice out at (decimal n ++ (10 ∷ [])))
number_put out at n text mid fin end r h e p q f g = (
  omega (arith, length-append (decimal n) (10 ∷ []), ap length e, g, q),
  splice-then out mid fin text (10 ∷ []) at end p f q (omega (arith, ap length e, decimal-length 20 n))
      ∙ ap (λ (z : List ℕ). splice out at (z ++ (10 ∷ []))) e,
)

-- a word in front of a number's line
pub refused-put : (out : List ℕ) (at k : ℕ) (mid fin : List ℕ) (end r : ℕ) → at + 32 ≤ length out → mid ≡ splice out at (bytes "refused ")
    → end ≡ at + 8 → fin ≡ splice mid end (decimal k ++ (10 ∷ [])) → r ≡ end + length (decimal k ++ (10 ∷ []))
    → (r ≡ at + length (bytes "refused " ++ (decimal k ++ (10 ∷ [])))) × (fin ≡ splice out at (bytes "refused " ++ (decimal k ++ (10 ∷ []))))
refused-put out at k mid fin end r h p q f g =
    let w = length-append (bytes "refused ") (decimal k ++ (10 ∷ [])) in
    let l = length-append (decimal k) (10 ∷ []) in (
      omega (arith, w, g, q),
      splice-then out mid fin (bytes "refused ") (decimal k ++ (10 ∷ [])) at end p f q (omega (arith, l, decimal-length 20 k)),
    )

-- no reply's line is longer
pub printed-length : (reply : Reply) → length (printed reply) ≤ 32
unfolding printed
printed-length (Number n) = rw length-append (omega (arith, decimal-length 20 n))
printed-length Done = omega arith
printed-length (Refused k) =
    omega (arith, length-append (bytes "refused ") (decimal k ++ (10 ∷ [])), length-append (decimal k) (10 ∷ []), decimal-length 20 k)
printed-length Unknown = omega arith

-- a reply's line is this text
pub prints : {reply : Reply} {text out fin : List ℕ} {at r : ℕ} → printed reply ≡ text → (r ≡ at + length text) × (fin ≡ splice out at text)
    → Prints reply out at r fin
prints {reply} {text} {out} {fin} {at} {r} e w = record {
  end = w.0 ∙ ap (λ (z : List ℕ). at + length z) (sym e);
  bytes = w.1 ∙ ap (splice out at) (sym e);
}

-- and stands behind what stood there
pub printed-behind : {reply : Reply} {out fin : List ℕ} {at r : ℕ} → at + 32 ≤ length out → Prints reply out at r fin
    → take r fin ≡ take at out ++ printed reply
unfolding splice
printed-behind {reply} {out} {fin} {at} {r} h w =
    let rest = drop (at + length (printed reply)) out in
    ap (take r) (w.bytes ∙ sym (append_assoc (take at out) (printed reply) rest))
    ∙ take_at (take at out ++ printed reply) rest r
    (length-append (take at out) (printed reply) ∙ ap (λ (k : ℕ). k + length (printed reply)) (length-take-le at out (omega arith)) ∙ sym w.end)
