-- Lines gathered byte by byte into a buffer. Assumes nothing.
use mathlib.Core.Path.{◌≡◌, refl, sym, ap, ap₂, ◌∙◌}
use mathlib.Core.List.{List, [], ◌∷◌, ◌++◌, map, append_assoc, append-nil}
use Prim.Native.Nat.{ℕ, zero, suc, ◌+◌, ◌≤◌, ◌<◌, min}
use native.Mathlib.Nat.{not-suc-le-zero}
use native.Mathlib.Numerals.{add-one}
use native.Mathlib.Omega.{arith}
use native.Mathlib.Decide.{ℕ_discrete, dec_le}
use lib.ListN.{length, take, set, length-append, length-take}
use lib.Seq.{take-nil, take-suc-set, take_all, take-take, take-append-le}
use borrow.Author.Tests.{eq-eqb, ne_eqb}
use Rattle.std.specs.Prelude.{Option}
use Rattle.lists.specs.Lists.{pick}
use Rattle.lists.proofs.Parts.{take-smaller}
use Rattle.session.specs.Line.{split_on, on_first, command}
use Rattle.session_input.specs.Lines.{closed, lines, holds, completes, ends, gathered, Gathers}
use Rattle.session.specs.declared.line.Command.{Command}
use Rattle.session_input.specs.declared.Gathered.TheVariants.{More, Whole}
use Rattle.session.proofs.SplitLaws.{split-cut, split-more, Parts, parts}
use Rattle.session.proofs.LineLaws.{command-long}

-- a cut line asks what the whole line asks
command-cut : (room : ℕ) (l : List ℕ) → 40 < room → command (take room l) ≡ command l
command-cut room l h = go (dec_le (length l) room)
  where
    go : Dec (length l ≤ room) → command (take room l) ≡ command l
    go (yes e) = ap command (take_all room l e)
    go (no e) = command-long (take room l) (omega (arith, length-take room l)) ∙ sym (command-long l (omega arith))

-- what the room held before one more byte is all that matters
take_snoc : (room : ℕ) (l : List ℕ) (b : ℕ) → take room (take room l ++ b ∷ []) ≡ take room (l ++ b ∷ [])
take_snoc room l b = go (dec_le (length l) room)
  where
    go : Dec (length l ≤ room) → take room (take room l ++ b ∷ []) ≡ take room (l ++ b ∷ [])
    go (yes e) = ap (λ (z : List ℕ). take room (z ++ b ∷ [])) (take_all room l e)
    go (no e) =
        take-append-le room (take room l) (b ∷ []) (omega (arith, length-take room l)) ∙ take-take room room l (omega arith)
        ∙ sym (take-append-le room l (b ∷ []) (omega arith))

module _ (held : List ℕ) (b : ℕ) where
  pub holds-end : (room : ℕ) → b ≡ 10 → holds room held b ≡ []
  unfolding holds pick
  holds-end room e = rw (eq-eqb b 10 e)

  pub holds_more : (room : ℕ) → (b ≡ 10 → ⊥) → holds room held b ≡ take room (held ++ b ∷ [])
  unfolding holds pick
  holds_more room h = rw (ne_eqb b 10 h)

  pub completes-end : b ≡ 10 → completes held b ≡ command held ∷ []
  unfolding completes pick
  completes-end e = rw (eq-eqb b 10 e)

  pub completes-none : (b ≡ 10 → ⊥) → completes held b ≡ []
  unfolding completes pick
  completes-none h = rw (ne_eqb b 10 h)

-- bytes in front of the first part
unfoldable before : List ℕ → List (List ℕ) → List (List ℕ)
before l [] = l ∷ []
before l (p ∷ ps) = (l ++ p) ∷ ps

-- the input's end, with the line l begun
end_of : (room : ℕ) (l : List ℕ) → 40 < room → ends (take room l) ≡ map command (closed (l ∷ []))
unfolding ends closed
end_of zero l h = absurd (not-suc-le-zero h)
end_of (suc room) [] h = refl
end_of (suc room) (b ∷ l) h = ap (λ (c : Option Command). c ∷ []) (command-cut (suc room) (b ∷ l) h)

-- one byte more, with the line l begun: the parts of what follows are p and ps
module _ (room : ℕ) (h : 40 < room) (l p : List ℕ) (ps : List (List ℕ)) (b : ℕ) (input : List ℕ) (cut : split_on 10 input ≡ p ∷ ps) where
  at-end : b ≡ 10 → gathered room [] input ≡ map command (closed (p ∷ ps))
      → completes (take room l) b ++ gathered room (holds room (take room l) b) input ≡ map command (closed (before l (split_on 10 (b ∷ input))))
  unfolding before closed
  at-end e ih =
      rw (completes-end (take room l) b e, holds-end (take room l) b room e, split-cut 10 b input e, cut, append-nil)
      (ap₂ (λ (c : Option Command) (cs : List (Option Command)). c ∷ cs) (command-cut room l h) ih)

  at_more : (b ≡ 10 → ⊥) → gathered room (take room (l ++ b ∷ [])) input ≡ map command (closed (before (l ++ b ∷ []) (p ∷ ps)))
      → completes (take room l) b ++ gathered room (holds room (take room l) b) input ≡ map command (closed (before l (split_on 10 (b ∷ input))))
  unfolding before on_first
  at_more e ih =
      rw (completes-none (take room l) b e, holds_more (take room l) b room e, split-more 10 b input e, cut, take_snoc room l b)
      (ih ∙ ap (λ (z : List ℕ). map command (closed (z ∷ ps))) (append_assoc l (b ∷ []) p))

-- the commands of what is held, with the line l begun, and of what follows are those of the lines
begun : (room : ℕ) → 40 < room → (input l : List ℕ) → gathered room (take room l) input ≡ map command (closed (before l (split_on 10 input)))
unfolding gathered split_on before
begun room h [] l = rw append-nil (end_of room l h)
begun room h (b ∷ input) l = go (ℕ_discrete b 10) (begun room h input)
  where
    p : Parts 10 input
    p = parts 10 input

    go : Dec (b ≡ 10) → ((l : List ℕ) → gathered room (take room l) input ≡ map command (closed (before l (split_on 10 input))))
        → gathered room (take room l) (b ∷ input) ≡ map command (closed (before l (split_on 10 (b ∷ input))))
    go (yes e) ih = at-end room h l p.head p.tail b input p.are e
        (ap (λ (z : List ℕ). gathered room z input) (sym (take-nil room)) ∙ ih [] ∙ ap (λ ls. map command (closed (before [] ls))) p.are)
    go (no e) ih = at_more room h l p.head p.tail b input p.are e
        (ih (l ++ b ∷ []) ∙ ap (λ ls. map command (closed (before (l ++ b ∷ []) ls))) p.are)

-- One command for each line of the input, in order, however long the lines are: 'writes one line each'
pub one-for-each-line : (room : ℕ) (input : List ℕ) → 40 < room → gathered room [] input ≡ map command (lines input)
unfolding lines before
one-for-each-line room input h =
    let p = parts 10 input in
    ap (λ (z : List ℕ). gathered room z input) (sym (take-nil room)) ∙ begun room h input []
    ∙ ap (λ ls. map command (closed (before [] ls))) p.are ∙ ap (λ ls. map command (closed ls)) (sym p.are)

-- the steps of the code: h of the n bytes are there
module _ (s : List ℕ) (n b h : ℕ) (e : h ≡ min n (length s)) where
  kept : take h s ≡ take n s
  kept = take-smaller s n h e

  pub gathers-end : (c : Option Command) → b ≡ 10 → c ≡ command (take h s) → Gathers s n b (Whole c) s
  gathers-end c q p = record {
    within = omega arith;
    held = sym (holds-end (take n s) b (length s) q);
    told = ap (λ (d : Option Command). d ∷ []) (p ∙ ap command kept) ∙ sym (completes-end (take n s) b q);
  }

  pub gathers-more : (b ≡ 10 → ⊥) → h < length s → Gathers s n b (More (h + 1)) (set s h b)
  gathers-more q l = record {
    within = omega arith;
    held =
        rw add-one
        (take-suc-set s h b l ∙ ap (λ (z : List ℕ). z ++ b ∷ []) kept
        ∙ sym (take_all (length s) (take n s ++ b ∷ []) (omega (arith, length-append (take n s) (b ∷ []), length-take n s))))
        ∙ sym (holds_more (take n s) b (length s) q);
    told = sym (completes-none (take n s) b q);
  }

  pub gathers-full : (b ≡ 10 → ⊥) → length s ≤ h → Gathers s n b (More h) s
  gathers-full q l = record {
    within = omega arith;
    held =
        take_all h s l
        ∙ sym (take_all (length s) s (omega arith))
        ∙ sym (take-append-le (length s) s (b ∷ []) (omega arith))
        ∙ ap (λ (z : List ℕ). take (length s) (z ++ b ∷ [])) (sym (take_all n s (omega arith)))
        ∙ sym (holds_more (take n s) b (length s) q);
    told = sym (completes-none (take n s) b q);
  }

-- the last line
pub ends-none : (s : List ℕ) (n h : ℕ) → h ≡ min n (length s) → h ≡ 0 → ends (take n s) ≡ []
unfolding ends
ends-none s n h e z = ap ends (sym (take-smaller s n h e) ∙ ap (λ (k : ℕ). take k s) z)

ends_some : (l : List ℕ) → (length l ≡ 0 → ⊥) → ends l ≡ command l ∷ []
unfolding ends
ends_some [] h = absurd (h refl)
ends_some (b ∷ l) h = refl

pub ends-line : (s : List ℕ) (n h : ℕ) → h ≡ min n (length s) → (h ≡ 0 → ⊥) → (c : Option Command) → c ≡ command (take h s) → c ∷ [] ≡ ends (take n s)
ends-line s n h e z c p =
    let k : take h s ≡ take n s = take-smaller s n h e in
    ap (λ (d : Option Command). d ∷ []) (p ∙ ap command k) ∙ sym (ends_some (take n s) (λ q. z (omega (arith, q, length-take n s))))
