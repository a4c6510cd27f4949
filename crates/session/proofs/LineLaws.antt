-- What a line asks, from its letter, its first space and its second. Assumes nothing.
use mathlib.Core.Path.{◌≡◌, refl, sym, ap, ◌∙◌}
use mathlib.Core.List.{List, [], ◌∷◌, map}
use mathlib.Core.Logic.{◌⊎◌, inl, inr}
use Prim.Native.Nat.{ℕ, suc, ◌+◌, ◌-◌, ◌≤◌, ◌<◌}
use native.Mathlib.Omega.{arith}
use native.Mathlib.Decide.{ℕ_discrete}
use native.Mathlib.Numerals.{add-one}
use lib.ListN.{length, get_or, take, drop, length-drop}
use lib.Seq.{take_all}
use borrow.Author.Tests.{lt-ltb, le-ltb}
use Rattle.lists.specs.Lists.{pick}
use Rattle.session.specs.Number.{is_decimal_digit, number}
use Rattle.session.specs.Line.{on_first, split_on, by_letter, by_parts, command}
use Rattle.std.specs.Prelude.{Option, None}
use Rattle.session.proofs.DigitLaws.{number-stray}
use Rattle.session.proofs.LetterLaws.{fails, wrong_second, three}
use Rattle.session.proofs.SplitLaws.{Free, split-cut, split-more, split-none, split-first, parts, First, first_or_none}

pub command-long : (s : List ℕ) → 40 < length s → command s ≡ None
unfolding command pick
command-long s h = rw (lt-ltb 40 (length s) h)

command-short : (s : List ℕ) → length s ≤ 40 → command s ≡ by_parts (split_on 32 s)
unfolding command pick
command-short s h = rw (le-ltb 40 (length s) h)

pub command-empty : (s : List ℕ) → length s ≡ 0 → command s ≡ None
unfolding command pick split_on by_parts
command-empty [] e = refl
command-empty (b ∷ s) e = absurd (omega (arith, e))

-- a space is no letter
space-no-letter : (ns : List (Option ℕ)) → by_letter 32 ns ≡ None
unfolding by_letter pick
space-no-letter ns = refl

-- the parts of a line whose first byte is l: that byte alone, then ps; a space there would make an empty part, and is no letter either
lettered : (l : ℕ) (t : List ℕ) (ps : List (List ℕ)) → split_on 32 t ≡ [] ∷ ps → by_parts (split_on 32 (l ∷ t)) ≡ by_letter l (map number ps)
unfolding by_parts on_first
lettered l t ps e = go (ℕ_discrete l 32)
  where
    go : Dec (l ≡ 32) → by_parts (split_on 32 (l ∷ t)) ≡ by_letter l (map number ps)
    go (yes q) = ap by_parts (split-cut 32 l t q) ∙ sym (space-no-letter (map number ps)) ∙ ap (λ (x : ℕ). by_letter x (map number ps)) (sym q)
    go (no h) = ap by_parts (split-more 32 l t h ∙ ap (on_first l) e)

alone : (l : ℕ) → by_parts (split_on 32 (l ∷ [])) ≡ by_letter l []
unfolding split_on
alone l = lettered l [] [] refl

spaced : (l b : ℕ) (t : List ℕ) → b ≡ 32 → by_parts (split_on 32 (l ∷ b ∷ t)) ≡ by_letter l (map number (split_on 32 t))
spaced l b t e = lettered l (b ∷ t) (split_on 32 t) (split-cut 32 b t e)

-- two bytes before the first space
worded : (l b : ℕ) (t : List ℕ) → (b ≡ 32 → ⊥) → by_parts (split_on 32 (l ∷ b ∷ t)) ≡ None
unfolding by_parts on_first
worded l b t h = go (ℕ_discrete l 32)
  where
    rest : split_on 32 (b ∷ t) ≡ (b ∷ (parts 32 t).head) ∷ (parts 32 t).tail
    rest = split-more 32 b t h ∙ ap (on_first b) (parts 32 t).are

    go : Dec (l ≡ 32) → by_parts (split_on 32 (l ∷ b ∷ t)) ≡ None
    go (yes q) = ap by_parts (split-cut 32 l (b ∷ t) q)
    go (no q) = ap by_parts (split-more 32 l (b ∷ t) q ∙ ap (on_first l) rest)

-- a slice's end from a place on, as the code has it
rest : (s : List ℕ) (k : ℕ) → take (length s - k) (drop k s) ≡ drop k s
rest s k = take_all (length s - k) (drop k s) (rw length-drop (omega arith))

pub command-alone : (s : List ℕ) → length s ≡ 1 → command s ≡ by_letter (get_or s 0 0) []
command-alone [] e = absurd (omega (arith, e))
command-alone (l ∷ []) e = command-short (l ∷ []) (omega arith) ∙ alone l
command-alone (l ∷ b ∷ t) e = absurd (omega (arith, e))

pub command-spaced : (s : List ℕ) → 2 ≤ length s → length s ≤ 40 → get_or s 1 0 ≡ 32
    → command s ≡ by_letter (get_or s 0 0) (map number (split_on 32 (take (length s - 2) (drop 2 s))))
command-spaced [] l h e = absurd (omega arith)
command-spaced (x ∷ []) l h e = absurd (omega arith)
command-spaced (x ∷ b ∷ t) l h e = rw (rest (x ∷ b ∷ t) 2) (command-short (x ∷ b ∷ t) h ∙ spaced x b t e)

pub command-worded : (s : List ℕ) → 2 ≤ length s → length s ≤ 40 → (get_or s 1 0 ≡ 32 → ⊥) → command s ≡ None
command-worded [] l h e = absurd (omega arith)
command-worded (x ∷ []) l h e = absurd (omega arith)
command-worded (x ∷ b ∷ t) l h e = command-short (x ∷ b ∷ t) h ∙ worded x b t e

-- what stands behind the letter's space: numbers, cut at spaces
module _ (l : ℕ) (s : List ℕ) where
  pub numbers-one : Free 32 s (length s) → by_letter l (map number (split_on 32 s)) ≡ by_letter l (number s ∷ [])
  numbers-one f = ap (λ ps. by_letter l (map number ps)) (split-none 32 s f)

  -- behind the second space a third would leave too many parts, and no number either
  second : (n : Option ℕ) → by_letter l (n ∷ map number (split_on 32 s)) ≡ by_letter l (n ∷ number s ∷ [])
  unfolding is_decimal_digit
  second n = go (first_or_none 32 s)
    where
      many : (f : First 32 s) → by_letter l (n ∷ map number (split_on 32 s)) ≡ None
      many f =
          let p = parts 32 (drop (suc f.place) s) in
          ap (λ ps. by_letter l (n ∷ map number ps))
          (split-first 32 s f.place f.within f.before f.found ∙ ap (λ ps. take f.place s ∷ ps) p.are)
          ∙ fails l _ (three n (number (take f.place s)) (number p.head) (map number p.tail))

      nothing : (f : First 32 s) → by_letter l (n ∷ number s ∷ []) ≡ None
      nothing f =
          ap (λ m. by_letter l (n ∷ m ∷ [])) (number-stray s f.place f.within (ap is_decimal_digit f.found)) ∙ fails l _ (wrong_second n)

      go : First 32 s ⊎ Free 32 s (length s) → by_letter l (n ∷ map number (split_on 32 s)) ≡ by_letter l (n ∷ number s ∷ [])
      go (inl f) = many f ∙ sym (nothing f)
      go (inr f) = ap (λ ps. by_letter l (n ∷ map number ps)) (split-none 32 s f)

pub numbers-two : (l : ℕ) (s : List ℕ) (k : ℕ) → k < length s → Free 32 s k → get_or s k 0 ≡ 32
    → by_letter l (map number (split_on 32 s)) ≡ by_letter l (number (take k s) ∷ number (take (length s - (k + 1)) (drop (k + 1) s)) ∷ [])
numbers-two l s k h f e =
    rw (rest s (k + 1), add-one) (ap (λ ps. by_letter l (map number ps)) (split-first 32 s k h f e) ∙ second l (drop (suc k) s) (number (take k s)))
