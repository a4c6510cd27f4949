-- Document 01, 'The session program': what a line asks, and None for a line that gets `line?`. A line is its bytes without the line end.
-- Assumes nothing.
use Rattle.std.specs.Prelude.{Option, Some, None, List, [], ◌∷◌, map, ℕ, length, ltb, eqb}
use Rattle.lists.specs.Lists.{pick}
use Rattle.session.specs.Ascii.{byte}
use Rattle.session.specs.Number.{number}
use Rattle.session.specs.declared.line.Command.{Command}
use Rattle.session.specs.declared.line.Command.TheVariants.{Fresh, Append, Set, Count, Reading, Reach, Day, Free}

-- one more byte at the front of the first part
unfoldable pub on_first : ℕ → List (List ℕ) → List (List ℕ)
on_first b [] = (b ∷ []) ∷ []
on_first b (p ∷ ps) = (b ∷ p) ∷ ps

-- the parts of a list between the bytes c: two of these in a row, or one at an end, have an empty part between or beside them
unfoldable pub split_on : ℕ → List ℕ → List (List ℕ)
split_on c [] = [] ∷ []
split_on c (b ∷ bs) = pick (eqb b c) ([] ∷ split_on c bs) (on_first b (split_on c bs))

-- a command that takes no number, one or two: '`line?` for .. a missing or extra number'
unfoldable pub none : Command → List (Option ℕ) → Option Command
none c [] = Some c
none c (n ∷ ns) = None

unfoldable pub one : (ℕ → Command) → List (Option ℕ) → Option Command
one f [] = None
one f (Some x ∷ []) = Some (f x)
one f (None ∷ []) = None
one f (n ∷ m ∷ ns) = None

unfoldable pub two : (ℕ → ℕ → Command) → List (Option ℕ) → Option Command
two f [] = None
two f (n ∷ []) = None
two f (Some x ∷ Some y ∷ []) = Some (f x y)
two f (Some x ∷ None ∷ []) = None
two f (None ∷ m ∷ []) = None
two f (n ∷ m ∷ l ∷ ns) = None

-- 'Letters: n P C (fresh), a v, s i v, g i (count), r i, w p (reach), d day, f (free)'; '`line?` for another letter'
unfoldable pub by_letter : ℕ → List (Option ℕ) → Option Command
by_letter l ns =
    pick (eqb l (byte "n")) (two Fresh ns)
    (pick (eqb l (byte "a")) (one Append ns)
    (pick (eqb l (byte "s")) (two Set ns)
    (pick (eqb l (byte "g")) (one Count ns)
    (pick (eqb l (byte "r")) (one Reading ns)
    (pick (eqb l (byte "w")) (one Reach ns)
    (pick (eqb l (byte "d")) (one Day ns)
    (pick (eqb l (byte "f")) (none Free ns)
    None)))))))

-- the first part is one letter, each other part a number
unfoldable pub by_parts : List (List ℕ) → Option Command
by_parts [] = None
by_parts ([] ∷ ps) = None
by_parts ((l ∷ []) ∷ ps) = by_letter l (map number ps)
by_parts ((l ∷ m ∷ w) ∷ ps) = None

-- '`line?` for .. other spacing than one space, .. or over 40 bytes without the line end'
unfoldable pub command : List ℕ → Option Command
command line = pick (ltb 40 (length line)) None (by_parts (split_on (byte " ") line))
