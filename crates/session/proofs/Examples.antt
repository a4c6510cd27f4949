-- The definitions at lines that document 01 prints or names, and at lines next to these. Assumes nothing.
use mathlib.Core.Path.{◌≡◌, refl}
use mathlib.Core.List.{List, [], ◌∷◌, map}
use Prim.Native.String.{String}
use lib.ListN.{replicate}
use Rattle.std.specs.Prelude.{Option, Some, None}
use Rattle.lists.specs.Lists.{pick, every}
use Rattle.session.specs.Ascii.{bytes}
use Rattle.session.specs.Number.{is_decimal_digit, value_from, digits_only, number}
use Rattle.session.specs.Line.{on_first, split_on, none, one, two, by_letter, by_parts, command}
use Rattle.session.specs.declared.line.Command.{Command}
use Rattle.session.specs.declared.line.Command.TheVariants.{Fresh, Append, Set, Count, Reading, Reach, Day, Free}

asked : List String → List (Option Command)
asked texts = map (λ t. command (bytes t)) texts

-- the printed session, and the letters that it leaves out
session :
    asked
    (
    "n 1 2" ∷ "a 122" ∷ "f" ∷ "s 0 123" ∷ "a 5" ∷ "r 2" ∷ "w 124" ∷ "w 129" ∷ "s 1 4294967295" ∷ "s 0 100000" ∷ "g 7" ∷ "d 0" ∷ []
    )
    ≡ map Some
    (
    Fresh 1 2 ∷ Append 122 ∷ Free ∷ Set 0 123 ∷ Append 5 ∷ Reading 2 ∷ Reach 124 ∷ Reach 129 ∷ Set 1 4294967295 ∷ Set 0 100000
    ∷ Count 7 ∷ Day 0 ∷ []
    )
unfolding asked pick every is_decimal_digit value_from digits_only number on_first split_on none one two by_letter by_parts command
session = refl

-- leading zeros, to the fortieth byte and past it; the largest number and the next
numbers :
    asked
    (
    "a 00000000004294967295" ∷ "a 4294967295" ∷ "a 4294967296" ∷ "a 18446744073709551617"
    ∷ "a 00000000000000000000000000000000000007" ∷ "a 000000000000000000000000000000000000007" ∷ []
    )
    ≡ Some (Append 4294967295) ∷ Some (Append 4294967295) ∷ None ∷ None ∷ Some (Append 7) ∷ None ∷ []
unfolding asked pick every is_decimal_digit value_from digits_only number on_first split_on none one two by_letter by_parts command
numbers = refl

-- an empty line, other letters, other spacing, numbers missing, extra and misspelt
refusals :
    asked
    (
    "" ∷ " " ∷ "x 1" ∷ "F" ∷ "aa 1" ∷ "a  1" ∷ " a 1" ∷ "a 1 " ∷ "a\t1" ∷ "a1" ∷ "a" ∷ "a " ∷ "n 1" ∷ "n 1 " ∷ "a 1 2" ∷ "s 1 2 3" ∷ "f 1" ∷ "f "
    ∷ "a 1x" ∷ "a -1" ∷ "a +1" ∷ "f\r" ∷ "a 1\r" ∷ []
    )
    ≡ replicate 23 None
unfolding asked pick every is_decimal_digit value_from digits_only number on_first split_on none one two by_letter by_parts command
refusals = refl
