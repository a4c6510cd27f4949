-- The lines of inputs. Assumes nothing.
use mathlib.Core.Path.{◌≡◌, refl}
use mathlib.Core.List.{[], ◌∷◌, map}
use Rattle.lists.specs.Lists.{pick}
use Rattle.session.specs.Ascii.{bytes}
use Rattle.session.specs.Line.{on_first, split_on}
use Rattle.session_input.specs.Lines.{closed, lines}

-- none, an empty one, a last one without its line end
cut :
    map lines (bytes "" ∷ bytes "\n" ∷ bytes "f\n\nf" ∷ bytes "f\n" ∷ [])
    ≡ [] ∷ (bytes "" ∷ []) ∷ (bytes "f" ∷ bytes "" ∷ bytes "f" ∷ []) ∷ (bytes "f" ∷ []) ∷ []
unfolding pick on_first split_on closed lines
cut = refl
