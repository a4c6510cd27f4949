-- Replies as they are printed. Assumes nothing.
use mathlib.Core.Path.{◌≡◌, refl}
use mathlib.Core.List.{[], ◌∷◌, map}
use Rattle.lists.specs.Lists.{pick}
use Rattle.session.specs.Ascii.{bytes}
use Rattle.session_print.specs.Printed.{decimal_in, printed}
use Rattle.session_print.specs.declared.Reply.TheVariants.{Number, Done, Refused, Unknown}

answers :
    map printed (Number 0 ∷ Number 128 ∷ Number 4294967295 ∷ Done ∷ Refused 8 ∷ Refused 12 ∷ Unknown ∷ [])
    ≡ bytes "0\n" ∷ bytes "128\n" ∷ bytes "4294967295\n" ∷ bytes "ok\n" ∷ bytes "refused 8\n" ∷ bytes "refused 12\n" ∷ bytes "line?\n" ∷ []
unfolding pick decimal_in printed
answers = refl
