-- What a call ends in, whichever it is. Assumes nothing.
use Rattle.std.specs.Prelude.{ℕ}
use Rattle.answers.specs.Store.{Answer, answered, changed, refused as turned}
use Rattle.answers.specs.Image.{Reply, given, refused, Verdict, fails, holds}
use Rattle.answers.specs.Stretch.{Stretch, Run, Refused as NoStretch}
use Rattle.answers.specs.Bag.{Bag, Run as BagRun, None, Refused as NoBag}

-- what a call ends in: the number asked for, the cells taken and given back, N and S, a run's first hour and its sum, a run's first hour and
-- its hours, no run, or 'a refusal is its number alone'
pub data End : Type 0 where
  the_number : ℕ → End
  the_cells : (taken returned : ℕ) → End
  the_sums : (hours total : ℕ) → End
  the_run : (first total : ℕ) → End
  the_hours : (first hours : ℕ) → End
  no_such_run : End
  refusal : ℕ → End

unfoldable pub end_of_store : Answer → End
end_of_store (changed t r) = the_cells t r
end_of_store (answered n) = the_number n
end_of_store (turned k) = refusal k

unfoldable pub end_of_image : Reply → End
end_of_image (given n) = the_number n
end_of_image (refused k) = refusal k

unfoldable pub end_of_check : Verdict → End
end_of_check (holds n s) = the_sums n s
end_of_check (fails k) = refusal k

unfoldable pub end_of_stretch : Stretch → End
end_of_stretch (Run f s) = the_run f s
end_of_stretch (NoStretch k) = refusal k

unfoldable pub end_of_bag : Bag → End
end_of_bag (BagRun f n) = the_hours f n
end_of_bag None = no_such_run
end_of_bag (NoBag k) = refusal k
