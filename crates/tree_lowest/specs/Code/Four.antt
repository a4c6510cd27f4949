-- Four counts out of one number. Assumes nothing.
use Rattle.std.specs.Prelude.{true, false, List, [], ◌∷◌, ◌≡◌, ℕ, Option, None, Some}
use Rattle.tree.specs.Read.{counts}
use Rattle.tree.specs.Code.Exact.{exact}
use Rattle.tree_lowest.specs.declared.four.Four.{Four}

-- the bits b, from their first on, are the code of these four counts, whose sum is s
pub record CodeOfFour (s : ℕ) (b : List ℕ) (f : Four) : Type 0 where
  pub is_exact : exact 2 s b 0 ≡ true
  pub counts-are : counts 2 s b 0 ≡ f.first ∷ f.second ∷ f.third ∷ f.fourth ∷ []

-- the bits b, from their first on, read as the code of four counts with sum s: these, or none
abbrev pub FourIn : ℕ → List ℕ → Option Four → Type 0
FourIn s b None = exact 2 s b 0 ≡ false
FourIn s b (Some f) = CodeOfFour s b f
