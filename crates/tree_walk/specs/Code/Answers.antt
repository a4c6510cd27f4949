-- How a walk answers. Assumes nothing.
use Rattle.std.specs.Prelude.{ℕ, ◌+◌, ◌*◌, ◌^◌, Option, None, Some, unwrap_or}
use Rattle.tree.specs.Read.{Found, damaged, found}

-- the count, k times the sum before it, and acc; or none for damage
unfoldable pub walk_answer : ℕ → ℕ → Found → Option ℕ
walk_answer acc k damaged = None
walk_answer acc k (found x c) = Some (acc + k * x + c)

-- how the walk down says none in one number: above every sum
abbrev pub damage_word : ℕ
damage_word = 2 ^ 63

-- its answer in one number
abbrev pub number_of : Option ℕ → ℕ
number_of o = unwrap_or o damage_word
