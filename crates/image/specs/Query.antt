-- Count and reading on any bytes: 'Count and reading test only their path.' Assumes nothing.
use Rattle.std.specs.Prelude.{Bool, false, not, List, [], ◌∷◌, map, ℕ, zero, suc, ◌+◌, ◌/◌, ◌%◌, ◌^◌, leb, ltb}
use Rattle.lists.specs.Counts.{max_count}
use Rattle.answers.specs.Refusals.{body_damaged, header_wrong, not_logged}
use Rattle.lists.specs.Lists.{pick, every}
use Rattle.bits.specs.Bits.{bits}
use Rattle.reserve.specs.Reserve.{reserve}
use Rattle.tree.specs.Read.{Found, damaged, found, later, walk}
use Rattle.answers.specs.Image.{Reply, given, refused}
use Rattle.image.specs.Read.{e_of, n_of, s_of, l_of, width_of, start_of, root_at, before_of, sum_of, tree_at}
use Rattle.image.specs.Check.{headed}

-- n bits of code from bit a of it on are passing L
abbrev pub passing : List ℕ → ℕ → ℕ → Bool
passing s a n = ltb (l_of s) (a + n)

-- the root of the page before page p is; there is none before page 0
unfoldable pub before_passing : List ℕ → ℕ → Bool
before_passing s zero = false
before_passing s (suc p) = passing s (start_of s p) (width_of s)

-- 'Damage there', on the way to an hour of page p: 'either root' (two lines) 'or that tree passing L' (the last), 'a root above S' (two), 'the
-- page's root below the one before'. The damage that is left, 'a left sum above its node on the walk', is the walk's own
abbrev pub damages : List ℕ → ℕ → List Bool
damages s p =
    passing s (start_of s p) (width_of s)
    ∷ before_passing s p
    ∷ ltb (s_of s) (root_at s p)
    ∷ ltb (s_of s) (before_of s p)
    ∷ ltb (root_at s p) (before_of s p)
    ∷ passing s (start_of s p + width_of s) (reserve (e_of s) (sum_of s p))
    ∷ []

-- page p has none of them
abbrev pub page_tests : List ℕ → ℕ → List Bool
page_tests s p = map not (damages s p)

unfoldable pub page_fine : List ℕ → ℕ → Bool
page_fine s p = every (page_tests s p)

-- the way to count j of page p: damage, 'a left sum above its node on the walk' too, or the sum before the count, and the count
unfoldable pub count_in_page : List ℕ → ℕ → ℕ → Found
count_in_page s p j = pick (page_fine s p) (later (before_of s p) (walk (e_of s) (sum_of s p) (bits s) (tree_at s p) j)) damaged

-- the way to hour i
unfoldable pub look : List ℕ → ℕ → Found
look s i = count_in_page s (i / 2 ^ e_of s) (i % 2 ^ e_of s)

-- 'a walk that ends at a count above 4,294,967,295 is damage'
unfoldable pub ended : Found → Found
ended damaged = damaged
ended (found x c) = pick (leb c max_count) (found x c) damaged

-- 'queries: damage' is refusal 6
unfoldable pub the_count : Found → Reply
the_count damaged = refused body_damaged
the_count (found x c) = given c

unfoldable pub the_reading : Found → Reply
the_reading damaged = refused body_damaged
the_reading (found x c) = given (x + c)

-- 'Reading at i > 0 walks to hour i-1; reading at 0 is 0.'
unfoldable pub reading_at : List ℕ → ℕ → Reply
reading_at s zero = given 0
reading_at s (suc i) = the_reading (ended (look s i))

-- 'count i: 7 if i ≥ N'
unfoldable pub count : List ℕ → ℕ → Reply
count s i = pick (headed s) (pick (leb (n_of s) i) (refused not_logged) (the_count (ended (look s i)))) (refused header_wrong)

-- 'Reading i: 7 if i > N'
unfoldable pub reading : List ℕ → ℕ → Reply
reading s i = pick (headed s) (pick (ltb (n_of s) i) (refused not_logged) (reading_at s i)) (refused header_wrong)
