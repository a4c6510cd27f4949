-- What a look finds: at an hour of a list's image, and on any bytes. Assumes nothing.
use mathlib.Core.Path.{◌≡◌, refl, sym, ap, ap₂, ◌∙◌}
use mathlib.Core.Bool.{Bool, true, false, not}
use mathlib.Core.List.{List, [], ◌∷◌}
use Prim.Native.Nat.{ℕ, zero, suc, ◌+◌, ◌*◌, ◌/◌, ◌%◌, ◌^◌, ◌≤◌, ◌<◌}
use native.Mathlib.Omega.{arith}
use lib.ListN.{length, get_or, take}
use lib.Seq.{take-suc}
use lib.Dec.{leb}
use borrow.Author.Tests.{le-leb}
use Rattle.lists.specs.Counts.{max_count}
use Rattle.lists.specs.Lists.{pick, sum}
use Rattle.lists.proofs.Sums.{sum-append}
use Rattle.lists.proofs.Tests.{each, every_of}
use Rattle.bits.specs.Bits.{bits}
use Rattle.reserve.specs.Reserve.{reserve}
use Rattle.tree.specs.Read.{Found, damaged, found, later, walk}
use Rattle.tree.proofs.WalkLaws.{Most, most-later, most-up, shift, walk-most, walk-tree}
use Rattle.image.specs.Image.{Limits, image, page, pages}
use Rattle.image.specs.Query.{before_passing, ended, look, count_in_page, page_fine, page_tests, reading_at, the_reading}
use Rattle.image.specs.Read.{before_of, e_of, l_of, root_at, s_of, start_of, sum_of, tree_at, width_of}
use Rattle.answers.specs.Image.{given}
use Rattle.image.proofs.ReadLaws.{before-is, e-is, l-is, root_is, s-is, start_is, sum_is, tree_is}
use Rattle.image.proofs.ReadLaws.{width_is}
use Rattle.image.proofs.DamageLaws.{is_within, within}
use Rattle.image.proofs.PageLaws.{get_d-page, hour-low, hour-page, hour-split, length-page, page-sum, root-le, start-within}
use Rattle.image.proofs.PageLaws.{sum-page}

module _ (e : ℕ) (xs : List ℕ) (m : Limits e xs) where
  abbrev S : List ℕ
  S = image e xs

  abbrev P : ℕ
  P = pages e (length xs)

  before-fits : (p : ℕ) → p < P → not (before_passing S p) ≡ true
  unfolding before_passing
  before-fits zero l = refl
  before-fits (suc p) l =
      within (start_of S p + width_of S) (l_of S) (omega (
        arith,
        start_is e xs m p (omega arith),
        width_is e xs m,
        l-is e xs m,
        start-within e xs p (omega arith),
      ))

  pub page-fine : (p : ℕ) → p < P → page_fine S p ≡ true
  unfolding page_fine
  page-fine p l =
      every_of _ (
        within (start_of S p + width_of S) (l_of S) (omega (arith, start_is e xs m p l, width_is e xs m, l-is e xs m, start-within e xs p l)),
        (
          before-fits p l,
          (
            within (root_at S p) (s_of S) (omega (arith, root_is e xs m p l, s-is e xs m, root-le e xs p)),
            (
              within (before_of S p) (s_of S) (omega (arith, before-is e xs m p l, page-sum e xs p, s-is e xs m, root-le e xs p)),
              (
                within (before_of S p) (root_at S p) (omega (arith, before-is e xs m p l, page-sum e xs p, root_is e xs m p l)),
                (
                  within (start_of S p + width_of S + reserve (e_of S) (sum_of S p)) (l_of S)
                      (omega (arith, start_is e xs m p l, width_is e xs m, l-is e xs m, start-within e xs p l, ap₂ reserve (e-is e xs) (sum_is e xs m p l))),
                  tt,
                ),
              ),
            ),
          ),
        ),
      )

  look_in : (p j : ℕ) → p < P → j < 2 ^ e → count_in_page S p j ≡ found (sum (take (2 ^ e * p + j) xs)) (get_or xs (2 ^ e * p + j) 0)
  unfolding count_in_page pick
  look_in p j l k =
      rw (page-fine p l)
      (ap₂ (λ (h s : ℕ). later (before_of S p) (walk h s (bits S) (tree_at S p) j)) (e-is e xs) (sum_is e xs m p l)
      ∙ ap (later (before_of S p)) (walk-tree e (page e xs p) (bits S) (tree_at S p) j (length-page e xs p) k (tree_is e xs m p l))
      ∙ shift (before_of S p) (sum (take j (page e xs p))) (get_or (page e xs p) j 0)
      ∙ ap₂ found (ap (λ (z : ℕ). z + sum (take j (page e xs p))) (before-is e xs m p l) ∙ sum-page e xs p j (omega arith)) (get_d-page e xs p j k))

  pub look_is : (i : ℕ) → i < length xs → look S i ≡ found (sum (take i xs)) (get_or xs i 0)
  unfolding look
  look_is i l =
      ap (λ (z : ℕ). count_in_page S (i / 2 ^ z) (i % 2 ^ z)) (e-is e xs)
      ∙ look_in (i / 2 ^ e) (i % 2 ^ e) (hour-page e (length xs) i l) (hour-low e i)
      ∙ ap (λ (z : ℕ). found (sum (take z xs)) (get_or xs z 0)) (hour-split e i)

  -- the sum to the end of an hour, whatever the hour's count
  pub sum_to : (i : ℕ) → i < length xs → the_reading (look S i) ≡ given (sum (take (suc i) xs))
  unfolding the_reading sum
  sum_to i l = ap the_reading (look_is i l) ∙ ap given (sym (ap sum (take-suc xs i 0 l) ∙ sum-append (take i xs) (get_or xs i 0 ∷ []) ∙ omega arith))

  module _ (few : (i : ℕ) → get_or xs i 0 ≤ max_count) where
    pub ended_is : (i : ℕ) → i < length xs → ended (look S i) ≡ look S i
    unfolding ended pick
    ended_is i l = ap ended (look_is i l) ∙ rw (le-leb (get_or xs i 0) max_count (few i)) (sym (look_is i l))

    pub reading-at : (i : ℕ) → i ≤ length xs → reading_at S i ≡ given (sum (take i xs))
    unfolding reading_at sum
    reading-at zero l = refl
    reading-at (suc i) l = ap the_reading (ended_is i l) ∙ sum_to i l

-- ---- what is found is no more than the sum
pub most-ended : (s : ℕ) (f : Found) → Most s f → Most s (ended f)
unfolding ended pick
most-ended s damaged m = tt
most-ended s (found x c) m = go (leb c max_count)
  where
    go : (b : Bool) → Most s (pick b (found x c) damaged)
    go true = m
    go false = tt

in-page : (s : List ℕ) (p j : ℕ) (t : Bool) → page_fine s p ≡ t → Most (s_of s) (count_in_page s p j)
unfolding count_in_page pick page_fine sum_of
in-page s p j true e =
    let w = each (page_tests s p) e in
    let f : before_of s p ≤ root_at s p = is_within (before_of s p) (root_at s p) w.1.1.1.1.0 in
    let g : root_at s p ≤ s_of s = is_within (root_at s p) (s_of s) w.1.1.0 in
    rw e (most-up (root_at s p) (s_of s) (later (before_of s p) (walk (e_of s) (sum_of s p) (bits s) (tree_at s p) j)) g
    (most-later (before_of s p) (root_at s p) (walk (e_of s) (sum_of s p) (bits s) (tree_at s p) j)
    f (walk-most (e_of s) (sum_of s p) (bits s) (tree_at s p) j)))
in-page s p j false e = rw e tt

pub look-most : (s : List ℕ) (i : ℕ) → Most (s_of s) (look s i)
unfolding look
look-most s i = go (i / 2 ^ e_of s) (i % 2 ^ e_of s)
  where
    go : (p j : ℕ) → Most (s_of s) (count_in_page s p j)
    go p j = in-page s p j (page_fine s p) refl
