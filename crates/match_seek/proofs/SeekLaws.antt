-- The search for a run along a list, page after page of the hours at which it may end. Assumes nothing.
use mathlib.Core.List.{List}
use mathlib.Core.Path.{◌≡◌, refl, ap, sym, subst, ◌∙◌}
use Prim.Native.Nat.{ℕ, ◌+◌, ◌-◌, ◌≤◌, ◌<◌}
use native.Mathlib.Decide.{dec_le}
use native.Mathlib.Omega.{arith}
use lib.ListN.{length, get_or, drop}
use lib.Seq.{take-take, take_all}
use Rattle.lists.specs.Lists.{part, reading, sum}
use Rattle.lists.proofs.Parts.{length_part}
use Rattle.image.specs.Read.{list_of}
use Rattle.image.specs.declared.opened.Accepted.{Accepted}
use Rattle.image_cursor.specs.declared.cursor.Cursor.{Cursor}
use Rattle.runs.specs.Code.{NoneBefore}
use Rattle.runs.specs.Runs.{FirstMatch, NoMatch, run_sum}
use Rattle.runs.proofs.MatchLaws.{match-from, no-match-from, none-before-first, none-before-next}
use Rattle.runs.proofs.PrefixSums.{reading-grows, reading-next, run-reading}
use Rattle.sum_marks.specs.Code.Marks.{Marked, Unmarked}
use Rattle.match_page.specs.Code.Page.{FrontPageOf, RunOf}
use Rattle.sum_marks.specs.Code.Prefix.{Tried}
use Rattle.match_seek.specs.Code.Seek.{Seeks}
use Rattle.match_seek.specs.declared.Aim.{Aim}
use Rattle.match_page.specs.declared.FrontPage.{FrontPage}
use Rattle.sum_marks.specs.declared.prefix.Prefix.{Prefix}

-- ---- the search
pub seeks-first : (xs : List ℕ) (q : ℕ) → 1 ≤ q → Seeks xs q 0 (record { lo = 0; want = q })
seeks-first xs q l = record { inside = omega arith; wants = refl; some = l; none_before = none-before-first xs q; coins = l }

-- the sum that is looked for, by where the search stands
abbrev pub sought : List ℕ → ℕ → Aim → ℕ
sought xs first at = reading xs first + at.want - reading xs at.lo

pub sought-is : (xs : List ℕ) (q first : ℕ) (at : Aim) → Seeks xs q first at → sought xs first at ≡ q
sought-is xs q first at w = omega (arith, w.wants)

-- what is said of the sum that a cursor on the image has it look for is said of q
pub as-sought : (P : List ℕ → ℕ → Type 0) (i : Accepted) (b : Cursor) (q first : ℕ) (at : Aim) → b.image.now ≡ i
    → Seeks (list_of i.bytes.now) q first at → (v : ℕ) → v ≡ sought (list_of b.image.now.bytes.now) first at
    → P (list_of b.image.now.bytes.now) v → P (list_of i.bytes.now) q
as-sought P i b q first at k w v e m =
    let t : sought (list_of b.image.now.bytes.now) first at ≡ q = rw k (sought-is (list_of i.bytes.now) q first at w) in
    rw (k, e ∙ t) at m

-- the search in a page may start
pub visit-ready : (i : Accepted) (b : Cursor) (q : ℕ) (page : FrontPage) (at : Aim) → b.image.now ≡ i → FrontPageOf i.bytes.now i.head page
    → Seeks (list_of i.bytes.now) q page.first at → b.hour ≡ at.lo → (v : ℕ) → v ≡ sought (list_of b.image.now.bytes.now) page.first at
    → FrontPageOf b.image.now.bytes.now b.image.now.head page × (Seeks (list_of b.image.now.bytes.now) v page.first at × (b.hour ≡ at.lo))
visit-ready i b q page at k f w h v e =
    let t : sought (list_of b.image.now.bytes.now) page.first at ≡ q = rw k (sought-is (list_of i.bytes.now) q page.first at w) in
    (rw k f, (rw (k, e ∙ t) w, h))

pub seeks-as : (xs : List ℕ) (q first f : ℕ) (at : Aim) → f ≡ first → Seeks xs q first at → Seeks xs q f at
seeks-as xs q first f at e w = rw e w

module _ (xs : List ℕ) (q first : ℕ) (at : Aim) (w : Seeks xs q first at) where
  -- no run from lo on has the sum: the next hour
  pub seeks-on : (lo want v : ℕ) → NoneBefore xs q (at.lo + 1) → at.lo < length xs → v ≡ get_or xs at.lo 0 → lo ≡ at.lo + 1 → want ≡ at.want + v
      → Seeks xs q first (record { lo = lo; want = want })
  seeks-on lo want v p l e f g = record {
    inside = omega arith;
    wants = omega (arith, w.wants, reading-next xs at.lo l, ap (reading xs) f);
    some = omega (arith, w.some);
    none_before = subst (NoneBefore xs q) (sym f) p;
    coins = w.coins;
  }

  -- a later first hour wants no less
  pub want-grows : (r : Aim) → Seeks xs q first r → at.lo < r.lo → at.want ≤ r.want
  want-grows r x l = omega (arith, w.wants, x.wants, reading-grows xs at.lo r.lo (omega arith))

  -- no hour is left at which a run could end
  pub seeks-none : length xs ≤ first → NoMatch xs q
  seeks-none l =
      let e : reading xs first ≡ reading xs (length xs) = ap sum (take_all first xs l ∙ sym (take_all (length xs) xs (omega arith))) in
      no-match-from xs q at.lo w.none_before (omega (arith, w.wants, w.some, e))

  -- as many coins came in before another hour
  pub seeks-at : (f : ℕ) → reading xs first ≡ reading xs f → Seeks xs q f at
  seeks-at f e = record {
    inside = w.inside;
    wants = omega (arith, w.wants, e);
    some = w.some;
    none_before = w.none_before;
    coins = w.coins;
  }

-- ---- the search in a page
module _ (xs : List ℕ) (page : FrontPage) (counts : List ℕ) (f : counts ≡ part xs page.first page.hours) where
  pub counts-long : RunOf xs page → length counts ≡ page.hours
  counts-long g = ap length f ∙ length_part xs page.first page.hours g.inside

  counts-readings : (k : ℕ) → k ≤ page.hours → reading counts k ≡ run_sum xs page.first k
  counts-readings k l = ap (λ (z : List ℕ). reading z k) f ∙ ap sum (take-take k page.hours (drop page.first xs) l)

module _ (xs : List ℕ) (q : ℕ) (page : FrontPage) (g : RunOf xs page) (at : Aim) (w : Seeks xs q page.first at) where
  behind : reading xs (page.first + page.hours) ≡ reading xs page.first + page.sum
  behind = omega (arith, run-reading xs page.first page.hours, g.sum_is)

  -- more is wanted than the page has
  pub seeks-beyond : page.sum < at.want → Seeks xs q (page.first + page.hours) (record { lo = at.lo; want = at.want - page.sum })
  seeks-beyond l = record {
    inside = w.inside;
    wants = omega (arith, w.wants, behind);
    some = omega arith;
    none_before = w.none_before;
    coins = w.coins;
  }

  module _ (l : at.want ≤ page.sum) where
    pub first-low : at.lo < length xs
    first-low = go (dec_le (length xs) at.lo)
      where
        go : Dec (length xs ≤ at.lo) → at.lo < length xs
        go (yes d) =
            omega (arith, w.wants, behind, reading-grows xs (page.first + page.hours) at.lo (omega (arith, g.inside)), w.coins)
        go (no d) = omega arith

    -- no hours of the page have as much as is wanted: no run from lo on has the sum
    over : ((k : ℕ) → 1 ≤ k → k ≤ page.hours → run_sum xs page.first k ≡ at.want → ⊥) → NoneBefore xs q (at.lo + 1)
    over f = none-before-next xs q at.lo w.none_before (λ m a e. go m e (dec_le m page.first) (dec_le (page.first + page.hours) m))
      where
        within : (m : ℕ) → reading xs m ≡ reading xs at.lo + q → page.first < m → (k : ℕ) → page.first + k ≡ m → k ≤ page.hours → ⊥
        within m e a k b c =
            f k (omega arith) c (omega (arith, run-reading xs page.first k, ap (reading xs) b, w.wants))

        some-hours : Dec (page.hours ≤ 0) → 1 ≤ page.hours
        some-hours (yes d) =
            let z : page.first + page.hours ≡ page.first = omega arith in
            omega (arith, behind, ap (reading xs) z, w.some)
        some-hours (no d) = omega arith

        go : (m : ℕ) → reading xs m ≡ reading xs at.lo + q → Dec (m ≤ page.first) → Dec (page.first + page.hours ≤ m) → ⊥
        go m e (yes d) c = omega (arith, reading-grows xs m page.first d, w.wants, w.some)
        go m e (no d) (yes c) =
            f page.hours (some-hours (dec_le page.hours 0)) (omega arith)
            (omega (arith, g.sum_is, behind, reading-grows xs (page.first + page.hours) m c, w.wants))
        go m e (no d) (no c) = within m e (omega arith) (m - page.first) (omega arith) (omega arith)

    module _ (counts : List ℕ) (f : counts ≡ part xs page.first page.hours) where
      -- there is no mark of it
      pub over-unmarked : (marks : List ℕ) → Marked counts page.stamp marks → Unmarked marks page.stamp at.want → NoneBefore xs q (at.lo + 1)
      over-unmarked marks m u =
          over (λ k a b e. u counts m k a (omega (arith, counts-long xs page counts f g)) (counts-readings xs page counts f k b ∙ e))

      module _ (r : Prefix) (p : Tried counts at.want r) where
        -- it was looked for, and not found
        pub over-missed : (r.sum ≡ at.want → ⊥) → NoneBefore xs q (at.lo + 1)
        over-missed n =
            over (λ k a b e. p.missed n k a (omega (arith, counts-long xs page counts f g)) (counts-readings xs page counts f k b ∙ e))

        inside : r.hours ≤ page.hours
        inside = omega (arith, p.prefix.inside, counts-long xs page counts f g)

        -- it is there
        pub found_here : r.sum ≡ at.want → FirstMatch xs q at.lo (page.first + r.hours - at.lo)
        found_here e =
            match-from xs q at.lo w.none_before (page.first + r.hours) w.coins (omega (arith, g.inside, inside))
            (omega (arith, run-reading xs page.first r.hours, counts-readings xs page counts f r.hours inside, p.prefix.sum_is, w.wants))
            (λ k a i. go k a i (dec_le page.first k))
          where
            within : (k d : ℕ) → page.first + d ≡ k → d < r.hours → reading xs k ≡ reading xs at.lo + q → ⊥
            within k d a b i =
                omega (
                  arith,
                  p.prefix.short d b,
                  counts-readings xs page counts f d (omega (arith, inside)),
                  run-reading xs page.first d,
                  ap (reading xs) a,
                  w.wants,
                )

            go : (k : ℕ) → k < page.first + r.hours → reading xs k ≡ reading xs at.lo + q → Dec (page.first ≤ k) → ⊥
            go k a i (yes d) = within k (k - page.first) (omega arith) (omega arith) i
            go k a i (no d) = omega (arith, reading-grows xs k page.first (omega arith), w.wants, w.some)
