-- The pages that pass the code's test, one after another. Assumes nothing.
use mathlib.Core.Path.{◌≡◌, refl, sym, ap, ap₂, ◌∙◌, subst}
use mathlib.Core.Bool.{true, not}
use mathlib.Core.List.{List, [], ◌∷◌, ◌++◌, append-nil}
use Prim.Native.Nat.{ℕ, zero, suc, ◌+◌, ◌-◌, ◌*◌, ◌/◌, ◌%◌, ◌^◌, ◌≤◌, ◌<◌}
use native.Mathlib.Nat.{add-zero, mul-zero, mul-suc}
use native.Mathlib.Omega.{arith}
use native.Mathlib.Decide.{dec_le}
use lib.ListN.{length, get_or, take, drop, length-drop}
use lib.Seq.{take-add, take-append-add, take-suc, take-take}
use lib.Dec.{eqb}
use borrow.Author.Tests.{le-leb, leb-true, eq-eqb, eqb-true}
use Rattle.lists.specs.Counts.{within}
use Rattle.lists.specs.Lists.{concat, part, pick, sum, tabulate}
use Rattle.lists.proofs.Sums.{sum-append}
use Rattle.lists.proofs.Tables.{concat-at, concat-suc}
use Rattle.lists.proofs.Tests.{both, each, every_of, left, right}
use Rattle.bits.specs.Bits.{bits}
use Rattle.bits.proofs.Laws.{length-bits}
use Rattle.bits.proofs.Packing.{bits-bytes}
use Rattle.reserve.specs.Reserve.{reserve}
use Rattle.tree.specs.Read.{counts, found, later, walk}
use Rattle.tree.specs.Tree.{tree}
use Rattle.tree.specs.Code.Exact.{CodeOfCounts}
use Rattle.tree.proofs.Exacts.{exact-coded}
use Rattle.tree_lowest.specs.Code.Narrow.{narrow}
use Rattle.tree_lowest.proofs.NarrowLaws.{narrow_exact, narrow_within}
use Rattle.tree.proofs.Shape.{length-counts}
use Rattle.tree.proofs.WalkLaws.{shift, walk-tree}
use Rattle.image.specs.Check.{headed}
use Rattle.image.specs.Image.{bytes_for, size, table_at}
use Rattle.image.specs.Query.{before_passing, look, count_in_page, page_fine, the_reading}
use Rattle.image.specs.Read.{before_of, code_at, e_of, l_of, n_of, page_of, page_count_of, root_at, s_of, start_of, sum_of, tree_at, wide_of, width_of}
use Rattle.answers.specs.Image.{given}
use Rattle.image_test.specs.Code.Test.{pages_from, sum_at}
use Rattle.image.proofs.DamageLaws.{is_within, within as not_beyond}
use Rattle.image.proofs.PageLaws.{hour-low, hour-page, hour-split}

-- where page p is to start, by the pages before it
unfoldable pub place_of : List ℕ → ℕ → ℕ
place_of s zero = 0
place_of s (suc p) = place_of s p + width_of s + reserve (e_of s) (sum_of s p)

-- a page that passes, most being the limit for its counts
pub record Passes (most : ℕ) (s : List ℕ) (p : ℕ) : Type 0 where
  pub place : start_of s p ≡ place_of s p
  pub rises : before_of s p ≤ root_at s p
  pub fits : place_of s (suc p) ≤ l_of s
  pub tree : narrow most (e_of s) (sum_of s p) (bits s) (code_at s + place_of s p + width_of s) ≡ true

pub record All (most : ℕ) (s : List ℕ) (k p : ℕ) : Type 0 where
  pub page : (q : ℕ) → p ≤ q → q < p + k → Passes most s q
  pub last : place_of s (p + k) ≡ l_of s
  pub top : before_of s (p + k) ≡ s_of s

pub from_all : (most : ℕ) (s : List ℕ) (k p : ℕ) → pages_from most s k p (place_of s p) (before_of s p) ≡ true → All most s k p
unfolding pages_from place_of before_of sum_of
from_all most s zero p e =
    let z : p + 0 ≡ p = add-zero p in
    record {
      page = λ q a b. absurd (omega (arith, z));
      last = ap (place_of s) z ∙ eqb-true (place_of s p) (l_of s) (left (eqb (place_of s p) (l_of s)) (eqb (before_of s p) (s_of s)) e);
      top = ap (before_of s) z ∙ eqb-true (before_of s p) (s_of s) (right (eqb (place_of s p) (l_of s)) (eqb (before_of s p) (s_of s)) e);
    }
from_all most s (suc k) p e =
    let w = each _ e in
    let here : Passes most s p =
    record {
      place = eqb-true (start_of s p) (place_of s p) w.0;
      rises = leb-true (before_of s p) (root_at s p) w.1.0;
      fits = is_within _ (l_of s)
          w.1.1.0;
      tree = w.1.1.1.0;
    } in
    let rest : All most s k (suc p) = from_all most s k (suc p) w.1.1.1.1.0 in
    let z : suc p + k ≡ p + suc k = omega arith in
    record {
      page = λ q a b. pick-page most s p q a here (λ (c : suc p ≤ q). rest.page q c (omega (arith, z)));
      last = ap (place_of s) (sym z) ∙ rest.last;
      top = ap (before_of s) (sym z) ∙ rest.top;
    }
  where
    pick-page : (most : ℕ) (s : List ℕ) (p q : ℕ) → p ≤ q → Passes most s p → (suc p ≤ q → Passes most s q) → Passes most s q
    pick-page most s p q a h r = go (dec_le (suc p) q)
      where
        go : Dec (suc p ≤ q) → Passes most s q
        go (yes c) = r c
        go (no c) = subst (Passes most s) {x = p} {y = q} (omega arith) h

pub all_from : (most : ℕ) (s : List ℕ) (k p : ℕ) → All most s k p → pages_from most s k p (place_of s p) (before_of s p) ≡ true
unfolding pages_from place_of before_of sum_of
all_from most s zero p w =
    let z : p + 0 ≡ p = add-zero p in
    both (eq-eqb (place_of s p) (l_of s) (ap (place_of s) (sym z) ∙ w.last)) (eq-eqb (before_of s p) (s_of s) (ap (before_of s) (sym z) ∙ w.top))
all_from most s (suc k) p w =
    let z : suc p + k ≡ p + suc k = omega arith in
    let h : Passes most s p = w.page p (omega arith) (omega arith) in
    let r : All most s k (suc p) =
    record { page = λ q a b. w.page q (omega arith) (omega (arith, z)); last = ap (place_of s) z ∙ w.last; top = ap (before_of s) z ∙ w.top } in
    every_of _ (
      eq-eqb (start_of s p) (place_of s p) h.place,
      (
        le-leb (before_of s p) (root_at s p) h.rises,
        (not_beyond _ (l_of s) h.fits, (h.tree, (all_from most s k (suc p) r, tt))),
      ),
    )

-- ---- the first pages of many
concat-front : (k p n : ℕ) (f : ℕ → List ℕ) → p ≤ k → ((j : ℕ) → length (f j) ≡ n)
    → take (n * p) (concat (tabulate k f)) ≡ concat (tabulate p f)
unfolding tabulate concat
concat-front k zero n f l h = ap (λ (z : ℕ). take z (concat (tabulate k f))) (mul-zero n)
concat-front zero (suc p) n f l h = absurd (omega arith)
concat-front (suc k) (suc p) n f l h =
    ap (λ (z : ℕ). take z (f 0 ++ concat (tabulate k (λ j. f (suc j))))) {x = n * suc p} {y = length (f 0) + n * p} (omega (arith, mul-suc n p, h 0))
    ∙ take-append-add (f 0) (concat (tabulate k (λ j. f (suc j)))) (n * p)
    ∙ ap (λ (z : List ℕ). f 0 ++ z) (concat-front k p n (λ j. f (suc j)) (omega arith) (λ j. h (suc j)))

concat-into : (k p n i : ℕ) (f : ℕ → List ℕ) → p < k → ((j : ℕ) → length (f j) ≡ n) → i ≤ n
    → take (n * p + i) (concat (tabulate k f)) ≡ concat (tabulate p f) ++ take i (f p)
concat-into k p n i f l h q =
    let F : List ℕ = concat (tabulate k f) in
    take-add (n * p) i F
    ∙ ap₂ ◌++◌ (concat-front k p n f (omega arith) h)
    (sym (take-take i n (drop (n * p) F) q) ∙ ap (take i) (ap (λ (z : List ℕ). part z (n * p) n) (sym (append-nil F))
    ∙ concat-at k n f [] p (λ j _. h j) l))

-- ---- bytes all of whose pages pass
module _ {most : ℕ} (s : List ℕ) (hd : headed s ≡ true) (all : All most s (page_count_of s) 0) where
  abbrev e : ℕ
  e = e_of s

  abbrev b : List ℕ
  b = bits s

  -- where the code starts
  abbrev c : ℕ
  c = code_at s

  abbrev K : ℕ
  K = page_count_of s

  abbrev w : ℕ
  w = width_of s

  pub size_is : length s ≡ size (wide_of s) e (n_of s) (l_of s)
  unfolding headed
  size_is = eqb-true (length s) (size (wide_of s) e (n_of s) (l_of s)) (each _ hd).1.1.1.1.1.1.1.1.0

  pub passes : (p : ℕ) → p < K → Passes most s p
  passes p l = all.page p (omega arith) (omega arith)

  pub last : place_of s K ≡ l_of s
  last = ap (place_of s) {x = K} {y = 0 + K} (omega arith) ∙ all.last

  pub top : before_of s K ≡ s_of s
  top = ap (before_of s) {x = K} {y = 0 + K} (omega arith) ∙ all.top

  pub body-long : length (drop (table_at (wide_of s) K) s) ≡ bytes_for (l_of s)
  unfolding size page_count_of
  body-long = omega (arith, length-drop (table_at (wide_of s) K) s, size_is)

  pub bits-long : length b ≡ c + 8 * bytes_for (l_of s)
  unfolding code_at size page_count_of
  bits-long = length-bits s ∙ omega (arith, size_is)

  pub code_fits : c + l_of s ≤ length b
  unfolding bytes_for
  code_fits = omega (arith, bits-long)

  pub coded : (p : ℕ) → p < K → CodeOfCounts e (sum_of s p) b (c + place_of s p + w)
  unfolding place_of
  coded p l = exact-coded e (sum_of s p) b (c + place_of s p + w) (bits-bytes s) (omega (arith, (passes p l).fits, code_fits))
      (narrow_exact most e (sum_of s p) b (c + place_of s p + w) (passes p l).tree)

  pub page-counts : (p : ℕ) → p < K → page_of s p ≡ counts e (sum_of s p) b (c + place_of s p + w)
  unfolding page_of tree_at
  page-counts p l = ap (λ (z : ℕ). counts e (sum_of s p) b (c + z + w)) (passes p l).place

  pub page-within : (p : ℕ) → p < K → within most (page_of s p) ≡ true
  page-within p l = ap (within most) (page-counts p l) ∙ narrow_within most e (sum_of s p) b (c + place_of s p + w) (passes p l).tree

  pub page-total : (p : ℕ) → p < K → sum (page_of s p) ≡ sum_of s p
  page-total p l = ap sum (page-counts p l) ∙ (coded p l).total

  pub page-long : (p : ℕ) → length (page_of s p) ≡ 2 ^ e
  unfolding page_of
  page-long p = length-counts e (sum_of s p) b (tree_at s p)

  -- the sums of the first pages are the roots
  pub first-sums : (k : ℕ) → k ≤ K → sum (concat (tabulate k (page_of s))) ≡ before_of s k
  unfolding before_of sum_of sum tabulate concat
  first-sums zero l = refl
  first-sums (suc k) l =
      ap sum (concat-suc k (page_of s)) ∙ sum-append (concat (tabulate k (page_of s))) (page_of s k)
      ∙ omega (arith, first-sums k (omega arith), page-total k l, (passes k l).rises)

  before-top : (d p : ℕ) → p + d ≡ K → before_of s p ≤ s_of s
  unfolding before_of
  before-top zero p q = omega (arith, top, ap (before_of s) {x = p} {y = K} (omega (arith, q)))
  before-top (suc d) p q = omega (arith, (passes p (omega (arith, q))).rises, before-top d (suc p) (omega (arith, q)))

  before-fits : (p : ℕ) → p < K → not (before_passing s p) ≡ true
  unfolding before_passing place_of
  before-fits zero l = refl
  before-fits (suc p) l = not_beyond (start_of s p + w) (l_of s) (omega (arith, (passes p (omega arith)).place, (passes p (omega arith)).fits))

  pub page-fine : (p : ℕ) → p < K → page_fine s p ≡ true
  unfolding page_fine place_of before_of
  page-fine p l =
      every_of _ (
        not_beyond (start_of s p + w) (l_of s) (omega (arith, (passes p l).place, (passes p l).fits)),
        (
          before-fits p l,
          (
            not_beyond (root_at s p) (s_of s) (before-top (K - suc p) (suc p) (omega arith)),
            (
              not_beyond (before_of s p) (s_of s) (before-top (K - p) p (omega arith)),
              (
                not_beyond (before_of s p) (root_at s p) (passes p l).rises,
                (not_beyond (start_of s p + w + reserve e (sum_of s p)) (l_of s) (omega (arith, (passes p l).place, (passes p l).fits)), tt),
              ),
            ),
          ),
        ),
      )

  look_in : (p j : ℕ) → p < K → j < 2 ^ e → count_in_page s p j ≡ found (before_of s p + sum (take j (page_of s p))) (get_or (page_of s p) j 0)
  unfolding count_in_page pick tree_at page_of
  look_in p j l q =
      let X : List ℕ = page_of s p in
      let t : part b (tree_at s p) (reserve e (sum X)) ≡ tree e X =
      ap₂ (λ (a z : ℕ). part b (c + a + w) (reserve e z)) (passes p l).place (page-total p l) ∙ (coded p l).code
      ∙ ap (tree e) (sym (page-counts p l)) in
      rw (page-fine p l)
      (ap (λ (z : ℕ). later (before_of s p) (walk e z b (tree_at s p) j)) (sym (page-total p l))
      ∙ ap (later (before_of s p)) (walk-tree e X b (tree_at s p) j (page-long p) q t)
      ∙ shift (before_of s p) (sum (take j X)) (get_or X j 0))

  -- the reading at any hour is the sum of the counts before it
  pub reading-all : (i : ℕ) → i ≤ n_of s → sum_at s i ≡ given (sum (take i (concat (tabulate K (page_of s)))))
  unfolding sum_at look the_reading sum page_count_of
  reading-all zero l = refl
  reading-all (suc i) l =
      let p : ℕ = i / 2 ^ e in
      let j : ℕ = i % 2 ^ e in
      let k : p < K = hour-page e (n_of s) i l in
      let X : List ℕ = page_of s p in
      let m : 2 ^ e * p + suc j ≡ suc i = omega (arith, hour-split e i) in
      ap the_reading (look_in p j k (hour-low e i))
      ∙ ap given
      (omega (
        arith,
        ap sum (take-suc X j 0 (omega (arith, page-long p, hour-low e i))),
        sum-append (take j X) (get_or X j 0 ∷ []),
        first-sums p (omega arith),
        sum-append (concat (tabulate p (page_of s))) (take (suc j) X),
        ap sum (concat-into K p (2 ^ e) (suc j) (page_of s) k page-long (hour-low e i)),
        ap (λ (z : ℕ). sum (take z (concat (tabulate K (page_of s))))) m,
      ))
