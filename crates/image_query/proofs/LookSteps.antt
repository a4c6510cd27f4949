-- The way to an hour, step by step, over plain numbers. Assumes nothing.
use mathlib.Core.Path.{◌≡◌, refl, sym, subst, ap, ◌∙◌}
use mathlib.Core.Bool.{Bool, true, false}
use mathlib.Core.List.{List}
use Prim.Native.Nat.{ℕ, zero, suc, ◌+◌, ◌-◌, ◌*◌, ◌/◌, ◌%◌, ◌^◌, ◌≤◌, ◌<◌}
use native.Mathlib.Omega.{arith}
use lib.Dec.{leb}
use borrow.Author.Tests.{le-leb, lt-leb, lt-ltb, le-ltb}
use Rattle.std.specs.Int.{from_bool}
use Rattle.std.specs.Option.{ok_or}
use Rattle.lists.specs.Counts.{max_count}
use Rattle.lists.specs.Lists.{pick}
use Rattle.bits.specs.Bits.{bits}
use Rattle.tree_walk.specs.Code.Answers.{walk_answer as walked}
use Rattle.tree.specs.Read.{Found, damaged, found, later, walk}
use Rattle.image.specs.Check.{headed}
use Rattle.image.specs.Code.Head.{Opened}
use Rattle.image.specs.Code.Page.{BeforeAt, PageAt, PageOf, Rooted, RootAt}
use Rattle.image_query.specs.Code.Walk.{Ends, count_answered}
use Rattle.image.specs.Query.{count, ended, look, count_in_page, page_fine, reading, reading_at, the_count, the_reading}
use Rattle.image.specs.Read.{before_of, e_of, n_of, page_count_of, sum_of, tree_at}
use Rattle.answers.specs.Image.{given, refused, told}
use Rattle.answers.specs.declared.refusal.Refusal.TheVariants.{Body}
use Rattle.tree.proofs.WalkLaws.{Most, walk-most}
use Rattle.image.proofs.HeadLaws.{never}
use Rattle.image.proofs.PageLaws.{hour-page}
use Rattle.std.specs.Prelude.{Option, None, Some}
use Rattle.image.specs.declared.head.Head.{Head}
use Rattle.image.specs.declared.page.Page.{Page}
use Rattle.image.specs.declared.page.Root.{Root}

-- ---- the way
told-later : (k x y : ℕ) (f : Found) → y ≡ k * x → walked y k f ≡ walked 0 k (later x f)
unfolding walked later
told-later k x y damaged e = refl
told-later k x y (found z c) e = ap Some {x = y + k * z + c} {y = 0 + k * (x + z) + c} (omega (arith, e))

-- what stands before is kept, or not
pub kept_by : (keep : Bool) (x : ℕ) {k : ℕ} → k ≡ from_bool keep → k * x ≤ x
kept_by true x e = rw e (omega arith)
kept_by false x e = rw e (omega arith)

module _ (s : List ℕ) (h : Head) (o : Opened s h) (i k : ℕ) where
  same : 2 ^ h.e ≡ 2 ^ e_of s
  same = ap (λ (e : ℕ). 2 ^ e) o.head.e-is

  pub look-page : {p : ℕ} → p ≡ i / 2 ^ h.e → i < h.hours → p < page_count_of s
  unfolding page_count_of
  look-page e l = rw (e, same) (hour-page (e_of s) (n_of s) i (omega (arith, o.head.hours-is)))

  -- the page between the roots of the hour's page is the hour's
  pub look-between : {p : ℕ} (own : Option Root) (last : Option ℕ) (r : Option Page) → p ≡ i / 2 ^ h.e → RootAt s p own → BeforeAt s p last
      → ((a : Rooted h own last) → PageAt a.s a.p r) → PageAt s (i / 2 ^ h.e) r
  look-between own last r e t x f = subst (λ (q : ℕ). PageAt s q r) e (f (record { s = s; p = _; opened = o; own_at = t; last-at = x }))

  look-lost : page_fine s (i / 2 ^ h.e) ≡ false → look s i ≡ damaged
  unfolding look count_in_page pick
  look-lost e = rw (← same, e)

  pub look-bad : page_fine s (i / 2 ^ h.e) ≡ false → None ≡ walked 0 k (look s i)
  unfolding walked
  look-bad e = rw (look-lost e)

  pub look-good : (r : Page) (m y : ℕ) → PageOf s (i / 2 ^ h.e) r → m ≡ 2 ^ h.e → y ≡ k * r.before
      → walked y k (walk h.e r.sum (bits s) r.at (i % m)) ≡ walked 0 k (look s i)
  unfolding look count_in_page pick
  look-good r m y p em ey =
      told-later k r.before y (walk h.e r.sum (bits s) r.at (i % m)) ey
      ∙ ap (walked 0 k) (rw (em, p.before-is, p.sum_is, p.at-is, o.head.e-is, ← same, p.fine))

-- ---- the answers
pub count-five : (s : List ℕ) (i : ℕ) → headed s ≡ false → refused 5 ≡ count s i
unfolding count pick
count-five s i e = rw e

pub count-seven : {s : List ℕ} {h : Head} → Opened s h → (i : ℕ) → h.hours ≤ i → refused 7 ≡ count s i
unfolding count pick
count-seven {s} o i l = rw (o.passed, le-leb (n_of s) i (omega (arith, o.head.hours-is)))

answer-count : (f : Found) → count_answered (walked 0 0 f) ≡ the_count (ended f)
unfolding count_answered walked ended the_count pick
answer-count damaged = refl
answer-count (found x c) = ap count_answered {x = Some (0 + 0 * x + c)} {y = Some c} (ap Some {x = 0 + 0 * x + c} {y = c} (omega arith)) ∙ go (leb c max_count)
  where
    go : (b : Bool) → pick b (given c) (refused 6) ≡ the_count (pick b (found x c) damaged)
    go true = refl
    go false = refl

-- ---- a count above the widest
pub ends_by : (f : Found) {way : Option ℕ} {r : Bool} → way ≡ walked 0 0 f → ((n : ℕ) → way ≡ Some n → r ≡ leb n max_count) → Ends f r
unfolding walked ended pick
ends_by damaged e m = record { kept = λ _. refl; lost = λ _. refl }
ends_by (found x c) {way} {r} e m = record { kept = λ q. rw (sym tested ∙ q) refl; lost = λ q. rw (sym tested ∙ q) refl }
  where
    tested : r ≡ leb c max_count
    tested = m c (e ∙ ap Some {x = 0 + 0 * x + c} {y = c} (omega arith))

few-ended : (t : ℕ) (f : Found) → Most t f → t ≤ max_count → ended f ≡ f
unfolding ended pick
few-ended t damaged m l = refl
few-ended t (found x c) m l = rw (le-leb c max_count (omega arith)) refl

later-ended : (x t : ℕ) (f : Found) → Most t f → t ≤ max_count → ended (later x f) ≡ later x f
unfolding ended later pick
later-ended x t damaged m l = refl
later-ended x t (found y c) m l = rw (le-leb c max_count (omega arith)) refl

pub ends-few : {s : List ℕ} {h : Head} (i : ℕ) {r : Page} → Opened s h → PageOf s (i / 2 ^ h.e) r → r.sum ≤ max_count → Ends (look s i) true
unfolding look count_in_page pick ended
ends-few {s} {h} i {r} o p l = record { kept = λ _. kept; lost = λ q. absurd (never (sym q)) }
  where
    e-same : 2 ^ h.e ≡ 2 ^ e_of s
    e-same = ap (λ (e : ℕ). 2 ^ e) o.head.e-is

    page : ℕ
    page = i / 2 ^ e_of s

    fine : page_fine s page ≡ true
    fine = ap (λ (m : ℕ). page_fine s (i / m)) (sym e-same) ∙ p.fine

    kept : ended (look s i) ≡ look s i
    kept =
        rw fine (later-ended (before_of s page) (sum_of s page) (walk (e_of s) (sum_of s page) (bits s) (tree_at s page) (i % 2 ^ e_of s))
        (walk-most (e_of s) (sum_of s page) (bits s) (tree_at s page) (i % 2 ^ e_of s))
        (omega (arith, p.sum_is ∙ ap (λ (m : ℕ). sum_of s (i / m)) e-same)))

-- the way as a reading takes it
pub through-bad : {f : Found} {r : Bool} → Ends f r → r ≡ false → None ≡ walked 0 1 (ended f)
unfolding walked
through-bad w q = ap (walked 0 1) (sym (w.lost q))

pub through-good : {f : Found} {r : Bool} {n : Option ℕ} → Ends f r → r ≡ true → n ≡ walked 0 1 f → n ≡ walked 0 1 (ended f)
through-good w q e = e ∙ ap (walked 0 1) (sym (w.kept q))

answer-reading : (f : Found) → told (ok_or (walked 0 1 f) Body) ≡ the_reading f
unfolding told walked the_reading
answer-reading damaged = refl
answer-reading (found x c) = ap given {x = 0 + 1 * x + c} {y = x + c} (omega arith)

pub count-lost : {s : List ℕ} {h : Head} (o : Opened s h) (i : ℕ) → i < h.hours → page_fine s (i / 2 ^ h.e) ≡ false → refused 6 ≡ count s i
unfolding count pick ended the_count
count-lost {s} {h} o i l e = rw (o.passed, lt-leb (n_of s) i (omega (arith, o.head.hours-is)), look-lost s h o i 0 e)

pub count-found : {s : List ℕ} {h : Head} → Opened s h → (i : ℕ) {r : Option ℕ} → i < h.hours → r ≡ walked 0 0 (look s i) → count_answered r ≡ count s i
unfolding count pick
count-found {s} o i l e =
    ap count_answered e ∙ answer-count (look s i)
    ∙ sym (rw (o.passed, lt-leb (n_of s) i (omega (arith, o.head.hours-is))))

pub reading-five : (s : List ℕ) (i : ℕ) → headed s ≡ false → refused 5 ≡ reading s i
unfolding reading pick
reading-five s i e = rw e

pub reading-seven : {s : List ℕ} {h : Head} → Opened s h → (i : ℕ) → h.hours < i → refused 7 ≡ reading s i
unfolding reading pick
reading-seven {s} o i l = rw (o.passed, lt-ltb (n_of s) i (omega (arith, o.head.hours-is)))

pub reading-none : {s : List ℕ} {h : Head} → Opened s h → (i : ℕ) → i ≡ 0 → given 0 ≡ reading s i
unfolding reading pick reading_at
reading-none {s} o zero z = rw (o.passed, le-ltb (n_of s) 0 (omega arith))
reading-none o (suc i) z = absurd (omega (arith, z))

pub reading-lost : {s : List ℕ} {h : Head} (o : Opened s h) (i : ℕ) → 1 ≤ i → i ≤ h.hours → page_fine s ((i - 1) / 2 ^ h.e) ≡ false
    → refused 6 ≡ reading s i
unfolding reading pick reading_at ended the_reading
reading-lost o zero k l e = absurd (omega arith)
reading-lost {s} {h} o (suc i) k l e =
    let z : suc i - 1 ≡ i = omega arith in
    rw (o.passed, le-ltb (n_of s) (suc i) (omega (arith, o.head.hours-is)), look-lost s h o i 0 (ap (λ (j : ℕ). page_fine s (j / 2 ^ h.e)) (sym z) ∙ e))

-- 'Reading at i > 0 walks to hour i-1'
pub reading-found : {s : List ℕ} {h : Head} → Opened s h → (i : ℕ) {r : Option ℕ} → 1 ≤ i → i ≤ h.hours → r ≡ walked 0 1 (ended (look s (i - 1)))
    → told (ok_or r Body) ≡ reading s i
unfolding reading pick reading_at
reading-found o zero k l e = absurd (omega arith)
reading-found {s} o (suc i) k l e =
    let z : suc i - 1 ≡ i = omega arith in
    ap (λ (w : Option ℕ). told (ok_or w Body)) (e ∙ ap (λ (j : ℕ). walked 0 1 (ended (look s j))) z)
    ∙ answer-reading (ended (look s i))
    ∙ sym (rw (o.passed, le-ltb (n_of s) (suc i) (omega (arith, o.head.hours-is))))
