-- A pass over the pages that move, in the numbers that the code has. Assumes nothing.
use mathlib.Core.Path.{◌≡◌, refl, sym, ap, ap₂, subst, subst₂, ◌∙◌}
use mathlib.Core.Bool.{Bool, true, false, not, beq}
use mathlib.Core.List.{List}
use mathlib.Core.Logic.{inl}
use Prim.Native.Nat.{ℕ, ◌+◌, ◌-◌, ◌*◌, ◌≤◌, ◌<◌}
use native.Mathlib.Numerals.{add-one}
use native.Mathlib.Omega.{arith}
use lib.ListN.{length, get_or}
use lib.Dec.{ltb}
use borrow.Author.Tests.{ltb-false, ltb-true}
use Rattle.lists.specs.Lists.{sum}
use Rattle.bits.specs.Numbers.{number_at}
use Rattle.store.specs.PageCode.{cells}
use Rattle.store.specs.Plain.{need, page}
use Rattle.store.specs.Layout.{Model, bytes_of, cells_start, resize}
use Rattle.store.specs.OneCell.{chain_of}
use Rattle.store.specs.Reading.{list_in, page_count_of, read, sum_in}
use Rattle.store.specs.Settle.{wanted}
use Rattle.store.specs.Sound.{Good}
use Rattle.store.specs.Code.Chained.{Chained, HoldsChains}
use Rattle.store.specs.Code.Links.{put}
use Rattle.store.specs.Code.Moving.{moving, repaged}
use Rattle.store.proofs.PageByPage.{Due, NotDue, moving-above, moving-begins, moving-below, moving-chained, moving-ends, moving-late, moving-next}
use Rattle.store.proofs.PageByPage.{moving-page, moving-room, moving-skips}
use Rattle.store.proofs.ReadBack.{page-le}
use Rattle.store.proofs.SoundFacts.{ChainFacts, Facts, bytes-hold, bytes_read, chain-facts, facts}
use Rattle.store.proofs.Spread.{spread-of}
use Rattle.move_counts.specs.Code.Turned.{turned}
use Rattle.move_page.specs.declared.PageMove.{PageMove}
use Rattle.move_page.specs.Code.Move.{Movable, Moved, counts_after}
use Rattle.move_plan.specs.declared.shift.Shift.{Shift}
use Rattle.move_pages.specs.declared.Plan.{Plan}
use Rattle.move_plan.specs.Code.Plan.{comes_to, near, shifted}
use Rattle.move_plan.proofs.Shifting.{near-low}
use Rattle.move_pages.specs.Code.Pass.{Enough, Settles, Stands}

-- the test of a page
pub due-yes : (late : Bool) (old new : ℕ) → not (beq late (ltb old new)) ≡ false → Due late old new
due-yes late old new e = go late (ltb old new) refl e
  where
    go : (l b : Bool) → ltb old new ≡ b → not (beq l b) ≡ false → Due l old new
    go true true q f = ltb-true old new q
    go true false q f = cc
    go false true q f = cc
    go false false q f = ltb-false old new q

pub due-no : (late : Bool) (old new : ℕ) → not (beq late (ltb old new)) ≡ true → NotDue late old new
due-no late old new e = go late (ltb old new) refl e
  where
    go : (l b : Bool) → ltb old new ≡ b → not (beq l b) ≡ true → NotDue l old new
    go true true q f = cc
    go true false q f = ltb-false old new q
    go false true q f = ltb-true old new q
    go false false q f = cc

module _ {z : List ℕ} {plan : Plan} (h : Enough z plan) where
  abbrev m : Shift
  m = plan.shift

  abbrev leaving : List ℕ
  leaving = plan.leaving.now

  abbrev old : List ℕ
  old = plan.old.now

  abbrev new : List ℕ
  new = plan.new.now

  abbrev w₀ : Model
  w₀ = read z

  abbrev xs : List ℕ
  xs = list_in z

  abbrev ys : List ℕ
  ys = shifted m xs

  abbrev P : ℕ
  P = w₀.plain.pages

  f : Facts z
  f = facts z h.shiftable.is-sound

  abbrev g : Good w₀
  g = f.good

  end-in : m.end ≤ P
  end-in = omega (arith, h.shiftable.inside, f.pages-are)

  cells-enough : need ys P ≤ w₀.plain.cells
  cells-enough = rw (← f.pages-are, ← f.cells_are) h.enough

  -- ---- a page in its turn
  module _ (late : Bool) {p : ℕ} (lo : m.first ≤ p) (hi : p < m.end) {s : List ℕ} (st : Stands z m late p s) where
    abbrev w : Model
    w = moving late w₀ ys p

    lp : p < P
    lp = omega (arith, end-in)

    wc : Chained w
    wc = moving-chained w₀ ys g cells-enough h.shiftable.total late p (omega (arith, lp))

    holds : HoldsChains s
    holds = subst HoldsChains (sym st) (bytes-hold w wc)

    says : read s ≡ w
    says = ap read st ∙ bytes_read w wc

    hf : ChainFacts s
    hf = chain-facts s holds

    pages-same : page_count_of s ≡ P
    unfolding moving
    pages-same = hf.pages-are ∙ ap (λ (v : Model). v.plain.pages) says

    module _ (d : Due late (wanted xs p) (wanted ys p)) where
      page-same : page (list_in s) p ≡ page xs p
      page-same = ap (λ (v : Model). page v.plain.counts p) says ∙ moving-page w₀ ys g cells-enough h.shiftable.total late p lp d

      module _ {a c o n : ℕ} (ea : a ≡ near m p) (ec : c ≡ comes_to m leaving p) (eo : o ≡ get_or old p 0) (en : n ≡ get_or new p 0) where
        abbrev ch : PageMove
        ch = record { page = p; edit = m.edit; at = a; count = c; old = o; new = n }

        after_is : counts_after s ch ≡ page ys p
        after_is =
            ap (λ (u : List ℕ). turned m.edit u a c) page-same ∙ ap₂ (turned m.edit (page xs p)) ea ec
            ∙ sym (h.shiftable.moves p lo hi leaving h.leaves)

        old-as : o ≡ wanted xs p
        old-as = eo ∙ h.had p lo hi

        new-as : n ≡ wanted ys p
        new-as = en ∙ h.asked p lo hi

        old-now : wanted xs p ≡ cells (sum_in s p)
        old-now = sym (ap cells (hf.sums p (omega (arith, pages-same, lp)) ∙ ap sum page-same))

        room-now : wanted ys p ≤ wanted xs p + number_at s 8 2
        unfolding moving
        room-now =
            let l : length (chain_of w p) ≡ wanted xs p =
            wc.lengths p lp ∙ ap (λ (u : List ℕ). cells (sum u)) (moving-page w₀ ys g cells-enough h.shiftable.total late p lp d) in
            let r = moving-room w₀ ys g cells-enough h.shiftable.total late p lp d in
            omega (arith, l, r, hf.free-is, ap (λ (v : Model). length v.spare) says)

        pub movable : Movable s plan.base ch plan.all
        movable = record {
          holds = holds;
          base-is = h.base-is ∙ ap cells_start (f.pages-are ∙ sym pages-same);
          inside = omega (arith, pages-same, lp);
          within = omega (arith, ea, near-low m p h.shiftable.within);
          old-is = old-as ∙ old-now;
          fits = rw after_is (omega (arith, page-le ys p, h.shiftable.total));
          new_is = new-as ∙ sym (ap (λ (u : List ℕ). cells (sum u)) after_is);
          enough = omega (arith, old-as, new-as, room-now);
          hours-are = h.hours-are ∙ ap (λ (v : ℕ). 64 * v) (f.pages-are ∙ sym pages-same);
        }

        pub moves-on : {t : List ℕ} → Moved s ch t → Stands z m late (p + 1) t
        unfolding moving
        moves-on e =
            e
            ∙ ap₂ (λ (v : Model) (u : List ℕ). bytes_of (resize v (repaged v.plain.pages v.plain.counts p u) p (cells (sum u)))) says after_is
            ∙ ap bytes_of (moving-next w₀ ys g cells-enough h.shiftable.total late p lp d)
            ∙ ap (λ (n : ℕ). bytes_of (moving late w₀ ys n)) (sym (add-one p))

    pub stays_on : NotDue late (wanted xs p) (wanted ys p) → Stands z m late (p + 1) s
    stays_on d =
        st ∙ ap bytes_of (sym (moving-skips w₀ ys g cells-enough h.shiftable.total late p lp (inl d)))
        ∙ ap (λ (n : ℕ). bytes_of (moving late w₀ ys n)) (sym (add-one p))

    -- the same from the cells in the arrays
    module _ {o n : ℕ} (eo : o ≡ get_or old p 0) (en : n ≡ get_or new p 0) where
      pub due-at : Due late o n → Due late (wanted xs p) (wanted ys p)
      due-at d = subst₂ (Due late) (eo ∙ h.had p lo hi) (en ∙ h.asked p lo hi) d

      pub stays_at : NotDue late o n → Stands z m late (p + 1) s
      stays_at d = stays_on (subst₂ (NotDue late) (eo ∙ h.had p lo hi) (en ∙ h.asked p lo hi) d)

  pub coming-asks : (p : ℕ) → m.first ≤ p → p < m.end → (m.first ≤ p) × (p < m.end) × (m.end ≤ length leaving)
  coming-asks p lo hi = (lo, hi, h.leaving-long)

  -- ---- the pages below and above stay
  pub pass-begins : (late : Bool) {s : List ℕ} → Stands z m late 0 s → Stands z m late m.first s
  pass-begins late e =
      e ∙ ap bytes_of (sym (moving-below w₀ ys g cells-enough h.shiftable.total late m.first
      (omega (arith, end-in, h.shiftable.some)) h.shiftable.below))

  pub header-in : 16 ≤ length z
  header-in = omega (arith, f.long)

  pub some-page : m.first < m.end
  some-page = h.shiftable.some

  pub pass-ends : (late : Bool) {p : ℕ} {s : List ℕ} → p ≡ m.end → Stands z m late p s → Stands z m late P s
  pass-ends late {p} e st =
      let k : m.end + (P - m.end) ≡ P = omega (arith, end-in) in
      st ∙ ap (λ (n : ℕ). bytes_of (moving late w₀ ys n)) e
      ∙ ap bytes_of (sym (moving-above w₀ ys g cells-enough h.shiftable.total late m.end (P - m.end)
      (omega (arith, end-in)) h.shiftable.above))
      ∙ ap (λ (n : ℕ). bytes_of (moving late w₀ ys n)) k

  -- ---- from the store to the store
  pub all-begins : {t : List ℕ} → t ≡ put z 12 4 plan.all → Stands z m false 0 t
  all-begins e =
      e ∙ ap (put z 12 4) (h.hours-are ∙ ap (λ (v : ℕ). 64 * v) f.pages-are)
      ∙ moving-begins w₀ ys g cells-enough h.shiftable.total z (spread-of z w₀ g.rows f.holds)

  pub all-turns : {t : List ℕ} → Stands z m false P t → Stands z m true 0 t
  all-turns e = e ∙ ap bytes_of (moving-late w₀ ys g cells-enough h.shiftable.total)

  pub all-ends : {u t : List ℕ} {n : ℕ} → Stands z m true P u → n ≡ length ys → t ≡ put u 12 4 n → Settles z m t
  all-ends {u} {t} {n} st en e =
      e ∙ ap₂ (λ (v : List ℕ) (k : ℕ). put v 12 4 k) st en
      ∙ moving-ends w₀ ys g cells-enough h.shiftable.total (omega (arith, h.shiftable.hours, f.pages-are))
