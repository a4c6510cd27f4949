-- A change of many pages, page by page: between two of them the chains are right, and in the end the model is `settled`. Assumes nothing.
use mathlib.Core.Path.{◌≡◌, refl, sym, ap, ap₂, ◌∙◌}
use mathlib.Core.Bool.{Bool, true, false}
use mathlib.Core.List.{List}
use mathlib.Core.Logic.{◌⊎◌, inl, inr}
use Prim.Native.Nat.{ℕ, zero, suc, ◌+◌, ◌*◌, ◌≤◌, ◌<◌, min}
use native.Mathlib.Omega.{arith}
use native.Mathlib.Decide.{dec_le, ℕ_discrete}
use lib.ListN.{length}
use borrow.Author.Tests.{le-leb, le-ltb, lt-leb, lt-ltb}
use Rattle.lists.specs.Lists.{occurrences, pick, sum}
use Rattle.store.specs.Limits.{max_total}
use Rattle.store.specs.PageCode.{cells}
use Rattle.store.specs.Plain.{need, page, relisted}
use Rattle.store.specs.Layout.{Model, bytes_of, resize}
use Rattle.store.specs.OneCell.{chain_of}
use Rattle.store.specs.Settle.{pagewise, settled, shrunk, size_to, wanted, with_list}
use Rattle.store.specs.Sound.{Good, is_cell, on_chains}
use Rattle.store.specs.Code.Chained.{Chained}
use Rattle.store.specs.Code.Links.{put}
use Rattle.store.specs.Code.Moving.{has_moved, mixed, moving, no_growth, passed_cells, repaged}
use Rattle.store.proofs.Chained.{good-chained}
use Rattle.store.proofs.Holds.{chained-bytes}
use Rattle.store.proofs.OnePage.{stays}
use Rattle.store.proofs.ReadBack.{page-le}
use Rattle.store.proofs.Relisting.{hours-bytes}
use Rattle.store.proofs.Repaged.{mixed-length, mixed-next, mixed-page, mixed-same}
use Rattle.store.proofs.SettledGood.{grows-enough, shrunk-sized}
use Rattle.store.proofs.Sized.{Sized, enough-shrink, long, room, sized}
use Rattle.store.proofs.Spread.{Spread, spread-of}

-- whether a page is to move in a pass, from the cells that it has and is to have
abbrev pub Due : Bool → ℕ → ℕ → Type 0
Due false old new = new ≤ old
Due true old new = old < new

abbrev pub NotDue : Bool → ℕ → ℕ → Type 0
NotDue false old new = old < new
NotDue true old new = new ≤ old

module _ (m : Model) (ys : List ℕ) (g : Good m) (enough : need ys m.plain.pages ≤ m.plain.cells) (ls : sum ys ≤ max_total) where
  abbrev P : ℕ
  P = m.plain.pages

  abbrev xs : List ℕ
  xs = m.plain.counts

  abbrev kept : ℕ → ℕ
  kept q = min (long m q) (wanted ys q)

  -- the chains of a pass that has come to page n
  abbrev sizes : Bool → ℕ → Model
  sizes late n = pagewise n (λ p. size_to p (passed_cells late m ys p)) (pick late (shrunk m ys) m)

  first-sized : (n : ℕ) → n ≤ P → Sized m kept n (sizes false n)
  unfolding passed_cells pick
  first-sized n l = sized m kept n (omega (arith, g.rows)) (enough-shrink m kept n (λ q. omega arith))

  late-sized : (n : ℕ) → n ≤ P → Sized (shrunk m ys) (wanted ys) n (sizes true n)
  unfolding passed_cells pick
  late-sized n l =
      sized (shrunk m ys) (wanted ys) n (omega (arith, g.rows, (shrunk-sized m ys g).rows)) (λ q lq. grows-enough m ys g enough q (omega arith))

  -- which pages have moved
  before : (late : Bool) (n q : ℕ) → q < n → has_moved late xs ys n q ≡ pick late true (no_growth xs ys q)
  unfolding has_moved pick
  before late n q l = rw (lt-ltb q n l)

  behind : (late : Bool) (n q : ℕ) → n ≤ q → has_moved late xs ys n q ≡ pick late (no_growth xs ys q) false
  unfolding has_moved pick
  behind late n q l = rw (le-ltb q n l)

  -- a page that does not grow has as few cells as it is to have, one that grows as many as it had
  kept-cells : (q : ℕ) → q < P → kept q ≡ cells (sum (pick (no_growth xs ys q) (page ys q) (page xs q)))
  unfolding pick
  kept-cells q l = go (dec_le (wanted ys q) (wanted xs q))
    where
      go : Dec (wanted ys q ≤ wanted xs q) → kept q ≡ cells (sum (pick (no_growth xs ys q) (page ys q) (page xs q)))
      go (yes r) = rw (le-leb (wanted ys q) (wanted xs q) r) (omega (arith, g.lengths q l))
      go (no r) = rw (lt-leb (wanted ys q) (wanted xs q) (omega arith)) (omega (arith, g.lengths q l))

  abbrev fits : ℕ → Bool → Type 0
  fits q b = sum (pick b (page ys q) (page xs q)) ≤ max_total

  page-fits : (q : ℕ) (b : Bool) → fits q b
  unfolding pick
  page-fits q true = omega (arith, page-le ys q)
  page-fits q false = omega (arith, page-le xs q, g.total)

  lengths-at : (late : Bool) (n q : ℕ) → n ≤ P → q < P → Dec (n ≤ q) → length (chain_of (sizes late n) q)
      ≡ cells (sum (pick (has_moved late xs ys n q) (page ys q) (page xs q)))
  unfolding pick
  lengths-at false n q ln lq (yes r) = rw (behind false n q r) (ap length ((first-sized n ln).rest q r) ∙ g.lengths q lq)
  lengths-at false n q ln lq (no r) = rw (before false n q (omega arith)) ((first-sized n ln).done q (omega arith) ∙ kept-cells q lq)
  lengths-at true n q ln lq (yes r) =
      rw (behind true n q r) (ap length ((late-sized n ln).rest q r) ∙ (shrunk-sized m ys g).done q lq ∙ kept-cells q lq)
  lengths-at true n q ln lq (no r) = rw (before true n q (omega arith)) ((late-sized n ln).done q (omega arith))

  -- between two pages the chains are right
  pub moving-chained : (late : Bool) (n : ℕ) → n ≤ P → Chained (moving late m ys n)
  unfolding moving on_chains
  moving-chained late n l = record {
    limits = g.limits;
    hours = omega (arith, mixed-length P xs ys (has_moved late xs ys n));
    rows = rows late;
    lengths = λ q lq. lengths-at late n q l lq (dec_le n q) ∙ ap (λ (z : List ℕ). cells (sum z)) (sym (mixed-page P xs ys (has_moved late xs ys n) q lq));
    sums = λ q lq. rw (mixed-page P xs ys (has_moved late xs ys n) q lq) (page-fits q (has_moved late xs ys n q));
    once = once late;
    all = all late;
  }
    where
      rows : (late : Bool) → length (sizes late n).chains ≡ P
      rows false = (first-sized n l).rows ∙ g.rows
      rows true = (late-sized n l).rows ∙ (shrunk-sized m ys g).rows ∙ g.rows

      once : (late : Bool) (c : ℕ) → occurrences c (on_chains (sizes late n)) ≡ is_cell m.plain.cells c
      once false c = (first-sized n l).once c ∙ g.once c
      once true c = (late-sized n l).once c ∙ (shrunk-sized m ys g).once c ∙ g.once c

      all : (late : Bool) → length (on_chains (sizes late n)) ≡ m.plain.cells
      all false = (first-sized n l).all ∙ g.all
      all true = (late-sized n l).all ∙ (shrunk-sized m ys g).all ∙ g.all

  -- ---- page p moves
  others : (late : Bool) (p q : ℕ) → (q ≡ p → ⊥) → has_moved late xs ys (suc p) q ≡ has_moved late xs ys p q
  others late p q ne = go (dec_le p q)
    where
      go : Dec (p ≤ q) → has_moved late xs ys (suc p) q ≡ has_moved late xs ys p q
      go (yes l) = behind late (suc p) q (omega (arith, ne)) ∙ sym (behind late p q l)
      go (no l) = before late (suc p) q (omega arith) ∙ sym (before late p q (omega arith))

  own : (late : Bool) (p : ℕ) → Due late (wanted xs p) (wanted ys p) → has_moved late xs ys (suc p) p ≡ true
  unfolding pick
  own false p d = before false (suc p) p (omega arith) ∙ le-leb (wanted ys p) (wanted xs p) d
  own true p d = before true (suc p) p (omega arith)

  due-cells : (late : Bool) (p : ℕ) → p < P → Due late (wanted xs p) (wanted ys p) → wanted ys p ≡ passed_cells late m ys p
  unfolding passed_cells pick
  due-cells false p l d = omega (arith, g.lengths p l)
  due-cells true p l d = refl

  pub moving-next : (late : Bool) (p : ℕ) → p < P → Due late (wanted xs p) (wanted ys p)
      → resize (moving late m ys p) (repaged P (moving late m ys p).plain.counts p (page ys p)) p (wanted ys p) ≡ moving late m ys (suc p)
  unfolding moving resize pagewise size_to
  moving-next late p l d =
      ap₂ (λ (z : List ℕ) (k : ℕ). with_list (relisted m.plain z) (size_to p k (sizes late p)))
      (mixed-next P xs ys (has_moved late xs ys p) (has_moved late xs ys (suc p)) p (own late p d) (others late p)) (due-cells late p l d)

  -- it has its old counts and cells until then, and finds the cells that it is to have
  not_yet : (late : Bool) (p : ℕ) → Due late (wanted xs p) (wanted ys p) → has_moved late xs ys p p ≡ false
  unfolding pick
  not_yet false p d = behind false p p (omega arith)
  not_yet true p d = behind true p p (omega arith) ∙ lt-leb (wanted ys p) (wanted xs p) d

  pub moving-page : (late : Bool) (p : ℕ) → p < P → Due late (wanted xs p) (wanted ys p) → page (moving late m ys p).plain.counts p ≡ page xs p
  unfolding moving pick
  moving-page late p l d =
      mixed-page P xs ys (has_moved late xs ys p) p l ∙ ap (λ (z : Bool). pick z (page ys p) (page xs p)) (not_yet late p d)

  pub moving-room : (late : Bool) (p : ℕ) → p < P → Due late (wanted xs p) (wanted ys p)
      → wanted ys p ≤ length (chain_of (moving late m ys p) p) + length (moving late m ys p).spare
  unfolding moving
  moving-room false p l d =
      omega (arith, g.lengths p l, room m kept p (sizes false p) (enough-shrink m kept P (λ q. omega arith) p l) (first-sized p (omega arith)))
  moving-room true p l d = room (shrunk m ys) (wanted ys) p (sizes true p) (grows-enough m ys g enough p l) (late-sized p (omega arith))

  -- ---- page p is passed over
  skipped-cells : (late : Bool) (p : ℕ) → p < P → NotDue late (wanted xs p) (wanted ys p) ⊎ (page ys p ≡ page xs p)
      → passed_cells late m ys p ≡ long (sizes late p) p
  unfolding passed_cells pick
  skipped-cells false p l (inl d) = omega (arith, g.lengths p l, ap length ((first-sized p (omega arith)).rest p (omega arith)))
  skipped-cells false p l (inr e) =
      omega (arith, g.lengths p l, ap length ((first-sized p (omega arith)).rest p (omega arith)), ap (λ (z : List ℕ). cells (sum z)) e)
  skipped-cells true p l (inl d) =
      omega (arith, g.lengths p l, ap length ((late-sized p (omega arith)).rest p (omega arith)), (shrunk-sized m ys g).done p l)
  skipped-cells true p l (inr e) =
      omega (
        arith,
        g.lengths p l,
        ap length ((late-sized p (omega arith)).rest p (omega arith)),
        (shrunk-sized m ys g).done p l,
        ap (λ (z : List ℕ). cells (sum z)) e,
      )

  skipped : (late : Bool) (p q : ℕ) → NotDue late (wanted xs p) (wanted ys p) ⊎ (page ys p ≡ page xs p) → Dec (q ≡ p)
      → (has_moved late xs ys p q ≡ has_moved late xs ys (suc p) q) ⊎ (page ys q ≡ page xs q)
  unfolding pick
  skipped late p q d (no ne) = inl (sym (others late p q ne))
  skipped late p q (inr e) (yes r) = rw r (inr e)
  skipped false p q (inl d) (yes r) =
      rw r (inl (behind false p p (omega arith) ∙ sym (before false (suc p) p (omega arith) ∙ lt-leb (wanted ys p) (wanted xs p) d)))
  skipped true p q (inl d) (yes r) =
      rw r (inl (behind true p p (omega arith) ∙ le-leb (wanted ys p) (wanted xs p) d ∙ sym (before true (suc p) p (omega arith))))

  pub moving-skips : (late : Bool) (p : ℕ) → p < P → NotDue late (wanted xs p) (wanted ys p) ⊎ (page ys p ≡ page xs p)
      → moving late m ys (suc p) ≡ moving late m ys p
  unfolding moving pagewise
  moving-skips late p l d =
      ap₂ (λ (z : List ℕ) (w : Model). with_list (relisted m.plain z) w)
      (mixed-same P xs ys (has_moved late xs ys (suc p)) (has_moved late xs ys p) (λ q lq. skipped late p q d (ℕ_discrete q p)))
      (stays (sizes late p) p (passed_cells late m ys p) (skipped-cells late p l d))

  -- pages that stay as they are, below the change and above it
  pub moving-below : (late : Bool) (n : ℕ) → n ≤ P → ((q : ℕ) → q < n → page ys q ≡ page xs q) → moving late m ys n ≡ moving late m ys 0
  moving-below late zero l h = refl
  moving-below late (suc n) l h = moving-skips late n (omega arith) (inr (h n (omega arith))) ∙ moving-below late n (omega arith) (λ q lq. h q (omega arith))

  pub moving-above : (late : Bool) (n k : ℕ) → n + k ≤ P → ((q : ℕ) → n ≤ q → page ys q ≡ page xs q) → moving late m ys (n + k) ≡ moving late m ys n
  moving-above late n zero l h = ap (moving late m ys) {x = n + 0} {y = n} (omega arith)
  moving-above late n (suc k) l h =
      ap (moving late m ys) {x = n + suc k} {y = suc (n + k)} (omega arith)
      ∙ moving-skips late (n + k) (omega arith) (inr (h (n + k) (omega arith)))
      ∙ moving-above late n k (omega arith) h

  -- ---- the first pass begins with the store, the late one where it ends, and that ends in the store that is asked for
  pub moving-late : moving false m ys P ≡ moving true m ys 0
  unfolding moving pagewise shrunk passed_cells pick
  moving-late =
      ap (λ (z : List ℕ). with_list (relisted m.plain z) (shrunk m ys))
      (mixed-same P xs ys (has_moved false xs ys P) (has_moved true xs ys 0)
      (λ q lq. inl (behind true 0 q (omega arith) ∙ sym (before false P q lq))))

  unmoved : (q : ℕ) → q < P → page (mixed P xs ys (has_moved false xs ys 0)) q ≡ page xs q
  unfolding pick
  unmoved q lq = mixed-page P xs ys (has_moved false xs ys 0) q lq ∙ ap (λ (z : Bool). pick z (page ys q) (page xs q)) (behind false 0 q (omega arith))

  pub moving-begins : (s : List ℕ) → Spread s m → put s 12 4 (64 * P) ≡ bytes_of (moving false m ys 0)
  unfolding moving pagewise pick
  moving-begins s h =
      let zs : List ℕ = mixed P xs ys (has_moved false xs ys 0) in
      let n : length zs ≡ 64 * P = mixed-length P xs ys (has_moved false xs ys 0) in
      ap (put s 12 4) (sym n) ∙ hours-bytes m (good-chained m g) zs (omega (arith, n)) unmoved s h

  all_moved : (q : ℕ) → q < P → page ys q ≡ page (mixed P xs ys (has_moved true xs ys P)) q
  unfolding pick
  all_moved q lq = sym (mixed-page P xs ys (has_moved true xs ys P) q lq ∙ ap (λ (z : Bool). pick z (page ys q) (page xs q)) (before true P q lq))

  pub moving-ends : length ys ≤ 64 * P → put (bytes_of (moving true m ys P)) 12 4 (length ys) ≡ bytes_of (settled m (relisted m.plain ys))
  unfolding moving settled passed_cells pick
  moving-ends ly =
      let w : Model = moving true m ys P in
      let c : Chained w = moving-chained true P (omega arith) in
      hours-bytes w c ys ly all_moved (bytes_of w) (spread-of (bytes_of w) w c.rows (chained-bytes w c))
