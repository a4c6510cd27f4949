-- What is written to a page is the page's change. Assumes nothing.
use mathlib.Core.Path.{◌≡◌, refl, sym, ap, ap₂, subst₂, ◌∙◌}
use mathlib.Core.List.{List, [], ◌∷◌, ◌++◌, append_assoc}
use Prim.Native.Nat.{ℕ, zero, suc, ◌+◌, ◌-◌, ◌*◌, ◌/◌, ◌≤◌, ◌<◌, max}
use native.Mathlib.Nat.{not-suc-le-zero, le_of_suc-le-suc}
use native.Mathlib.Omega.{arith}
use native.Mathlib.Decide.{ℕ_discrete}
use lib.ListN.{length, get_or, take, drop, set, replicate, length-append, length-take, length-drop, length-replicate, take-append-drop}
use lib.Seq.{drop-append-add, drop-drop, get_or-set_same, get_or-set_other}
use Rattle.lists.specs.Lists.{concat, occurrences, part, sum}
use Rattle.bits.specs.Numbers.{little, number, number_at}
use Rattle.store.specs.Limits.{max_total}
use Rattle.store.specs.Layout.{Model, bytes_of, cell_at, header, resize, size, cells_start, entry_at}
use Rattle.store.specs.Code.Links.{Rewritable, Steps, cut, filled, joined, put, rewritten}
use Rattle.store.specs.PageCode.{cells, page_bytes}
use Rattle.store.specs.Plain.{need, page}
use Rattle.store.specs.Sound.{Good, on_chains}
use Rattle.store.specs.Code.Chained.{Chained}
use Rattle.lists.proofs.Occurrences.{occurrences-append, occurrences-get_d-concat, occurrences-split}
use Rattle.store.proofs.Chained.{OffPage, good-chained, page-chained, spare-fits}
use Rattle.store.proofs.Filling.{Filled}
use Rattle.store.proofs.FreshLaws.{cell-is, cell-le}
use Rattle.store.proofs.Joining.{chain-all, chain-part}
use Rattle.store.proofs.Holds.{chained-only}
use Rattle.store.proofs.Keep.{Off, need-off, page-off, spare-is}
use Rattle.store.proofs.Moved.{Moves, moves, filled-same, linked-same}
use Rattle.store.proofs.Numbers.{number-two}
use Rattle.store.proofs.PageCodeLaws.{cells-most, length-page}
use Rattle.store.proofs.ReadBack.{page-le}
use Rattle.store.proofs.Spread.{Spread, spread-holds}
use Rattle.store.proofs.Zeros.{Zeroed, filled-split, zeroed, zeros-filled}
use Rattle.store.proofs.Writes.{Apart, Chain, Linked, put-length, put-off, put_same}

-- ---- chains
occurrences-two : (c : ℕ) (css : List (List ℕ)) (p q : ℕ) → (q ≡ p → ⊥) → p < length css → q < length css
    → occurrences c (get_or css p []) + occurrences c (get_or css q []) ≤ occurrences c (concat css)
unfolding concat
occurrences-two c [] p q ne l r = absurd (not-suc-le-zero l)
occurrences-two c (cs ∷ css) zero zero ne l r = absurd (ne refl)
occurrences-two c (cs ∷ css) zero (suc q) ne l r = omega (
  arith,
  occurrences-append c cs (concat css),
  occurrences-get_d-concat c css q (le_of_suc-le-suc r),
)
occurrences-two c (cs ∷ css) (suc p) zero ne l r = omega (
  arith,
  occurrences-append c cs (concat css),
  occurrences-get_d-concat c css p (le_of_suc-le-suc l),
)
occurrences-two c (cs ∷ css) (suc p) (suc q) ne l r = omega (
  arith,
  occurrences-append c cs (concat css),
  occurrences-two c css p q (λ e. ne (ap suc e)) (le_of_suc-le-suc l) (le_of_suc-le-suc r),
)

module _ (m : Model) (g : Chained m) where
  chain-of : (cs : List ℕ) → ((d : ℕ) → occurrences d cs ≤ occurrences d (on_chains m)) → Chain m.plain.cells cs
  chain-of cs h = chain-part (on_chains m) cs h (chain-all m.plain.cells (on_chains m) g.once)

  pub page-and-spare : (p : ℕ) → p < m.plain.pages → Chain m.plain.cells (get_or m.chains p [] ++ m.spare)
  unfolding on_chains
  page-and-spare p l =
      chain-of (get_or m.chains p [] ++ m.spare)
      (λ d. omega (
        arith,
        occurrences-append d (get_or m.chains p []) m.spare,
        occurrences-append d (concat m.chains) m.spare,
        occurrences-get_d-concat d m.chains p (omega (arith, g.rows)),
      ))

  -- another page's cells
  page-other : (p q : ℕ) → p < m.plain.pages → q < m.plain.pages → (q ≡ p → ⊥) → (d : ℕ) → 1 ≤ occurrences d (get_or m.chains q [])
      → (1 ≤ d) × (occurrences d (get_or m.chains p [] ++ m.spare) ≡ 0)
  unfolding on_chains
  page-other p q l r ne d i =
      let w = occurrences-two d m.chains p q ne (omega (arith, g.rows)) (omega (arith, g.rows)) in
      let a = occurrences-append d (concat m.chains) m.spare in (
        (cell-is m.plain.cells d (omega (arith, w, a, g.once d))).0,
        omega (arith, w, a, g.once d, cell-le m.plain.cells d, occurrences-append d (get_or m.chains p []) m.spare),
      )

  -- page p gets its counts of ys, and the cells that they need
  module _ (s : List ℕ) (h : Spread s m) (ys : List ℕ) (p : ℕ) (o : OffPage m.plain.counts ys p) (lp : p < m.plain.pages)
      (ly : length ys ≤ 64 * m.plain.pages) (ls : sum (page ys p) ≤ max_total) (enough : cells (sum (page ys p)) ≤ length (get_or m.chains p []) + length m.spare) where
    abbrev P : ℕ
    P = m.plain.pages

    abbrev C : ℕ
    C = m.plain.cells

    abbrev e : ℕ
    e = entry_at p + 4

    abbrev n : ℕ
    n = cells (sum (page ys p))

    abbrev cs : List ℕ
    cs = get_or m.chains p []

    abbrev fs : List ℕ
    fs = m.spare

    abbrev k : ℕ
    k = length cs

    abbrev J : List ℕ
    J = cs ++ fs

    abbrev X : List ℕ
    X = take n J

    abbrev Y : List ℕ
    Y = drop n J

    abbrev Y₁ : List ℕ
    Y₁ = take (max k n - n) Y

    abbrev B : List ℕ
    B = drop (max k n - n) Y

    abbrev code : List ℕ
    code = page_bytes (page ys p) ++ replicate (240 - 30 * n) 0

    lr : p < length m.chains
    lr = omega (arith, lp, g.rows)

    lJ : length J ≡ k + length fs
    lJ = length-append cs fs

    fits : n ≤ length J
    fits = omega (arith, lJ, enough)

    lX : length X ≡ n
    lX = omega (arith, length-take n J, fits)

    lY : length Y ≡ length J - n
    lY = length-drop n J

    lY₁ : length Y₁ ≡ max k n - n
    lY₁ = omega (arith, length-take (max k n - n) Y, lY, lJ, fits)

    lA : length (X ++ Y₁) ≡ max k n
    lA = omega (arith, length-append X Y₁, lX, lY₁)

    eY : Y₁ ++ B ≡ Y
    eY = take-append-drop (max k n - n) Y

    eX : X ++ Y ≡ J
    eX = take-append-drop n J

    eA : (X ++ Y₁) ++ B ≡ J
    eA = append_assoc X Y₁ B ∙ ap (λ (z : List ℕ). X ++ z) eY ∙ eX

    eight : n ≤ 8
    eight = cells-most (sum (page ys p)) ls

    eight-old : k ≤ 8
    eight-old = omega (arith, g.lengths p lp, cells-most (sum (page m.plain.counts p)) (g.sums p lp))

    lcode : length (page_bytes (page ys p)) ≡ 30 * n
    lcode = length-page (page ys p)

    long : 30 * length (X ++ Y₁) ≤ length code
    long = omega (
      arith,
      length-append (page_bytes (page ys p)) (replicate (240 - 30 * n) 0),
      lcode,
      length-replicate {A = ℕ} (240 - 30 * n) 0,
      lA,
      eight,
      eight-old,
    )

    -- the arguments of the lemmas on a moved chain
    size-le : size P C ≤ length s
    size-le = omega (arith, h.size)

    t : List ℕ
    t = cut (filled (joined s (cells_start P) e k) (cells_start P) e (length (X ++ Y₁)) code) (cells_start P) e (length X)

    mv : Moves s t (cells_start P) e cs fs (X ++ Y₁) B X Y code
    unfolding t
    mv =
        moves s (cells_start P) C e cs fs code g.limits.cells-high size-le (omega arith) (omega (arith, lp)) (page-and-spare p lp) (h.links p lp) h.free
        (X ++ Y₁) B X Y eA eX long

    t-is : t ≡ cut (filled (joined s (cells_start P) e k) (cells_start P) e (max k n) code) (cells_start P) e n
    unfolding t
    t-is = ap₂ (λ (a b : ℕ). cut (filled (joined s (cells_start P) e k) (cells_start P) e a code) (cells_start P) e b) lA lX

    -- ---- the numbers
    spare-word : number_at s 8 2 ≡ length fs
    spare-word = ap number h.free-count ∙ number-two (length fs) (omega (arith, spare-fits m g, g.limits.cells-high))

    final : List ℕ
    final = put (put (put t 8 2 (number_at s 8 2 + k - n)) (entry_at p) 4 (sum (page ys p))) 12 4 (length ys)

    final-is : final ≡ rewritten s (cells_start P) p k n code (sum (page ys p)) (length ys)
    unfolding final rewritten
    final-is = ap (λ (z : List ℕ). put (put (put z 8 2 (number_at s 8 2 + k - n)) (entry_at p) 4 (sum (page ys p))) 12 4 (length ys)) t-is

    off : (b l : ℕ) → Apart 8 2 b l → Apart (entry_at p) 4 b l → Apart 12 4 b l → part final b l ≡ part t b l
    unfolding final
    off b l x y z = put-off _ 12 4 (length ys) b l z ∙ put-off _ (entry_at p) 4 (sum (page ys p)) b l y ∙ put-off t 8 2 (number_at s 8 2 + k - n) b l x

    far : (b l : ℕ) → cells_start P ≤ b → part final b l ≡ part t b l
    far b l r = off b l (λ q. absurd (omega arith)) (λ q. absurd (omega (arith, lp))) (λ q. absurd (omega arith))

    new-size : length final ≡ size P C
    unfolding final
    new-size = put-length _ 12 4 (length ys) ∙ put-length _ (entry_at p) 4 (sum (page ys p)) ∙ put-length t 8 2 (number_at s 8 2 + k - n) ∙ mv.long
        ∙ h.size

    new-count : part final 8 2 ≡ little 2 (length Y)
    unfolding final
    new-count =
        put-off _ 12 4 (length ys) 8 2 (λ q. omega arith) ∙ put-off _ (entry_at p) 4 (sum (page ys p)) 8 2 (λ q. omega arith)
        ∙ put_same t 8 2 (number_at s 8 2 + k - n) (omega (arith, mv.long, size-le))
        ∙ ap (little 2) {x = number_at s 8 2 + k - n} {y = length Y} (omega (arith, spare-word, lY, lJ))

    new-hours : part final 12 4 ≡ little 4 (length ys)
    unfolding final
    new-hours = put_same _ 12 4 (length ys)
        (omega (
          arith,
          put-length (put t 8 2 (number_at s 8 2 + k - n)) (entry_at p) 4 (sum (page ys p)),
          put-length t 8 2 (number_at s 8 2 + k - n),
          mv.long,
          size-le,
        ))

    new-sum : part final (entry_at p) 4 ≡ little 4 (sum (page ys p))
    unfolding final
    new-sum =
        put-off _ 12 4 (length ys) (entry_at p) 4 (λ q. absurd (omega arith))
        ∙ put_same _ (entry_at p) 4 (sum (page ys p)) (omega (arith, lp, put-length t 8 2 (number_at s 8 2 + k - n), mv.long, size-le))

    sum-at : (q : ℕ) → q < P → Dec (q ≡ p) → part final (entry_at q) 4 ≡ little 4 (sum (page ys q))
    sum-at q l (yes r) = rw r new-sum
    sum-at q l (no r) =
        off (entry_at q) 4 (λ b. absurd (omega arith)) (λ b. omega (arith, less q r b)) (λ b. absurd (omega arith))
        ∙ mv.low (entry_at q) 4 (omega arith) (λ b. absurd (omega arith)) (λ b. omega arith)
        ∙ h.sums q l ∙ ap (λ (z : List ℕ). little 4 (sum z)) (sym (o q r))
      where
        less : (q : ℕ) → (q ≡ p → ⊥) → entry_at q < entry_at p + 4 → q < p
        less q r b = omega arith

    link_at : (q : ℕ) → q < P → Dec (q ≡ p) → Linked final (cells_start P) (entry_at q + 4) (get_or (set m.chains p X) q []) 0
    link_at q l (yes r) =
        rw (r, get_or-set_same m.chains p X [] lr)
        (linked-same t final (cells_start P) e X 0 (off e 2 (λ b. absurd (omega arith)) (λ b. absurd (omega arith)) (λ b. absurd (omega arith)))
        (λ d b. far (cell_at (cells_start P) d) 2 (omega arith)) mv.own)
    link_at q l (no r) =
        rw (get_or-set_other m.chains p q X [] r)
        (linked-same s final (cells_start P) (entry_at q + 4) (get_or m.chains q []) 0
        (off (entry_at q + 4) 2 (λ b. absurd (omega arith)) (λ b. omega arith) (λ b. absurd (omega arith))
        ∙ mv.low (entry_at q + 4) 2 (omega arith) (λ b. absurd (omega arith)) (λ b. omega arith))
        (λ d b. let w = page-other p q lp l r d b in far (cell_at (cells_start P) d) 2 (omega arith) ∙ mv.other-link d w.0 w.1) (h.links q l))

    split : Filled t (cells_start P) X (page_bytes (page ys p)) × Filled t (cells_start P) Y₁ (replicate (240 - 30 * n) 0)
    split = filled-split t (cells_start P) X Y₁ (page_bytes (page ys p)) (replicate (240 - 30 * n) 0) (omega (arith, lcode, lX)) mv.coded

    fill-at : (q : ℕ) → q < P → Dec (q ≡ p) → Filled final (cells_start P) (get_or (set m.chains p X) q []) (page_bytes (page ys q))
    fill-at q l (yes r) =
        rw (r, get_or-set_same m.chains p X [] lr)
        (filled-same t final (cells_start P) X (page_bytes (page ys p)) (λ d b. far (cell_at (cells_start P) d + 2) 30 (omega arith)) split.0)
    fill-at q l (no r) =
        rw (get_or-set_other m.chains p q X [] r, o q r)
        (filled-same s final (cells_start P) (get_or m.chains q []) (page_bytes (page m.plain.counts q))
        (λ d b. let w = page-other p q lp l r d b in far (cell_at (cells_start P) d + 2) 30 (omega arith) ∙ mv.other-code d w.0 w.1) (h.fills q l))

    -- the cells behind are free cells as they were
    in-spare : (d : ℕ) → occurrences d B ≤ occurrences d fs
    in-spare d =
        let e₁ : B ≡ drop (max k n - k) fs =
        drop-drop (max k n - n) n J ∙ ap (λ (z : ℕ). drop z J) {x = n + (max k n - n)} {y = length cs + (max k n - k)} (omega arith)
        ∙ drop-append-add cs fs (max k n - k) in
        omega (arith, ap (occurrences d) e₁, occurrences-split d (max k n - k) fs)

    new-zeros : Zeroed final (cells_start P) Y
    new-zeros d b = far (cell_at (cells_start P) d + 2) 30 (omega arith) ∙ go (ℕ_discrete (occurrences d Y₁) 0)
      where
        go : Dec (occurrences d Y₁ ≡ 0) → part t (cell_at (cells_start P) d + 2) 30 ≡ replicate 30 0
        go (no r) = zeroed t (cells_start P) Y₁ (240 - 30 * n) (omega (arith, lY₁, eight, eight-old)) split.1 d (omega arith)
        go (yes r) =
            let q : 1 ≤ occurrences d B = omega (arith, occurrences-append d Y₁ B, ap (occurrences d) eY) in
            mv.tail d q ∙ zeroed s (cells_start P) fs (30 * length fs) (omega arith) h.zeros d (omega (arith, in-spare d))

    -- a page's link, with what stands before the cells
    spread-new : Spread final (resize m ys p n)
    unfolding resize header concat little
    spread-new = record {
      size = new-size;
      fixed = off 0 6 (λ q. omega arith) (λ q. omega arith) (λ q. omega arith) ∙ mv.low 0 6 (omega arith) (λ q. omega arith) (λ q. omega arith)
          ∙ h.fixed;
      free = linked-same t final (cells_start P) 6 Y 0 (off 6 2 (λ q. omega arith) (λ q. omega arith) (λ q. omega arith))
          (λ d q. far (cell_at (cells_start P) d) 2 (omega arith)) mv.rest;
      free-count = new-count;
      gap = off 10 2 (λ q. omega arith) (λ q. omega arith) (λ q. omega arith)
          ∙ mv.low 10 2 (omega arith) (λ q. absurd (omega arith)) (λ q. omega arith) ∙ h.gap;
      hours = new-hours;
      sums = λ q l. sum-at q l (ℕ_discrete q p);
      links = λ q l. link_at q l (ℕ_discrete q p);
      fills = λ q l. fill-at q l (ℕ_discrete q p);
      zeros = zeros-filled final (cells_start P) Y (30 * length Y) (omega arith) new-zeros;
    }

    -- the bytes are those of the model after the step
    pub page-bytes : rewritten s (cells_start P) p k n code (sum (page ys p)) (length ys) ≡ bytes_of (resize m ys p n)
    page-bytes =
        let g₂ : Chained (resize m ys p n) = page-chained m ys p g o lp ly ls enough in
        sym final-is ∙ chained-only final (resize m ys p n) g₂ (spread-holds final (resize m ys p n) g₂.rows spread-new)

    -- and what the code asks for holds
    pub page-rewritable : Rewritable s (cells_start P) p k n code (sum (page ys p)) (length ys)
    page-rewritable = record {
      low = omega (arith, g.limits.pages-high);
      page = omega (arith, lp);
      size = omega (arith, size-le);
      long = rw (← lA) long;
      small = omega (arith, ls);
      short = omega (arith, g.limits.pages-high);
      fits = omega (arith, spare-word, spare-fits m g, g.limits.cells-high, eight-old);
      own = mv.steps₀;
      both = rw (← lA) mv.steps₁;
      kept = subst₂ (λ (a b : ℕ). Steps (filled (joined s (cells_start P) e k) (cells_start P) e a code) (cells_start P) e b) lA lX mv.steps₂;
      enough = omega (arith, spare-word, lJ, fits);
    }

-- ---- a count of a good model, at hour i
module _ (m : Model) (g : Good m) (s : List ℕ) (h : Spread s m) (ys : List ℕ) (i : ℕ) (o : Off m.plain.counts ys i)
    (li : i < 64 * m.plain.pages) (ly : length ys ≤ 64 * m.plain.pages) (lt : sum ys ≤ max_total)
    (ln : need ys m.plain.pages ≤ m.plain.cells) where
  abbrev own : ℕ
  own = length (get_or m.chains (i / 64) [])

  abbrev new : ℕ
  new = cells (sum (page ys (i / 64)))

  abbrev made : List ℕ
  made = page_bytes (page ys (i / 64)) ++ replicate (240 - 30 * new) 0

  inside : i / 64 < m.plain.pages
  inside = omega arith

  off-page : OffPage m.plain.counts ys (i / 64)
  off-page q ne = page-off m.plain.counts ys i q o ne

  sum_fits : sum (page ys (i / 64)) ≤ max_total
  sum_fits = omega (arith, page-le ys (i / 64), lt)

  cells-enough : new ≤ own + length m.spare
  cells-enough = omega (arith, need-off m.plain.counts ys i m.plain.pages o inside, spare-is m g, g.lengths (i / 64) inside)

  pub rewritten-bytes : rewritten s (cells_start m.plain.pages) (i / 64) own new made (sum (page ys (i / 64))) (length ys)
      ≡ bytes_of (resize m ys (i / 64) new)
  rewritten-bytes = page-bytes m (good-chained m g) s h ys (i / 64) off-page inside ly sum_fits cells-enough

  pub rewritable : Rewritable s (cells_start m.plain.pages) (i / 64) own new made (sum (page ys (i / 64))) (length ys)
  rewritable = page-rewritable m (good-chained m g) s h ys (i / 64) off-page inside ly sum_fits cells-enough
