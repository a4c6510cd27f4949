-- The bytes that fresh writes are those of a fresh store. Assumes nothing.
use mathlib.Core.Path.{◌≡◌, refl, sym, ap, ap₂, ◌∙◌}
use mathlib.Core.Bool.{true, false}
use mathlib.Core.List.{List, [], ◌∷◌}
use Prim.Native.Nat.{ℕ, zero, suc, ◌+◌, ◌-◌, ◌*◌, ◌≤◌, ◌<◌}
use native.Mathlib.Nat.{not-suc-le-zero}
use native.Mathlib.Omega.{arith}
use native.Mathlib.Decide.{ℕ_discrete}
use lib.ListN.{length, replicate, length-replicate}
use Rattle.lists.specs.Lists.{concat, part, pick, tabulate}
use Rattle.bits.specs.Numbers.{little}
use Rattle.store.specs.Limits.{Limits}
use Rattle.store.specs.Fitting.{fits}
use Rattle.answers.specs.Store.{answered, refused}
use Rattle.store.specs.Layout.{bytes_of, cell_at, fresh, header, size, cells_start, entry_at}
use Rattle.store.specs.Call.{Started, fresh_call}
use Rattle.store.specs.Code.Links.{put}
use Rattle.store.specs.Code.Head.{HeadFor}
use Rattle.fresh.specs.Code.Header.{HeaderPut}
use Rattle.fresh.specs.Code.Cells.{chained}
use Rattle.store.specs.declared.header.Header.{Header}
use Rattle.lists.proofs.Tables.{get_d_tabulate, tabulate-ext}
use Rattle.lists.proofs.Zeros.{part-zeros}
use Rattle.bits.proofs.Little.{little-zeros}
use Rattle.store.proofs.FreshLaws.{cell-is, fresh-first, fresh-good, occurrences-upto, page-none}
use Rattle.store.proofs.LimitLaws.{fitting}
use Rattle.store.proofs.Holds.{holds-only}
use Rattle.store.proofs.Spread.{Spread, part-two, spread-holds}
use Rattle.store.proofs.Writes.{Apart, Linked, cells-apart, put-length, put-off, put_same}
use Rattle.store.proofs.Zeros.{zeros-filled}

-- ---- the header, one number after another
record Put (t s : List ℕ) (a w x : ℕ) : Type 0 where
  is : t ≡ put s a w x

off : {t s : List ℕ} {a w x : ℕ} (b n : ℕ) → Put t s a w x → Apart a w b n → part t b n ≡ part s b n
off {t} {s} {a} {w} {x} b n e h = ap (λ (z : List ℕ). part z b n) e.is ∙ put-off s a w x b n h

on : {t s : List ℕ} {a w x : ℕ} → Put t s a w x → a + w ≤ length s → part t a w ≡ little w x
on {t} {s} {a} {w} {x} e h = ap (λ (z : List ℕ). part z a w) e.is ∙ put_same s a w x h

long : {t s : List ℕ} {a w x : ℕ} → Put t s a w x → length t ≡ length s
long {t} {s} {a} {w} {x} e = ap length e.is ∙ put-length s a w x

one-zero : little 2 1 ≡ 1 ∷ 0 ∷ []
unfolding little
one-zero = refl

zero-two : little 2 0 ≡ 0 ∷ 0 ∷ []
unfolding little
zero-two = refl

headed-by : (s s₁ s₂ s₃ s₄ s₅ s₆ s₇ : List ℕ) (h : Header) → 16 ≤ length s → Put s₁ s 0 2 1 → Put s₂ s₁ 2 2 h.pages → Put s₃ s₂ 4 2 h.cells
    → Put s₄ s₃ 6 2 h.first_free → Put s₅ s₄ 8 2 h.free → Put s₆ s₅ 10 2 0 → Put s₇ s₆ 12 4 h.hours → HeaderPut s h s₇
headed-by s s₁ s₂ s₃ s₄ s₅ s₆ s₇ h l e₁ e₂ e₃ e₄ e₅ e₆ e₇ =
    let n₁ = long e₁ in
    let n₂ = long e₂ in
    let n₃ = long e₃ in
    let n₄ = long e₄ in
    let n₅ = long e₅ in
    let n₆ = long e₆ in
    let o₆ : (b n : ℕ) → b + n ≤ 12 → part s₇ b n ≡ part s₆ b n = λ b n r. off b n e₇ (λ q. omega arith) in
    let o₅ : (b n : ℕ) → b + n ≤ 10 → part s₇ b n ≡ part s₅ b n = λ b n r. o₆ b n (omega arith) ∙ off b n e₆ (λ q. omega arith) in
    let o₄ : (b n : ℕ) → b + n ≤ 8 → part s₇ b n ≡ part s₄ b n = λ b n r. o₅ b n (omega arith) ∙ off b n e₅ (λ q. omega arith) in
    let o₃ : (b n : ℕ) → b + n ≤ 6 → part s₇ b n ≡ part s₃ b n = λ b n r. o₄ b n (omega arith) ∙ off b n e₄ (λ q. omega arith) in
    let o₂ : (b n : ℕ) → b + n ≤ 4 → part s₇ b n ≡ part s₂ b n = λ b n r. o₃ b n (omega arith) ∙ off b n e₃ (λ q. omega arith) in
    record {
      long = long e₇ ∙ n₆ ∙ n₅ ∙ n₄ ∙ n₃ ∙ n₂ ∙ n₁;
      edition = o₂ 0 2 (omega arith) ∙ off 0 2 e₂ (λ q. omega arith) ∙ on e₁ (omega arith) ∙ one-zero;
      pages = o₂ 2 2 (omega arith) ∙ on e₂ (omega arith);
      cells = o₃ 4 2 (omega arith) ∙ on e₃ (omega arith);
      first-free = o₄ 6 2 (omega arith) ∙ on e₄ (omega arith);
      free = o₅ 8 2 (omega arith) ∙ on e₅ (omega arith);
      gap = o₆ 10 2 (omega arith) ∙ on e₆ (omega arith) ∙ zero-two;
      hours = on e₇ (omega arith);
      rest = λ b n r.
          off b n e₇ (λ q. absurd (omega arith)) ∙ off b n e₆ (λ q. absurd (omega arith)) ∙ off b n e₅ (λ q. absurd (omega arith))
          ∙ off b n e₄ (λ q. absurd (omega arith)) ∙ off b n e₃ (λ q. absurd (omega arith)) ∙ off b n e₂ (λ q. absurd (omega arith))
          ∙ off b n e₁ (λ q. absurd (omega arith));
    }

pub headed-is : (s s₁ s₂ s₃ s₄ s₅ s₆ s₇ : List ℕ) (h : Header) → 16 ≤ length s → s₁ ≡ put s 0 2 1 → s₂ ≡ put s₁ 2 2 h.pages
    → s₃ ≡ put s₂ 4 2 h.cells → s₄ ≡ put s₃ 6 2 h.first_free → s₅ ≡ put s₄ 8 2 h.free → s₆ ≡ put s₅ 10 2 0
    → s₇ ≡ put s₆ 12 4 h.hours → HeaderPut s h s₇
headed-is s s₁ s₂ s₃ s₄ s₅ s₆ s₇ h l e₁ e₂ e₃ e₄ e₅ e₆ e₇ =
    headed-by s s₁ s₂ s₃ s₄ s₅ s₆ s₇ h l (record { is = e₁ }) (record { is = e₂ }) (record { is = e₃ }) (record { is = e₄ }) (record { is = e₅ })
    (record { is = e₆ }) (record { is = e₇ })

-- ---- the chain of all cells
pub chained-length : (s : List ℕ) (base k : ℕ) → length (chained s base k) ≡ length s
unfolding chained
chained-length s base zero = refl
chained-length s base (suc k) = put-length (chained s base k) (cell_at base (suc k)) 2 (suc k + 1) ∙ chained-length s base k

pub chained-next : (s t u : List ℕ) (base c a : ℕ) → 1 ≤ c → t ≡ chained s base (c - 1) → a ≡ cell_at base c → u ≡ put t a 2 (c + 1)
    → u ≡ chained s base (c + 1 - 1)
unfolding chained
chained-next s t u base zero a l e i f = absurd (not-suc-le-zero l)
chained-next s t u base (suc k) a l e i f =
    let n : suc k + 1 - 1 ≡ suc k = omega arith in
    let m : suc k - 1 ≡ k = omega arith in
    f ∙ ap₂ (λ (x : List ℕ) (y : ℕ). put x y 2 (suc k + 1)) (e ∙ ap (chained s base) m) i ∙ sym (ap (chained s base) n)

pub chained-none : (s : List ℕ) (base : ℕ) → s ≡ chained s base (1 - 1)
unfolding chained
chained-none s base = refl

chained-off : (s : List ℕ) (base k b n : ℕ) → ((d : ℕ) → 1 ≤ d → d ≤ k → Apart (cell_at base d) 2 b n) → part (chained s base k) b n ≡ part s b n
unfolding chained
chained-off s base zero b n h = refl
chained-off s base (suc k) b n h =
    put-off (chained s base k) (cell_at base (suc k)) 2 (suc k + 1) b n (h (suc k) (omega arith) (omega arith))
    ∙ chained-off s base k b n (λ d p q. h d p (omega arith))

chained-on : (s : List ℕ) (base k d : ℕ) → 1 ≤ d → d ≤ k → cell_at base k + 2 ≤ length s → part (chained s base k) (cell_at base d) 2 ≡ little 2 (d + 1)
unfolding chained
chained-on s base zero d p q l = absurd (omega arith)
chained-on s base (suc k) d p q l = go (ℕ_discrete d (suc k)) (λ r. chained-on s base k d p r (omega arith))
  where
    go : Dec (d ≡ suc k) → (d ≤ k → part (chained s base k) (cell_at base d) 2 ≡ little 2 (d + 1))
        → part (chained s base (suc k)) (cell_at base d) 2 ≡ little 2 (d + 1)
    go (yes e) r = rw e (put_same (chained s base k) (cell_at base (suc k)) 2 (suc k + 1) (omega (arith, chained-length s base k)))
    go (no e) r =
        put-off (chained s base k) (cell_at base (suc k)) 2 (suc k + 1) (cell_at base d) 2
        (cells-apart base (suc k) d 2 2 (omega arith) p e (omega arith) (omega arith))
        ∙ r (omega arith)

-- a chain of cells c + 1, c + 2, .. C, each linked to the next
linked_up : (s : List ℕ) (base C n c a : ℕ) → c + n ≡ C → ((d : ℕ) → 1 ≤ d → d < C → part s (cell_at base d) 2 ≡ little 2 (d + 1))
    → part s (cell_at base C) 2 ≡ little 2 0 → (c < C → part s a 2 ≡ little 2 (c + 1)) → (c ≡ C → part s a 2 ≡ little 2 0)
    → Linked s base a (tabulate n (λ j. c + suc j)) 0
unfolding tabulate
linked_up s base C zero c a e h l x y = y (omega arith)
linked_up s base C (suc n) c a e h l x y =
    let e₁ : c + 1 ≡ suc c = omega arith in
    let r : Linked s base (cell_at base (c + 1)) (tabulate n (λ j. c + 1 + suc j)) 0 =
    linked_up s base C n (c + 1) (cell_at base (c + 1)) (omega arith) h l (λ q. h (c + 1) (omega arith) q) (λ q. ap (λ (z : ℕ). part s (cell_at base z) 2) q
    ∙ l) in (
      x (omega arith),
      rw (tabulate-ext n (λ j. c + suc (suc j)) (λ j. c + 1 + suc j) (λ j _. omega arith)) r,
    )

module _ (P C : ℕ) (l : Limits P C) (t : List ℕ) (H : Header) (k : HeadFor (fresh P C) H)
    (h : HeaderPut (replicate (size P C) 0) H t) where
  Z : List ℕ
  Z = replicate (size P C) 0

  long-t : length t ≡ size P C
  long-t = h.long ∙ length-replicate {A = ℕ} (size P C) 0

  B : List ℕ
  B = chained t (cells_start P) (C - 1)

  -- bytes before the cells
  low : (b n : ℕ) → b + n ≤ cells_start P → part B b n ≡ part t b n
  unfolding B
  low b n l = chained-off t (cells_start P) (C - 1) b n (λ d p q r. omega arith)

  -- bytes that nothing was put into
  zero-at : (b n : ℕ) → 16 ≤ b → b + n ≤ size P C → ((d : ℕ) → 1 ≤ d → d ≤ C - 1 → Apart (cell_at (cells_start P) d) 2 b n) → part B b n ≡ replicate n 0
  unfolding B
  zero-at b n l m a = chained-off t (cells_start P) (C - 1) b n a ∙ h.rest b n l ∙ part-zeros (size P C) b n m

  free-chain : Linked B (cells_start P) 6 (tabulate C suc) 0
  unfolding B fresh
  free-chain =
      rw (tabulate-ext C suc (λ j. 0 + suc j) (λ j _. omega arith))
      (linked_up B (cells_start P) C C 0 6 (omega arith)
      (λ d p q. chained-on t (cells_start P) (C - 1) d p (omega arith) (omega (arith, long-t)))
      (zero-at (cell_at (cells_start P) C) 2 (omega arith) (omega arith) (λ d p q. cells-apart (cells_start P) d C 2 2 p l.cells_low (λ e. omega (arith, e)) (omega arith) (omega arith))
      ∙ sym (little-zeros 2))
      (λ _. low 6 2 (omega arith) ∙ h.first-free ∙ ap (little 2) (k.first-is ∙ fresh-first C l.cells_low))
      (λ e. absurd (omega (arith, e))))

  -- a cell's code is apart from every link
  code-clear : (d : ℕ) → 1 ≤ d → d ≤ C → part B (cell_at (cells_start P) d + 2) 30 ≡ replicate 30 0
  code-clear d p q = zero-at (cell_at (cells_start P) d + 2) 30 (omega arith) (omega arith) (λ e i j r. omega arith)

  spread : Spread B (fresh P C)
  unfolding fresh header concat little B
  spread = record {
    size = chained-length t (cells_start P) (C - 1) ∙ long-t;
    fixed =
        part-two B 0 4 2 _ _ (part-two B 0 2 2 _ _ (low 0 2 (omega arith) ∙ h.edition) (low 2 2 (omega arith) ∙ h.pages
        ∙ ap (little 2) k.pages-is))
        (low 4 2 (omega arith) ∙ h.cells ∙ ap (little 2) k.cells_is);
    free = free-chain;
    free-count = low 8 2 (omega arith) ∙ h.free ∙ ap (little 2) k.free-is;
    gap = low 10 2 (omega arith) ∙ h.gap;
    hours = low 12 4 (omega arith) ∙ h.hours ∙ ap (little 4) k.hours-is;
    sums = λ q l. zero-at (entry_at q) 4 (omega arith) (omega arith) (λ d p r i. omega arith) ∙ sym (ap (little 4) (page-none q) ∙ little-zeros 4);
    links = λ q l.
        rw (get_d_tabulate {A = List ℕ} P (λ _. []) q [] l)
        (zero-at (entry_at q + 4) 2 (omega arith) (omega arith) (λ d p r i. omega arith) ∙ sym (little-zeros 2));
    fills = λ q l. rw (get_d_tabulate {A = List ℕ} P (λ _. []) q [] l) tt;
    zeros =
        zeros-filled B (cells_start P) (tabulate C suc) (30 * length (tabulate C suc)) (omega arith)
        (λ d q. let w = cell-is C d (omega (arith, occurrences-upto C d)) in code-clear d w.0 w.1);
  }

  pub fresh-bytes : chained t (cells_start P) (C - 1) ≡ bytes_of (fresh P C)
  unfolding B
  fresh-bytes =
      let g = fresh-good P C l in
      holds-only B (fresh P C) g (spread-holds B (fresh P C) g.rows spread)

-- ---- fresh's two ends
module _ (b : List ℕ) (P C : ℕ) where
  pub started-9 : fits b P C ≡ false → Started b P C (refused 9) b
  unfolding fresh_call pick
  started-9 e = record { answer = rw e refl; bytes = rw e refl }

  pub started : (z t u : List ℕ) (H : Header) {base : ℕ} → fits b P C ≡ true → z ≡ replicate (length b) 0 → HeadFor (fresh P C) H → HeaderPut z H t
      → base ≡ cells_start P → u ≡ chained t base (C - 1) → Started b P C (answered 0) u
  unfolding fresh_call pick
  started z t u H e a k h i f =
      let w = fitting b P C e in
      let h₂ : HeaderPut (replicate (size P C) 0) H t = rw (← w.long, ← a) h in
      record { answer = rw e refl; bytes = rw e (f ∙ ap (λ (z : ℕ). chained t z (C - 1)) i ∙ fresh-bytes P C w.limits t H k h₂) }
