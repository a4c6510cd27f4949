-- The code goes along a chain. Assumes nothing.
use mathlib.Core.Path.{◌≡◌, refl, sym, ap, subst, ◌∙◌}
use mathlib.Core.List.{List, [], ◌∷◌}
use Prim.Native.Nat.{ℕ, zero, suc, ◌+◌, ◌-◌, ◌*◌, ◌≤◌, ◌<◌}
use native.Mathlib.Nat.{not-suc-le-zero}
use native.Mathlib.Omega.{arith}
use lib.ListN.{length, take, drop, length-take, length-drop}
use lib.Seq.{sets, length-sets, drop-drop}
use Rattle.lists.specs.Lists.{occurrences, part}
use Rattle.bits.specs.Numbers.{little, number, number_at}
use Rattle.store.specs.Limits.{max_cells}
use Rattle.store.specs.Layout.{cell_at}
use Rattle.store.specs.Code.Links.{Steps, filled}
use Rattle.lists.proofs.Occurrences.{one_same}
use Rattle.store.proofs.Joining.{chain_head, chain-new, chain-tail}
use Rattle.store.proofs.Numbers.{number-two}
use Rattle.store.proofs.Writes.{Apart, Chain, Linked, cells-apart, sets-off, sets_same}

-- a cell's code is apart from every cell's link
pub code-link : (base c d n : ℕ) → n ≤ 30 → Apart (cell_at base c + 2) n (cell_at base d) 2
code-link base c d n l h = omega arith

pub code_apart : (base c d : ℕ) → 1 ≤ c → 1 ≤ d → (d ≡ c → ⊥) → Apart (cell_at base c + 2) 30 (cell_at base d + 2) 30
code_apart base c d p q ne h = omega (arith, cells-apart base c d 32 32 p q ne (omega arith) (omega arith) (omega arith))

word-keep : (s : List ℕ) (base c d : ℕ) (v : List ℕ) → length v ≤ 30 → number_at (sets s (cell_at base c + 2) v) (cell_at base d) 2 ≡ number_at s (cell_at base d) 2
word-keep s base c d v l = ap number (sets-off v s (cell_at base c + 2) (cell_at base d) 2 (code-link base c d (length v) l))

steps-keep : (s : List ℕ) (base c d : ℕ) (v : List ℕ) (k : ℕ) → length v ≤ 30 → Steps s base (cell_at base d) k
    → Steps (sets s (cell_at base c + 2) v) base (cell_at base d) k
steps-keep s base c d v zero l h = omega (arith, length-sets s (cell_at base c + 2) v)
steps-keep s base c d v (suc k) l h =
    let e = word-keep s base c d v l in (
      omega (arith, length-sets s (cell_at base c + 2) v),
      omega (arith, e, h.1),
      rw e (omega (arith, h.2, length-sets s (cell_at base c + 2) v)),
      rw e (steps-keep s base c (number_at s (cell_at base d) 2) v k l h.3),
    )

pub record Filling (s : List ℕ) (base a k : ℕ) (code : List ℕ) : Type 0 where
  pub fits : a + 2 ≤ length s
  pub cell : 1 ≤ number_at s a 2
  pub room : cell_at base (number_at s a 2) + 32 ≤ length s
  pub more : Steps (sets s (cell_at base (number_at s a 2) + 2) (take 30 code)) base (cell_at base (number_at s a 2)) (k - 1)
  pub same : filled s base a k code ≡ filled (sets s (cell_at base (number_at s a 2) + 2) (take 30 code)) base (cell_at base (number_at s a 2)) (k - 1) (drop 30 code)

pub fill-next : (s : List ℕ) (base a k : ℕ) (code : List ℕ) → 0 < k → Steps s base a k → Filling s base a k code
unfolding filled
fill-next s base a zero code l h = absurd (not-suc-le-zero l)
fill-next s base a (suc k) code l h =
    let e : suc k - 1 ≡ k = omega arith in
    record {
      fits = h.0;
      cell = h.1;
      room = h.2;
      more = rw e (steps-keep s base (number_at s a 2) (number_at s a 2) (take 30 code) k (omega (arith, length-take 30 code)) h.3);
      same = rw e;
    }

pub fill_done : (s : List ℕ) (base a k : ℕ) (code : List ℕ) → k ≡ 0 → filled s base a k code ≡ s
unfolding filled
fill_done s base a zero code e = refl
fill_done s base a (suc k) code e = absurd (omega (arith, e))

-- one turn of the loop
pub fill-again : (s t : List ℕ) (base a r n j : ℕ) (code : List ℕ) → j < n → Steps s base a (n - j) → r ≡ number_at s a 2
    → t ≡ sets s (cell_at base r + 2) (part code (30 * j) 30)
    → Steps t base (cell_at base r) (n - (j + 1))
    × (filled s base a (n - j) (drop (30 * j) code) ≡ filled t base (cell_at base r) (n - (j + 1)) (drop (30 * (j + 1)) code))
fill-again s t base a r n j code l h e f =
    let w = fill-next s base a (n - j) (drop (30 * j) code) (omega arith) h in
    let i : n - (j + 1) ≡ n - j - 1 = omega arith in
    let d : drop (30 * (j + 1)) code ≡ drop 30 (drop (30 * j) code) = ap (λ (z : ℕ). drop z code) {x = 30 * (j + 1)} {y = 30 * j + 30} (omega arith)
    ∙ sym (drop-drop 30 (30 * j) code) in
    (rw (f, e, i) w.more, rw (f, e, i, d) w.same)

-- ---- what it does to a chain
abbrev pub Filled : List ℕ → ℕ → List ℕ → List ℕ → Type 0
Filled s base [] code = Unit {0}
Filled s base (c ∷ cs) code = (part s (cell_at base c + 2) 30 ≡ take 30 code) × Filled s base cs (drop 30 code)

-- bytes that are in no cell's code stay
abbrev pub ClearCode : ℕ → List ℕ → ℕ → ℕ → Type 0
ClearCode base cs b n = (d : ℕ) → 1 ≤ occurrences d cs → Apart (cell_at base d + 2) 30 b n

pub filled-length : (n : ℕ) (s : List ℕ) (base a : ℕ) (code : List ℕ) → length (filled s base a n code) ≡ length s
unfolding filled
filled-length zero s base a code = refl
filled-length (suc n) s base a code = filled-length n _ base _ (drop 30 code) ∙ length-sets s (cell_at base (number_at s a 2) + 2) (take 30 code)

linked-word : (s : List ℕ) (base C a c : ℕ) (cs : List ℕ) → C ≤ max_cells → Chain C (c ∷ cs) → part s a 2 ≡ little 2 c → number_at s a 2 ≡ c
linked-word s base C a c cs l j e = ap number e ∙ number-two c (omega (arith, (chain_head C c cs j).1))

linked-sets : (s : List ℕ) (base c d : ℕ) (v : List ℕ) (cs : List ℕ) (y : ℕ) → length v ≤ 30 → Linked s base (cell_at base d) cs y
    → Linked (sets s (cell_at base c + 2) v) base (cell_at base d) cs y
linked-sets s base c d v [] y l h = sets-off v s (cell_at base c + 2) (cell_at base d) 2 (code-link base c d (length v) l) ∙ h
linked-sets s base c d v (e ∷ cs) y l h =
    (sets-off v s (cell_at base c + 2) (cell_at base d) 2 (code-link base c d (length v) l) ∙ h.0, linked-sets s base c e v cs y l h.1)

filled-suc : (s : List ℕ) (base a n c : ℕ) (code : List ℕ) → number_at s a 2 ≡ c
    → filled s base a (suc n) code ≡ filled (sets s (cell_at base c + 2) (take 30 code)) base (cell_at base c) n (drop 30 code)
unfolding filled
filled-suc s base a n c code e = ap (λ (z : ℕ). filled (sets s (cell_at base z + 2) (take 30 code)) base (cell_at base z) n (drop 30 code)) e

module _ (base C : ℕ) (lC : C ≤ max_cells) where
  pub fill-outside : (cs : List ℕ) (s : List ℕ) (a : ℕ) (code : List ℕ) (y b n : ℕ) → Chain C cs → Linked s base a cs y → ClearCode base cs b n
      → part (filled s base a (length cs) code) b n ≡ part s b n
  unfolding occurrences
  fill-outside [] s a code y b n j h o = ap (λ (z : List ℕ). part z b n) (fill_done s base a 0 code refl)
  fill-outside (c ∷ cs) s a code y b n j h o =
      let e = linked-word s base C a c cs lC j h.0 in
      let lv : length (take 30 code) ≤ 30 = omega (arith, length-take 30 code) in
      ap (λ (z : List ℕ). part z b n) (filled-suc s base a (length cs) c code e)
      ∙ (fill-outside cs (sets s (cell_at base c + 2) (take 30 code)) (cell_at base c) (drop 30 code) y b n (chain-tail j)
      (linked-sets s base c c (take 30 code) cs y lv h.1) (λ d q. o d (omega arith))
      ∙ sets-off (take 30 code) s (cell_at base c + 2) b n (λ q. o c (omega (arith, one_same c)) (omega arith)))

  pub fill-filled : (cs : List ℕ) (s : List ℕ) (a : ℕ) (code : List ℕ) (y : ℕ) → Chain C cs → Linked s base a cs y → 30 * length cs ≤ length code
      → base + 32 * C ≤ length s → Filled (filled s base a (length cs) code) base cs code
  unfolding occurrences
  fill-filled [] s a code y j h l m = tt
  fill-filled (c ∷ cs) s a code y j h l m =
      let e = linked-word s base C a c cs lC j h.0 in
      let w = chain_head C c cs j in
      let lv : length (take 30 code) ≡ 30 = omega (arith, length-take 30 code) in
      let s₁ : List ℕ = sets s (cell_at base c + 2) (take 30 code) in
      let h₁ = linked-sets s base c c (take 30 code) cs y (omega arith) h.1 in
      subst (λ (z : List ℕ). Filled z base (c ∷ cs) code) (sym (filled-suc s base a (length cs) c code e)) (
        fill-outside cs s₁ (cell_at base c) (drop 30 code) y (cell_at base c + 2) 30 (chain-tail j) h₁
            (λ d q. code_apart base d c ((chain-tail j).from d q) w.0 (λ e. chain-new C c cs j d q (sym e)))
            ∙ (rw lv at (sets_same (take 30 code) s (cell_at base c + 2) (omega (arith, w.0, w.1)))),
        fill-filled cs s₁ (cell_at base c) (drop 30 code) y (chain-tail j) h₁ (omega (arith, length-drop 30 code))
            (omega (arith, length-sets s (cell_at base c + 2) (take 30 code))),
      )
