-- A page's chain and the free chain joined, filled and cut again. Assumes nothing.
use mathlib.Core.Path.{◌≡◌, ap, ◌∙◌}
use mathlib.Core.List.{List, [], ◌∷◌, ◌++◌}
use Prim.Native.Nat.{ℕ, ◌+◌, ◌*◌, ◌≤◌}
use native.Mathlib.Omega.{arith}
use lib.ListN.{length, drop}
use Rattle.lists.specs.Lists.{first, occurrences, part}
use Rattle.bits.specs.Numbers.{number_at}
use Rattle.store.specs.Limits.{max_cells}
use Rattle.store.specs.Layout.{cell_at}
use Rattle.store.specs.Code.Links.{Steps, cut, filled, joined, nth_link, put}
use Rattle.lists.proofs.Occurrences.{occurrences-append, one_same}
use Rattle.store.proofs.Filling.{ClearCode, Filled, code_apart, code-link, fill-filled, fill-outside, filled-length}
use Rattle.store.proofs.Joining.{Outside, chain_left, chain-right, cut-free, cut-outside}
use Rattle.store.proofs.Joining.{cut-own, front-linked, join-linked, join-outside, walk_steps}
use Rattle.store.proofs.Writes.{Apart, Chain, Linked, cells-apart, put-length}

-- links and blocks that are the same in two stores
pub linked-same : (s t : List ℕ) (base a : ℕ) (cs : List ℕ) (y : ℕ) → part t a 2 ≡ part s a 2
    → ((d : ℕ) → 1 ≤ occurrences d cs → part t (cell_at base d) 2 ≡ part s (cell_at base d) 2)
    → Linked s base a cs y → Linked t base a cs y
unfolding occurrences
linked-same s t base a [] y e h j = e ∙ j
linked-same s t base a (c ∷ cs) y e h j = (
  e
      ∙ j.0,
  linked-same s t base (cell_at base c) cs y (h c (omega (arith, one_same c))) (λ d q. h d (omega arith)) j.1,
)

pub filled-same : (s t : List ℕ) (base : ℕ) (cs code : List ℕ)
    → ((d : ℕ) → 1 ≤ occurrences d cs → part t (cell_at base d + 2) 30 ≡ part s (cell_at base d + 2) 30)
    → Filled s base cs code → Filled t base cs code
unfolding occurrences
filled-same s t base [] code h j = tt
filled-same s t base (c ∷ cs) code h j = (h c (omega (arith, one_same c)) ∙ j.0, filled-same s t base cs (drop 30 code) (λ d q. h d (omega arith)) j.1)

-- a link is apart from every cell's code
link-code : (base c d : ℕ) → 1 ≤ c → 1 ≤ d → Apart (cell_at base c) 2 (cell_at base d + 2) 30
link-code base c d p q h = omega arith

-- What joining, filling and cutting leave, t, of the bytes s: the chain cs from the link at e on and the free chain fs became X and Y, and
-- the cells A have the code; B are the cells of both chains behind A. And what the code's walks ask for.
pub record Moves (s t : List ℕ) (base e : ℕ) (cs fs A B X Y code : List ℕ) : Type 0 where
  pub long : length t ≡ length s
  pub own : Linked t base e X 0
  pub rest : Linked t base 6 Y 0
  pub coded : Filled t base A code
  -- the free cells behind, and the cells of other pages
  pub tail : (d : ℕ) → 1 ≤ occurrences d B → part t (cell_at base d + 2) 30 ≡ part s (cell_at base d + 2) 30
  pub other-link : (d : ℕ) → 1 ≤ d → occurrences d (cs ++ fs) ≡ 0 → part t (cell_at base d) 2 ≡ part s (cell_at base d) 2
  pub other-code : (d : ℕ) → 1 ≤ d → occurrences d (cs ++ fs) ≡ 0 → part t (cell_at base d + 2) 30 ≡ part s (cell_at base d + 2) 30
  -- bytes before the cells, but for the two links
  pub low : (b n : ℕ) → b + n ≤ base → Apart 6 2 b n → Apart e 2 b n → part t b n ≡ part s b n
  pub steps₀ : Steps s base e (length cs)
  pub steps₁ : Steps (joined s base e (length cs)) base e (length A)
  pub steps₂ : Steps (filled (joined s base e (length cs)) base e (length A) code) base e (length X)

module _ (s : List ℕ) (base C e : ℕ) (cs fs code : List ℕ) (lC : C ≤ max_cells) (size : base + 32 * C ≤ length s) (he : 8 ≤ e) (le : e + 2 ≤ base)
    (J : Chain C (cs ++ fs)) (hx : Linked s base e cs 0) (hy : Linked s base 6 fs 0)
    (A B X Y : List ℕ) (eA : A ++ B ≡ cs ++ fs) (eX : X ++ Y ≡ cs ++ fs) (long : 30 * length A ≤ length code) where
  JA : Chain C (A ++ B)
  JA = rw eA J

  JX : Chain C (X ++ Y)
  JX = rw eX J

  s₁ : List ℕ
  s₁ = joined s base e (length cs)

  s₂ : List ℕ
  s₂ = filled s₁ base e (length A) code

  size₁ : length s₁ ≡ length s
  unfolding s₁ joined
  size₁ = put-length s (nth_link s base e (length cs)) 2 (number_at s 6 2)

  size₂ : length s₂ ≡ length s
  unfolding s₂
  size₂ = filled-length (length A) s₁ base e code ∙ size₁

  linked₁ : Linked s₁ base e (cs ++ fs) 0
  unfolding s₁
  linked₁ = join-linked s base C e cs fs lC size he le J hx hy

  front₁ : Linked s₁ base e A (first B)
  front₁ = front-linked s₁ base e A B (rw eA linked₁)

  keep₂ : (b n : ℕ) → ClearCode base A b n → part s₂ b n ≡ part s₁ b n
  unfolding s₂
  keep₂ b n h = fill-outside base C lC A s₁ e code (first B) b n (chain_left A B JA) front₁ h

  linked₂ : Linked s₂ base e (X ++ Y) 0
  linked₂ =
      rw eX (linked-same s₁ s₂ base e (cs ++ fs) 0 (keep₂ e 2 (λ d q h. omega arith))
      (λ d q. keep₂ (cell_at base d) 2 (λ d₂ q₂. code-link base d₂ d 30 (omega arith))) linked₁)

  -- the walks that the code makes
  steps₀ : Steps s base e (length cs)
  steps₀ = walk_steps s base C e cs 0 lC size (omega arith) (chain_left cs fs J) hx

  steps₁ : Steps (joined s base e (length cs)) base e (length A)
  unfolding s₁
  steps₁ = walk_steps s₁ base C e A (first B) lC (omega (arith, size₁)) (omega (arith, size₁)) (chain_left A B JA) front₁

  steps₂ : Steps (filled (joined s base e (length cs)) base e (length A) code) base e (length X)
  unfolding s₁ s₂
  steps₂ = walk_steps s₂ base C e X (first Y) lC (omega (arith, size₂)) (omega (arith, size₂)) (chain_left X Y JX) (front-linked s₂ base e X Y linked₂)

  -- what they leave
  done : List ℕ
  done = cut s₂ base e (length X)

  own : Linked done base e X 0
  unfolding done
  own = cut-own s₂ base C e X Y lC (omega (arith, size₂)) he le JX linked₂

  rest : Linked done base 6 Y 0
  unfolding done
  rest = cut-free s₂ base C e X Y lC (omega (arith, size₂)) he le JX linked₂

  outside-as : (b n : ℕ) → Outside base e (cs ++ fs) b n → Outside base e (X ++ Y) b n
  outside-as b n o = rw eX o

  keep₃ : (b n : ℕ) → Outside base e (cs ++ fs) b n → part done b n ≡ part s₂ b n
  unfolding done
  keep₃ b n o = cut-outside s₂ base C e X Y lC (omega (arith, size₂)) he le JX linked₂ b n (outside-as b n o)

  keep : (b n : ℕ) → Outside base e (cs ++ fs) b n → ClearCode base A b n → part done b n ≡ part s b n
  unfolding s₁
  keep b n o h = keep₃ b n o ∙ keep₂ b n h ∙ join-outside s base C e cs fs lC size he le J hx b n o

  -- a cell's code is outside of the links
  code-outside : (d : ℕ) → 1 ≤ d → Outside base e (cs ++ fs) (cell_at base d + 2) 30
  code-outside d l = record { free = λ h. absurd (omega arith); own = λ h. absurd (omega arith); cells = λ c q. link-code base c d (J.from c q) l }

  coded : Filled done base A code
  unfolding s₂
  coded =
      filled-same s₂ done base A code (λ d q. keep₃ (cell_at base d + 2) 30 (code-outside d ((chain_left A B JA).from d q)))
      (fill-filled base C lC A s₁ e code (first B) (chain_left A B JA) front₁ long (omega (arith, size₁)))

  done-length : length done ≡ length s
  unfolding done cut
  done-length = put-length (put s₂ 6 2 _) _ 2 0 ∙ put-length s₂ 6 2 _ ∙ size₂

  -- the free cells behind, and the cells of other pages
  tail : (d : ℕ) → 1 ≤ occurrences d B → part done (cell_at base d + 2) 30 ≡ part s (cell_at base d + 2) 30
  tail d q =
      keep (cell_at base d + 2) 30 (code-outside d ((chain-right A B JA).from d q))
      (λ c r. code_apart base c d ((chain_left A B JA).from c r) ((chain-right A B JA).from d q)
      (λ i. omega (arith, JA.once d, occurrences-append d A B, ap (λ (z : ℕ). occurrences z A) i)))

  in-A : (c : ℕ) → 1 ≤ occurrences c A → 1 ≤ occurrences c (cs ++ fs)
  in-A c r = rw (← eA) (omega (arith, occurrences-append c A B))

  other-link : (d : ℕ) → 1 ≤ d → occurrences d (cs ++ fs) ≡ 0 → part done (cell_at base d) 2 ≡ part s (cell_at base d) 2
  other-link d l z =
      keep (cell_at base d) 2
      (record {
        free = λ h. absurd (omega arith);
        own = λ h. absurd (omega arith);
        cells = λ c q. cells-apart base c d 2 2 (J.from c q) l (λ i. omega (arith, ap (λ (x : ℕ). occurrences x (cs ++ fs)) i)) (omega arith)
            (omega arith);
      })
      (λ c r. code-link base c d 30 (omega arith))

  other-code : (d : ℕ) → 1 ≤ d → occurrences d (cs ++ fs) ≡ 0 → part done (cell_at base d + 2) 30 ≡ part s (cell_at base d + 2) 30
  other-code d l z =
      keep (cell_at base d + 2) 30 (code-outside d l)
      (λ c r. code_apart base c d (J.from c (in-A c r)) l (λ i. omega (arith, in-A c r, ap (λ (x : ℕ). occurrences x (cs ++ fs)) i)))

  -- bytes before the cells, but for the two links
  low : (b n : ℕ) → b + n ≤ base → Apart 6 2 b n → Apart e 2 b n → part done b n ≡ part s b n
  low b n l f o = keep b n (record { free = f; own = o; cells = λ c q h. omega arith }) (λ c r h. omega arith)

  pub moves : Moves s (cut (filled (joined s base e (length cs)) base e (length A) code) base e (length X)) base e cs fs A B X Y code
  unfolding done s₂ s₁
  moves = record {
    long = done-length;
    own = own;
    rest = rest;
    coded = coded;
    tail = tail;
    other-link = other-link;
    other-code = other-code;
    low = low;
    steps₀ = steps₀;
    steps₁ = steps₁;
    steps₂ = steps₂;
  }
