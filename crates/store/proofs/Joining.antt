-- A chain and the free chain are joined, and cut again. Assumes nothing.
use mathlib.Core.Path.{◌≡◌, refl, sym, ap, ◌∙◌}
use mathlib.Core.List.{List, [], ◌∷◌, ◌++◌}
use Prim.Native.Nat.{ℕ, ◌+◌, ◌*◌, ◌≤◌}
use native.Mathlib.Omega.{arith}
use lib.ListN.{length}
use Rattle.lists.specs.Lists.{first, occurrences, part}
use Rattle.bits.specs.Numbers.{little, number, number_at}
use Rattle.store.specs.Limits.{max_cells}
use Rattle.store.specs.Layout.{cell_at}
use Rattle.store.specs.Code.Links.{Steps, cut, joined, nth_link, put}
use Rattle.store.specs.Sound.{is_cell}
use Rattle.store.proofs.FreshLaws.{cell-is, cell-le}
use Rattle.lists.proofs.Occurrences.{occurrences-append, one-equal, one_same}
use Rattle.store.proofs.Numbers.{number-two}
use Rattle.store.proofs.Writes.{Apart, Chain, Linked, cells-apart, end_of, put-length, put-off, put_same}

-- ---- a chain without its first cells
pub chain-tail : {C c : ℕ} {cs : List ℕ} → Chain C (c ∷ cs) → Chain C cs
unfolding occurrences
chain-tail h = record {
  once = λ d. omega (arith, h.once d);
  from = λ d q. h.from d (omega arith);
  upto = λ d q. h.upto d (omega arith);
}

pub chain_head : (C c : ℕ) (cs : List ℕ) → Chain C (c ∷ cs) → (1 ≤ c) × (c ≤ C)
unfolding occurrences
chain_head C c cs h = (h.from c (omega (arith, one_same c)), h.upto c (omega (arith, one_same c)))

pub chain-new : (C c : ℕ) (cs : List ℕ) → Chain C (c ∷ cs) → (d : ℕ) → 1 ≤ occurrences d cs → d ≡ c → ⊥
unfolding occurrences
chain-new C c cs h d q e = omega (arith, h.once d, one-equal d c e)

-- each cell once is a chain, and so are cells among those of a chain
pub chain-all : (C : ℕ) (cs : List ℕ) → ((d : ℕ) → occurrences d cs ≡ is_cell C d) → Chain C cs
chain-all C cs h = record {
  once = λ d. omega (arith, h d, cell-le C d);
  from = λ d r. (cell-is C d (omega (arith, h d))).0;
  upto = λ d r. (cell-is C d (omega (arith, h d))).1;
}

pub chain-part : {C : ℕ} (cs xs : List ℕ) → ((d : ℕ) → occurrences d xs ≤ occurrences d cs) → Chain C cs → Chain C xs
chain-part cs xs q h = record {
  once = λ d. omega (arith, q d, h.once d);
  from = λ d r. h.from d (omega (arith, q d));
  upto = λ d r. h.upto d (omega (arith, q d));
}

pub chain_left : {C : ℕ} (xs ys : List ℕ) → Chain C (xs ++ ys) → Chain C xs
chain_left xs ys = chain-part (xs ++ ys) xs (λ d. omega (arith, occurrences-append d xs ys))

pub chain-right : {C : ℕ} (xs ys : List ℕ) → Chain C (xs ++ ys) → Chain C ys
chain-right xs ys = chain-part (xs ++ ys) ys (λ d. omega (arith, occurrences-append d xs ys))

-- what a write leaves: the cells of a chain lie apart from it
abbrev pub Clear : ℕ → List ℕ → ℕ → ℕ → Type 0
Clear base cs b n = (d : ℕ) → 1 ≤ occurrences d cs → Apart (cell_at base d) 2 b n

clear-tail : (base c : ℕ) (cs : List ℕ) (b n : ℕ) → Clear base (c ∷ cs) b n → Clear base cs b n
unfolding occurrences
clear-tail base c cs b n h d q = h d (omega arith)

clear-head : (base c : ℕ) (cs : List ℕ) (b n : ℕ) → Clear base (c ∷ cs) b n → Apart (cell_at base c) 2 b n
unfolding occurrences
clear-head base c cs b n h = h c (omega (arith, one_same c))

pub end-apart : (base a : ℕ) (cs : List ℕ) (b n : ℕ) → Apart a 2 b n → Clear base cs b n → Apart (end_of base a cs) 2 b n
unfolding end_of
end-apart base a [] b n h j = h
end-apart base a (c ∷ cs) b n h j = end-apart base (cell_at base c) cs b n (clear-head base c cs b n j) (clear-tail base c cs b n j)

end-high : (base a : ℕ) (cs : List ℕ) → 8 ≤ base → 8 ≤ a → 8 ≤ end_of base a cs
unfolding end_of
end-high base a [] l h = h
end-high base a (c ∷ cs) l h = end-high base (cell_at base c) cs l (omega arith)

-- the last link of a chain lies within the store
end_fits : (base C a : ℕ) (cs : List ℕ) (n : ℕ) → base + 32 * C ≤ n → a + 2 ≤ n → Chain C cs → end_of base a cs + 2 ≤ n
unfolding end_of
end_fits base C a [] n l h j = h
end_fits base C a (c ∷ cs) n l h j = let w = chain_head C c cs j in end_fits base C (cell_at base c) cs n l (omega (arith, w.0, w.1)) (chain-tail j)

-- the next link of a chain is not one of those behind it
next-clear : (base C c : ℕ) (cs : List ℕ) → Chain C (c ∷ cs) → Clear base cs (cell_at base c) 2
next-clear base C c cs h d q =
    cells-apart base d c 2 2 ((chain-tail h).from d q) (chain_head C c cs h).0 (λ e. chain-new C c cs h d q (sym e)) (omega arith) (omega arith)

pub linked-off : (s : List ℕ) (w x base a : ℕ) (cs : List ℕ) (y : ℕ) → Apart w 2 a 2 → ((d : ℕ) → 1 ≤ occurrences d cs → Apart w 2 (cell_at base d) 2)
    → Linked s base a cs y → Linked (put s w 2 x) base a cs y
unfolding occurrences
linked-off s w x base a [] y h j k = put-off s w 2 x a 2 h ∙ k
linked-off s w x base a (c ∷ cs) y h j k =
    (put-off s w 2 x a 2 h ∙ k.0, linked-off s w x base (cell_at base c) cs y (j c (omega (arith, one_same c))) (λ d q. j d (omega arith)) k.1)

-- a write to the last link
relink : (s : List ℕ) (base C a : ℕ) (cs : List ℕ) (x y : ℕ) → base + 32 * C ≤ length s → a + 2 ≤ length s → Chain C cs → Clear base cs a 2
    → Linked s base a cs x → Linked (put s (end_of base a cs) 2 y) base a cs y
unfolding end_of
relink s base C a [] x y l h j k m = put_same s a 2 y h
relink s base C a (c ∷ cs) x y l h j k m =
    let w = chain_head C c cs j in (
      put-off s (end_of base (cell_at base c) cs) 2 y a 2 (end-apart base (cell_at base c) cs a 2 (clear-head base c cs a 2 k) (clear-tail base c cs a 2 k)) ∙ m.0,
      relink s base C (cell_at base c) cs x y l (omega (arith, w.0, w.1)) (chain-tail j) (next-clear base C c cs j) m.1,
    )

-- ---- a chain in two
relabel : (s : List ℕ) (base a b : ℕ) (ys : List ℕ) → part s a 2 ≡ little 2 (first ys) → Linked s base b ys 0 → Linked s base a ys 0
unfolding first
relabel s base a b [] e h = e
relabel s base a b (y ∷ ys) e h = (e, h.1)

append-linked : (s : List ℕ) (base a b : ℕ) (xs ys : List ℕ) → Linked s base a xs (first ys) → Linked s base b ys 0 → Linked s base a (xs ++ ys) 0
append-linked s base a b [] ys h j = relabel s base a b ys h j
append-linked s base a b (x ∷ xs) ys h j = (h.0, append-linked s base (cell_at base x) b xs ys h.1 j)

pub front-linked : (s : List ℕ) (base a : ℕ) (xs ys : List ℕ) → Linked s base a (xs ++ ys) 0 → Linked s base a xs (first ys)
unfolding first
front-linked s base a [] [] h = h
front-linked s base a [] (y ∷ ys) h = h.0
front-linked s base a (x ∷ xs) ys h = (h.0, front-linked s base (cell_at base x) xs ys h.1)

back-linked : (s : List ℕ) (base a : ℕ) (xs ys : List ℕ) → Linked s base a (xs ++ ys) 0 → Linked s base (end_of base a xs) ys 0
unfolding end_of
back-linked s base a [] ys h = h
back-linked s base a (x ∷ xs) ys h = back-linked s base (cell_at base x) xs ys h.1

-- the walk goes to the last link
pub walk_end : (s : List ℕ) (base C a : ℕ) (xs : List ℕ) (y : ℕ) → C ≤ max_cells → Chain C xs → Linked s base a xs y → nth_link s base a (length xs) ≡ end_of base a xs
unfolding nth_link end_of
walk_end s base C a [] y l j h = refl
walk_end s base C a (x ∷ xs) y l j h =
    let w = chain_head C x xs j in
    ap (λ (z : ℕ). nth_link s base (cell_at base z) (length xs)) (ap number h.0 ∙ number-two x (omega (arith, w.1)))
    ∙ walk_end s base C (cell_at base x) xs y l (chain-tail j) h.1

pub walk_steps : (s : List ℕ) (base C a : ℕ) (xs : List ℕ) (y : ℕ) → C ≤ max_cells → base + 32 * C ≤ length s → a + 2 ≤ length s → Chain C xs
    → Linked s base a xs y
    → Steps s base a (length xs)
walk_steps s base C a [] y l m h j k = h
walk_steps s base C a (x ∷ xs) y l m h j k =
    let w = chain_head C x xs j in
    let e : number_at s a 2 ≡ x = ap number k.0 ∙ number-two x (omega (arith, w.1)) in (
      h,
      omega (arith, w.0, e),
      omega (arith, w.0, w.1, e),
      rw e (walk_steps s base C (cell_at base x) xs y l m (omega (arith, w.0, w.1)) (chain-tail j) k.1),
    )

first_word : (s : List ℕ) (base C a : ℕ) (ys : List ℕ) → C ≤ max_cells → Chain C ys → Linked s base a ys 0 → number_at s a 2 ≡ first ys
unfolding first
first_word s base C a [] l j h = ap number h ∙ number-two 0 (omega arith)
first_word s base C a (y ∷ ys) l j h = ap number h.0 ∙ number-two y (omega (arith, (chain_head C y ys j).1))

-- ---- the two changes
pub record Outside (base e : ℕ) (J : List ℕ) (b n : ℕ) : Type 0 where
  pub free : Apart 6 2 b n
  pub own : Apart e 2 b n
  pub cells : Clear base J b n

module _ (s : List ℕ) (base C e : ℕ) (xs ys : List ℕ) (lC : C ≤ max_cells) (size : base + 32 * C ≤ length s) (he : 8 ≤ e) (le : e + 2 ≤ base)
    (J : Chain C (xs ++ ys)) where
  cx : Chain C xs
  cx = chain_left xs ys J

  cy : Chain C ys
  cy = chain-right xs ys J

  low_clear : (zs : List ℕ) → Clear base zs e 2
  low_clear zs d q h = omega arith

  -- the free chain's cells are not the page's
  cross : (a : ℕ) → a + 2 ≤ base → (d : ℕ) → 1 ≤ occurrences d ys → Apart (end_of base a xs) 2 (cell_at base d) 2
  cross a la d q =
      end-apart base a xs (cell_at base d) 2 (λ h. absurd (omega arith))
      (λ d₂ q₂. cells-apart base d₂ d 2 2 (cx.from d₂ q₂) (cy.from d q)
      (λ e. omega (arith, J.once d, occurrences-append d xs ys, ap (λ (z : ℕ). occurrences z xs) e)) (omega arith) (omega arith))

  outside-end : (b n : ℕ) → Outside base e (xs ++ ys) b n → Apart (end_of base e xs) 2 b n
  outside-end b n o = end-apart base e xs b n o.own (λ d q. o.cells d (omega (arith, occurrences-append d xs ys)))

  -- joined: the page's chain is xs, the free chain ys
  pub join-linked : Linked s base e xs 0 → Linked s base 6 ys 0 → Linked (joined s base e (length xs)) base e (xs ++ ys) 0
  unfolding joined
  join-linked hx hy =
      rw (walk_end s base C e xs 0 lC cx hx, first_word s base C 6 ys lC cy hy)
      (append-linked (put s (end_of base e xs) 2 (first ys)) base e 6 xs ys
      (relink s base C e xs 0 (first ys) size (omega arith) cx (low_clear xs) hx)
      (linked-off s (end_of base e xs) (first ys) base 6 ys 0 (end-apart base e xs 6 2 (λ h. omega arith) (λ d q h. omega arith)) (cross e le) hy))

  pub join-outside : Linked s base e xs 0 → (b n : ℕ) → Outside base e (xs ++ ys) b n → part (joined s base e (length xs)) b n ≡ part s b n
  unfolding joined
  join-outside hx b n o = rw (walk_end s base C e xs 0 lC cx hx) (put-off s (end_of base e xs) 2 (number_at s 6 2) b n (outside-end b n o))

  -- cut: the chain is xs ++ ys
  pub cut-own : Linked s base e (xs ++ ys) 0 → Linked (cut s base e (length xs)) base e xs 0
  unfolding cut
  cut-own h =
      let hx = front-linked s base e xs ys h in
      rw (walk_end s base C e xs (first ys) lC cx hx)
      (relink (put s 6 2 (number_at s (end_of base e xs) 2)) base C e xs (first ys) 0 (omega (arith, put-length s 6 2 (number_at s (end_of base e xs) 2)))
      (omega (arith, put-length s 6 2 (number_at s (end_of base e xs) 2))) cx (low_clear xs)
      (linked-off s 6 (number_at s (end_of base e xs) 2) base e xs (first ys) (λ h. absurd (omega arith)) (λ d q h. absurd (omega arith)) hx))

  pub cut-free : Linked s base e (xs ++ ys) 0 → Linked (cut s base e (length xs)) base 6 ys 0
  unfolding cut
  cut-free h =
      let hx = front-linked s base e xs ys h in
      let hy = back-linked s base e xs ys h in
      let s₁ : List ℕ = put s 6 2 (number_at s (end_of base e xs) 2) in
      rw (walk_end s base C e xs (first ys) lC cx hx)
      (linked-off s₁ (end_of base e xs) 0 base 6 ys 0 (end-apart base e xs 6 2 (λ h. omega arith) (λ d q h. omega arith)) (cross e le)
      (relabel s₁ base 6 (end_of base e xs) ys (put_same s 6 2 (number_at s (end_of base e xs) 2) (omega arith)
      ∙ ap (little 2) (first_word s base C (end_of base e xs) ys lC cy hy))
      (linked-off s 6 (number_at s (end_of base e xs) 2) base (end_of base e xs) ys 0 (λ h. absurd (omega (arith, end-high base e xs (omega arith) he)))
      (λ d q h. absurd (omega arith)) hy)))

  pub cut-outside : Linked s base e (xs ++ ys) 0 → (b n : ℕ) → Outside base e (xs ++ ys) b n → part (cut s base e (length xs)) b n ≡ part s b n
  unfolding cut
  cut-outside h b n o =
      rw (walk_end s base C e xs (first ys) lC cx (front-linked s base e xs ys h))
      (put-off (put s 6 2 (number_at s (end_of base e xs) 2)) (end_of base e xs) 2 0 b n (outside-end b n o)
      ∙ put-off s 6 2 (number_at s (end_of base e xs) 2) b n o.free)
