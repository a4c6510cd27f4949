-- Cells laid along chains, and the bytes of one of them. Assumes nothing.
use mathlib.Core.Path.{◌≡◌, refl, sym, ap, ap₂, ◌∙◌}
use mathlib.Core.List.{List, [], ◌∷◌, ◌++◌}
use Prim.Native.Nat.{ℕ, zero, suc, ◌+◌, ◌*◌, ◌≤◌, ◌<◌}
use native.Mathlib.Nat.{not-suc-le-zero, le_of_suc-le-suc}
use native.Mathlib.Omega.{arith}
use native.Mathlib.Decide.{ℕ_discrete}
use lib.ListN.{length, get_or, drop, length-take, length-drop}
use borrow.Author.Tests.{eq-eqb, ne_eqb}
use Rattle.lists.specs.Lists.{concat, occurrences, pick, sum}
use Rattle.bits.specs.Numbers.{little}
use Rattle.store.specs.Layout.{Laid, Model, laid_at, lay, lay_all, lay_pages}
use Rattle.store.specs.PageCode.{cells, page_bytes}
use Rattle.store.specs.Plain.{page}
use Rattle.store.specs.Sound.{on_chains}
use Rattle.lists.proofs.Occurrences.{one-equal, one-other, one_same}
use Rattle.store.proofs.PageCodeLaws.{length-page}

unfoldable pub keys : List Laid → List ℕ
keys [] = []
keys (l ∷ ls) = l.cell ∷ keys ls

abbrev pub All : (Laid → Type 0) → List Laid → Type 0
All Q [] = Unit {0}
All Q (l ∷ ls) = Q l × All Q ls

pub all_append : (Q : Laid → Type 0) (xs ys : List Laid) → All Q xs → All Q ys → All Q (xs ++ ys)
all_append Q [] ys a b = b
all_append Q (x ∷ xs) ys a b = (a.0, all_append Q xs ys a.1 b)

pub all_left : (Q : Laid → Type 0) (xs ys : List Laid) → All Q (xs ++ ys) → All Q xs
all_left Q [] ys a = tt
all_left Q (x ∷ xs) ys a = (a.0, all_left Q xs ys a.1)

pub all_right : (Q : Laid → Type 0) (xs ys : List Laid) → All Q (xs ++ ys) → All Q ys
all_right Q [] ys a = a
all_right Q (x ∷ xs) ys a = all_right Q xs ys a.1

pub keys-append : (xs ys : List Laid) → keys (xs ++ ys) ≡ keys xs ++ keys ys
unfolding keys
keys-append [] ys = refl
keys-append (x ∷ xs) ys = ap (λ (z : List ℕ). x.cell ∷ z) (keys-append xs ys)

pub keys-lay : (cs code : List ℕ) → keys (lay cs code) ≡ cs
unfolding keys lay
keys-lay [] code = refl
keys-lay (c ∷ cs) code = ap (λ (z : List ℕ). c ∷ z) (keys-lay cs (drop 30 code))

at_same : (l : Laid) (ls : List Laid) → laid_at l.cell (l ∷ ls) ≡ l.bytes
unfolding laid_at pick
at_same l ls = rw (eq-eqb l.cell l.cell refl)

at_other : (c : ℕ) (l : Laid) (ls : List Laid) → (c ≡ l.cell → ⊥) → laid_at c (l ∷ ls) ≡ laid_at c ls
unfolding laid_at pick
at_other c l ls h = rw (ne_eqb c l.cell h)

-- no number twice: each laid cell is the one that is found
pub at_all : (f : ℕ → List ℕ) (ls : List Laid) → ((c : ℕ) → occurrences c (keys ls) ≤ 1) → ((c : ℕ) → 1 ≤ occurrences c (keys ls) → f c ≡ laid_at c ls)
    → All (λ l. f l.cell ≡ l.bytes) ls
unfolding keys occurrences
at_all f [] h j = tt
at_all f (l ∷ ls) h j = (
  j l.cell (omega (arith, one_same l.cell)) ∙ at_same l ls,
  at_all f ls (λ c. omega (arith, h c))
      (λ c p. j c (omega arith) ∙ at_other c l ls (λ e. omega (arith, h c, one-equal c l.cell e))),
)

-- a place that has each laid cell's bytes has those that are found
pub at-found : (f : ℕ → List ℕ) (c : ℕ) (ls : List Laid) → All (λ l. f l.cell ≡ l.bytes) ls → 1 ≤ occurrences c (keys ls) → f c ≡ laid_at c ls
unfolding keys occurrences
at-found f c [] a h = absurd (omega arith)
at-found f c (l ∷ ls) a h = go (ℕ_discrete c l.cell) (λ ne. at-found f c ls a.1 (omega (arith, one-other c l.cell ne)))
  where
    go : Dec (c ≡ l.cell) → ((c ≡ l.cell → ⊥) → f c ≡ laid_at c ls) → f c ≡ laid_at c (l ∷ ls)
    go (yes e) r = rw e (a.0 ∙ sym (at_same l ls))
    go (no ne) r = r ne ∙ sym (at_other c l ls ne)

-- a number that is laid has 32 bytes if all have
pub at_length : (c : ℕ) (ls : List Laid) → All (λ l. length l.bytes ≡ 32) ls → 1 ≤ occurrences c (keys ls) → length (laid_at c ls) ≡ 32
unfolding keys occurrences
at_length c [] a h = absurd (omega arith)
at_length c (l ∷ ls) a h = go (ℕ_discrete c l.cell) (λ ne. at_length c ls a.1 (omega (arith, one-other c l.cell ne)))
  where
    go : Dec (c ≡ l.cell) → ((c ≡ l.cell → ⊥) → length (laid_at c ls) ≡ 32) → length (laid_at c (l ∷ ls)) ≡ 32
    go (yes e) r = rw e (ap length (at_same l ls) ∙ a.0)
    go (no ne) r = ap length (at_other c l ls ne) ∙ r ne

pub lay-length : (cs code : List ℕ) → 30 * length cs ≤ length code → All (λ l. length l.bytes ≡ 32) (lay cs code)
unfolding lay little
lay-length [] code h = tt
lay-length (c ∷ cs) code h =
    (omega (arith, length-take 30 code), lay-length cs (drop 30 code) (omega (arith, length-drop 30 code)))

pub keys-pages : (xs : List ℕ) (p : ℕ) (css : List (List ℕ)) → keys (lay_pages xs p css) ≡ concat css
unfolding keys lay_pages concat
keys-pages xs p [] = refl
keys-pages xs p (cs ∷ css) =
    keys-append (lay cs (page_bytes (page xs p))) (lay_pages xs (suc p) css)
    ∙ ap₂ ◌++◌ (keys-lay cs (page_bytes (page xs p))) (keys-pages xs (suc p) css)

pub keys-all : (m : Model) → keys (lay_all m) ≡ on_chains m
unfolding lay_all on_chains
keys-all m = keys-append _ _ ∙ ap₂ ◌++◌ (keys-pages m.plain.counts 0 m.chains) (keys-lay m.spare _)

pub pages-length : (xs : List ℕ) (q : ℕ) (css : List (List ℕ)) → ((p : ℕ) → p < length css → length (get_or css p []) ≡ cells (sum (page xs (q + p))))
    → All (λ l. length l.bytes ≡ 32) (lay_pages xs q css)
unfolding lay_pages
pages-length xs q [] h = tt
pages-length xs q (cs ∷ css) h =
    all_append _ (lay cs (page_bytes (page xs q))) (lay_pages xs (suc q) css)
    (lay-length cs _ (omega (arith, length-page (page xs q), h0)))
    (pages-length xs (suc q) css (λ p l. h (suc p) (omega arith) ∙ ap (λ (z : ℕ). cells (sum (page xs z))) (omega arith)))
  where
    h0 : length cs ≡ cells (sum (page xs q))
    h0 = h 0 (omega arith) ∙ ap (λ (z : ℕ). cells (sum (page xs z))) (omega arith)

-- one page's chain
pub pages-all : (Q : Laid → Type 0) (xs : List ℕ) (q : ℕ) (css : List (List ℕ)) (p : ℕ) → p < length css → All Q (lay_pages xs q css)
    → All Q (lay (get_or css p []) (page_bytes (page xs (q + p))))
unfolding lay_pages
pages-all Q xs q [] p l a = absurd (not-suc-le-zero l)
pages-all Q xs q (cs ∷ css) zero l a =
    let e : q + 0 ≡ q = omega arith in
    rw e (all_left Q (lay cs (page_bytes (page xs q))) (lay_pages xs (suc q) css) a)
pages-all Q xs q (cs ∷ css) (suc p) l a =
    let e : q + suc p ≡ suc q + p = omega arith in
    rw e (pages-all Q xs (suc q) css p (le_of_suc-le-suc l) (all_right Q (lay cs (page_bytes (page xs q))) (lay_pages xs (suc q) css) a))
