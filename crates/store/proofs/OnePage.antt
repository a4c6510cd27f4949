-- A change that needs other cells at one page only. Assumes nothing.
use mathlib.Core.Path.{◌≡◌, refl, sym, ap, ap₂, ◌∙◌}
use mathlib.Core.List.{List, [], ◌++◌}
use Prim.Native.Nat.{ℕ, zero, suc, ◌*◌, ◌/◌, ◌<◌, min}
use native.Mathlib.Omega.{arith}
use native.Mathlib.Decide.{ℕ_discrete}
use lib.ListN.{length, take, drop, take-append-drop}
use lib.Seq.{drop-append_seam, get_or-set_same, set-get_or, set-set, take-append_seam}
use Rattle.lists.specs.Lists.{sum}
use Rattle.store.specs.PageCode.{cells}
use Rattle.store.specs.Plain.{relisted}
use Rattle.store.specs.Layout.{Model, resize}
use Rattle.store.specs.OneCell.{chain_of, rechained}
use Rattle.store.specs.Sound.{Good}
use Rattle.store.proofs.Keep.{Off, page-off}
use Rattle.store.specs.Settle.{pagewise, settled, shrunk, size_to, wanted, with_list}
use Rattle.store.proofs.Sized.{long, sized-other}

-- a page that keeps its cells
pub stays : (m : Model) (p k : ℕ) → k ≡ long m p → size_to p k m ≡ m
unfolding size_to
stays m p k e =
    rw e
    (ap₂ (rechained m p) (take-append_seam (chain_of m p) m.spare) (drop-append_seam (chain_of m p) m.spare)
    ∙ ap (λ (z : List (List ℕ)). record { plain = m.plain; chains = z; spare = m.spare }) (set-get_or m.chains p []))

-- a page that is given cells twice
twice : (m : Model) (p j k : ℕ) → p < length m.chains → size_to p k (size_to p j m) ≡ size_to p k m
unfolding size_to
twice m p j k lp =
    let J = chain_of m p ++ m.spare in
    let e : chain_of (size_to p j m) p ++ (size_to p j m).spare ≡ J =
    ap (λ (z : List ℕ). z ++ drop j J) (get_or-set_same m.chains p (take j J) [] lp) ∙ take-append-drop j J in
    ap (λ (z : List ℕ). rechained (size_to p j m) p (take k z) (drop k z)) e
    ∙ ap (λ (z : List (List ℕ)). record { plain = m.plain; chains = z; spare = drop k J }) (set-set m.chains p (take j J) (take k J))

-- pages that all keep theirs, and pages that do except for one
none : (m : Model) (t : ℕ → ℕ) (n : ℕ) → ((q : ℕ) → q < n → t q ≡ long m q) → pagewise n (λ p. size_to p (t p)) m ≡ m
unfolding pagewise
none m t zero h = refl
none m t (suc n) h = ap (size_to n (t n)) (none m t n (λ q l. h q (omega arith))) ∙ stays m n (t n) (h n (omega arith))

one-next : (m : Model) (t : ℕ → ℕ) (n p : ℕ) → p < suc n → ((q : ℕ) → q < suc n → (q ≡ p → ⊥) → t q ≡ long m q)
    → (p < n → pagewise n (λ p. size_to p (t p)) m ≡ size_to p (t p) m) → Dec (n ≡ p)
    → size_to n (t n) (pagewise n (λ p. size_to p (t p)) m) ≡ size_to p (t p) m
one-next m t n p l h r (yes e) =
    ap (size_to n (t n)) (none m t n (λ q lq. h q (omega arith) (λ (z : q ≡ p). omega (arith, z, e)))) ∙ ap (λ (z : ℕ). size_to z (t z) m) e
one-next m t n p l h r (no ne) =
    ap (size_to n (t n)) (r (omega (arith, ne)))
    ∙ stays (size_to p (t p) m) n (t n) (h n (omega arith) ne ∙ sym (ap length (sized-other m p (t p) n ne)))

one : (m : Model) (t : ℕ → ℕ) (n p : ℕ) → p < n → ((q : ℕ) → q < n → (q ≡ p → ⊥) → t q ≡ long m q)
    → pagewise n (λ p. size_to p (t p)) m ≡ size_to p (t p) m
unfolding pagewise
one m t zero p l h = absurd (omega arith)
one m t (suc n) p l h = one-next m t n p l h (λ lp. one m t n p lp (λ q lq. h q (omega arith))) (ℕ_discrete n p)

whole : (m : Model) (ys : List ℕ) (p k : ℕ) → with_list (relisted m.plain ys) (size_to p k m) ≡ resize m ys p k
unfolding size_to resize
whole m ys p k = refl

-- so `settled` is `resize` where one page alone needs other cells
pub settled-one : (m : Model) (ys : List ℕ) (p : ℕ) → length m.chains ≡ m.plain.pages → p < m.plain.pages
    → ((q : ℕ) → q < m.plain.pages → (q ≡ p → ⊥) → wanted ys q ≡ long m q) → settled m (relisted m.plain ys) ≡ resize m ys p (wanted ys p)
unfolding settled shrunk
settled-one m ys p rows lp h =
    let P = m.plain.pages in
    let kept : ℕ → ℕ = λ q. min (long m q) (wanted ys q) in
    let w = size_to p (kept p) m in
    let first : shrunk m ys ≡ w = one m kept P p lp (λ q lq ne. omega (arith, h q lq ne)) in
    ap (λ (z : Model). with_list (relisted m.plain ys) (pagewise P (λ p. size_to p (wanted ys p)) z)) first
    ∙ ap (with_list (relisted m.plain ys))
    (one w (wanted ys) P p lp (λ q lq ne. h q lq ne ∙ sym (ap length (sized-other m p (kept p) q ne)))
    ∙ twice m p (kept p) (wanted ys p) (omega (arith, rows)))
    ∙ whole m ys p (wanted ys p)

-- an append or set
pub settled-off : (m : Model) (ys : List ℕ) (i : ℕ) → Good m → Off m.plain.counts ys i → i < 64 * m.plain.pages
    → settled m (relisted m.plain ys) ≡ resize m ys (i / 64) (wanted ys (i / 64))
settled-off m ys i g o li =
    settled-one m ys (i / 64) g.rows (omega arith)
    (λ q lq ne. ap (λ (z : List ℕ). cells (sum z)) (page-off m.plain.counts ys i q o ne) ∙ sym (g.lengths q lq))
