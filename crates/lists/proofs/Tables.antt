-- Tables of values and of lists, and the lists joined. Assumes nothing.
use mathlib.Core.Path.{◌≡◌, refl, sym, ap, ap₂, ◌∙◌}
use mathlib.Core.List.{List, [], ◌∷◌, ◌++◌, append_assoc, append-nil}
use Prim.Native.Nat.{ℕ, zero, suc, ◌+◌, ◌*◌, ◌≤◌, ◌<◌}
use native.Mathlib.Nat.{not-suc-le-zero, le_of_suc-le-suc, mul-zero, mul-suc}
use native.Mathlib.Omega.{arith}
use lib.ListN.{length, get_or, take, drop, length-append, length-drop, take-append-drop}
use lib.Seq.{take_at, drop-cons, drop-drop}
use Rattle.lists.specs.Lists.{tabulate, concat, part}
use Rattle.lists.proofs.Parts.{part-skip}

pub tabulate-ext : {A : Type 0} (n : ℕ) (f g : ℕ → A) → ((j : ℕ) → j < n → f j ≡ g j) → tabulate n f ≡ tabulate n g
unfolding tabulate
tabulate-ext zero f g h = refl
tabulate-ext (suc n) f g h = ap₂ ◌∷◌ (h 0 (omega arith)) (tabulate-ext n (λ j. f (suc j)) (λ j. g (suc j)) (λ j l. h (suc j) (omega arith)))

pub length-tabulate : {A : Type 0} (n : ℕ) (f : ℕ → A) → length (tabulate n f) ≡ n
unfolding tabulate
length-tabulate zero f = refl
length-tabulate (suc n) f = ap suc (length-tabulate n (λ j. f (suc j)))

pub get_d_tabulate : {A : Type 0} (n : ℕ) (f : ℕ → A) (i : ℕ) (d : A) → i < n → get_or (tabulate n f) i d ≡ f i
unfolding tabulate
get_d_tabulate zero f i d h = absurd (not-suc-le-zero h)
get_d_tabulate (suc n) f zero d h = refl
get_d_tabulate (suc n) f (suc i) d h = get_d_tabulate n (λ j. f (suc j)) i d (le_of_suc-le-suc h)

pub tabulate-snoc : {A : Type 0} (n : ℕ) (f : ℕ → A) → tabulate (suc n) f ≡ tabulate n f ++ f n ∷ []
unfolding tabulate
tabulate-snoc zero f = refl
tabulate-snoc (suc n) f = ap (λ z. f 0 ∷ z) (tabulate-snoc n (λ j. f (suc j)))

-- a list as a table, and the front of a table
pub tabulate-get_d : {A : Type 0} (xs : List A) (d : A) → tabulate (length xs) (λ j. get_or xs j d) ≡ xs
unfolding tabulate
tabulate-get_d [] d = refl
tabulate-get_d (x ∷ xs) d = ap (λ z. x ∷ z) (tabulate-get_d xs d)

pub take-tabulate : {A : Type 0} (n k : ℕ) (f : ℕ → A) → k ≤ n → take k (tabulate n f) ≡ tabulate k f
unfolding tabulate
take-tabulate n zero f l = refl
take-tabulate zero (suc k) f l = absurd (not-suc-le-zero l)
take-tabulate (suc n) (suc k) f l = ap (λ z. f 0 ∷ z) (take-tabulate n k (λ j. f (suc j)) (le_of_suc-le-suc l))

-- the elements of a part, one after another
pub part-table : (s : List ℕ) (a n : ℕ) → a + n ≤ length s → part s a n ≡ tabulate n (λ j. get_or s (a + j) 0)
unfolding tabulate
part-table s a zero l = refl
part-table s a (suc n) l =
    ap (take (suc n)) (drop-cons s a 0 (omega arith))
    ∙ ap₂ ◌∷◌ (ap (λ (i : ℕ). get_or s i 0) {x = a} {y = a + 0} (omega arith))
    (part-table s (suc a) n (omega arith)
    ∙ tabulate-ext n (λ j. get_or s (suc a + j) 0) (λ j. get_or s (a + suc j) 0)
    (λ j _. ap (λ (i : ℕ). get_or s i 0) {x = suc a + j} {y = a + suc j} (omega arith)))

-- the i-th list, behind those before it
pub part-concat : (k : ℕ) (f : ℕ → List ℕ) (rest : List ℕ) (i : ℕ) → i < k
    → part (concat (tabulate k f) ++ rest) (length (concat (tabulate i f))) (length (f i)) ≡ f i
unfolding tabulate concat
part-concat zero f rest i l = absurd (not-suc-le-zero l)
part-concat (suc k) f rest zero l = rw append_assoc (take_at (f 0) _ (length (f 0)) refl)
part-concat (suc k) f rest (suc i) l =
    rw (append_assoc, length-append (f 0) (concat (tabulate i (λ j. f (suc j)))))
    (part-skip (f 0) _ (length (concat (tabulate i (λ j. f (suc j))))) (length (f (suc i))) (length (f 0)) refl
    ∙ part-concat k (λ j. f (suc j)) rest i (le_of_suc-le-suc l))

pub concat-suc : (i : ℕ) (f : ℕ → List ℕ) → concat (tabulate (suc i) f) ≡ concat (tabulate i f) ++ f i
unfolding tabulate concat
concat-suc zero f = append-nil (f 0)
concat-suc (suc i) f =
    ap (λ (z : List ℕ). f 0 ++ z) (concat-suc i (λ j. f (suc j))) ∙ sym (append_assoc (f 0) (concat (tabulate i (λ j. f (suc j)))) (f (suc i)))

-- those before the i-th take no more than all
pub concat-le : (k : ℕ) (f : ℕ → List ℕ) (i : ℕ) → i < k → length (concat (tabulate i f)) + length (f i) ≤ length (concat (tabulate k f))
unfolding tabulate concat
concat-le zero f i l = absurd (not-suc-le-zero l)
concat-le (suc k) f zero l = omega (arith, length-append (f 0) (concat (tabulate k (λ j. f (suc j)))))
concat-le (suc k) f (suc i) l =
    omega (
      arith,
      length-append (f 0) (concat (tabulate k (λ j. f (suc j)))),
      length-append (f 0) (concat (tabulate i (λ j. f (suc j)))),
      concat-le k (λ j. f (suc j)) i (le_of_suc-le-suc l),
    )

-- lists of at most n elements
pub concat-most : (k n : ℕ) (f : ℕ → List ℕ) → ((j : ℕ) → j < k → length (f j) ≤ n) → length (concat (tabulate k f)) ≤ n * k
unfolding tabulate concat
concat-most zero n f h = omega arith
concat-most (suc k) n f h =
    omega (
      arith,
      length-append (f 0) (concat (tabulate k (λ j. f (suc j)))),
      mul-suc n k,
      h 0 (omega arith),
      concat-most k n (λ j. f (suc j)) (λ j q. h (suc j) (omega arith)),
    )

-- lists of n elements each
pub concat-each : (k n : ℕ) (f : ℕ → List ℕ) → ((j : ℕ) → j < k → length (f j) ≡ n) → length (concat (tabulate k f)) ≡ n * k
unfolding tabulate concat
concat-each zero n f h = sym (mul-zero n)
concat-each (suc k) n f h =
    let e : n * suc k ≡ n + n * k = omega (arith, mul-suc n k) in
    length-append (f 0) _ ∙ ap₂ ◌+◌ (h 0 (omega arith)) (concat-each k n (λ j. f (suc j)) (λ j q. h (suc j) (omega arith))) ∙ sym e

pub concat-at : (k n : ℕ) (f : ℕ → List ℕ) (rest : List ℕ) (i : ℕ) → ((j : ℕ) → j < k → length (f j) ≡ n) → i < k
    → part (concat (tabulate k f) ++ rest) (n * i) n ≡ f i
concat-at k n f rest i h l =
    sym (ap₂ (λ (a m : ℕ). part (concat (tabulate k f) ++ rest) a m) (concat-each i n f (λ j q. h j (omega arith))) (h i l)) ∙ part-concat k f rest i l

-- a list is its parts
pub chop : (n k : ℕ) (l : List ℕ) → length l ≡ n * k → concat (tabulate k (λ j. part l (n * j) n)) ≡ l
unfolding tabulate concat
chop n zero l e = sym (short l (e ∙ mul-zero n))
  where
    short : (l : List ℕ) → length l ≡ 0 → l ≡ []
    short [] e = refl
    short (x ∷ l) e = absurd (omega (arith, e))
chop n (suc k) l e =
    ap₂ ◌++◌ (ap (λ (z : ℕ). part l z n) (mul-zero n))
    (ap concat (tabulate-ext k (λ j. part l (n * suc j) n) (λ j. part (drop n l) (n * j) n)
    (λ j _. ap (λ (z : ℕ). part l z n) {x = n * suc j} {y = n + n * j} (omega (arith, mul-suc n j)) ∙ ap (take n) (sym (drop-drop (n * j) n l))))
    ∙ chop n k (drop n l) (omega (arith, length-drop n l, mul-suc n k)))
    ∙ take-append-drop n l
