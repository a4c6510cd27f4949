-- A page's counts when the hours behind one move by one place. Assumes nothing.
use mathlib.Core.Path.{◌≡◌, refl, sym, ap, ap₂, ◌∙◌}
use mathlib.Core.List.{List, [], ◌∷◌, ◌++◌, append_assoc}
use Prim.Native.Nat.{ℕ, suc, ◌+◌, ◌-◌, ◌≤◌, ◌<◌}
use native.Mathlib.Numerals.{add-one}
use native.Mathlib.Omega.{arith}
use native.Mathlib.Decide.{dec_le, ℕ_discrete}
use lib.ListN.{drop_of_length-le, get_or-append, length, get_or, set, take, drop, length-append, length-drop, length-set, length-take}
use lib.Seq.{drop-append-le, drop-cons, drop-set-lt, ext_get_or, get_or-append_seam, get_or-set_other, get_or-set_same, get_or-take, take_all, take_at, take-suc, take-suc-set, take-take}
use Rattle.lists.specs.Lists.{sum}
use Rattle.lists.proofs.Sums.{sum-snoc}
use Rattle.store.specs.Plain.{inserted, struck}
use Rattle.store.proofs.Inserting.{inserted-at, inserted-before, inserted-behind, length_inserted, length-struck, struck-before, struck-behind, sum-inserted, sum-struck}
use Rattle.move_counts.specs.declared.Edit.{Edit}
use Rattle.move_counts.specs.declared.Edit.TheVariants.{Insert, Strike}
use Rattle.move_counts.specs.Code.Turned.{leaving_index, pulled, pushed, turned}

-- ---- an insert, index by index
module _ (x : List ℕ) (j v : ℕ) (n : length x ≡ 64) (lj : j < 64) where
  short : length (take 63 x) ≡ 63
  short = omega (arith, length-take 63 x)

  pub pushed-length : length (pushed x j v) ≡ 64
  unfolding pushed
  pushed-length = omega (arith, length_inserted (take 63 x) j v (omega (arith, short)), short)

  pub pushed-before : (k : ℕ) → k < j → get_or (pushed x j v) k 0 ≡ get_or x k 0
  unfolding pushed
  pushed-before k l = inserted-before (take 63 x) j v k (omega (arith, short)) l ∙ get_or-take 63 x k 0 (omega arith)

  pub pushed_at : get_or (pushed x j v) j 0 ≡ v
  unfolding pushed
  pushed_at = inserted-at (take 63 x) j v (omega (arith, short))

  pub pushed-behind : (k : ℕ) → j ≤ k → k < 63 → get_or (pushed x j v) (suc k) 0 ≡ get_or x k 0
  unfolding pushed
  pushed-behind k l r = inserted-behind (take 63 x) j v k (omega (arith, short)) l ∙ get_or-take 63 x k 0 r

  -- these are all
  pub pushed-is : (y : List ℕ) → length y ≡ 64 → ((k : ℕ) → k < j → get_or y k 0 ≡ get_or x k 0) → get_or y j 0 ≡ v
      → ((k : ℕ) → j ≤ k → k < 63 → get_or y (suc k) 0 ≡ get_or x k 0) → y ≡ pushed x j v
  pushed-is y ly b a h = ext_get_or 0 y (pushed x j v) (ly ∙ sym pushed-length) (λ k l. go k (omega arith) (dec_le j k) (ℕ_discrete k j))
    where
      up : (k : ℕ) → j < k → k < 64 → get_or y k 0 ≡ get_or (pushed x j v) k 0
      up k l r =
          let e : k ≡ suc (k - 1) = omega arith in
          ap (λ (z : ℕ). get_or y z 0) e ∙ h (k - 1) (omega arith) (omega arith) ∙ sym (pushed-behind (k - 1) (omega arith) (omega arith))
          ∙ sym (ap (λ (z : ℕ). get_or (pushed x j v) z 0) e)

      go : (k : ℕ) → k < 64 → Dec (j ≤ k) → Dec (k ≡ j) → get_or y k 0 ≡ get_or (pushed x j v) k 0
      go k l (no r) q = b k (omega arith) ∙ sym (pushed-before k (omega arith))
      go k l (yes r) (yes q) = ap (λ (z : ℕ). get_or y z 0) q ∙ a ∙ sym pushed_at ∙ sym (ap (λ (z : ℕ). get_or (pushed x j v) z 0) q)
      go k l (yes r) (no q) = up k (omega (arith, q)) l

  pub pushed-sum : sum (pushed x j v) + get_or x 63 0 ≡ sum x + v
  unfolding pushed
  pushed-sum =
      let whole : x ≡ take 63 x ++ get_or x 63 0 ∷ [] = sym (take_all 64 x (omega (arith, n))) ∙ take-suc x 63 0 (omega (arith, n)) in
      omega (arith, sum-inserted (take 63 x) j v, ap sum whole, sum-snoc (take 63 x) (get_or x 63 0))

-- ---- a strike
module _ (x : List ℕ) (j v : ℕ) (n : length x ≡ 64) (lj : j < 64) where
  less : length (struck x j) ≡ 63
  less = omega (arith, length-struck x j (omega (arith, n)))

  pub pulled-length : length (pulled x j v) ≡ 64
  unfolding pulled
  pulled-length = omega (arith, length-append (struck x j) (v ∷ []), less)

  in-front : (k : ℕ) → k < 63 → get_or (pulled x j v) k 0 ≡ get_or (struck x j) k 0
  unfolding pulled
  in-front k l = get_or-append (struck x j) (v ∷ []) 0 k (omega (arith, less))

  pub pulled-before : (k : ℕ) → k < j → get_or (pulled x j v) k 0 ≡ get_or x k 0
  pulled-before k l = in-front k (omega arith) ∙ struck-before x j k l

  pub pulled-behind : (k : ℕ) → j ≤ k → k < 63 → get_or (pulled x j v) k 0 ≡ get_or x (suc k) 0
  pulled-behind k l r = in-front k r ∙ struck-behind x j k l

  pub pulled-at : get_or (pulled x j v) 63 0 ≡ v
  unfolding pulled
  pulled-at = ap (λ (z : ℕ). get_or (struck x j ++ v ∷ []) z 0) (sym less) ∙ get_or-append_seam (struck x j) v [] 0

  pub pulled-is : (y : List ℕ) → length y ≡ 64 → ((k : ℕ) → k < j → get_or y k 0 ≡ get_or x k 0)
      → ((k : ℕ) → j ≤ k → k < 63 → get_or y k 0 ≡ get_or x (suc k) 0) → get_or y 63 0 ≡ v → y ≡ pulled x j v
  pulled-is y ly b h a = ext_get_or 0 y (pulled x j v) (ly ∙ sym pulled-length) (λ k l. go k (omega arith) (dec_le j k) (ℕ_discrete k 63))
    where
      go : (k : ℕ) → k < 64 → Dec (j ≤ k) → Dec (k ≡ 63) → get_or y k 0 ≡ get_or (pulled x j v) k 0
      go k l r (yes q) = ap (λ (z : ℕ). get_or y z 0) q ∙ a ∙ sym pulled-at ∙ sym (ap (λ (z : ℕ). get_or (pulled x j v) z 0) q)
      go k l (no r) (no q) = b k (omega arith) ∙ sym (pulled-before k (omega arith))
      go k l (yes r) (no q) = h k r (omega (arith, q)) ∙ sym (pulled-behind k r (omega (arith, q)))

  pub pulled-sum : sum (pulled x j v) + get_or x j 0 ≡ sum x + v
  unfolding pulled
  pulled-sum = omega (arith, sum-struck x j, sum-snoc (struck x j) v)

-- ---- both
module _ (edit : Edit) (x : List ℕ) (j v : ℕ) (n : length x ≡ 64) (lj : j < 64) where
  pub turned-length : length (turned edit x j v) ≡ 64
  unfolding turned
  turned-length = go edit
    where
      go : (e : Edit) → length (turned e x j v) ≡ 64
      go (Insert u) = pushed-length x j v n lj
      go Strike = pulled-length x j v n lj

  -- 'one count comes in, one leaves'
  pub turned-sum : sum (turned edit x j v) + get_or x (leaving_index edit j) 0 ≡ sum x + v
  unfolding turned leaving_index
  turned-sum = go edit
    where
      go : (e : Edit) → sum (turned e x j v) + get_or x (leaving_index e j) 0 ≡ sum x + v
      go (Insert u) = pushed-sum x j v n lj
      go Strike = pulled-sum x j v n lj

-- ---- an insert's loop: put back where it goes, the count in hand gives what was there with v before it
pub hand-on : (ys : List ℕ) (i next : ℕ) → i < length ys → inserted (set ys i next) (i + 1) (get_or ys i 0) ≡ inserted ys i next
unfolding inserted
hand-on ys i next l =
    rw (add-one i, take-suc-set ys i next l, drop-set-lt (suc i) ys i next (omega arith), drop-cons ys i 0 l)
    (append_assoc (take i ys) (next ∷ []) (get_or ys i 0 ∷ drop (suc i) ys))

pub hand-last : (x ys : List ℕ) (j v i next : ℕ) → length x ≡ 64 → j < 64 → length ys ≡ 64 - j → length ys ≤ i → inserted ys i next ≡ v ∷ drop j x
    → take j x ++ ys ≡ pushed x j v
unfolding inserted pushed
hand-last x ys j v i next n lj ly li e =
    let w : List ℕ = drop j (take 63 x) in
    let g : ℕ = get_or x 63 0 in
    let whole : x ≡ take 63 x ++ g ∷ [] = sym (take_all 64 x (omega (arith, n))) ∙ take-suc x 63 0 (omega (arith, n)) in
    let few : length (take 63 x) ≡ 63 = omega (arith, length-take 63 x) in
    let behind : drop j x ≡ w ++ g ∷ [] = ap (drop j) whole ∙ drop-append-le j (take 63 x) (g ∷ []) (omega (arith, few)) in
    let long : length (v ∷ w) ≡ length ys = omega (arith, length-drop j (take 63 x), few, ly) in
    let all : ys ++ next ∷ [] ≡ (v ∷ w) ++ g ∷ [] =
    sym (ap₂ (λ (a : List ℕ) (b : List ℕ). a ++ next ∷ b) (take_all i ys li) (drop_of_length-le ys li)) ∙ e ∙ ap (λ (z : List ℕ). v ∷ z) behind in
    let same : ys ≡ v ∷ w = sym (take_at ys (next ∷ []) (length ys) refl) ∙ ap (take (length ys)) all ∙ take_at (v ∷ w) (g ∷ []) (length ys) long in
    ap₂ (λ (a : List ℕ) (b : List ℕ). a ++ b) (sym (take-take j 63 x (omega arith))) same

-- ---- a strike's loop: what is left to do gives the same
pull-more : (x : List ℕ) (k v : ℕ) → length x ≡ 64 → k < 63 → pulled x k v ≡ pulled (set x k (get_or x (suc k) 0)) (suc k) v
pull-more x k v n l =
    let y : List ℕ = set x k (get_or x (suc k) 0) in
    let ny : length y ≡ 64 = length-set x k (get_or x (suc k) 0) ∙ n in
    sym (pulled-is x k v n (omega arith) (pulled y (suc k) v) (pulled-length y (suc k) v ny (omega arith))
    (λ h b. pulled-before y (suc k) v ny (omega arith) h (omega arith) ∙ get_or-set_other x k h (get_or x (suc k) 0) 0 (λ e. omega (arith, e)))
    (λ h b r. go h b r ny (ℕ_discrete h k))
    (pulled-at y (suc k) v ny (omega arith)))
  where
    go : (h : ℕ) → k ≤ h → h < 63 → length (set x k (get_or x (suc k) 0)) ≡ 64 → Dec (h ≡ k)
        → get_or (pulled (set x k (get_or x (suc k) 0)) (suc k) v) h 0 ≡ get_or x (suc h) 0
    go h b r ny (yes e) =
        rw e (pulled-before (set x k (get_or x (suc k) 0)) (suc k) v ny (omega arith) k (omega arith) ∙ get_or-set_same x k (get_or x (suc k) 0) 0 (omega (arith, n)))
    go h b r ny (no e) =
        pulled-behind (set x k (get_or x (suc k) 0)) (suc k) v ny (omega arith) h (omega (arith, e)) r
        ∙ get_or-set_other x k (suc h) (get_or x (suc k) 0) 0 (λ q. omega (arith, q, e))

pub pull-last : (x : List ℕ) (v : ℕ) → length x ≡ 64 → pulled x 63 v ≡ set x 63 v
pull-last x v n =
    sym (pulled-is x 63 v n (omega arith) (set x 63 v) (length-set x 63 v ∙ n) (λ h b. get_or-set_other x 63 h v 0 (λ e. omega (arith, e)))
    (λ h b r. absurd (omega arith)) (get_or-set_same x 63 v 0 (omega (arith, n))))

-- the same with the code's next index
pub pull-on : (x : List ℕ) (k v : ℕ) → length x ≡ 64 → k < 63 → pulled x k v ≡ pulled (set x k (get_or x (k + 1) 0)) (k + 1) v
pull-on x k v n l = pull-more x k v n l ∙ ap (λ (z : ℕ). pulled (set x k (get_or x z 0)) z v) (sym (add-one k))

-- ---- an insert, count by count: what is left to do gives the same
push-more : (x : List ℕ) (k v : ℕ) → length x ≡ 64 → k < 63 → pushed x k v ≡ pushed (set x k v) (suc k) (get_or x k 0)
push-more x k v n l =
    let y : List ℕ = set x k v in
    let ny : length y ≡ 64 = length-set x k v ∙ n in
    sym (pushed-is x k v n (omega arith) (pushed y (suc k) (get_or x k 0)) (pushed-length y (suc k) (get_or x k 0) ny (omega arith))
    (λ h b. pushed-before y (suc k) (get_or x k 0) ny (omega arith) h (omega arith) ∙ get_or-set_other x k h v 0 (λ e. omega (arith, e)))
    (pushed-before y (suc k) (get_or x k 0) ny (omega arith) k (omega arith) ∙ get_or-set_same x k v 0 (omega (arith, n)))
    (λ h b r. go h b r (ℕ_discrete h k)))
  where
    go : (h : ℕ) → k ≤ h → h < 63 → Dec (h ≡ k) → get_or (pushed (set x k v) (suc k) (get_or x k 0)) (suc h) 0 ≡ get_or x h 0
    go h b r (yes e) =
        rw e (pushed_at (set x k v) (suc k) (get_or x k 0) (length-set x k v ∙ n) (omega arith))
    go h b r (no e) =
        pushed-behind (set x k v) (suc k) (get_or x k 0) (length-set x k v ∙ n) (omega arith) h (omega (arith, e)) r ∙ get_or-set_other x k h v 0 e

pub push-last : (x : List ℕ) (v : ℕ) → length x ≡ 64 → pushed x 63 v ≡ set x 63 v
push-last x v n =
    sym (pushed-is x 63 v n (omega arith) (set x 63 v) (length-set x 63 v ∙ n) (λ h b. get_or-set_other x 63 h v 0 (λ e. omega (arith, e)))
    (get_or-set_same x 63 v 0 (omega (arith, n))) (λ h b r. absurd (omega arith)))

pub push-on : (x : List ℕ) (k v : ℕ) → length x ≡ 64 → k < 63 → pushed x k v ≡ pushed (set x k v) (k + 1) (get_or x k 0)
push-on x k v n l = push-more x k v n l ∙ ap (λ (z : ℕ). pushed (set x k v) z (get_or x k 0)) (sym (add-one k))
