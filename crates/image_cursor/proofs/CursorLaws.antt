-- Laws of a page of an image held in an array, hour after hour. Assumes nothing.
use mathlib.Core.Bool.{true}
use mathlib.Core.List.{List}
use mathlib.Core.Path.{◌≡◌, ap, sym, ◌∙◌}
use Prim.Native.Nat.{ℕ, ◌+◌, ◌-◌, ◌*◌, ◌/◌, ◌%◌, ◌^◌, ◌≤◌, ◌<◌, min}
use native.Mathlib.Nat.{lt_of_mul-lt-mul_left}
use native.Mathlib.Decide.{dec_le}
use native.Mathlib.Omega.{arith}
use lib.ListN.{length, get_or, take, drop}
use lib.Pow.{pow_mono}
use lib.Seq.{ext_get_or, get_or-drop, get_or-take, take_at}
use Rattle.lists.specs.Lists.{part, splice}
use Rattle.lists.proofs.Parts.{length_part, length-splice}
use Rattle.image.specs.Check.{accepted}
use Rattle.image.specs.Code.Head.{HeadOf}
use Rattle.image.specs.Image.{page}
use Rattle.image.specs.Read.{e_of, list_of, n_of, page_count_of}
use Rattle.image.specs.declared.head.Head.{Head}
use Rattle.image.proofs.Accepted.{accepted-only, length-list}
use Rattle.image.proofs.PageLaws.{get_d-page, hour-low, hour-page, hour-split, length-page}
use Rattle.image_cursor.specs.Code.Cursor.{Ahead, Ready}

-- the page of an hour that is logged
pub in-pages : (s : List ℕ) (i : ℕ) → i < n_of s → i / 2 ^ e_of s < page_count_of s
unfolding page_count_of
in-pages s i l = hour-page (e_of s) (n_of s) i l

module _ (s : List ℕ) (a : accepted s ≡ true) where
  pub low : e_of s ≤ 8
  low = (accepted-only s a).limits.e-high

  pub fits : 2 ^ e_of s ≤ 256
  fits = pow_mono {i = e_of s} {j = 8} low

  -- the page of hour i was read into the array
  read_by : (i : ℕ) (c d : List ℕ) → length c ≡ 256 → d ≡ splice c 0 (page (e_of s) (list_of s) (i / 2 ^ e_of s)) → Ready s i d
  unfolding splice
  read_by i c d l e =
      let p : List ℕ = page (e_of s) (list_of s) (i / 2 ^ e_of s) in
      let k : length p ≡ 2 ^ e_of s = length-page (e_of s) (list_of s) (i / 2 ^ e_of s) in
      record {
        long = ap length e ∙ length-splice c 0 p (omega (arith, k, fits)) ∙ l;
        page-is = λ h. ap (take (2 ^ e_of s)) e ∙ take_at p (drop (0 + length p) c) (2 ^ e_of s) k;
      }

-- a count of the page, n hours behind hour i
count-is : (s : List ℕ) (i n : ℕ) (c : List ℕ) → i < n_of s → i % 2 ^ e_of s + n < 2 ^ e_of s → Ready s i c
    → get_or c (i % 2 ^ e_of s + n) 0 ≡ get_or (list_of s) (i + n) 0
count-is s i n c h l r =
    let m : ℕ = 2 ^ e_of s in
    let j : ℕ = i % m + n in
    let e : m * (i / m) + j ≡ i + n = omega (arith, hour-split (e_of s) i) in
    sym (get_or-take m c j 0 l) ∙ ap (λ (z : List ℕ). get_or z j 0) (r.page-is h) ∙ get_d-page (e_of s) (list_of s) (i / m) j l
    ∙ ap (λ (z : ℕ). get_or (list_of s) z 0) e

-- an hour behind another in its page
same-page : (e i n : ℕ) → i % 2 ^ e + n ≤ 2 ^ e → 1 ≤ (i + n) % 2 ^ e → i / 2 ^ e ≡ (i + n) / 2 ^ e
same-page e i n h l =
    let m : ℕ = 2 ^ e in
    let u : m * (i / m) + i % m ≡ i = hour-split e i in
    let v : m * ((i + n) / m) + (i + n) % m ≡ i + n = hour-split e (i + n) in
    let x : i / m < (i + n) / m + 1 = lt_of_mul-lt-mul_left m (omega (arith, hour-low e (i + n))) in
    let y : (i + n) / m < i / m + 1 = lt_of_mul-lt-mul_left m (omega arith) in
    omega arith

-- the first hour of another's page
page-first : (e i j : ℕ) → i + j % 2 ^ e ≡ j → j / 2 ^ e ≡ i / 2 ^ e
page-first e i j h =
    let m : ℕ = 2 ^ e in
    let u : m * (i / m) + i % m ≡ i = hour-split e i in
    let v : m * (j / m) + j % m ≡ j = hour-split e j in
    let x : i / m < j / m + 1 = lt_of_mul-lt-mul_left m (omega (arith, hour-low e j)) in
    let y : j / m < i / m + 1 = lt_of_mul-lt-mul_left m (omega (arith, hour-low e i)) in
    omega arith

stays : (s : List ℕ) (i n : ℕ) (c : List ℕ) → i % 2 ^ e_of s + n ≤ 2 ^ e_of s → 1 ≤ (i + n) % 2 ^ e_of s → i < n_of s → Ready s i c → Ready s (i + n) c
stays s i n c f l h r = record {
  long = r.long;
  page-is = λ g. r.page-is h ∙ ap (page (e_of s) (list_of s)) (same-page (e_of s) i n f l);
}

above : (k : ℕ) → (k ≡ 0 → ⊥) → 1 ≤ k
above k n = omega arith

-- ---- the same in the numbers that the code has
module _ (s : List ℕ) {h : Head} (o : HeadOf s h) where
  -- no hour is left
  pub ready-end : (i : ℕ) (c : List ℕ) → h.hours ≤ i → length c ≡ 256 → Ready s i c
  ready-end i c g l = record { long = l; page-is = λ (k : i < n_of s). absurd (omega (arith, o.hours-is)) }

  pub page-in : (i : ℕ) → i < h.hours → i / 2 ^ h.e < page_count_of s
  page-in i l = rw o.e-is (in-pages s i (omega (arith, o.hours-is)))

  pub ready_read : accepted s ≡ true → (i : ℕ) (c d : List ℕ) → length c ≡ 256 → d ≡ splice c 0 (page (e_of s) (list_of s) (i / 2 ^ h.e)) → Ready s i d
  ready_read a i c d l q = read_by s a i c d l (q ∙ ap (λ (z : ℕ). splice c 0 (page (e_of s) (list_of s) (i / 2 ^ z))) o.e-is)

  pub ready-stays : (i n j : ℕ) (c : List ℕ) → j ≡ (i + n) % 2 ^ h.e → (j ≡ 0 → ⊥) → i % 2 ^ h.e + n ≤ 2 ^ h.e → Ready s i c → Ready s (i + n) c
  ready-stays i n j c q f g r = go (dec_le h.hours i)
    where
      go : Dec (h.hours ≤ i) → Ready s (i + n) c
      go (yes l) = ready-end (i + n) c (omega arith) r.long
      go (no l) =
          stays s i n c (rw o.e-is at g) (rw (q ∙ ap (λ (z : ℕ). (i + n) % 2 ^ z) o.e-is) at (above j f)) (omega (arith, o.hours-is)) r

  -- the page of hour j, whose first hour is hour i, was copied
  pub ready-copied : (i j u m : ℕ) (c d : List ℕ) → u ≡ j % 2 ^ h.e → i + u ≡ j → j < h.hours → m ≡ 2 ^ h.e → Ready s j c → length d ≡ 256
      → take m d ≡ take m c → Ready s i d
  ready-copied i j u m c d v q l k r f e =
      let z : m ≡ 2 ^ e_of s = k ∙ ap (λ (y : ℕ). 2 ^ y) o.e-is in
      let w : u ≡ j % 2 ^ e_of s = v ∙ ap (λ (y : ℕ). j % 2 ^ y) o.e-is in
      record {
        long = f;
        page-is =
            λ g. (rw z at e) ∙ r.page-is (omega (arith, o.hours-is))
            ∙ ap (page (e_of s) (list_of s)) (page-first (e_of s) i j (omega (arith, w, q)));
      }

  pub small : accepted s ≡ true → h.e ≤ 8
  small a = omega (arith, o.e-is, low s a)

  pub page-small : accepted s ≡ true → 2 ^ h.e ≤ 256
  page-small a = pow_mono {i = h.e} {j = 8} (small a)

  pub place_in : accepted s ≡ true → (i n : ℕ) → i % 2 ^ h.e + n < 2 ^ h.e → i % 2 ^ h.e + n < 256
  place_in a i n l = omega (arith, page-small a)

  pub count_of : (i n j : ℕ) (c : List ℕ) → j ≡ i % 2 ^ h.e + n → i < h.hours → j < 2 ^ h.e → Ready s i c → get_or c j 0 ≡ get_or (list_of s) (i + n) 0
  count_of i n j c q l g r =
      let e : j ≡ i % 2 ^ e_of s + n = q ∙ ap (λ (z : ℕ). i % 2 ^ z + n) o.e-is in
      let f : j < 2 ^ e_of s = rw o.e-is at g in
      rw e (count-is s i n c (omega (arith, o.hours-is)) (rw e at f) r)

  pub hours : length (list_of s) ≡ h.hours
  hours = omega (arith, length-list s, o.hours-is)

  -- the counts of n hours from hour lo on, which are in its page
  pub counts-ahead : accepted s ≡ true → (lo n b : ℕ) (c : List ℕ) → b ≡ lo % 2 ^ h.e → Ahead h lo n → Ready s lo c
      → part c b n ≡ part (list_of s) lo n
  counts-ahead a lo n b c e d r = ext_get_or 0 (part c b n) (part (list_of s) lo n) (l ∙ sym m) (λ k i. at k (omega (arith, l)))
    where
      l : length (part c b n) ≡ n
      l = length_part c b n (omega (arith, page-small a, d.room, r.long, e))

      m : length (part (list_of s) lo n) ≡ n
      m = length_part (list_of s) lo n (omega (arith, hours, d.inside))

      at : (k : ℕ) → k < n → get_or (part c b n) k 0 ≡ get_or (part (list_of s) lo n) k 0
      at k i =
          get_or-take n (drop b c) k 0 i ∙ get_or-drop b c k 0
          ∙ count_of lo k (b + k) c (ap (λ (z : ℕ). z + k) e) (omega (arith, d.inside)) (omega (arith, d.room)) r
          ∙ sym (get_or-take n (drop lo (list_of s)) k 0 i ∙ get_or-drop lo (list_of s) k 0)

  -- the same, as a slice of them
  pub ahead-part : accepted s ≡ true → (lo n b m : ℕ) (c : List ℕ) → b ≡ lo % 2 ^ h.e → Ahead h lo n → Ready s lo c → m ≡ n
      → Ahead h lo (length (part c b m)) × (part c b m ≡ part (list_of s) lo (length (part c b m)))
  ahead-part a lo n b m c e d r f =
      let l : length (part c b n) ≡ n = length_part c b n (omega (arith, page-small a, d.room, r.long, e)) in
      rw (f, l) (d, counts-ahead a lo n b c e d r)

-- the lesser of what the page and what the list has
pub ahead-least : (h : Head) (i u r : ℕ) → i ≤ h.hours → u + i % 2 ^ h.e ≡ 2 ^ h.e → r ≡ min u (h.hours - i) → Ahead h i r
ahead-least h i u r l e g = record {
  inside = omega arith;
  room = omega arith;
  some = λ (k : i < h.hours). omega (arith, hour-low h.e i);
  whole = λ (k : i + r < h.hours). omega arith;
}
