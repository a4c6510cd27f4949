-- Hours of a list passed over, in the numbers that the code has. Assumes nothing.
use mathlib.Core.Bool.{true}
use mathlib.Core.List.{List, []}
use mathlib.Core.Path.{◌≡◌, refl, sym, ap, ◌∙◌}
use Prim.Native.Nat.{ℕ, ◌+◌, ◌-◌, ◌*◌, ◌/◌, ◌%◌, ◌^◌, ◌≤◌, ◌<◌}
use native.Mathlib.Omega.{arith}
use lib.ListN.{length, get_or, drop}
use lib.Seq.{get_or-drop, get_or-take}
use Rattle.std.specs.Simd.{first_chunks}
use Rattle.lists.specs.Lists.{part}
use Rattle.lists.proofs.Parts.{chunk-at, length-chunks, length_part}
use Rattle.image.specs.Check.{accepted}
use Rattle.image.specs.Code.Head.{HeadOf}
use Rattle.image.specs.Read.{list_of}
use Rattle.image.specs.declared.head.Head.{Head}
use Rattle.image_cursor.specs.Code.Cursor.{Ahead, Ready}
use Rattle.image_cursor.proofs.CursorLaws.{count_of, hours}
use Rattle.sum_marks.specs.Code.Marks.{Unmarked}
use Rattle.match_page.specs.Code.Page.{InHand, RunOf}
use Rattle.match_page.specs.declared.FrontPage.{FrontPage}
use Rattle.match_seek.specs.Code.Seek.{FirstAbove, Later, Passing, Reached, Seeks}
use Rattle.match_seek.specs.Code.Seek.FirstAbove.{at_first, at_second, at-third, at-fourth}
use Rattle.match_seek.specs.declared.Aim.{Aim}
use Rattle.match_seek.proofs.SeekLaws.{over-unmarked, seeks-on}

-- a count of the n hours from lo on
pub count-at : (xs : List ℕ) (lo n k hour v : ℕ) (hours : List ℕ) → hours ≡ part xs lo n → k < n → hour ≡ lo + k → v ≡ get_or hours k 0
    → v ≡ get_or xs hour 0
count-at xs lo n k hour v hours e l f g =
    g ∙ ap (λ (z : List ℕ). get_or z k 0) e ∙ get_or-take n (drop lo xs) k 0 l ∙ get_or-drop lo xs k 0 ∙ ap (λ (z : ℕ). get_or xs z 0) (sym f)

-- one of those behind the first k
pub count-behind : (c : List ℕ) (k j v : ℕ) → k ≤ length c → j < length (part c k (length c - k)) → v ≡ get_or (part c k (length c - k)) j 0
    → (k + j < length c) × (v ≡ get_or c (k + j) 0)
count-behind c k j v h i e =
    let l : length (part c k (length c - k)) ≡ length c - k = length_part c k (length c - k) (omega arith) in
    (omega arith, e ∙ get_or-take (length c - k) (drop k c) j 0 (omega arith) ∙ get_or-drop k c j 0)

pub length-behind : (c : List ℕ) (k : ℕ) → k ≤ length c → k + length (part c k (length c - k)) ≡ length c
length-behind c k h =
    let l : length (part c k (length c - k)) ≡ length c - k = length_part c k (length c - k) (omega arith) in
    omega arith

-- the i-th four of the counts cs
module _ (cs : List ℕ) (ps : List (List ℕ)) (i : ℕ) (all : ps ≡ first_chunks 4 (length cs / 4) cs) (l : i < length ps) where
  within : i < length cs / 4
  within = omega (arith, ap length all, length-chunks 4 (length cs / 4) cs)

  in-four : (j : ℕ) → j < 4 → get_or (get_or ps i []) j 0 ≡ get_or cs (4 * i + j) 0
  in-four j m =
      ap (λ (z : List (List ℕ)). get_or (get_or z i []) j 0) all ∙ ap (λ (z : List ℕ). get_or z j 0) (chunk-at 4 (length cs / 4) i cs within)
      ∙ get_or-take 4 (drop (4 * i) cs) j 0 m ∙ get_or-drop (4 * i) cs j 0

  pub four-small : ((k : ℕ) → get_or cs k 0 < 4294967296) → (j : ℕ) → j < 4 → get_or (get_or ps i []) j 0 < 4294967296
  four-small b j m = rw (in-four j m) (b (4 * i + j))

  pub four-inside : 4 * i + 4 ≤ length cs
  four-inside = omega (arith, within)

  pub four-are : (a b c d : ℕ) → a ≡ get_or (get_or ps i []) 0 0 → b ≡ get_or (get_or ps i []) 1 0 → c ≡ get_or (get_or ps i []) 2 0
      → d ≡ get_or (get_or ps i []) 3 0
      → (a ≡ get_or cs (4 * i) 0) × (b ≡ get_or cs (4 * i + 1) 0) × (c ≡ get_or cs (4 * i + 2) 0) × (d ≡ get_or cs (4 * i + 3) 0)
  four-are a b c d e f g h =
      let z : 4 * i + 0 ≡ 4 * i = omega arith in (
        e ∙ in-four 0 (omega arith) ∙ ap (λ (n : ℕ). get_or cs n 0) z,
        f ∙ in-four 1 (omega arith),
        g ∙ in-four 2 (omega arith),
        h ∙ in-four 3 (omega arith),
      )

-- where it stands some of the n hours later
pub later-within : (xs : List ℕ) (q first n : ℕ) (at r : Aim) {h : Head} → Ahead h at.lo n → Seeks xs q first r → at.lo < r.lo → r.lo ≤ at.lo + n
    → Later xs h q first at r
later-within xs q first n at r d w l m = record { seeks = w; on = l; room = omega (arith, d.room) }

module _ (xs : List ℕ) (q : ℕ) (page : FrontPage) (at : Aim) (w : Passing xs q page at) (l : at.lo < length xs)
    (lo want v : ℕ) (f : v ≡ get_or xs at.lo 0) (e : lo ≡ at.lo + 1) (i : want ≡ at.want + v) where
  -- the next hour
  pub seeks-next : Seeks xs q page.first (record { lo = lo; want = want })
  seeks-next = seeks-on xs q page.first at w.0 lo want v w.2 l f e i

  -- it may be passed over as well
  pub passing-next : RunOf xs page → (counts marks : List ℕ) → InHand xs page counts marks → want ≤ page.sum → Unmarked marks page.stamp want
      → Passing xs q page (record { lo = lo; want = want })
  passing-next g counts marks j m u = (seeks-next, m, over-unmarked xs q page g _ seeks-next m counts j.counts-are marks j.marked u)

  -- it wants more than the page has
  pub reached-next : page.sum < want → Reached xs q page (record { lo = lo; want = want })
  reached-next m = (seeks-next, λ (h : want ≤ page.sum). absurd (omega arith))

-- four of the n hours from lo on, from the i-th on
module _ (xs : List ℕ) (q : ℕ) (page : FrontPage) (g : RunOf xs page) (counts marks : List ℕ) (j : InHand xs page counts marks)
    (lo n i : ℕ) (hours : List ℕ) (p : hours ≡ part xs lo n) (s : lo + n ≤ length xs) (l : i + 4 ≤ n)
    (at : Aim) (w : Passing xs q page at) (o : at.lo ≡ lo + i) (a b c d : ℕ)
    (fa : a ≡ get_or hours i 0) (fb : b ≡ get_or hours (i + 1) 0) (fc : c ≡ get_or hours (i + 2) 0) (fd : d ≡ get_or hours (i + 3) 0)
    (u : Unmarked marks page.stamp (at.want + a) × Unmarked marks page.stamp (at.want + a + b)
    × Unmarked marks page.stamp (at.want + a + b + c) × Unmarked marks page.stamp (at.want + a + b + c + d)) where
  ga : a ≡ get_or xs at.lo 0
  ga = count-at xs lo n i at.lo a hours p (omega arith) o fa

  gb : b ≡ get_or xs (at.lo + 1) 0
  gb = count-at xs lo n (i + 1) (at.lo + 1) b hours p (omega arith) (omega arith) fb

  gc : c ≡ get_or xs (at.lo + 2) 0
  gc = count-at xs lo n (i + 2) (at.lo + 2) c hours p (omega arith) (omega arith) fc

  gd : d ≡ get_or xs (at.lo + 3) 0
  gd = count-at xs lo n (i + 3) (at.lo + 3) d hours p (omega arith) (omega arith) fd

  one : at.want + a ≤ page.sum → Passing xs q page (record { lo = at.lo + 1; want = at.want + a })
  one m = passing-next xs q page at w (omega arith) (at.lo + 1) (at.want + a) a ga refl refl g counts marks j m u.0

  two : at.want + a + b ≤ page.sum → Passing xs q page (record { lo = at.lo + 2; want = at.want + a + b })
  two m = passing-next xs q page _ (one (omega arith)) (omega arith) (at.lo + 2) (at.want + a + b) b gb (omega arith) refl g counts marks j m u.1

  three : at.want + a + b + c ≤ page.sum → Passing xs q page (record { lo = at.lo + 3; want = at.want + a + b + c })
  three m =
      passing-next xs q page _ (two (omega arith)) (omega arith) (at.lo + 3) (at.want + a + b + c) c gc (omega arith) refl g counts marks j m u.2

  pub passing-four : at.want + a + b + c + d ≤ page.sum → Passing xs q page (record { lo = at.lo + 4; want = at.want + a + b + c + d })
  passing-four m =
      passing-next xs q page _ (three (omega arith)) (omega arith) (at.lo + 4) (at.want + a + b + c + d) d gd (omega arith) refl g counts marks j m u.3

  -- one of them wants more than the page has
  pub above-four : (r : Aim) → FirstAbove page.sum at.lo (at.want + a) (at.want + a + b) (at.want + a + b + c) (at.want + a + b + c + d) r
      → (lo ≤ r.lo) × (r.lo ≤ lo + n) × Reached xs q page r
  above-four r (at_first m) =
      (omega arith, omega arith, reached-next xs q page at w (omega arith) (at.lo + 1) (at.want + a) a ga refl refl m)
  above-four r (at_second k m) =
      (omega arith, omega arith, reached-next xs q page _ (one k) (omega arith) (at.lo + 2) (at.want + a + b) b gb (omega arith) refl m)
  above-four r (at-third k m) =
      (omega arith, omega arith, reached-next xs q page _ (two k) (omega arith) (at.lo + 3) (at.want + a + b + c) c gc (omega arith) refl m)
  above-four r (at-fourth k m) =
      (omega arith, omega arith, reached-next xs q page _ (three k) (omega arith) (at.lo + 4) (at.want + a + b + c + d) d gd (omega arith) refl m)

-- ---- i of the n hours from lo on are passed over, one at least
pub record PassEnds (xs : List ℕ) (q first lo n i want : ℕ) : Type 0 where
  pub seeks : Seeks xs q first (record { lo = lo + i; want = want })
  pub some : 1 ≤ i
  pub inside : i ≤ n

pub later_of : (xs : List ℕ) (q first n i want : ℕ) (at : Aim) {h : Head} → Ahead h at.lo n → PassEnds xs q first at.lo n i want
    → Later xs h q first at (record { lo = at.lo + i; want = want })
later_of xs q first n i want at d x = record {
  seeks = x.seeks;
  on = omega (arith, x.some);
  room = omega (arith, x.inside, d.room);
}

module _ (s : List ℕ) (a : accepted s ≡ true) {h : Head} (o : HeadOf s h) (lo n p : ℕ) (d : Ahead h lo n) (e : p ≡ lo % 2 ^ h.e)
    (q : ℕ) (page : FrontPage) (back : List ℕ) (r : Ready s lo back) (want i : ℕ)
    (w : Passing (list_of s) q page (record { lo = lo + i; want = want })) where
  -- they are all n
  pub ends-all : lo < length (list_of s) → i ≤ n → n ≤ i → PassEnds (list_of s) q page.first lo n i want
  ends-all l f g = record { seeks = w.0; some = omega (arith, d.some (omega (arith, hours s o))); inside = f }

  -- the next hour
  pub ends-here : i < n → PassEnds (list_of s) q page.first lo n (i + 1) (want + get_or back (p + i) 0)
  ends-here l =
      let f : get_or back (p + i) 0 ≡ get_or (list_of s) (lo + i) 0 =
      count_of s o lo i (p + i) back (ap (λ (z : ℕ). z + i) e) (omega (arith, d.inside)) (omega (arith, d.room)) r in
      record {
        seeks =
            seeks-on (list_of s) q page.first (record { lo = lo + i; want = want }) w.0 (lo + (i + 1)) _ _ w.2
            (omega (arith, d.inside, hours s o)) f (omega arith) (omega arith);
        some = omega arith;
        inside = omega arith;
      }
