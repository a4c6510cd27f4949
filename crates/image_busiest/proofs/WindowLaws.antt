-- The sums of a window moved along an accepted image's list, in the numbers that the code has. Assumes nothing.
use mathlib.Core.Bool.{true}
use mathlib.Core.List.{List}
use mathlib.Core.Path.{◌≡◌, refl, sym, ap, ◌∙◌}
use Prim.Native.Nat.{ℕ, ◌+◌, ◌-◌, ◌%◌, ◌^◌, ◌≤◌, ◌<◌, min}
use native.Mathlib.Decide.{dec_le}
use native.Mathlib.Omega.{arith}
use lib.ListN.{length, get_or}
use borrow.Author.Tests.{lt-ltb, le-ltb}
use Rattle.lists.specs.Lists.{pick}
use Rattle.lists.proofs.Sums.{sum-take-le}
use Rattle.image.specs.Check.{accepted}
use Rattle.image.specs.Code.Head.{HeadOf}
use Rattle.image.specs.Read.{list_of}
use Rattle.image.specs.declared.head.Head.{Head}
use Rattle.image.specs.declared.opened.Accepted.{Accepted}
use Rattle.image.proofs.Accepted.{accepted-only}
use Rattle.image_cursor.specs.Code.Cursor.{Ahead}
use Rattle.image_cursor.specs.declared.cursor.Cursor.{Cursor}
use Rattle.image_cursor.proofs.CursorLaws.{count_of, hours, place_in}
use Rattle.runs.specs.Runs.{Busiest, run_sum}
use Rattle.runs.proofs.PrefixSums.{reading-next, run-reading}
use Rattle.runs.proofs.BusiestLaws.{best-all, best-first, best_keeps, best-new, window-moves}
use Rattle.image_busiest.specs.Code.{Along, AtEnds, Looked, later}
use Rattle.image_busiest.specs.declared.window.Window.{Window}

-- ---- the window one hour later
pub later-new : (w : Window) (a b : ℕ) → w.best.total < w.sum + a - b
    → record { first = w.first + 1; sum = w.sum + a - b; best = record { first = w.first + 1; total = w.sum + a - b } } ≡ later w a b
unfolding later pick
later-new w a b l = rw (lt-ltb w.best.total (w.sum + a - b) l)

pub later-old : (w : Window) (a b : ℕ) → w.sum + a - b ≤ w.best.total
    → record { first = w.first + 1; sum = w.sum + a - b; best = w.best } ≡ later w a b
unfolding later pick
later-old w a b l = rw (le-ltb w.best.total (w.sum + a - b) l)

-- it has the sum of its hours, and the best so far is the best
module _ (s : List ℕ) (k : ℕ) (w : Window) (l : Looked s k w) (i : w.first + k < length (list_of s)) (more less : ℕ)
    (p : more ≡ get_or (list_of s) (w.first + k) 0) (q : less ≡ get_or (list_of s) w.first 0) where
  next-sum : w.sum + more - less ≡ run_sum (list_of s) (w.first + 1) k
  next-sum = omega (arith, l.sum_is, window-moves (list_of s) w.first k i)

  pub less-fits : less ≤ w.sum + more
  less-fits = omega (arith, l.sum_is, window-moves (list_of s) w.first k i)

  pub looked-later : (r : Window) → r ≡ later w more less → Looked s k r × (r.first ≡ w.first + 1)
  looked-later r e = go (dec_le (w.sum + more - less) w.best.total)
    where
      go : Dec (w.sum + more - less ≤ w.best.total) → Looked s k r × (r.first ≡ w.first + 1)
      go (yes m) = rw (e ∙ sym (later-old w more less m)) (
        record {
          inside = omega arith;
          sum_is = next-sum;
          best-is = best_keeps (list_of s) k w.first w.best.first w.best.total l.best-is (omega (arith, next-sum));
        },
        refl,
      )
      go (no m) = rw (e ∙ sym (later-new w more less (omega arith))) (
        record {
          inside = omega arith;
          sum_is = next-sum;
          best-is = rw next-sum (best-new (list_of s) k w.first w.best.first w.best.total l.best-is (omega (arith, next-sum)));
        },
        refl,
      )

-- ---- as far as no end leaves its page
pub along-least : (h : Head) (k j u v r : ℕ) → j + k < h.hours → Ahead h (j + k) u → Ahead h j v → r ≡ min u v → Along h k j r
along-least h k j u v r l e f g = record {
  some = omega (arith, e.some l, f.some (omega arith));
  inside = omega (arith, e.inside);
  front-room = omega (arith, e.room);
  back-room = omega (arith, f.room);
}

module _ (s : List ℕ) (a : accepted s ≡ true) {h : Head} (o : HeadOf s h) where
  -- no run and no count has more than the total
  run_small : (j k : ℕ) → run_sum (list_of s) j k ≤ 1099511627775
  run_small j k = omega (arith, run-reading (list_of s) j k, sum-take-le (j + k) (list_of s), (accepted-only s a).limits.total)

  count_small : (i : ℕ) → i < h.hours → get_or (list_of s) i 0 ≤ 1099511627775
  count_small i l =
      omega (arith, reading-next (list_of s) i (omega (arith, hours s o)), sum-take-le (i + 1) (list_of s), (accepted-only s a).limits.total)

  -- ---- the first window, and the last
  pub looked-first : (k t : ℕ) → k ≤ h.hours → t ≡ run_sum (list_of s) 0 k → Looked s k (record { first = 0; sum = t; best = record { first = 0; total = t } })
  looked-first k t l e =
      record { inside = omega (arith, hours s o); sum_is = e; best-is = rw e (best-first (list_of s) k) }

  pub found : (k : ℕ) (w : Window) → h.hours ≤ w.first + k → Looked s k w → Busiest (list_of s) k w.best.first w.best.total
  found k w n l = best-all (list_of s) k w.first w.best.first w.best.total l.best-is (omega (arith, hours s o, l.inside))

-- ---- hour i of n that the window moves on from where it stood: f and b are the places of the hours that come in and go out
module _ (front back : Cursor) (k i n : ℕ) (at w : Window) (z : AtEnds k at front back) (c : Along back.image.now.head k at.first n) (m : i < n)
    (l : Looked back.image.now.bytes.now k w) (e : w.first ≡ at.first + i)
    (f b : ℕ) (x : f ≡ front.hour % 2 ^ front.image.now.head.e) (y : b ≡ back.hour % 2 ^ back.image.now.head.e) where
  abbrev s : List ℕ
  s = back.image.now.bytes.now

  a : accepted s ≡ true
  a = back.image.now.accepted

  o : HeadOf s back.image.now.head
  o = back.image.now.head_of

  f-is : f ≡ (at.first + k) % 2 ^ back.image.now.head.e
  f-is = rw (z.same, z.behind) at x

  b-is : b ≡ at.first % 2 ^ back.image.now.head.e
  b-is = rw z.first at y

  more-is : get_or front.counts (f + i) 0 ≡ get_or (list_of s) (w.first + k) 0
  more-is =
      let g : at.first + k + i ≡ w.first + k = omega arith in
      count_of s o (at.first + k) i (f + i) front.counts (ap (λ (t : ℕ). t + i) f-is) (omega (arith, c.inside)) (omega (arith, f-is, c.front-room))
      (rw (z.same, z.behind) at front.ready)
      ∙ ap (λ (t : ℕ). get_or (list_of s) t 0) g

  less-is : get_or back.counts (b + i) 0 ≡ get_or (list_of s) w.first 0
  less-is =
      count_of s o at.first i (b + i) back.counts (ap (λ (t : ℕ). t + i) b-is) (omega (arith, c.inside)) (omega (arith, b-is, c.back-room))
      (rw z.first at back.ready)
      ∙ ap (λ (t : ℕ). get_or (list_of s) t 0) (sym e)

  more-in : w.first + k < length (list_of s)
  more-in = omega (arith, hours s o, c.inside)

  pub front-place : f + i < 256
  front-place = omega (arith, f-is, place_in s o a (at.first + k) i (omega (arith, c.front-room)))

  pub back-place : b + i < 256
  back-place = omega (arith, b-is, place_in s o a at.first i (omega (arith, c.back-room)))

  pub can-move : (w.first < 4294967296) × (w.sum + get_or front.counts (f + i) 0 < 2 ^ 64)
      × (get_or back.counts (b + i) 0 ≤ w.sum + get_or front.counts (f + i) 0)
  can-move = (
    omega (arith, more-in, hours s o, o.hours-small),
    omega (arith, l.sum_is, run_small s a o w.first k, more-is, count_small s a o (w.first + k) (omega (arith, more-in, hours s o))),
    less-fits s k w l more-in (get_or front.counts (f + i) 0) (get_or back.counts (b + i) 0) more-is less-is,
  )

  pub moves : (r : Window) → r ≡ later w (get_or front.counts (f + i) 0) (get_or back.counts (b + i) 0)
      → (r.first ≡ at.first + (i + 1)) × Looked s k r
  moves r q =
      let d = looked-later s k w l more-in (get_or front.counts (f + i) 0) (get_or back.counts (b + i) 0) more-is less-is r q in
      (omega (arith, d.1), d.0)

-- ---- the cursors at its ends
pub slide-ready : (image : Accepted) (k n : ℕ) (at : Window) (front back : Cursor) → back.image.now ≡ image → Looked image.bytes.now k at
    → Along image.head k at.first n → AtEnds k at front back → (v : ℕ) → v ≡ front.hour - back.hour
    → (Looked back.image.now.bytes.now v at × Along back.image.now.head v at.first n) × AtEnds v at front back
slide-ready image k n at front back q l c z v e =
    let g : v ≡ k = omega (arith, z.behind, z.first) in
    ((rw (q, g) l, rw (q, g) c), rw g z)

-- the window and both cursors n hours later
pub slid : (image : Accepted) (k n : ℕ) (at w : Window) (front back f b : Cursor) → back.image.now ≡ image → AtEnds k at front back → (v : ℕ)
    → v ≡ front.hour - back.hour → Looked back.image.now.bytes.now v w × (w.first ≡ at.first + n)
    → (f.hour ≡ front.hour + n) × (f.image.now ≡ front.image.now) → (b.hour ≡ back.hour + n) × (b.image.now ≡ back.image.now)
    → Looked image.bytes.now k w × AtEnds k w f b × (b.image.now ≡ image)
slid image k n at w front back f b q z v e l x y =
    let g : v ≡ k = omega (arith, z.behind, z.first) in (
      rw (q, g) at l.0,
      record { same = x.1 ∙ z.same ∙ sym y.1; behind = omega (arith, x.0, z.behind, l.1); first = omega (arith, y.0, z.first, l.1) },
      y.1 ∙ q,
    )
