-- One turn of the loops that write. Assumes nothing.
use mathlib.Core.Path.{◌≡◌, refl, sym, ap, ap₂, ◌∙◌}
use mathlib.Core.Bool.{true, false}
use mathlib.Core.List.{List, ◌∷◌}
use Prim.Native.Nat.{ℕ, suc, ◌+◌, ◌-◌, ◌≤◌, ◌<◌}
use native.Mathlib.Omega.{arith}
use native.Mathlib.Numerals.{add-one}
use lib.ListN.{length, get_or, take, drop, replicate, drop_of_length-le, length-replicate}
use lib.Seq.{drop-cons, sets, length-sets}
use lib.Dec.{eqb}
use borrow.Rule.Slice.PartMut.{put_mid}
use Rattle.lists.specs.Lists.{first, pick}
use Rattle.lists.proofs.Parts.{length_part}
use Rattle.store.specs.Layout.{cell_at, entry_at, entry_size}
use Rattle.store.specs.Code.Links.{put}
use Rattle.store.proofs.Writes.{mid-sets, put-length}
use Rattle.repair.specs.Repair.{sieve}
use Rattle.repair.proofs.Sieves.{sieve-no, sieve-yes}
use Rattle.live_repair.specs.Code.Writing.{blank, chained, dropped, freed, unmarked}

-- n bytes from a on made 0 as a slice
pub filled-sets : (s : List ℕ) (a n : ℕ) {k : ℕ} {w : List ℕ} → w ≡ replicate (length (take k (drop a s))) 0 → k ≡ n → a + n ≤ length s
    → put_mid a k s w ≡ sets s a (replicate n 0)
filled-sets s a n {k} e i h =
    let l : length (take k (drop a s)) ≡ n = rw i (length_part s a n h) in
    mid-sets s (replicate n 0) a k (e ∙ ap (λ (z : ℕ). replicate z 0) l) (i ∙ sym (length-replicate {A = ℕ} n 0)) (omega arith)

-- ---- entries made zero: i of the list's pages are done
pub dropped-next : (s₀ s t list : List ℕ) (i e : ℕ) → i < length list → e ≡ entry_at (get_or list i 0) → t ≡ sets s e (replicate entry_size 0)
    → dropped s₀ list ≡ dropped s (drop i list) → dropped s₀ list ≡ dropped t (drop (i + 1) list)
unfolding dropped
dropped-next s₀ s t list i e l at w h =
    h ∙ ap (dropped s) (drop-cons list i 0 l)
    ∙ ap₂ (λ (x : List ℕ) (y : ℕ). dropped x (drop y list)) (sym (w ∙ ap (λ (z : ℕ). sets s z (replicate entry_size 0)) at)) (sym (add-one i))

pub dropped-end : (s₀ s list : List ℕ) (i : ℕ) → length list ≤ i → dropped s₀ list ≡ dropped s (drop i list) → s ≡ dropped s₀ list
unfolding dropped
dropped-end s₀ s list i l h = sym (h ∙ ap (dropped s) (drop_of_length-le list l))

-- ---- cells freed: those above c are done
pub record Above (s₀ s : List ℕ) (base : ℕ) (m : List ℕ) (C c next free : ℕ) : Type 0 where
  pub bytes : s ≡ freed s₀ base m (c + 1) (C - c)
  pub next-is : next ≡ first (unmarked m (c + 1) (C - c))
  pub free-is : free ≡ length (unmarked m (c + 1) (C - c))
  pub long : length s ≡ length s₀

pub above-start : (s : List ℕ) (base : ℕ) (m : List ℕ) (C : ℕ) → Above s s base m C C 0 0
unfolding freed sieve first
above-start s base m C = let e : C - C ≡ 0 = omega arith in record { bytes = rw e refl; next-is = rw e refl; free-is = rw e refl; long = refl }

pub freed-yes : (s : List ℕ) (base : ℕ) (m : List ℕ) (a n : ℕ) → eqb (get_or m a 0) 0 ≡ true
    → freed s base m a (suc n) ≡ blank (freed s base m (suc a) n) base a (first (unmarked m (suc a) n))
unfolding freed pick
freed-yes s base m a n e = rw e

pub freed-no : (s : List ℕ) (base : ℕ) (m : List ℕ) (a n : ℕ) → eqb (get_or m a 0) 0 ≡ false → freed s base m a (suc n) ≡ freed s base m (suc a) n
unfolding freed pick
freed-no s base m a n e = rw e

module _ (s₀ s : List ℕ) (base : ℕ) (m : List ℕ) (C c next free : ℕ) (l : 0 < c) (u : c ≤ C) (g : Above s₀ s base m C c next free) where
  abbrev n : ℕ
  n = C - c

  here : c - 1 + 1 ≡ c
  here = omega arith

  more : C - (c - 1) ≡ suc (C - c)
  more = omega arith

  up : c + 1 ≡ suc c
  up = omega arith

  pub above-yes : eqb (get_or m c 0) 0 ≡ true → {at : ℕ} {t v s' : List ℕ} {next' free' : ℕ} → at ≡ cell_at base c → t ≡ put s at 2 next
      → v ≡ sets t (at + 2) (replicate 30 0) → s' ≡ v → next' ≡ c → free' ≡ free + 1 → Above s₀ s' base m C (c - 1) next' free'
  unfolding blank first
  above-yes e {at} {t} {v} i j k x y z =
      let w : unmarked m (c - 1 + 1) (C - (c - 1)) ≡ c ∷ unmarked m (suc c) (C - c) =
      ap₂ (unmarked m) here more ∙ sieve-yes (λ d. eqb (get_or m d 0) 0) c (C - c) e in
      let b : v ≡ blank s base c next =
      k ∙ ap₂ (λ (r : List ℕ) (a : ℕ). sets r (a + 2) (replicate 30 0)) (j ∙ ap (λ (a : ℕ). put s a 2 next) i) i in
      record {
        bytes =
            x ∙ b
            ∙ ap₂ (λ (r : List ℕ) (d : ℕ). blank r base c d) (g.bytes ∙ ap (λ (d : ℕ). freed s₀ base m d (C - c)) up)
            (g.next-is ∙ ap (λ (d : ℕ). first (unmarked m d (C - c))) up)
            ∙ sym (ap₂ (freed s₀ base m) here more ∙ freed-yes s₀ base m c (C - c) e);
        next-is = y ∙ ap first (sym w);
        free-is =
            z ∙ omega (arith, g.free-is, ap (λ (d : ℕ). length (unmarked m d (C - c))) up, ap length w);
        long =
            ap length (x ∙ k) ∙ length-sets t (at + 2) (replicate 30 0) ∙ ap length j ∙ put-length s at 2 next ∙ g.long;
      }

  pub above-no : eqb (get_or m c 0) 0 ≡ false → {s' : List ℕ} {next' free' : ℕ} → s' ≡ s → next' ≡ next → free' ≡ free → Above s₀ s' base m C (c - 1) next' free'
  above-no e x y z =
      let w : unmarked m (c - 1 + 1) (C - (c - 1)) ≡ unmarked m (c + 1) (C - c) =
      ap₂ (unmarked m) here more ∙ sieve-no (λ d. eqb (get_or m d 0) 0) c (C - c) e ∙ ap (λ (d : ℕ). unmarked m d (C - c)) (sym up) in
      record {
        bytes = x ∙ g.bytes ∙ ap (λ (d : ℕ). freed s₀ base m d (C - c)) up ∙ sym (ap₂ (freed s₀ base m) here more ∙ freed-no s₀ base m c (C - c) e);
        next-is = y ∙ g.next-is ∙ ap first (sym w);
        free-is = z ∙ g.free-is ∙ ap length (sym w);
        long = ap length x ∙ g.long;
      }

pub above-end : (s₀ s t u : List ℕ) (base : ℕ) (m : List ℕ) (C c next free : ℕ) → c ≡ 0 → Above s₀ s base m C c next free → t ≡ put s 6 2 next
    → u ≡ put t 8 2 free → u ≡ chained s₀ base m C
unfolding chained
above-end s₀ s t u base m C c next free z g i j =
    let a : c + 1 ≡ 1 = omega arith in
    let b : C - c ≡ C = omega arith in
    let w : unmarked m (c + 1) (C - c) ≡ unmarked m 1 C = ap₂ (unmarked m) a b in
    j ∙ ap₂ (λ (x : List ℕ) (y : ℕ). put x 8 2 y)
    (i ∙ ap₂ (λ (x : List ℕ) (y : ℕ). put x 6 2 y) (g.bytes ∙ ap₂ (freed s₀ base m) a b) (g.next-is ∙ ap first w)) (g.free-is ∙ ap length w)
