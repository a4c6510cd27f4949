-- The tests of the definitions, held against the facts of the reasons. Assumes nothing.
use mathlib.Core.Path.{◌≡◌, refl, sym, ap, ap₂, ◌∙◌}
use mathlib.Core.Bool.{Bool, true, false, ◌&&◌, not, true≢false}
use mathlib.Core.List.{List, [], ◌∷◌, map}
use mathlib.Core.Logic.{◌⊎◌, inl, inr, ⊎_elim, ◌↔◌}
use Prim.Native.Nat.{ℕ, zero, suc, ◌+◌, ◌-◌, ◌/◌, ◌%◌, ◌^◌, ◌≤◌, ◌<◌}
use native.Mathlib.Decide.{ℕ_discrete}
use native.Mathlib.Omega.{arith}
use lib.ListN.{length, get_or, drop, length-take}
use lib.Seq.{get_or-drop, get_or-take}
use lib.Dec.{eqb, leb, ltb}
use borrow.Author.Tests.{eq-eqb, eqb-true, le-leb, le-ltb, leb-false, leb-true, lt-ltb, ltb-false, ltb-true, not-false, not-true}
use Rattle.lists.specs.Counts.{max_count}
use Rattle.lists.specs.Lists.{every, part, pick}
use Rattle.lists.proofs.Parts.{length_part}
use Rattle.lists.proofs.Tests.{each, every-no, every_of, left, right}
use Rattle.bits.specs.Bits.{bits}
use Rattle.bits.specs.Numbers.{number, number_at}
use Rattle.reserve.specs.Reserve.{reserve}
use Rattle.tree.specs.Read.{Found, damaged, found, later, left_at, left_of, right_at, walk}
use Rattle.days.specs.Days.{ChangesWrong, changes_fit}
use Rattle.days.proofs.ListedDays.{wrong-exactly}
use Rattle.store.specs.Fitting.{Fitting, fits}
use Rattle.store.specs.Reading.{cells_of, page_count_of}
use Rattle.store.specs.Shape.{Shaped}
use Rattle.store.specs.Sound.{sound}
use Rattle.store.proofs.ItemLaws.{sound-items}
use Rattle.store.proofs.LimitLaws.{fits-so, fitting}
use Rattle.repair.specs.Repair.{repairable}
use Rattle.repair.proofs.Restored.{repairs-shaped, shaped-repairs}
use Rattle.image.specs.Check.{accepted, head_tests, headed, wide_right}
use Rattle.image.specs.Image.{bytes_for, edition, header_length, max_total, narrow_total, pages, size}
use Rattle.image.specs.Query.{before_passing, ended, look, count_in_page, page_fine, page_tests, passing}
use Rattle.image.specs.Read.{before_of, e_of, l_of, list_of, n_of, root_at, s_of, start_of, sum_of, tree_at, wide_of, width_of}
use Rattle.image.proofs.Accepted.{accepted-only, length-list}
use Rattle.image.proofs.CheckLaws.{past-5}
use Rattle.book.specs.Book.{decimal, decimal_byte, four_digits}
use Rattle.book.proofs.BookLaws.{digits_of, four-at}
use Rattle.demands.specs.Reasons.{Damage, Edition, Header, NoHeader, NoImage, NoPageSize, NotDecimal, PageDamage, Repairable, Sized, TooWide}
use Rattle.demands.specs.Reasons.{Unsound, WalkDamage, before_above, before-passing, below-before, first, root-above, root-passing, second}
use Rattle.demands.specs.Reasons.{tree-passing, walk-damage}
use Rattle.demands.proofs.Theorems.{accepted-if}

-- a test that holds exactly where F does, and one that holds exactly where F does not
abbrev pub Tells : Bool → Type 0 → Type 0
Tells b F = (b ≡ true → F) × (b ≡ false → F → ⊥)

abbrev pub Denies : Bool → Type 0 → Type 0
Denies b F = (b ≡ false → F) × (b ≡ true → F → ⊥)

pub at_most : (a b : ℕ) → Tells (leb a b) (a ≤ b)
at_most a b = (leb-true a b, λ e l. let m = leb-false a b e in omega arith)

pub below : (a b : ℕ) → Tells (ltb a b) (a < b)
below a b = (ltb-true a b, λ e l. let m = ltb-false a b e in omega arith)

pub not-above : (a b : ℕ) → Denies (leb a b) (b < a)
not-above a b = (leb-false a b, λ e l. let m = leb-true a b e in omega arith)

-- the bytes of a part
part_at : (s : List ℕ) (a w k : ℕ) → k < w → get_or (part s a w) k 0 ≡ get_or s (a + k) 0
part_at s a w k l = get_or-take w (drop a s) k 0 l ∙ get_or-drop a s k 0

-- ---- a store: 'P, C or buffer length wrong'; 'not sound', where a store that is not does not meet the clauses
fitting-sized : (s : List ℕ) (P C : ℕ) → Fitting s P C ↔ Sized s P C
fitting-sized s P C = (
  λ w. let l = w.limits in record {
    pages-low = l.pages-low;
    pages-high = l.pages-high;
    cells_low = l.cells_low;
    cells-high = l.cells-high;
    long = w.long;
  },
  λ w. record {
    limits = record { pages-low = w.pages-low; pages-high = w.pages-high; cells_low = w.cells_low; cells-high = w.cells-high };
    long = w.long;
  },
)

pub sizes : (s : List ℕ) (P C : ℕ) → Denies (fits s P C) (Sized s P C → ⊥)
sizes s P C = (
  λ e w. true≢false (sym (fits-so s P C ((fitting-sized s P C).1 w)) ∙ e),
  λ e n. n ((fitting-sized s P C).0 (fitting s P C e)),
)

pub clauses : (s : List ℕ) → (sound s ≡ false → Unsound s) → Denies (sound s) (Unsound s)
clauses s h = (h, λ e n. n (sound-items s e))

-- ---- a store to be repaired
pair_of : (l : List ℕ) → length l ≡ 2 → l ≡ get_or l 0 0 ∷ get_or l 1 0 ∷ []
pair_of [] e = absurd (omega (arith, e))
pair_of (x ∷ []) e = absurd (omega (arith, e))
pair_of (x ∷ y ∷ []) e = refl
pair_of (x ∷ y ∷ z ∷ l) e = absurd (omega (arith, e))

two_bytes : (s : List ℕ) (a x y : ℕ) → a + 2 ≤ length s → (part s a 2 ≡ x ∷ y ∷ []) ↔ ((get_or s (a + 0) 0 ≡ x) × (get_or s (a + 1) 0 ≡ y))
two_bytes s a x y l =
    let first = part_at s a 2 0 (omega arith) in
    let second = part_at s a 2 1 (omega arith) in (
      λ e. (sym first ∙ ap (λ (z : List ℕ). get_or z 0 0) e, sym second ∙ ap (λ (z : List ℕ). get_or z 1 0) e),
      λ w. pair_of (part s a 2) (length_part s a 2 l) ∙ ap₂ (λ (u v : ℕ). u ∷ v ∷ []) (first ∙ w.0) (second ∙ w.1),
    )

shaped-repairable : (s : List ℕ) (n : ℕ) → (Shaped s × (page_count_of s ≤ n)) ↔ Repairable s n
shaped-repairable s n = (
  λ w. let h = w.0 in
      let z = (fitting-sized s (page_count_of s) (cells_of s)).0 h.fitting in
      let start = (two_bytes s 0 1 0 (omega (arith, z.long, z.cells_low))).0 h.edition in
      let gap = (two_bytes s 10 0 0 (omega (arith, z.long, z.cells_low))).0 h.gap in
      record { sized = z; byte-0 = start.0; byte-1 = start.1; byte-10 = gap.0; byte-11 = gap.1; hours = h.hours; list = w.1 },
  λ w. let z = w.sized in (
    record {
      edition = (two_bytes s 0 1 0 (omega (arith, z.long, z.cells_low))).1 (w.byte-0, w.byte-1);
      gap = (two_bytes s 10 0 0 (omega (arith, z.long, z.cells_low))).1 (w.byte-10, w.byte-11);
      fitting = (fitting-sized s (page_count_of s) (cells_of s)).1 z;
      hours = w.hours;
    },
    w.list,
  ),
)

pub repairs : (s : List ℕ) (n : ℕ) → Denies (repairable s n) (Repairable s n → ⊥)
repairs s n = (
  λ e w. let h = (shaped-repairable s n).1 w in true≢false (sym (shaped-repairs s n h.0 h.1) ∙ e),
  λ e f. f ((shaped-repairable s n).0 (repairs-shaped s n e)),
)

-- ---- a list of changed days
pub changes : (cs : List ℕ) → Tells (not (changes_fit cs)) (ChangesWrong cs)
changes cs = (
  λ e. (wrong-exactly cs).0 (not-true (changes_fit cs) e),
  λ e w. true≢false (sym (not-false (changes_fit cs) e) ∙ (wrong-exactly cs).1 w),
)

-- ---- 'e outside 2 to 8'
pub page-size : (e : ℕ) → Denies (leb 2 e && leb e 8) (NoPageSize e)
page-size e = (out (leb 2 e) refl (leb e 8) refl, inside)
  where
    out : (a : Bool) → leb 2 e ≡ a → (b : Bool) → leb e 8 ≡ b → (a && b) ≡ false → NoPageSize e
    out true p true q r = absurd (true≢false r)
    out true p false q r = inr (leb-false e 8 q)
    out false p b q r = inl (leb-false 2 e p)

    inside : (leb 2 e && leb e 8) ≡ true → NoPageSize e → ⊥
    inside p (inl l) = let m = leb-true 2 e (left (leb 2 e) (leb e 8) p) in omega arith
    inside p (inr l) = let m = leb-true e 8 (right (leb 2 e) (leb e 8) p) in omega arith

-- ---- an image's header, and its bytes
-- a number is 0 where all its bytes are
zero-bytes : (bs : List ℕ) → number bs ≡ 0 → (k : ℕ) → get_or bs k 0 ≡ 0
unfolding number
zero-bytes [] e k = refl
zero-bytes (b ∷ bs) e zero = omega arith
zero-bytes (b ∷ bs) e (suc k) = zero-bytes bs (omega arith) k

zero_number : (bs : List ℕ) → ((k : ℕ) → k < length bs → get_or bs k 0 ≡ 0) → number bs ≡ 0
unfolding number
zero_number [] h = refl
zero_number (b ∷ bs) h = omega (arith, h 0 (omega arith), zero_number bs (λ k l. h (suc k) (omega arith)))

last-zero : (s : List ℕ) → (number_at s 20 4 ≡ 0) ↔ ((k : ℕ) → 20 ≤ k → k ≤ 23 → get_or s k 0 ≡ 0)
last-zero s = (
  λ e k low high.
      ap (λ (i : ℕ). get_or s i 0) {x = k} {y = 20 + (k - 20)} (omega arith)
      ∙ sym (part_at s 20 4 (k - 20) (omega arith))
      ∙ zero-bytes (part s 20 4) e (k - 20),
  λ h. zero_number (part s 20 4) (λ k l.
      let m : k < 4 = omega (arith, l, length-take 4 (drop 20 s)) in
      part_at s 20 4 k m ∙ h (20 + k) (omega arith) (omega arith)),
)

-- the edition, by byte 0
pub wide-byte : (s : List ℕ) {n : ℕ} → get_or s 0 0 ≡ n → wide_of s ≡ eqb n 2
unfolding wide_of
wide-byte s e = ap (λ (k : ℕ). eqb k 2) e

edition-of : (s : List ℕ) (b : Bool) → get_or s 0 0 ≡ edition b → wide_right b s ≡ true → Edition s (header_length b)
unfolding wide_right
edition-of s false e w = first e
edition-of s true e w =
    let r = each (ltb narrow_total (s_of s) ∷ leb (s_of s) max_total ∷ eqb (number_at s 20 4) 0 ∷ []) w in
    second e (omega (arith, ltb-true narrow_total (s_of s) r.0)) (omega (arith, leb-true (s_of s) max_total r.1.0))
    (λ k g h. (last-zero s).0 (eqb-true (number_at s 20 4) 0 r.1.1.0) k g (omega (arith, h)))

header_of : (s : List ℕ) → headed s ≡ true → Header s
unfolding headed size pages bytes_for
header_of s e =
    let w = each (head_tests s) e in
    let b : Bool = wide_of s in
    record {
      bytes = header_length b;
      edition = edition-of s b (eqb-true (get_or s 0 0) (edition b) w.1.0) w.1.1.1.1.1.1.1.0;
      long = leb-true (header_length b) (length s) w.0;
      e-low = leb-true 2 (e_of s) w.1.1.0;
      e-high = leb-true (e_of s) 8 w.1.1.1.0;
      zero-2 = eqb-true (get_or s 2 0) 0 w.1.1.1.1.0;
      zero-3 = eqb-true (get_or s 3 0) 0 w.1.1.1.1.1.0;
      hours = leb-true (n_of s) 65536 w.1.1.1.1.1.1.0;
      all-bytes = eqb-true (length s) (size b (e_of s) (n_of s) (l_of s)) w.1.1.1.1.1.1.1.1.0;
    }

-- and its tests, of a header of n bytes
edition-so : (s : List ℕ) (n : ℕ) → Edition s n
    → (header_length (wide_of s) ≡ n) × (get_or s 0 0 ≡ edition (wide_of s)) × (wide_right (wide_of s) s ≡ true)
unfolding wide_right
edition-so s _ (first e) = let w : wide_of s ≡ false = wide-byte s e in rw w (refl, e, refl)
edition-so s _ (second e low high z) =
    let w : wide_of s ≡ true = wide-byte s e in
    rw w (
      refl,
      e,
      every_of (ltb narrow_total (s_of s) ∷ leb (s_of s) max_total ∷ eqb (number_at s 20 4) 0 ∷ []) (
        lt-ltb narrow_total (s_of s) (omega arith),
        (le-leb (s_of s) max_total (omega arith), (eq-eqb (number_at s 20 4) 0 ((last-zero s).1 (λ k g (h : k ≤ 23). z k g (omega arith))), tt)),
      ),
    )

pub header-so : (s : List ℕ) → Header s → headed s ≡ true
unfolding headed size pages bytes_for
header-so s h =
    let w = edition-so s h.bytes h.edition in
    every_of (head_tests s) (
      le-leb (header_length (wide_of s)) (length s) (omega (arith, w.0, h.long)),
      (
        eq-eqb (get_or s 0 0) (edition (wide_of s)) w.1,
        (
          le-leb 2 (e_of s) h.e-low,
          (
            le-leb (e_of s) 8 h.e-high,
            (
              eq-eqb (get_or s 2 0) 0 h.zero-2,
              (
                eq-eqb (get_or s 3 0) 0 h.zero-3,
                (
                  le-leb (n_of s) 65536 h.hours,
                  (w.2, (eq-eqb (length s) (size (wide_of s) (e_of s) (n_of s) (l_of s)) (omega (arith, w.0, h.all-bytes)), tt)),
                ),
              ),
            ),
          ),
        ),
      ),
    )

pub header : (s : List ℕ) → Denies (headed s) (NoHeader s)
header s = (λ e h. true≢false (sym (header-so s h) ∙ e), λ e n. n (header_of s e))

pub written : (s : List ℕ) → Denies (accepted s) (NoImage s)
written s = (λ a e xs i. true≢false (sym (accepted-if s e xs i) ∙ a), λ a n. n (e_of s) (list_of s) (accepted-only s a))

-- past 5 and 6 of the full check an image is accepted
pub past-6 : (s : List ℕ) → (NoImage s → ⊥) → accepted s ≡ true
past-6 s n = go (accepted s) refl
  where
    go : (b : Bool) → accepted s ≡ b → accepted s ≡ true
    go true e = e
    go false e = absurd (n ((written s).0 e))

pub accepted-passes : (s : List ℕ) → accepted s ≡ true → (NoHeader s → ⊥) × (NoImage s → ⊥)
accepted-passes s a = ((header s).1 (past-5 s a), (written s).1 a)

-- ---- damage on the way to an hour
one-of-six : (a b c d e f : Bool) → every (map not (a ∷ b ∷ c ∷ d ∷ e ∷ f ∷ [])) ≡ false
    → (a ≡ true) ⊎ ((b ≡ true) ⊎ ((c ≡ true) ⊎ ((d ≡ true) ⊎ ((e ≡ true) ⊎ (f ≡ true)))))
unfolding every
one-of-six true b c d e f q = inl refl
one-of-six false true c d e f q = inr (inl refl)
one-of-six false false true d e f q = inr (inr (inl refl))
one-of-six false false false true e f q = inr (inr (inr (inl refl)))
one-of-six false false false false true f q = inr (inr (inr (inr (inl refl))))
one-of-six false false false false false true q = inr (inr (inr (inr (inr refl))))
one-of-six false false false false false false q = absurd (true≢false q)

pub not_found : {x c : ℕ} → found x c ≡ damaged → ⊥
not_found e = let z : ◌≡◌ {A = ℕ} 0 1 = cc in omega arith

-- 'a walk that ends at a count above 4,294,967,295 is damage', whatever it found before
pub found-ends : (x c : ℕ) → (ended (found x c) ≡ damaged) ↔ (4294967295 < c)
unfolding ended pick
found-ends x c = go (leb c max_count) refl
  where
    go : (b : Bool) → leb c max_count ≡ b → (pick b (found x c) damaged ≡ damaged) ↔ (4294967295 < c)
    go true e = (λ d. absurd (not_found d), λ (l : 4294967295 < c). absurd (omega (arith, leb-true c max_count e)))
    go false e = (λ d. leb-false c max_count e, λ l. refl)

later-ended : (x : ℕ) (f : Found) → (ended (later x f) ≡ damaged) ↔ (ended f ≡ damaged)
unfolding later ended
later-ended x damaged = (λ e. refl, λ e. refl)
later-ended x (found y c) =
    (λ e. (found-ends y c).1 ((found-ends (x + y) c).0 e), λ e. (found-ends (x + y) c).1 ((found-ends y c).0 e))

-- a walk finds damage exactly where a left sum is above its node, or the count that it ends at above its limit
module _ (s : ℕ) (b : List ℕ) (a j h : ℕ) where
  abbrev l : ℕ
  l = left_of s b a

  abbrev on_left : Found
  on_left = walk h l b (left_at s a) j

  abbrev on_right : Found
  on_right = walk h (s - l) b (right_at h s l a) (j - 2 ^ h)

  node-found : (ended on_left ≡ damaged → WalkDamage h l b (left_at s a) j)
      → (ended on_right ≡ damaged → WalkDamage h (s - l) b (right_at h s l a) (j - 2 ^ h))
      → (x : Bool) → leb l s ≡ x → (y : Bool) → ltb j (2 ^ h) ≡ y → ended (pick x (pick y on_left (later l on_right)) damaged) ≡ damaged
      → WalkDamage (suc h) s b a j
  unfolding pick
  node-found f g true p true q e = inr (inl (ltb-true j (2 ^ h) q, f e))
  node-found f g true p false q e = inr (inr (ltb-false j (2 ^ h) q, g ((later-ended l on_right).0 e)))
  node-found f g false p y q e = inl (leb-false l s p)

  node-damaged : (WalkDamage h l b (left_at s a) j → ended on_left ≡ damaged)
      → (WalkDamage h (s - l) b (right_at h s l a) (j - 2 ^ h) → ended on_right ≡ damaged)
      → (x : Bool) → leb l s ≡ x → WalkDamage (suc h) s b a j → ended (pick x (pick (ltb j (2 ^ h)) on_left (later l on_right)) damaged) ≡ damaged
  unfolding pick ended
  node-damaged f g false p w = refl
  node-damaged f g true p (inl k) = let m = leb-true l s p in absurd (omega arith)
  node-damaged f g true p (inr (inl (q, w))) = rw (lt-ltb j (2 ^ h) q) (f w)
  node-damaged f g true p (inr (inr (q, w))) = rw (le-ltb j (2 ^ h) q) ((later-ended l on_right).1 (g w))

walk-found : (h s : ℕ) (b : List ℕ) (a j : ℕ) → ended (walk h s b a j) ≡ damaged → WalkDamage h s b a j
unfolding walk
walk-found zero s b a j e = (found-ends 0 s).0 e
walk-found (suc h) s b a j e =
    node-found s b a j h (walk-found h (left_of s b a) b (left_at s a) j)
    (walk-found h (s - left_of s b a) b (right_at h s (left_of s b a) a) (j - 2 ^ h)) (leb (left_of s b a) s) refl (ltb j (2 ^ h)) refl e

walk-lost : (h s : ℕ) (b : List ℕ) (a j : ℕ) → WalkDamage h s b a j → ended (walk h s b a j) ≡ damaged
unfolding walk
walk-lost zero s b a j w = (found-ends 0 s).1 w
walk-lost (suc h) s b a j w =
    node-damaged s b a j h (walk-lost h (left_of s b a) b (left_at s a) j)
    (walk-lost h (s - left_of s b a) b (right_at h s (left_of s b a) a) (j - 2 ^ h)) (leb (left_of s b a) s) refl w

module _ (s : List ℕ) (p j : ℕ) where
  before-found : (q : ℕ) → p ≡ q → before_passing s q ≡ true → PageDamage s p j
  unfolding before_passing
  before-found zero e h = absurd (true≢false (sym h))
  before-found (suc q) e h = before-passing q e (ltb-true (l_of s) (start_of s q + width_of s) h)

  -- a page that is not fine has one of the damages
  page-found : page_fine s p ≡ false → PageDamage s p j
  unfolding page_fine sum_of
  page-found e =
      go (one-of-six (passing s (start_of s p) (width_of s)) (before_passing s p) (ltb (s_of s) (root_at s p)) (ltb (s_of s) (before_of s p))
      (ltb (root_at s p) (before_of s p)) (passing s (start_of s p + width_of s) (reserve (e_of s) (sum_of s p))) e)
    where
      go : (passing s (start_of s p) (width_of s) ≡ true)
          ⊎ ((before_passing s p ≡ true)
          ⊎ ((ltb (s_of s) (root_at s p) ≡ true)
          ⊎ ((ltb (s_of s) (before_of s p) ≡ true)
          ⊎ ((ltb (root_at s p) (before_of s p) ≡ true) ⊎ (passing s (start_of s p + width_of s) (reserve (e_of s) (sum_of s p)) ≡ true)))))
          → PageDamage s p j
      go (inl q) = root-passing (ltb-true _ _ q)
      go (inr (inl q)) = before-found p refl q
      go (inr (inr (inl q))) = root-above (ltb-true _ _ q)
      go (inr (inr (inr (inl q)))) = before_above (ltb-true _ _ q)
      go (inr (inr (inr (inr (inl q))))) = below-before (ltb-true _ _ q)
      go (inr (inr (inr (inr (inr q))))) = tree-passing (ltb-true _ _ q)

  not-fine : page_fine s p ≡ false → ended (count_in_page s p j) ≡ damaged
  unfolding count_in_page pick ended
  not-fine e = rw e

  at_test : (k : ℕ) → get_or (page_tests s p) k true ≡ false → ended (count_in_page s p j) ≡ damaged
  unfolding page_fine
  at_test k e = not-fine (every-no (page_tests s p) k e)

  walk-damaged : ended (walk (e_of s) (sum_of s p) (bits s) (tree_at s p) j) ≡ damaged → ended (count_in_page s p j) ≡ damaged
  unfolding count_in_page pick ended
  walk-damaged q = go (page_fine s p)
    where
      go : (b : Bool) → ended (pick b (later (before_of s p) (walk (e_of s) (sum_of s p) (bits s) (tree_at s p) j)) damaged) ≡ damaged
      go true = (later-ended (before_of s p) (walk (e_of s) (sum_of s p) (bits s) (tree_at s p) j)).1 q
      go false = refl

  page-damaged : PageDamage s p j → ended (count_in_page s p j) ≡ damaged
  unfolding sum_of before_passing
  page-damaged (root-passing l) = at_test 0 (ap not (lt-ltb _ _ l))
  page-damaged (before-passing q e l) = at_test 1 (ap not (ap (before_passing s) e ∙ lt-ltb _ _ l))
  page-damaged (root-above l) = at_test 2 (ap not (lt-ltb _ _ l))
  page-damaged (before_above l) = at_test 3 (ap not (lt-ltb _ _ l))
  page-damaged (below-before l) = at_test 4 (ap not (lt-ltb _ _ l))
  page-damaged (tree-passing l) = at_test 5 (ap not (lt-ltb _ _ l))
  page-damaged (walk-damage w) = walk-damaged (walk-lost (e_of s) (root_at s p - before_of s p) (bits s) (tree_at s p) j w)

  damage-found : ended (count_in_page s p j) ≡ damaged → PageDamage s p j
  unfolding count_in_page pick sum_of
  damage-found e = go (page_fine s p) refl e
    where
      go : (b : Bool) → page_fine s p ≡ b
          → ended (pick b (later (before_of s p) (walk (e_of s) (sum_of s p) (bits s) (tree_at s p) j)) damaged) ≡ damaged → PageDamage s p j
      go true q w = walk-damage (walk-found (e_of s) (sum_of s p) (bits s) (tree_at s p) j ((later-ended (before_of s p) _).0 w))
      go false q w = page-found q

pub damage-exactly : (s : List ℕ) (i : ℕ) → (ended (look s i) ≡ damaged) ↔ Damage s i
unfolding look
damage-exactly s i = (damage-found s (i / 2 ^ e_of s) (i % 2 ^ e_of s), page-damaged s (i / 2 ^ e_of s) (i % 2 ^ e_of s))

-- ---- a book's digits
digit-found : (x : ℕ) → decimal_byte x ≡ false → (9 < x / 16) ⊎ (9 < x % 16)
unfolding decimal_byte
digit-found x = go (leb (x / 16) 9) refl (leb (x % 16) 9) refl
  where
    go : (a : Bool) → leb (x / 16) 9 ≡ a → (b : Bool) → leb (x % 16) 9 ≡ b → (a && b) ≡ false → (9 < x / 16) ⊎ (9 < x % 16)
    go true p true q e = absurd (true≢false e)
    go true p false q e = inr (leb-false (x % 16) 9 q)
    go false p b q e = inl (leb-false (x / 16) 9 p)

byte_or : (x : ℕ) (b : List ℕ)
    → (every (map decimal_byte b) ≡ false → (i : ℕ) × (i < length b) × ((9 < get_or b i 0 / 16) ⊎ (9 < get_or b i 0 % 16))) → (t : Bool)
    → decimal_byte x ≡ t → (t && every (map decimal_byte b)) ≡ false
    → (i : ℕ) × (i < length (x ∷ b)) × ((9 < get_or (x ∷ b) i 0 / 16) ⊎ (9 < get_or (x ∷ b) i 0 % 16))
byte_or x b more false q e = (0, omega arith, digit-found x q)
byte_or x b more true q e = let r = more e in (suc r.0, omega (arith, r.1), r.2)

-- the first that is wrong
byte-found : (b : List ℕ) → every (map decimal_byte b) ≡ false → (i : ℕ) × (i < length b) × ((9 < get_or b i 0 / 16) ⊎ (9 < get_or b i 0 % 16))
unfolding every
byte-found [] e = absurd (true≢false e)
byte-found (x ∷ b) e = byte_or x b (λ r. byte-found b r) (decimal_byte x) refl e

byte_at : (b : List ℕ) → every (map decimal_byte b) ≡ true → (i : ℕ) → i < length b → decimal_byte (get_or b i 0) ≡ true
unfolding every
byte_at [] e i l = absurd (omega arith)
byte_at (x ∷ b) e zero l = left (decimal_byte x) (every (map decimal_byte b)) e
byte_at (x ∷ b) e (suc i) l = byte_at b (right (decimal_byte x) (every (map decimal_byte b)) e) i (omega arith)

pub book : (b : List ℕ) → Denies (decimal b) (NotDecimal b)
unfolding decimal
book b = (wrong (ℕ_discrete (length b % 2) 0), fine)
  where
    wrong : Dec (length b % 2 ≡ 0) → (eqb (length b % 2) 0 && every (map decimal_byte b)) ≡ false → NotDecimal b
    wrong (no n) q = inl (omega (arith, n))
    wrong (yes e) q = inr (byte-found b (sym (ap (λ (t : Bool). t && every (map decimal_byte b)) (eq-eqb (length b % 2) 0 e)) ∙ q))

    fine : (eqb (length b % 2) 0 && every (map decimal_byte b)) ≡ true → NotDecimal b → ⊥
    fine q (inl e) = let m = eqb-true (length b % 2) 0 (left (eqb (length b % 2) 0) (every (map decimal_byte b)) q) in omega arith
    fine q (inr (i, l, d)) =
        let g = digits_of (get_or b i 0) (byte_at b (right (eqb (length b % 2) 0) (every (map decimal_byte b)) q) i l) in
        ⊎_elim (λ (h : 9 < get_or b i 0 / 16). omega (arith, g.high)) (λ (h : 9 < get_or b i 0 % 16). omega (arith, g.low)) d

-- ---- counts of more than four digits
wide-or : (x : ℕ) (xs : List ℕ) → (four_digits xs ≡ false → (i : ℕ) × (i < length xs) × (9999 < get_or xs i 0)) → (t : Bool) → leb x 9999 ≡ t
    → (t && four_digits xs) ≡ false → (i : ℕ) × (i < length (x ∷ xs)) × (9999 < get_or (x ∷ xs) i 0)
wide-or x xs more false q e = (0, omega arith, leb-false x 9999 q)
wide-or x xs more true q e = let r = more e in (suc r.0, omega (arith, r.1), r.2)

wide-found : (xs : List ℕ) → four_digits xs ≡ false → (i : ℕ) × (i < length xs) × (9999 < get_or xs i 0)
unfolding four_digits every
wide-found [] e = absurd (true≢false e)
wide-found (x ∷ xs) e = wide-or x xs (λ r. wide-found xs r) (leb x 9999) refl e

pub narrow : (s : List ℕ) → Denies (four_digits (list_of s)) (TooWide s)
narrow s = (
  λ e. let w = wide-found (list_of s) e in (w.0, omega (arith, w.1, length-list s), w.2),
  λ e w. omega (arith, w.2, four-at (list_of s) e w.0),
)
