-- One step of the search by prefix sum, as the code takes it: an index, or none for damage. Assumes nothing.
use mathlib.Core.Path.{◌≡◌, refl, sym, ap, ◌∙◌}
use mathlib.Core.Bool.{Bool, true, false}
use mathlib.Core.List.{List}
use Prim.Native.Nat.{ℕ, suc, ◌+◌, ◌-◌, ◌^◌, ◌≤◌, ◌<◌}
use native.Mathlib.Nat.{add-zero}
use native.Mathlib.Omega.{arith}
use Rattle.std.specs.Prelude.{Option, None, Some}
use lib.Dec.{leb, ltb}
use borrow.Author.Tests.{lt-leb, ltb-true, ltb-false}
use Rattle.lists.specs.Lists.{pick}
use Rattle.bits.specs.Bits.{bits}
use Rattle.tree.specs.Read.{left_of, Sought, nowhere, at-index, shifted, seek}
use Rattle.tree.specs.Code.Node.{Lies, Rooted}
use Rattle.tree_search.specs.Code.Answers.{index_of, search_answer}
use Rattle.tree.specs.declared.node.Split.{Split}
use Rattle.tree.proofs.SearchLaws.{Positive, seek-left, seek-right}
use Rattle.tree.proofs.Rooting.{Inner, left-lies, right-lies}

-- counts before can be counted in n or in the index
answer-shifted : (n m : ℕ) (p : Sought) → search_answer (n + m) p ≡ search_answer n (shifted m p)
unfolding search_answer shifted
answer-shifted n m nowhere = refl
answer-shifted n m (at-index i) = ap Some {x = n + m + i} {y = n + (m + i)} (omega arith)

pub seek-damaged : (h s : ℕ) (b : List ℕ) (a q : ℕ) → leb (left_of s b a) s ≡ false → seek (suc h) s b a q ≡ nowhere
unfolding seek pick
seek-damaged h s b a q e = rw e

module _ (h s : ℕ) (b : List ℕ) (a q n : ℕ) where
  pub seek-leaf : h ≡ 0 → Some (n + 1) ≡ search_answer n (seek h s b a q)
  unfolding seek search_answer
  seek-leaf e = rw e

  up : (h ≡ 0 → ⊥) → search_answer n (seek h s b a q) ≡ search_answer n (seek (suc (h - 1)) s b a q)
  up p = ap (λ (i : ℕ). search_answer n (seek i s b a q)) {x = h} {y = suc (h - 1)} (omega (arith, p))

  pub seek-bad : (h ≡ 0 → ⊥) → Rooted b a (h - 1) s None → None ≡ search_answer n (seek h s b a q)
  unfolding search_answer
  seek-bad p o = rw (up p, seek-damaged (h - 1) s b a q (lt-leb (left_of s b a) s o))

module _ {h s : ℕ} {b : List ℕ} {a : ℕ} {r : Split} (i : Inner b a h s r) where
  said : left_of s b a ≡ r.left
  said = sym i.root.left_is

  small : r.left ≤ s
  small = i.root.left_le

  module _ (q n : ℕ) where
    pub seek-low : q ≤ r.left → search_answer n (seek (h - 1) r.left b r.first q) ≡ search_answer n (seek h s b a q)
    seek-low o = rw (up h s b a q n i.high, seek-left (h - 1) s r.left b a q said small o, i.root.first-is)

    pub seek-high : {m : ℕ} → m ≡ 2 ^ (h - 1) → r.left < q
        → search_answer (n + m) (seek (h - 1) (s - r.left) b r.second (q - r.left)) ≡ search_answer n (seek h s b a q)
    seek-high half o =
        rw (up h s b a q n i.high, seek-right (h - 1) s r.left b a q said small o, i.root.second_is, half)
        (answer-shifted n (2 ^ (h - 1)) _)

-- ---- both halves at hand: the step goes on in one of them by a choice of numbers, and the code has no jump
-- what the step hands on where c says whether the left sum is below the figure; m is how many counts a half has
pub record Chosen (r : Split) (s : ℕ) (c : Bool) (m passed hours sum start : ℕ) : Type 0 where
  pub passed_is : passed ≡ pick c r.left 0
  pub hours-is : hours ≡ pick c m 0
  pub sum_is : sum ≡ pick c (s - r.left) r.left
  pub start_is : start ≡ pick c r.second r.first

-- the search can go on there, to the answer x
pub record Goes (b : List ℕ) (h q n : ℕ) (x : Option ℕ) (passed hours sum start : ℕ) : Type 0 where
  pub lies : Lies b start h sum
  pub few : passed ≤ q
  pub room : hours ≤ 2 ^ h
  pub same : search_answer (n + hours) (seek h sum (bits b) start (q - passed)) ≡ x

pub chosen : {r : Split} {s m passed hours sum start : ℕ} (c : Bool) → passed ≡ pick c r.left 0 → hours ≡ pick c m 0 → sum ≡ pick c (s - r.left) r.left
    → start ≡ pick c r.second r.first → Chosen r s c m passed hours sum start
chosen c p h t e = record { passed_is = p; hours-is = h; sum_is = t; start_is = e }

pub goes_on : {b : List ℕ} {a h s : ℕ} → Lies b a h s → {r : Split} → Inner (bits b) a h s r → (q n : ℕ) {m passed hours sum start : ℕ}
    → m ≡ 2 ^ (h - 1) → Chosen r s (ltb r.left q) m passed hours sum start
    → Goes b (h - 1) q n (search_answer n (seek h s (bits b) a q)) passed hours sum start
unfolding pick
goes_on {b} {a} {h} {s} y {r} i q n {m} {passed} {hours} {sum} {start} half = go (ltb r.left q) refl
  where
    go : (c : Bool) → ltb r.left q ≡ c → Chosen r s c m passed hours sum start
        → Goes b (h - 1) q n (search_answer n (seek h s (bits b) a q)) passed hours sum start
    go true e o =
        rw (o.passed_is, o.hours-is, o.sum_is, o.start_is) record {
          lies = right-lies y i;
          few = omega (arith, ltb-true r.left q e);
          room = omega (arith, half);
          same = seek-high i q n half (ltb-true r.left q e);
        }
    go false e o =
        rw (o.passed_is, o.hours-is, o.sum_is, o.start_is) record {
          lies = left-lies y i;
          few = omega arith;
          room = omega arith;
          same =
              ap (λ (z : ℕ). search_answer z (seek (h - 1) r.left (bits b) r.first (q - 0))) (add-zero n)
              ∙ ap (λ (z : ℕ). search_answer n (seek (h - 1) r.left (bits b) r.first z)) {x = q - 0} {y = q} (omega arith)
              ∙ seek-low i q n (ltb-false r.left q e);
        }

-- ---- the whole search, which answers in one number r
pub none-found : (n : ℕ) {r : ℕ} (f : Sought) → Positive f → r ≡ index_of (search_answer n f) → r ≡ 0 → None ≡ search_answer n f
unfolding search_answer
none-found n nowhere p e z = refl
none-found n (at-index i) p e z = absurd (omega (arith, e, z))

pub some-found : (n : ℕ) {r : ℕ} (f : Sought) → r ≡ index_of (search_answer n f) → (r ≡ 0 → ⊥) → Some r ≡ search_answer n f
unfolding search_answer
some-found n nowhere e z = absurd (z e)
some-found n (at-index i) e z = ap Some e
