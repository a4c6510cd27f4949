-- The call's refusal and its end. Assumes nothing.
use mathlib.Core.Path.{◌≡◌, refl, sym, ap, ap₂, ◌∙◌}
use mathlib.Core.Bool.{Bool, true, false, not, true≢false}
use mathlib.Core.List.{List, ◌++◌}
use Prim.Native.Nat.{ℕ, zero, suc, ◌+◌, ◌<◌}
use native.Mathlib.Omega.{arith}
use lib.ListN.{length, get_or, take, drop, length-take, get_or-append}
use Rattle.std.proofs.lemmas.List.{get_or-take}
use lib.Seq.{take_at}
use lib.Dec.{leb}
use Rattle.lists.specs.Lists.{every}
use Rattle.lists.proofs.Tests.{every-last}
use Rattle.answers.specs.Store.{answered, refused}
use Rattle.store.specs.Layout.{cells_start}
use Rattle.store.specs.Reading.{cells_of, page_count_of}
use Rattle.store.specs.Shape.{Shaped, shape_tests}
use Rattle.store.proofs.ShapeLaws.{shaped-so}
use Rattle.repair.specs.Repair.{Outcome, Repairs, is_kept, lost_pages, repair_tests, repairable, sieve}
use Rattle.repair.proofs.CallLaws.{call-no, call-yes}
use Rattle.repair.proofs.Restored.{repairs-shaped}
use Rattle.repair.proofs.Sieves.{sieve-no, sieve-yes}
use Rattle.repair_pages.specs.Code.Pages.{Listed}
use Rattle.live_repair.specs.Code.Writing.{Droppable, chained, dropped}
use Rattle.live_repair.proofs.Written.{written}

-- ---- what is not refused: past the shape the list's room is left
pub shape-no : (s : List ℕ) (n : ℕ) → every (shape_tests s) ≡ false → false ≡ repairable s n
shape-no s n x = go (repairable s n) refl
  where
    go : (b : Bool) → repairable s n ≡ b → false ≡ b
    go true e = absurd (true≢false (sym (shaped-so s (repairs-shaped s n e).0) ∙ x))
    go false e = refl

pub room-left : (s : List ℕ) (n : ℕ) {P : ℕ} → P ≡ page_count_of s → every (shape_tests s) ≡ true → leb P n ≡ repairable s n
unfolding repairable repair_tests
room-left s n e h = ap (λ (z : ℕ). leb z n) e ∙ sym (every-last (shape_tests s) (leb (page_count_of s) n) h)

-- ---- the list's entries are pages
sieve-entry : (f : ℕ → Bool) (n a i : ℕ) → i < length (sieve f a n) → get_or (sieve f a n) i 0 < a + n
unfolding sieve
sieve-entry f zero a i l = absurd (omega arith)
sieve-entry f (suc n) a i l = go (f a) refl i l (λ j r. sieve-entry f n (suc a) j r)
  where
    go : (b : Bool) → f a ≡ b → (i : ℕ) → i < length (sieve f a (suc n))
        → ((j : ℕ) → j < length (sieve f (suc a) n) → get_or (sieve f (suc a) n) j 0 < suc a + n) → get_or (sieve f a (suc n)) i 0 < a + suc n
    go true e zero l h = omega (arith, ap (λ (z : List ℕ). get_or z 0 0) (sieve-yes f a n e))
    go true e (suc i) l h = omega (arith, ap (λ (z : List ℕ). get_or z (suc i) 0) (sieve-yes f a n e), h i (omega (arith, ap length (sieve-yes f a n e))))
    go false e i l h = omega (arith, ap (λ (z : List ℕ). get_or z i 0) (sieve-no f a n e), h i (omega (arith, ap length (sieve-no f a n e))))

module _ (s b m d : List ℕ) (n P : ℕ) (e : P ≡ page_count_of s) (h : Shaped s) (g : Listed s b n m d) where
  below : (i : ℕ) → i < n → get_or d i 0 < P
  unfolding lost_pages
  below i l =
      let q : i < length (lost_pages s) = omega (arith, g.count) in
      let r : get_or d i 0 ≡ get_or (lost_pages s) i 0 = ap (λ (z : List ℕ). get_or z i 0) g.entries ∙ get_or-append (lost_pages s) (drop n b) 0 i q in
      omega (arith, r, e, sieve-entry (λ p. not (is_kept s p)) (page_count_of s) 0 i q)

  pub droppable : Droppable s (take n d) P
  droppable =
      let w = h.fitting in
      record {
        few = omega (arith, e, w.limits.pages-high);
        size = omega (arith, e, w.long);
        pages = λ i l. rw (get_or-take n d i 0 (omega (arith, length-take n d))) (below i (omega (arith, length-take n d)));
      }

  first-entries : take n d ≡ lost_pages s
  first-entries = ap (take n) g.entries ∙ take_at (lost_pages s) (drop n b) n (sym g.count)

  pub repaired-so : repairable s (length b) ≡ true → ((i : ℕ) → get_or s i 0 < 256) → {base C : ℕ} → base ≡ cells_start P → C ≡ cells_of s → (t u : List ℕ)
      → t ≡ dropped s (take n d) → u ≡ chained t base m C → Repairs s b (answered n) u d
  repaired-so may bytes {base} {C} x y t u p q =
      let c = call-yes s b may in
      record {
        answer = ap answered g.count ∙ sym (ap (λ (o : Outcome). o.answer) c);
        bytes =
            q ∙ ap (λ (z : List ℕ). chained z base m C) (p ∙ ap (dropped s) first-entries)
            ∙ ap₂ (λ (i j : ℕ). chained (dropped s (lost_pages s)) i m j) (x ∙ ap cells_start e) y
            ∙ written s m h bytes g.marked ∙ sym (ap (λ (o : Outcome). o.bytes) c);
        list =
            g.entries ∙ ap (λ (i : ℕ). lost_pages s ++ drop i b) g.count ∙ sym (ap (λ (o : Outcome). o.list) c);
      }

pub refused-so : (s b : List ℕ) → repairable s (length b) ≡ false → Repairs s b (refused 18) s b
refused-so s b e = let c = call-no s b e in record {
  answer = sym (ap (λ (o : Outcome). o.answer) c);
  bytes = sym (ap (λ (o : Outcome). o.bytes) c);
  list = sym (ap (λ (o : Outcome). o.list) c);
}
