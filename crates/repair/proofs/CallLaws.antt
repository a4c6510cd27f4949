-- The call, refused and not. Assumes nothing.
use mathlib.Core.Path.{◌≡◌, refl, ap, ap₂, ◌∙◌}
use mathlib.Core.Bool.{Bool, true, false, not}
use mathlib.Core.List.{List, ◌++◌}
use Prim.Native.Nat.{ℕ, ◌≤◌}
use native.Mathlib.Omega.{arith}
use lib.ListN.{length, drop}
use Rattle.lists.specs.Lists.{pick}
use Rattle.answers.specs.Refusals.{not_repairable}
use Rattle.answers.specs.Store.{answered, refused}
use Rattle.store.specs.Layout.{Model, bytes_of}
use Rattle.store.specs.Reading.{page_count_of, read}
use Rattle.store.specs.Sound.{sound}
use Rattle.repair.specs.Repair.{Outcome, is_kept, lost_pages, repair_call, repairable, repaired}
use Rattle.repair.proofs.Restored.{repairs-shaped, shaped-repairs}
use Rattle.repair.proofs.Sieves.{sieve-le}
use Rattle.repair.proofs.Whole.{lists-nothing, resorted, sound-shaped, sound-sorted}

pub call-yes : (s b : List ℕ) → repairable s (length b) ≡ true
    → repair_call s b ≡ record {
      answer = answered (length (lost_pages s));
      bytes = bytes_of (repaired s);
      list = lost_pages s ++ drop (length (lost_pages s)) b;
    }
unfolding repair_call pick
call-yes s b e = rw e

pub call-no : (s b : List ℕ) → repairable s (length b) ≡ false → repair_call s b ≡ record { answer = refused not_repairable; bytes = s; list = b }
unfolding repair_call pick
call-no s b e = rw e

-- what is refused, and that nothing changes then
pub repair-refused : (s b : List ℕ) (k : ℕ) → (repair_call s b).answer ≡ refused k
    → (k ≡ not_repairable) × ((repair_call s b).bytes ≡ s) × ((repair_call s b).list ≡ b)
repair-refused s b k q = go (repairable s (length b)) refl
  where
    go : (r : Bool) → repairable s (length b) ≡ r → (k ≡ not_repairable) × ((repair_call s b).bytes ≡ s) × ((repair_call s b).list ≡ b)
    go true e = absurd (let y = ap (λ (o : Outcome). o.answer) (call-yes s b e) in let z : ◌≡◌ {A = ℕ} 0 1 = cc in omega arith)
    go false e =
        let c = call-no s b e in
        (let y = ap (λ (o : Outcome). o.answer) c in cc, ap (λ (o : Outcome). o.bytes) c, ap (λ (o : Outcome). o.list) c)

-- of a sound store with a list that has room
pub call-sound : (s b : List ℕ) → sound s ≡ true → page_count_of s ≤ length b
    → repair_call s b ≡ record { answer = answered 0; bytes = bytes_of (resorted (read s)); list = b }
call-sound s b e l =
    call-yes s b (shaped-repairs s (length b) (sound-shaped s e) l)
    ∙ ap₂ (λ (z : List ℕ) (m : Model). record { answer = answered (length z); bytes = bytes_of m; list = z ++ drop (length z) b }) (lists-nothing s e)
    (sound-sorted s e)

-- so many pages are lost at most
pub lost-few : (s : List ℕ) (n : ℕ) → repairable s n ≡ true → length (lost_pages s) ≤ 1024
unfolding lost_pages
lost-few s n e = omega (arith, sieve-le (λ p. not (is_kept s p)) 0 (page_count_of s), (repairs-shaped s n e).0.fitting.limits.pages-high)
