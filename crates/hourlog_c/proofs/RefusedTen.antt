-- Refusal 10, 'not sound', of the live calls and of freeze: exactly where a clause of soundness does not hold. Assumes nothing.
use mathlib.Core.Path.{◌≡◌, refl, sym, ap, ◌∙◌}
use mathlib.Core.Bool.{Bool, true, false, true≢false, ◌&&◌}
use mathlib.Core.List.{List, ◌++◌}
use mathlib.Core.Logic.Iff
use mathlib.Core.Logic.{◌↔◌}
use Prim.Native.Nat.{ℕ, ◌<◌}
use native.Mathlib.Omega.{arith}
use lib.ListN.{length, get_or, drop}
use lib.Dec.{leb}
use Rattle.lists.specs.Lists.{pick}
use Rattle.store.specs.Plain.{Call}
use Rattle.store.specs.Call.{call}
use Rattle.store.specs.Items.{Items}
use Rattle.store.specs.Reading.{list_in}
use Rattle.store.specs.Sound.{sound}
use Rattle.store.proofs.ItemLaws.{items-sound, sound-items}
use Rattle.store.proofs.Refusals.{ten-exactly}
use Rattle.image.specs.Calls.{Result, put, put_after, unwritten, write_call}
use Rattle.image.specs.Image.{image}
use Rattle.answers.specs.Image.{Reply, given, refused}
use Rattle.freeze.specs.Freeze.{freeze_call}
use Rattle.freeze.proofs.Freezing.{freeze-10, freeze-sound, only-page-size}
use Rattle.hourlog_c.specs.Public.{Freeze, Live}
use Rattle.hourlog_c.specs.Public.{Ten}
use Rattle.words.specs.End.{end_of_image, end_of_store}
use Rattle.words.proofs.EndLaws.{image-refused, store-refused}

-- ---- refused 10 exactly where a clause of soundness does not hold: what is lent is bytes, each below 256
items-exactly : (s : List ℕ) → ((j : ℕ) → get_or s j 0 < 256) → (sound s ≡ false) ↔ (Items s → ⊥)
items-exactly s bytes = (fails-items, go (sound s) refl)
  where
    fails-items : sound s ≡ false → Items s → ⊥
    fails-items e i = true≢false (sym (items-sound s bytes i) ∙ e)

    go : (b : Bool) → sound s ≡ b → (Items s → ⊥) → sound s ≡ false
    go true e n = absurd (n (sound-items s e))
    go false e n = e

pub live-ten : (c : Call) (s : List ℕ) → ((j : ℕ) → get_or s j 0 < 256) → Ten (Live c s) (end_of_store (call c s).answer)
live-ten c s bytes = Iff.trans (store-refused (call c s).answer 10) (Iff.trans (ten-exactly c s) (items-exactly s bytes))

-- past 10 freeze has refusals 1 and 4 alone
put-not-ten : (out i : List ℕ) → (put out i).reply ≡ refused 10 → ⊥
unfolding put pick unwritten
put-not-ten out i = go (leb (length i) (length out))
  where
    go : (b : Bool) → (pick b (record { reply = given (length i); bytes = i ++ drop (length i) out }) (unwritten out 4)).reply ≡ refused 10 → ⊥
    go true e = let z : ◌≡◌ {A = ℕ} 0 1 = cc in omega arith
    go false e = let z : ◌≡◌ {A = ℕ} 4 10 = cc in omega arith

freeze-exactly : (e : ℕ) (s out : List ℕ) → ((freeze_call e s out).reply ≡ refused 10) ↔ (sound s ≡ false)
unfolding write_call put_after unwritten pick
freeze-exactly e s out = (only (sound s) refl, λ q. sym (ap (λ (z : Result). z.reply) (freeze-10 e s out q)))
  where
    xs : List ℕ
    xs = list_in s

    sized : (b : Bool) → (put_after (pick b (given (length (image e xs))) (refused 1)) out (image e xs)).reply ≡ refused 10 → ⊥
    sized true q = put-not-ten out (image e xs) q
    sized false q = let z : ◌≡◌ {A = ℕ} 1 10 = cc in omega arith

    only : (b : Bool) → sound s ≡ b → (freeze_call e s out).reply ≡ refused 10 → sound s ≡ false
    only false h q = h
    only true h q =
        absurd (sized (leb 2 e && leb e 8)
        (ap (λ (r : Reply). (put_after r out (image e xs)).reply) (sym (only-page-size e s h))
        ∙ ap (λ (z : Result). z.reply) (freeze-sound e s out h) ∙ q))

pub freeze-ten : (s : List ℕ) (e : ℕ) (out : List ℕ) → ((j : ℕ) → get_or s j 0 < 256) → Ten (Freeze s e out) (end_of_image (freeze_call e s out).reply)
freeze-ten s e out bytes = Iff.trans (image-refused (freeze_call e s out).reply 10) (Iff.trans (freeze-exactly e s out) (items-exactly s bytes))
