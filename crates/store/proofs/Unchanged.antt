-- A refused live call changes no byte, nor does a question, nor a refused fresh. Assumes nothing.
use mathlib.Core.Path.{◌≡◌, refl, sym, ap, ◌∙◌}
use mathlib.Core.Bool.{Bool, true, false}
use mathlib.Core.List.{List, [], ◌∷◌}
use Prim.Native.Nat.{ℕ, zero, suc}
use native.Mathlib.Omega.{arith}
use lib.ListN.{get_or, take}
use Rattle.lists.specs.Lists.{pick}
use Rattle.store.specs.Fitting.{fits}
use Rattle.store.specs.Plain.{Call, Outcome, step}
use Rattle.answers.specs.Store.{Answer, answered, refused}
use Rattle.store.specs.Layout.{Model, bytes_of, fresh}
use Rattle.store.specs.Reading.{read}
use Rattle.store.specs.Sound.{sound}
use Rattle.store.specs.Call.{Result, after, call, fresh_call, settle, store_answers, store_end}
use Rattle.store.proofs.CallLaws.{call-10, sound-call}
use Rattle.store.proofs.SoundFacts.{facts}

-- an answer that leaves any model as it is
abbrev Keeps : Answer → Type 0
Keeps a = (m : Model) (o : Outcome) → settle m o a ≡ m

-- ---- a live call
-- a sound store's bytes are those of what they say: the same after a call whose answer leaves this as it is
keeps : (c : Call) (s : List ℕ) (a : Answer) → Keeps a → (call c s).answer ≡ a → (call c s).bytes ≡ s
unfolding after
keeps c s a k q = go (sound s) refl
  where
    go : (b : Bool) → sound s ≡ b → (call c s).bytes ≡ s
    go false e = sym (call-10 c s e).bytes
    go true e =
        let w = sound-call c s e in
        let L = (read s).plain in
        sym w.bytes
        ∙ ap (λ (z : Answer). bytes_of (settle (read s) (step c L) z)) (w.answer ∙ q)
        ∙ ap bytes_of (k (read s) (step c L))
        ∙ sym (facts s e).same

pub refused-keeps : (c : Call) (s : List ℕ) (k : ℕ) → (call c s).answer ≡ refused k → (call c s).bytes ≡ s
unfolding settle
refused-keeps c s k = keeps c s (refused k) (λ m o. refl)

pub answered-keeps : (c : Call) (s : List ℕ) (n : ℕ) → (call c s).answer ≡ answered n → (call c s).bytes ≡ s
unfolding settle
answered-keeps c s n = keeps c s (answered n) (λ m o. refl)

-- ---- fresh
pub fresh-refused-keeps : (b : List ℕ) (P C k : ℕ) → (fresh_call b P C).answer ≡ refused k → (fresh_call b P C).bytes ≡ b
unfolding fresh_call pick
fresh-refused-keeps b P C k = go (fits b P C)
  where
    made : Result
    made = record { answer = answered 0; bytes = bytes_of (fresh P C) }

    kept : Result
    kept = record { answer = refused 9; bytes = b }

    go : (t : Bool) → (pick t made kept).answer ≡ refused k → (pick t made kept).bytes ≡ b
    go true q = let z : ◌≡◌ {A = ℕ} 0 1 = cc in absurd (omega arith)
    go false q = refl

-- ---- in a list of calls: call n, if it is refused, leaves the bytes as the n calls before it left them
pub kept_at : (cs : List Call) (s : List ℕ) (n k : ℕ) → get_or (store_answers cs s) n (answered 0) ≡ refused k
    → store_end (take (suc n) cs) s ≡ store_end (take n cs) s
unfolding store_answers store_end
kept_at [] s zero k q = refl
kept_at [] s (suc n) k q = refl
kept_at (c ∷ cs) s zero k q = refused-keeps c s k q
kept_at (c ∷ cs) s (suc n) k q = kept_at cs (call c s).bytes n k q
