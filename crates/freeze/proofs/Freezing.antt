-- The call's refusals. Assumes nothing.
use mathlib.Core.Path.{◌≡◌, refl, ap, ◌∙◌}
use mathlib.Core.Bool.{Bool, true, false, ◌&&◌}
use mathlib.Core.List.{List}
use Prim.Native.Nat.{ℕ}
use native.Mathlib.Omega.{arith}
use lib.ListN.{length}
use lib.Dec.{leb}
use borrow.Author.Tests.{le-leb}
use Rattle.lists.specs.Lists.{pick, sum}
use Rattle.store.specs.Reading.{list_in}
use Rattle.store.specs.Sound.{sound}
use Rattle.store.proofs.SoundFacts.{facts}
use Rattle.image.specs.Calls.{Result, length_call, result_of, unwritten, write_call}
use Rattle.image.specs.Image.{image}
use Rattle.answers.specs.Image.{given, refused, told}
use Rattle.answers.specs.Number.{number}
use Rattle.answers.specs.declared.refusal.Refusal.{Refusal}
use Rattle.std.specs.Prelude.{Err}
use Rattle.image.proofs.CallLaws.{write-refused}
use Rattle.freeze.specs.Freeze.{freeze_call}

pub freeze-10 : (e : ℕ) (s out : List ℕ) → sound s ≡ false → record { reply = refused 10; bytes = out } ≡ freeze_call e s out
unfolding freeze_call pick unwritten
freeze-10 e s out h = rw h

-- the same of what the check of the store answers
pub turned_down : (e : ℕ) (s out : List ℕ) (r : Refusal) → (sound s ≡ false) × (number r ≡ 10) → result_of (Err r) out ≡ freeze_call e s out
unfolding told
turned_down e s out r h =
    ap (λ (k : ℕ). record { reply = refused k; bytes = out }) {x = number r} {y = 10} h.1 ∙ freeze-10 e s out h.0

pub freeze-sound : (e : ℕ) (s out : List ℕ) → sound s ≡ true → write_call e (list_in s) out ≡ freeze_call e s out
unfolding freeze_call pick
freeze-sound e s out h = rw h

-- 2 and 3 never come: past 10 only the page size is refused before the buffer
pub only-page-size : (e : ℕ) (s : List ℕ) → sound s ≡ true
    → length_call e (list_in s) ≡ pick (leb 2 e && leb e 8) (given (length (image e (list_in s)))) (refused 1)
unfolding length_call pick
only-page-size e s h =
    let f = facts s h in
    rw (
      le-leb (length (list_in s)) 65536 (omega (arith, f.hours-are, f.hours-fit, f.pages-high)),
      le-leb (sum (list_in s)) 1099511627775 (omega (arith, f.total-fits)),
    )

-- 'A refusal is its number alone; no byte changes.'
pub freeze-refused : (e : ℕ) (s out : List ℕ) (k : ℕ) → (freeze_call e s out).reply ≡ refused k → (freeze_call e s out).bytes ≡ out
unfolding freeze_call pick unwritten
freeze-refused e s out k = go (sound s)
  where
    W : Result
    W = write_call e (list_in s) out

    go : (b : Bool) → (pick b W (unwritten out 10)).reply ≡ refused k → (pick b W (unwritten out 10)).bytes ≡ out
    go true q = write-refused e (list_in s) out k q
    go false q = refl
