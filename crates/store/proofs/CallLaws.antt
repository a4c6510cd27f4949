-- The calls that change a store, in the numbers that the code has. Assumes nothing.
use mathlib.Core.Path.{◌≡◌, refl, sym, ap, ◌∙◌}
use mathlib.Core.Bool.{Bool, true, false, not}
use mathlib.Core.List.{List, [], ◌∷◌, ◌++◌}
use Prim.Native.Nat.{ℕ, ◌*◌, ◌≤◌, ◌<◌}
use native.Mathlib.Omega.{arith}
use lib.ListN.{length, set}
use borrow.Author.Tests.{eq-eqb, ne_eqb, le-leb, lt-leb, not-false, not-true}
use Rattle.lists.specs.Lists.{pick}
use Rattle.store.specs.Plain.{Append, Call, Outcome, Plain, Set, change, step}
use Rattle.answers.specs.Store.{Answer, answered, refused}
use Rattle.store.specs.Layout.{bytes_of}
use Rattle.store.specs.Reading.{list_in, read}
use Rattle.store.specs.Sound.{sound}
use Rattle.store.specs.Call.{Called, after, call, settle}
use Rattle.store.specs.Code.Head.{HeadOf}
use Rattle.store.specs.declared.header.Header.{Header}
use Rattle.store.specs.Code.Hours.{Asked, Changes, change_to, with_hour}
use Rattle.store.proofs.SoundFacts.{facts}

-- a store that is not sound
pub call-10 : (c : Call) (s : List ℕ) → sound s ≡ false → Called c s (refused 10) s
unfolding call pick
call-10 c s e = record { answer = rw e refl; bytes = rw e refl }

-- the same from what a check of the store answers; and what it says where it does not turn the store down
pub turned_down : (c : Call) {s : List ℕ} {t : Bool} → t ≡ sound s → not t ≡ true → Called c s (refused 10) s
turned_down c {s} {t} e f = call-10 c s (sym e ∙ not-true t f)

pub passed : (s : List ℕ) {t : Bool} → t ≡ sound s → not t ≡ false → sound s ≡ true
passed s {t} e f = sym e ∙ not-false t f

-- a sound store answers as its list does
pub sound-call : (c : Call) (s : List ℕ) → sound s ≡ true → Called c s (step c (read s).plain).answer (bytes_of (after c (read s)))
unfolding call pick
sound-call c s e = record { answer = rw e refl; bytes = rw e refl }

call-sound : (c : Call) (s t : List ℕ) (r : Answer) → sound s ≡ true → r ≡ (step c (read s).plain).answer → t ≡ bytes_of (after c (read s))
    → Called c s r t
call-sound c s t r e a b = let w = sound-call c s e in record { answer = a ∙ w.answer; bytes = b ∙ w.bytes }

-- an answer that leaves the store as it is: a refusal, a number
stays : (c : Call) (s : List ℕ) (a : Answer) → sound s ≡ true → step c (read s).plain ≡ record { answer = a; list = (read s).plain }
    → ((o : Outcome) → settle (read s) o a ≡ read s) → Called c s a s
unfolding after
stays c s a e st k =
    call-sound c s s a e (sym (ap (λ (o : Outcome). o.answer) st))
    ((facts s e).same
    ∙ sym
    (ap (λ (o : Outcome). bytes_of (settle (read s) o o.answer)) st ∙ ap bytes_of (k (record { answer = a; list = (read s).plain }))))

pub refused_as : (c : Call) (s : List ℕ) (k : ℕ) → sound s ≡ true
    → step c (read s).plain ≡ record { answer = refused k; list = (read s).plain } → Called c s (refused k) s
unfolding settle
refused_as c s k e st = stays c s (refused k) e st (λ o. refl)

pub answered-as : (c : Call) (s : List ℕ) (n : ℕ) → sound s ≡ true
    → step c (read s).plain ≡ record { answer = answered n; list = (read s).plain } → Called c s (answered n) s
unfolding settle
answered-as c s n e st = stays c s (answered n) e st (λ o. refl)

-- a change of hour i is the call's
changed-as : (c : Call) (s t : List ℕ) (i v : ℕ) (r : Answer) → sound s ≡ true → step c (read s).plain ≡ change_to s i v
    → Changes s i v r t → Called c s r t
unfolding after
changed-as c s t i v r e st w =
    call-sound c s t r e (w.answer ∙ sym (ap (λ (o : Outcome). o.answer) st))
    (w.bytes ∙ sym (ap (λ (o : Outcome). bytes_of (settle (read s) o o.answer)) st))

-- ---- append
pub with-end : (xs : List ℕ) (v : ℕ) → with_hour xs (length xs) v ≡ xs ++ v ∷ []
unfolding with_hour pick
with-end xs v = rw (eq-eqb (length xs) (length xs) refl)

append-room : (L : Plain) (v : ℕ) → length L.counts < 64 * L.pages → step (Append v) L ≡ change L (with_hour L.counts (length L.counts) v)
unfolding step pick
append-room L v l = rw (lt-leb (64 * L.pages) (length L.counts) l) (ap (change L) (sym (with-end L.counts v)))

append-full : (L : Plain) (v : ℕ) → 64 * L.pages ≤ length L.counts → step (Append v) L ≡ record { answer = refused 11; list = L }
unfolding step pick
append-full L v l = rw (le-leb (64 * L.pages) (length L.counts) l)

module _ {s : List ℕ} (v : ℕ) (e : sound s ≡ true) {H : Header} (h : HeadOf s H) where
  pub append-11 : 64 * H.pages ≤ H.hours → Called (Append v) s (refused 11) s
  append-11 l = let f = facts s e in refused_as (Append v) s 11 e
      (append-full (read s).plain v (omega (arith, f.hours-are, f.pages-are, h.hours-is, h.pages-is)))

  pub append-asks : H.hours < 64 * H.pages → Asked s H.hours
  append-asks l =
      let f = facts s e in
      record { is-sound = e; inside = omega (arith, h.hours-is, h.pages-is); reached = omega (arith, f.hours-are, h.hours-is) }

  pub append-go : {t : List ℕ} {r : Answer} → H.hours < 64 * H.pages → Changes s H.hours v r t → Called (Append v) s r t
  unfolding change_to
  append-go {t} {r} l w =
      let f = facts s e in
      let i : length (list_in s) ≡ H.hours = omega (arith, f.hours-are, h.hours-is) in
      changed-as (Append v) s t H.hours v r e
      (append-room (read s).plain v (omega (arith, f.pages-are, h.pages-is))
      ∙ ap (λ (z : ℕ). change (read s).plain (with_hour (list_in s) z v)) i) w

-- ---- set
pub with-inside : (xs : List ℕ) (i v : ℕ) → i < length xs → with_hour xs i v ≡ set xs i v
unfolding with_hour pick
with-inside xs i v l = rw (ne_eqb i (length xs) (λ e. omega (arith, e)))

set_room : (L : Plain) (i v : ℕ) → i < length L.counts → step (Set i v) L ≡ change L (with_hour L.counts i v)
unfolding step pick
set_room L i v l = rw (lt-leb (length L.counts) i l) (ap (change L) (sym (with-inside L.counts i v l)))

set_past : (L : Plain) (i v : ℕ) → length L.counts ≤ i → step (Set i v) L ≡ record { answer = refused 7; list = L }
unfolding step pick
set_past L i v l = rw (le-leb (length L.counts) i l)

module _ {s : List ℕ} (i v : ℕ) (e : sound s ≡ true) {H : Header} (h : HeadOf s H) where
  pub set-7 : H.hours ≤ i → Called (Set i v) s (refused 7) s
  set-7 l = refused_as (Set i v) s 7 e (set_past (read s).plain i v (omega (arith, (facts s e).hours-are, h.hours-is)))

  pub set-asks : i < H.hours → Asked s i
  set-asks l =
      let f = facts s e in
      record { is-sound = e; inside = omega (arith, f.hours-fit, h.hours-is); reached = omega (arith, f.hours-are, h.hours-is) }

  pub set-go : {t : List ℕ} {r : Answer} → i < H.hours → Changes s i v r t → Called (Set i v) s r t
  unfolding change_to
  set-go {t} {r} l w =
      let f = facts s e in
      changed-as (Set i v) s t i v r e (set_room (read s).plain i v (omega (arith, f.hours-are, h.hours-is))) w
