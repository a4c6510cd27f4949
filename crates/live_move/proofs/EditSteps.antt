-- Insert and strike, in the numbers that the code has. Assumes nothing.
use mathlib.Core.Path.{◌≡◌, refl, sym, ap, ◌∙◌}
use mathlib.Core.Bool.{true}
use mathlib.Core.List.{List}
use Prim.Native.Nat.{ℕ, ◌+◌, ◌-◌, ◌*◌, ◌/◌, ◌%◌, ◌≤◌, ◌<◌}
use native.Mathlib.Omega.{arith}
use lib.ListN.{length}
use borrow.Author.Tests.{le-leb, le-ltb, lt-leb, lt-ltb}
use Rattle.lists.specs.Lists.{pick, sum}
use Rattle.answers.specs.Store.{Answer, refused}
use Rattle.store.specs.Limits.{max_total}
use Rattle.store.specs.Plain.{Call, Insert, Outcome, Plain, Strike, change, inserted, page, step, struck}
use Rattle.store.specs.Layout.{bytes_of}
use Rattle.store.specs.Reading.{list_in, read}
use Rattle.store.specs.Sound.{sound}
use Rattle.store.specs.Call.{Called, after, settle}
use Rattle.store.specs.Code.Head.{HeadOf}
use Rattle.store.specs.declared.header.Header.{Header}
use Rattle.store.proofs.CallLaws.{refused_as, sound-call}
use Rattle.store.proofs.ChangeLaws.{change-over}
use Rattle.store.proofs.Inserting.{length_inserted, length-struck, sum-inserted, sum-struck}
use Rattle.store.proofs.SoundFacts.{Facts, facts}
use Rattle.move_counts.specs.declared.Edit.TheVariants.{Insert as Inserts, Strike as Strikes}
use Rattle.move_counts.specs.Code.Turned.{turned}
use Rattle.move_plan.specs.declared.shift.Shift.{Shift}
use Rattle.move_plan.specs.Code.Plan.{Shiftable, shifted}
use Rattle.move_plan.proofs.Shifting.{insert-above, insert-below, insert-is, insert-moves, strike-above, strike-below, strike-is, strike-moves}
use Rattle.live_move.specs.Code.Carry.{Carried, shift_of}

-- a shift that is the call's
carried-as : (c : Call) (s t : List ℕ) (m : Shift) (r : Answer) → sound s ≡ true → step c (read s).plain ≡ shift_of s m → Carried s m r t → Called c s r t
unfolding after
carried-as c s t m r e st w =
    let k = sound-call c s e in
    record {
      answer = w.answer ∙ sym (ap (λ (o : Outcome). o.answer) st) ∙ k.answer;
      bytes = w.bytes ∙ sym (ap (λ (o : Outcome). bytes_of (settle (read s) o o.answer)) st) ∙ k.bytes;
    }

hour-is : (i : ℕ) → 64 * (i / 64) + i % 64 ≡ i
hour-is i = omega arith

-- ---- the plain list's steps
module _ (L : Plain) (i v : ℕ) where
  abbrev N : ℕ
  N = length L.counts

  insert-past : N < i → step (Insert i v) L ≡ record { answer = refused 7; list = L }
  unfolding step pick
  insert-past l = rw (lt-ltb N i l)

  insert-full : i ≤ N → 64 * L.pages ≤ N → step (Insert i v) L ≡ record { answer = refused 11; list = L }
  unfolding step pick
  insert-full l r = rw (le-ltb N i l, le-leb (64 * L.pages) N r)

  insert-room : i ≤ N → N < 64 * L.pages → step (Insert i v) L ≡ change L (inserted L.counts i v)
  unfolding step pick
  insert-room l r = rw (le-ltb N i l, lt-leb (64 * L.pages) N r)

  strike-past : N ≤ i → step (Strike i) L ≡ record { answer = refused 7; list = L }
  unfolding step pick
  strike-past l = rw (le-leb N i l)

  strike-room : i < N → step (Strike i) L ≡ change L (struck L.counts i)
  unfolding step pick
  strike-room l = rw (lt-leb N i l)

module _ {s : List ℕ} (i v : ℕ) (e : sound s ≡ true) {H : Header} (hd : HeadOf s H) where
  f : Facts s
  f = facts s e

  abbrev xs : List ℕ
  xs = list_in s

  hours-same : length xs ≡ H.hours
  hours-same = omega (arith, f.hours-are, hd.hours-is)

  pages-same : H.pages ≡ (read s).plain.pages
  pages-same = hd.pages-is ∙ f.pages-are

  pub header-in : 16 ≤ length s
  header-in = omega (arith, f.long)

  pub total-low : {all : ℕ} → all ≡ sum xs → all ≤ max_total
  total-low a = omega (arith, a, f.total-fits)

  -- ---- insert
  pub insert-7 : H.hours < i → Called (Insert i v) s (refused 7) s
  insert-7 l = refused_as (Insert i v) s 7 e (insert-past (read s).plain i v (omega (arith, hours-same)))

  module _ (li : i ≤ H.hours) where
    pub insert-11 : 64 * H.pages ≤ H.hours → Called (Insert i v) s (refused 11) s
    insert-11 l = refused_as (Insert i v) s 11 e (insert-full (read s).plain i v (omega (arith, hours-same)) (omega (arith, hours-same, pages-same)))

    module _ (lp : H.hours < 64 * H.pages) {all : ℕ} (ea : all ≡ sum xs) where
      abbrev grown : List ℕ
      grown = inserted xs i v

      the_step : step (Insert i v) (read s).plain ≡ change (read s).plain grown
      the_step = insert-room (read s).plain i v (omega (arith, hours-same)) (omega (arith, hours-same, pages-same))

      pub insert-3 : max_total < all + v → Called (Insert i v) s (refused 3) s
      insert-3 l = refused_as (Insert i v) s 3 e (the_step ∙ change-over (read s).plain grown (omega (arith, ea, sum-inserted xs i v)))

      abbrev up : Shift
      up = record { edit = Inserts v; first = i / 64; at = i % 64; end = H.hours / 64 + 1 }

      inside : 64 * (i / 64) + i % 64 ≤ length xs
      inside = omega (arith, hours-same)

      end_is : H.hours / 64 + 1 ≡ length xs / 64 + 1
      end_is = ap (λ (z : ℕ). z / 64 + 1) (sym hours-same)

      up_is : shifted up xs ≡ grown
      up_is = insert-is xs up v refl (omega arith) inside end_is ∙ ap (λ (z : ℕ). inserted xs z v) (hour-is i)

      up-long : length (shifted up xs) ≡ H.hours + 1
      up-long = ap length up_is ∙ omega (arith, length_inserted xs i v (omega (arith, hours-same)), hours-same)

      pub insert-shiftable : all + v ≤ max_total → Shiftable s up × (H.hours + 1 ≡ length (shifted up xs))
      unfolding turned
      insert-shiftable l = (
        record {
          is-sound = e;
          within = omega arith;
          some = omega arith;
          inside = omega (arith, hd.pages-is);
          below = λ q b. ap (λ (z : List ℕ). page z q) (insert-is xs up v refl (omega arith) inside end_is) ∙ insert-below xs up v refl (omega arith) inside end_is q b;
          moves = λ q lo hi leaving hl.
              ap (λ (z : List ℕ). page z q) (insert-is xs up v refl (omega arith) inside end_is)
              ∙ insert-moves xs up v refl (omega arith) inside end_is leaving hl q lo hi;
          above = λ q b. ap (λ (z : List ℕ). page z q) (insert-is xs up v refl (omega arith) inside end_is) ∙ insert-above xs up v refl (omega arith) inside end_is q b;
          total = omega (arith, ap sum up_is, sum-inserted xs i v, ea);
          hours = omega (arith, up-long, hd.pages-is);
        },
        sym up-long,
      )

      pub insert-go : {t : List ℕ} {r : Answer} → Carried s up r t → Called (Insert i v) s r t
      unfolding shift_of
      insert-go {t} {r} w = carried-as (Insert i v) s t up r e (the_step ∙ ap (change (read s).plain) (sym up_is)) w

-- ---- strike
module _ {s : List ℕ} (i : ℕ) (e : sound s ≡ true) {H : Header} (hd : HeadOf s H) where
  abbrev was : List ℕ
  was = list_in s

  long-is : length was ≡ H.hours
  long-is = hours-same i 0 e hd

  pub strike-7 : H.hours ≤ i → Called (Strike i) s (refused 7) s
  strike-7 l = refused_as (Strike i) s 7 e (strike-past (read s).plain i 0 (omega (arith, long-is)))

  module _ (li : i < H.hours) where
    abbrev down : Shift
    down = record { edit = Strikes; first = i / 64; at = i % 64; end = (H.hours - 1) / 64 + 1 }

    logged : 64 * (i / 64) + i % 64 < length was
    logged = omega (arith, long-is)

    last-is : (H.hours - 1) / 64 + 1 ≡ (length was - 1) / 64 + 1
    last-is = ap (λ (z : ℕ). (z - 1) / 64 + 1) (sym long-is)

    down_is : shifted down was ≡ struck was i
    down_is = strike-is was down refl (omega arith) logged last-is ∙ ap (struck was) (hour-is i)

    down-long : length (shifted down was) ≡ H.hours - 1
    down-long = ap length down_is ∙ omega (arith, length-struck was i (omega (arith, long-is)), long-is)

    pub strike-shiftable : Shiftable s down × (H.hours - 1 ≡ length (shifted down was))
    unfolding turned
    strike-shiftable = (
      record {
        is-sound = e;
        within = omega arith;
        some = omega arith;
        inside = omega (arith, (facts s e).hours-fit, hd.hours-is);
        below = λ q b. ap (λ (z : List ℕ). page z q) (strike-is was down refl (omega arith) logged last-is) ∙ strike-below was down refl (omega arith) logged last-is q b;
        moves = λ q lo hi leaving hl.
            ap (λ (z : List ℕ). page z q) (strike-is was down refl (omega arith) logged last-is)
            ∙ strike-moves was down refl (omega arith) logged last-is leaving hl q lo;
        above = λ q b. ap (λ (z : List ℕ). page z q) (strike-is was down refl (omega arith) logged last-is) ∙ strike-above was down refl (omega arith) logged last-is q b;
        total = omega (arith, ap sum down_is, sum-struck was i, (facts s e).total-fits);
        hours = omega (arith, down-long, (facts s e).hours-fit, hd.hours-is);
      },
      sym down-long,
    )

    pub strike-go : {t : List ℕ} {r : Answer} → Carried s down r t → Called (Strike i) s r t
    unfolding shift_of
    strike-go {t} {r} w =
        carried-as (Strike i) s t down r e (strike-room (read s).plain i 0 (omega (arith, long-is)) ∙ ap (change (read s).plain) (sym down_is)) w
