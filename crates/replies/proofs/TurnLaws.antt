-- A command's reply and store, from what the call on the store answers. Assumes nothing.
use mathlib.Core.Path.{◌≡◌, refl, sym, ap, ap₂, ◌∙◌}
use mathlib.Core.Bool.{Bool, true, false, ◌&&◌}
use mathlib.Core.List.{List, [], ◌∷◌, ◌++◌}
use Prim.Native.Nat.{ℕ, ◌≤◌, min}
use native.Mathlib.Omega.{arith}
use lib.ListN.{length, take, drop, replicate, length-replicate, take-append-drop}
use lib.Seq.{take_at, length-take-le}
use lib.Dec.{leb, eqb}
use borrow.Author.Tests.{leb-true}
use Rattle.std.specs.Prelude.{Option, Some, Result, Ok, Err, is_ok}
use Rattle.lists.specs.Lists.{pick, every}
use Rattle.lists.proofs.Parts.{take-smaller}
use Rattle.store.specs.Limits.{limit_tests, max_pages, max_cells}
use Rattle.store.specs.Fitting.{fits}
use Rattle.store.specs.Plain.{Call}
use Rattle.answers.specs.Number.{number}
use Rattle.answers.specs.Store.{Answer as Said, changed, answered, refused, told_change, told_number, told_done}
use Rattle.answers.specs.declared.refusal.Refusal.{Refusal}
use Rattle.answers.specs.declared.store.Change.{Change}
use Rattle.store.specs.Layout.{size, bytes_of, fresh}
use Rattle.store.specs.Call.{Called, Result as Left, Started, call, fresh_call}
use Rattle.session.specs.declared.line.Command.{Command}
use Rattle.session.specs.declared.line.Command.TheVariants.{Fresh}
use Rattle.session_print.specs.declared.Reply.{Reply}
use Rattle.session_print.specs.declared.Reply.TheVariants.{Number, Done, Refused}
use Rattle.replies.specs.declared.Response.{Response}
use Rattle.replies.specs.Session.{reply_for, Turn, changes, asks, starts, renews, turn}
use Rattle.replies.specs.Code.Respond.{Responds, reply_of}

-- the n bytes of the buffer s that are the store, of u that are said to be
front_long : (s : List ℕ) (u n : ℕ) → n ≡ min u (length s) → n ≡ length (take n s)
front_long s u n e = sym (length-take-le n s (omega arith))

-- the same of the bytes that are said to be used, and of the command that was matched
pub of_part : {c d : Option Command} {s : List ℕ} {u n : ℕ} {r : Response} {t : List ℕ} → n ≡ min u (length s) → d ≡ c → Responds c s n r t
    → Responds d s u r t
of_part {c} {d} {s} {u} {n} {r} {t} e f w = record {
  reply = w.reply ∙ ap₂ (λ (x : Option Command) (z : List ℕ). (turn x z).reply) (sym f) (take-smaller s u n e);
  store = w.store ∙ ap₂ (λ (x : Option Command) (z : List ℕ). (turn x z).store) (sym f) (take-smaller s u n e);
}

-- what an accepted change and a question print
pub change-told : (a : Result Change Refusal) → reply_of (λ x. Done) a ≡ reply_for (told_change a)
change-told (Ok x) = refl
change-told (Err e) = refl

pub number-told : (a : Result ℕ Refusal) → reply_of Number a ≡ reply_for (told_number a)
number-told (Ok x) = refl
number-told (Err e) = refl

-- the call k on the store, for the line that asks c, which was matched as d; a is what it answers, r the response
module _ (k : Call) {x : Option Command} {c d : Command} {s : List ℕ} {u n : ℕ} {r : Response} (e : n ≡ min u (length s)) (i : x ≡ Some c)
    (f : c ≡ d) where
  -- a call that may change the store: t stands in its place
  pub changes-it : (a : Result Change Refusal) {t : List ℕ} → (r.used ≡ n) × (r.reply ≡ reply_of (λ z. Done) a)
      → turn (Some d) (take n s) ≡ changes k (take n s) → Called k (take n s) (told_change a) t → length t ≡ length (take n s)
      → Responds x s u r (t ++ drop n s)
  changes-it a {t} g w q l =
      of_part e (i ∙ ap Some f) (record {
        reply = g.1 ∙ change-told a ∙ ap reply_for q.answer ∙ ap (λ (z : Turn). z.reply) (sym w);
        store = take_at t (drop n s) r.used (l ∙ sym (front_long s u n e) ∙ sym g.0) ∙ q.bytes ∙ ap (λ (z : Turn). z.store) (sym w);
      })

  -- a question
  pub asks-it : (a : Result ℕ Refusal) → (r.used ≡ n) × (r.reply ≡ reply_of Number a)
      → turn (Some d) (take n s) ≡ asks k (take n s) → told_number a ≡ (call k (take n s)).answer → Responds x s u r s
  asks-it a g w q =
      of_part e (i ∙ ap Some f) (record {
        reply = g.1 ∙ number-told a ∙ ap reply_for q ∙ ap (λ (z : Turn). z.reply) (sym w);
        store = ap (λ (k : ℕ). take k s) g.0 ∙ ap (λ (z : Turn). z.store) (sym w);
      })

-- no call at all
pub leaves-it : {c d : Option Command} {s : List ℕ} {u n : ℕ} {p : Reply} → n ≡ min u (length s) → c ≡ d
    → turn d (take n s) ≡ record { reply = p; store = take n s } → Responds c s u (record { used = n; reply = p }) s
leaves-it {c} {d} {s} {u} {n} {p} e f w =
    of_part e f (record { reply = ap (λ (z : Turn). z.reply) (sym w); store = ap (λ (z : Turn). z.store) (sym w) })

-- fresh goes by its buffer's length alone
fits-same : (b d : List ℕ) (P C : ℕ) → length b ≡ length d → fits b P C ≡ fits d P C
unfolding fits
fits-same b d P C e = ap (λ (k : ℕ). every (limit_tests P C ++ eqb k (size P C) ∷ [])) e

second-fourth : (a b c d x : Bool) → (b && d) ≡ false → (a && (b && (c && (d && x)))) ≡ false
second-fourth false b c d x e = refl
second-fourth true false c d x e = refl
second-fourth true true false d x e = refl
second-fourth true true true d x e = rw e

fits-no : (b : List ℕ) (P C : ℕ) → (leb P max_pages && leb C max_cells) ≡ false → fits b P C ≡ false
unfolding fits every
fits-no b P C e = second-fourth (leb 1 P) (leb P max_pages) (leb 1 C) (leb C max_cells) (eqb (length b) (size P C) && true) e

fresh-yes : (b : List ℕ) (P C : ℕ) → fits b P C ≡ true → fresh_call b P C ≡ record { answer = answered 0; bytes = bytes_of (fresh P C) }
unfolding fresh_call pick
fresh-yes b P C e = rw e

fresh-no : (b : List ℕ) (P C : ℕ) → fits b P C ≡ false → fresh_call b P C ≡ record { answer = refused 9; bytes = b }
unfolding fresh_call pick
fresh-no b P C e = rw e

-- the buffer that the code takes, of n bytes, serves as one of the right length
pub buffer : (b : List ℕ) (P C : ℕ) → length b ≡ size (min P max_pages) (min C max_cells) → fits b P C ≡ fits (replicate (size P C) 0) P C
buffer b P C h = go (leb P max_pages) (leb C max_cells) refl refl
  where
    go : (t u : Bool) → leb P max_pages ≡ t → leb C max_cells ≡ u → fits b P C ≡ fits (replicate (size P C) 0) P C
    go true true e f =
        let p : min P max_pages ≡ P = omega (arith, leb-true P max_pages e) in
        let c : min C max_cells ≡ C = omega (arith, leb-true C max_cells f) in
        fits-same b (replicate (size P C) 0) P C (h ∙ ap₂ size p c ∙ sym (length-replicate (size P C) 0))
    go true false e f = rw (fits-no b P C (rw (e, f)), fits-no (replicate (size P C) 0) P C (rw (e, f)))
    go false u e f = rw (fits-no b P C (rw e), fits-no (replicate (size P C) 0) P C (rw e))

-- no other answer is a refusal
pub not-changed : (x y k : ℕ) → ◌≡◌ {A = Said} (changed x y) (refused k) → ⊥
not-changed x y k e = cc

pub not-answered : (m k : ℕ) → ◌≡◌ {A = Said} (answered m) (refused k) → ⊥
not-answered m k e = cc

-- n on a buffer b that serves as one of the right length
module _ (P C : ℕ) (s b : List ℕ) (same : fits b P C ≡ fits (replicate (size P C) 0) P C) (a : Said)
    (q : a ≡ (fresh_call b P C).answer) where
  zeros : List ℕ
  zeros = replicate (size P C) 0

  -- refused: the turn keeps the store, and the buffer is as it was
  pub refused-it : (k : ℕ) → a ≡ refused k → (renews P C s ≡ record { reply = Refused k; store = s }) × ((fresh_call b P C).bytes ≡ b)
  unfolding renews starts zeros
  refused-it k e = go (fits b P C) refl
    where
      go : (t : Bool) → fits b P C ≡ t → (renews P C s ≡ record { reply = Refused k; store = s }) × ((fresh_call b P C).bytes ≡ b)
      go true f = absurd (not-answered 0 k (sym (ap (λ (r : Left). r.answer) (fresh-yes b P C f)) ∙ sym q ∙ e))
      go false f =
          let r : a ≡ refused 9 = q ∙ ap (λ (r : Left). r.answer) (fresh-no b P C f) in
          let z : ◌≡◌ {A = ℕ} 9 k = cc in (
            ap (λ (r : Left). starts r s r.answer) (fresh-no zeros P C (sym same ∙ f))
                ∙ ap (λ (n : ℕ). record { reply = Refused n; store = s }) z,
            ap (λ (r : Left). r.bytes) (fresh-no b P C f),
          )

  pub started-it : (a ≡ refused 9 → ⊥) → renews P C s ≡ record { reply = Done; store = (fresh_call b P C).bytes }
  unfolding renews starts zeros
  started-it h = go (fits b P C) refl
    where
      go : (t : Bool) → fits b P C ≡ t → renews P C s ≡ record { reply = Done; store = (fresh_call b P C).bytes }
      go true f =
          ap (λ (r : Left). starts r s r.answer) (fresh-yes zeros P C (sym same ∙ f))
          ∙ ap (λ (r : Left). record { reply = Done; store = r.bytes }) (sym (fresh-yes b P C f))
      go false f = absurd (h (q ∙ ap (λ (r : Left). r.answer) (fresh-no b P C f)))

-- n on the first n bytes of the buffer s
module _ (P C : ℕ) (s : List ℕ) (u n : ℕ) (h : 63760 ≤ length s) (l : n ≡ size (min P max_pages) (min C max_cells)) (m : n ≤ 63760)
    (a : Said) (t : List ℕ) (q : Started (take n s) P C a t) where
  serves : fits (take n s) P C ≡ fits (replicate (size P C) 0) P C
  serves = buffer (take n s) P C (length-take-le n s (omega arith) ∙ l)

  pub renew-refuses : (k : ℕ) (r : Response) → a ≡ refused k → r.used ≡ u → r.reply ≡ Refused k → Responds (Some (Fresh P C)) s u r (t ++ drop n s)
  unfolding turn
  renew-refuses k r e v w =
      let x = refused-it P C (take u s) (take n s) serves a q.answer k e in
      let y : t ++ drop n s ≡ s = ap (λ (z : List ℕ). z ++ drop n s) (q.bytes ∙ x.1) ∙ take-append-drop n s in
      record {
        reply = w ∙ ap (λ (z : Turn). z.reply) (sym x.0);
        store = ap₂ (λ (j : ℕ) (z : List ℕ). take j z) v y ∙ ap (λ (z : Turn). z.store) (sym x.0);
      }

  pub renew-starts : (r : Response) → (a ≡ refused 9 → ⊥) → r.used ≡ n → r.reply ≡ Done → length t ≡ length (take n s)
      → Responds (Some (Fresh P C)) s u r (t ++ drop n s)
  unfolding turn
  renew-starts r e v w g =
      let x = started-it P C (take u s) (take n s) serves a q.answer e in
      record {
        reply = w ∙ ap (λ (z : Turn). z.reply) (sym x);
        store =
            take_at t (drop n s) r.used (g ∙ length-take-le n s (omega arith) ∙ sym v)
            ∙ q.bytes ∙ ap (λ (z : Turn). z.store) (sym x);
      }

-- the same by what fresh answers; j bytes are the store then
pub renew-it : (P C : ℕ) (s : List ℕ) (u n j : ℕ) (t : List ℕ) (a : Result (Unit {0}) Refusal) (r : Response) → 63760 ≤ length s
    → n ≡ size (min P max_pages) (min C max_cells) → n ≤ 63760 → Started (take n s) P C (told_done a) t → length t ≡ length (take n s)
    → (is_ok a ≡ true → j ≡ n) → (is_ok a ≡ false → j ≡ u) → (r.used ≡ j) × (r.reply ≡ reply_of (λ x. Done) a)
    → Responds (Some (Fresh P C)) s u r (t ++ drop n s)
renew-it P C s u n j t (Ok x) r h l m q g y z w = renew-starts P C s u n h l m _ t q r (not-answered 0 9) (w.0 ∙ y refl) w.1 g
renew-it P C s u n j t (Err e) r h l m q g y z w = renew-refuses P C s u n h l m _ t q (number e) r refl (w.0 ∙ z refl) w.1
