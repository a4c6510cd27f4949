-- A session prints what the plain list answers. Assumes nothing.
use mathlib.Core.Path.{◌≡◌, refl, ap, ap₂}
use mathlib.Core.Bool.{Bool, true, false}
use mathlib.Core.List.{List, [], ◌∷◌, map}
use Prim.Native.Nat.{ℕ}
use native.Mathlib.Omega.{arith}
use lib.ListN.{length, replicate, length-replicate}
use borrow.Author.Tests.{eq-eqb}
use Rattle.std.specs.Prelude.{Option, Some, None}
use Rattle.lists.specs.Lists.{concat, every, pick}
use Rattle.store.proofs.LimitLaws.{limits-hold}
use Rattle.store.specs.Limits.{limit_tests}
use Rattle.store.specs.Fitting.{fits}
use Rattle.store.specs.Plain.{Call, plain_fresh}
use Rattle.answers.specs.Store.{refused}
use Rattle.store.specs.Layout.{Model, bytes_of, fresh, size}
use Rattle.store.specs.Sound.{Good, sound}
use Rattle.store.specs.Call.{Result, after, call, fresh_call}
use Rattle.store.proofs.FreshLaws.{fresh-good}
use Rattle.store.proofs.SoundFacts.{facts}
use Rattle.store.proofs.StepLaws.{after-good, after-plain}
use Rattle.store.proofs.Whole.{call-good}
use Rattle.session.specs.Line.{command}
use Rattle.session_input.specs.Lines.{lines}
use Rattle.session_print.specs.Printed.{printed}
use Rattle.session.specs.declared.line.Command.{Command}
use Rattle.session.specs.declared.line.Command.TheVariants.{Fresh, Append, Set, Count, Reading, Reach, Day, Free}
use Rattle.session_print.specs.declared.Reply.{Reply}
use Rattle.replies.specs.Session.{reply_for, Turn, changes, asks, starts, renews, turn, replies, output}
use Rattle.replies.specs.PlainSession.{Board, empty, holds, PlainTurn, plain_change, plain_ask, plain_start, plain_turn, plain_replies, plain_output}

-- the store's bytes say the board: none at all, or those of a good store with its list
pub data Shows : List ℕ → Board → Type 0 where
  nothing : Shows [] empty
  store : (m : Model) → Good m → Shows (bytes_of m) (holds m.plain)

-- a line's reply is the plain list's, and the bytes show its board again
pub record Agrees (t : Turn) (p : PlainTurn) : Type 0 where
  pub same : t.reply ≡ p.reply
  pub shows : Shows t.store p.board

not_sound : sound [] ≡ false
not_sound = go (sound []) refl
  where
    go : (b : Bool) → sound [] ≡ b → b ≡ false
    go true e = absurd (omega (arith, (facts [] e).long))
    go false e = refl

call_none : (c : Call) → call c [] ≡ record { answer = refused 10; bytes = [] }
unfolding call pick
call_none c = rw not_sound

changes-agree : (c : Call) (s : List ℕ) (b : Board) → Shows s b → Agrees (changes c s) (plain_change c b)
changes-agree c s b nothing = record {
  same = ap (λ (r : Result). reply_for r.answer) (call_none c);
  shows = rw (call_none c) nothing;
}
changes-agree c s b (store m g) = record {
  same = ap (λ (r : Result). reply_for r.answer) (call-good c m g);
  shows = rw (call-good c m g, ← after-plain c m g) (store (after c m) (after-good c m g));
}

asks-agree : (c : Call) (s : List ℕ) (b : Board) → Shows s b → Agrees (asks c s) (plain_ask c b)
asks-agree c s b nothing = record {
  same = ap (λ (r : Result). reply_for r.answer) (call_none c);
  shows = nothing;
}
asks-agree c s b (store m g) = record {
  same = ap (λ (r : Result). reply_for r.answer) (call-good c m g);
  shows = store m g;
}

-- n, in a buffer of the right length
limits : ℕ → ℕ → Bool
limits P C = every (limit_tests P C)

fits-limits : (P C : ℕ) → fits (replicate (size P C) 0) P C ≡ limits P C
unfolding fits every limits
fits-limits P C = rw (eq-eqb (length {A = ℕ} (replicate (size P C) 0)) (size P C) (length-replicate (size P C) 0))

fresh-shows : (P C : ℕ) → limits P C ≡ true → Shows (bytes_of (fresh P C)) (holds (plain_fresh P C))
unfolding limits fresh
fresh-shows P C e = store (fresh P C) (fresh-good P C (limits-hold P C e))

starts-agree : (P C : ℕ) (s : List ℕ) (b : Board) → Shows s b → Agrees (renews P C s) (plain_start P C b)
unfolding renews starts fresh_call pick limits
starts-agree P C s b h = go (limits P C) refl
  where
    go : (t : Bool) → limits P C ≡ t → Agrees (renews P C s) (plain_start P C b)
    go true e = rw (fits-limits P C, e) (record { same = refl; shows = fresh-shows P C e })
    go false e = rw (fits-limits P C, e) (record { same = refl; shows = h })

turn-agrees : (c : Option Command) (s : List ℕ) (b : Board) → Shows s b → Agrees (turn c s) (plain_turn c b)
unfolding turn plain_turn
turn-agrees (Some (Fresh P C)) s b h = starts-agree P C s b h
turn-agrees (Some (Append v)) s b h = changes-agree (Call.Append v) s b h
turn-agrees (Some (Set i v)) s b h = changes-agree (Call.Set i v) s b h
turn-agrees (Some (Count i)) s b h = asks-agree (Call.Count i) s b h
turn-agrees (Some (Reading i)) s b h = asks-agree (Call.Reading i) s b h
turn-agrees (Some (Reach p)) s b h = asks-agree (Call.Reach p) s b h
turn-agrees (Some (Day d)) s b h = asks-agree (Call.Day d []) s b h
turn-agrees (Some Free) s b h = asks-agree Call.Free s b h
turn-agrees None s b h = record { same = refl; shows = h }

-- any list of commands
pub replies-agree : (cs : List (Option Command)) (s : List ℕ) (b : Board) → Shows s b → replies cs s ≡ plain_replies cs b
unfolding replies plain_replies
replies-agree [] s b h = refl
replies-agree (c ∷ cs) s b h =
    let w = turn-agrees c s b h in
    ap₂ (λ (r : Reply) (rs : List Reply). r ∷ rs) w.same (replies-agree cs (turn c s).store (plain_turn c b).board w.shows)

-- Whatever the input, a session prints what the plain list answers to its lines
pub session-is-plain : (input : List ℕ) → output input ≡ plain_output input
unfolding output plain_output
session-is-plain input = ap (λ (rs : List Reply). concat (map printed rs)) (replies-agree (map command (lines input)) [] empty nothing)
