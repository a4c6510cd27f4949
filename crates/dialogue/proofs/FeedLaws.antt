-- What the functions between a read and a write ensure, from what those below them ensure. Assumes nothing.
use mathlib.Core.Path.{◌≡◌, refl, sym, ap, ap₂, ◌∙◌}
use mathlib.Core.List.{List, [], ◌∷◌, ◌++◌, append_assoc, append-nil}
use Prim.Native.Nat.{ℕ, ◌+◌, ◌≤◌, ◌<◌}
use native.Mathlib.Numerals.{add-one}
use native.Mathlib.Omega.{arith}
use lib.ListN.{length, get_or, take, length-append}
use lib.Seq.{take-suc}
use Rattle.std.specs.Prelude.{Option, Some, None}
use Rattle.lists.specs.Lists.{concat}
use Rattle.session_input.specs.Lines.{holds, completes, ends, held_length, last_commands, whole_commands, Gathers}
use Rattle.session_print.specs.Printed.{printed, Prints}
use Rattle.session.specs.declared.line.Command.{Command}
use Rattle.session_print.specs.declared.Reply.{Reply}
use Rattle.session_input.specs.declared.Gathered.{Gathered}
use Rattle.session_input.specs.declared.Gathered.TheVariants.{More, Whole}
use Rattle.session_print.proofs.PrintLaws.{printed-behind, printed-length}
use Rattle.replies.specs.Session.{turn, replies}
use Rattle.replies.specs.Code.Respond.{Responds}
use Rattle.replies.specs.declared.Response.{Response}
use Rattle.dialogue.specs.Dialogue.{State, prints, leaves, next, fed, said, last}
use Rattle.dialogue.specs.Feed.{Closes, Feeds, stand}
use Rattle.dialogue.specs.Code.Answer.{Answers}
use Rattle.dialogue.specs.declared.Standing.{Standing}
use Rattle.dialogue.proofs.DialogueLaws.{fed-append, said-append}

-- a command, from its response and the line that is printed
pub answers : {c : Option Command} {p : Standing} {s s' out out' : List ℕ} {q : Response} {n : ℕ} → p.said + 32 ≤ length out
    → Responds c s p.used q s' → Prints q.reply out p.said n out'
    → Answers c p s out (record { used = q.used; held = 0; said = n }) s' out'
answers {c} {p} {s} {s'} {out} {out'} {q} {n} h w v = record {
  store = w.store;
  held = refl;
  said = printed-behind h v ∙ ap (λ (r : Reply). take p.said out ++ printed r) w.reply;
  most = omega (arith, v.end, printed-length q.reply);
}

-- what a single command prints
prints-one : (c : Option Command) (s : List ℕ) → prints (c ∷ []) s ≡ printed (turn c s).reply
unfolding prints replies concat
prints-one c s = append-nil (printed (turn c s).reply)

-- a byte b that completes the commands cs and leaves l held
module _ (b : ℕ) (p : State) (cs : List (Option Command)) (l : List ℕ) (e : cs ≡ completes p.held b) (f : l ≡ holds 41 p.held b) where
  fed-one : fed (b ∷ []) p ≡ record { store = leaves cs p.store; held = l }
  unfolding fed next
  fed-one = sym (ap₂ (λ (x : List (Option Command)) (y : List ℕ). record { store = leaves x p.store; held = y }) e f)

  said-one : said (b ∷ []) p ≡ prints cs p.store
  unfolding said
  said-one = append-nil (prints (completes p.held b) p.store) ∙ ap (λ (x : List (Option Command)). prints x p.store) (sym e)

-- one byte, from what is gathered
module _ (p : Standing) (s line line' out : List ℕ) (b : ℕ) (g : Gathered) (long : length line ≡ 41) (w : Gathers line p.held b g line') where
  held-is : take (held_length g) line' ≡ holds 41 (take p.held line) b
  held-is = w.held ∙ ap (λ (k : ℕ). holds k (take p.held line) b) long

  pub byte_more : {k : ℕ} → g ≡ More k
      → Feeds (b ∷ []) (stand p s line) p.said out (stand (record { used = p.used; held = k; said = p.said }) s line') p.said out
  unfolding leaves prints replies concat
  byte_more {k} e =
      let told : [] ≡ completes (take p.held line) b = sym (ap whole_commands e) ∙ w.told in
      let held : take k line' ≡ holds 41 (take p.held line) b = ap (λ (x : Gathered). take (held_length x) line') (sym e) ∙ held-is in
      record {
        state = sym (fed-one b (stand p s line) [] (take k line') told held);
        text =
            sym (append-nil (take p.said out))
            ∙ ap (λ (l : List ℕ). take p.said out ++ l) (sym (said-one b (stand p s line) [] (take k line') told held));
        most = omega arith;
      }

  pub byte-whole : {c : Option Command} {r : Standing} {s' out' : List ℕ} → g ≡ Whole c → Answers c p s out r s' out'
      → Feeds (b ∷ []) (stand p s line) p.said out (stand r s' line') r.said out'
  unfolding leaves
  byte-whole {c} {r} {s'} {out'} e v =
      let told : c ∷ [] ≡ completes (take p.held line) b = sym (ap whole_commands e) ∙ w.told in
      let held : [] ≡ holds 41 (take p.held line) b = ap (λ (x : Gathered). take (held_length x) line') (sym e) ∙ held-is in
      record {
        state =
            ap₂ (λ (x y : List ℕ). record { store = x; held = y }) v.store (ap (λ (k : ℕ). take k line') v.held)
            ∙ sym (fed-one b (stand p s line) (c ∷ []) [] told held);
        text =
            v.said
            ∙ ap (λ (l : List ℕ). take p.said out ++ l)
            (sym (prints-one c (take p.used s)) ∙ sym (said-one b (stand p s line) (c ∷ []) [] told held));
        most = omega (arith, v.most);
      }

-- a turn of the loop over a chunk
pub feeds-turn : (chunk : List ℕ) (i : ℕ) {p q r : State} {k m n : ℕ} {out mid fin : List ℕ} → i < length chunk
    → Feeds (take i chunk) p k out q m mid → Feeds (get_or chunk i 0 ∷ []) q m mid r n fin → Feeds (take (i + 1) chunk) p k out r n fin
feeds-turn chunk i {p} {q} {r} {k} {m} {n} {out} {mid} {fin} h v w =
    let xs = take i chunk in
    let ys = get_or chunk i 0 ∷ [] in
    rw (add-one, take-suc chunk i 0) (record {
      state = w.state ∙ ap (fed ys) v.state ∙ sym (fed-append xs ys p);
      text =
          w.text ∙ ap₂ (λ (l : List ℕ) (z : State). l ++ said ys z) v.text v.state
          ∙ append_assoc (take k out) (said xs p) (said ys (fed xs p))
          ∙ ap (λ (l : List ℕ). take k out ++ l) (sym (said-append xs ys p));
      most = omega (arith, v.most, w.most, length-append xs ys);
    })

-- the input's end
module _ (p : Standing) (s line : List ℕ) (g : Option (Option Command)) (w : last_commands g ≡ ends (take p.held line)) where
  last-is : (cs : List (Option Command)) → last_commands g ≡ cs → prints cs (take p.used s) ≡ last (stand p s line)
  last-is cs e = ap (λ (x : List (Option Command)). prints x (take p.used s)) (sym e ∙ w)

  pub close-none : (out : List ℕ) → g ≡ None → Closes (stand p s line) 0 out
  unfolding prints replies concat
  close-none out e = record { text = last-is [] (ap last_commands e); most = omega arith }

  pub close-whole : {c : Option Command} {r : Standing} {s' out out' : List ℕ} → g ≡ Some c
      → Answers c (record { used = p.used; held = 0; said = 0 }) s out r s' out' → Closes (stand p s line) r.said out'
  close-whole {c} e v = record {
    text = v.said ∙ sym (prints-one c (take p.used s)) ∙ last-is (c ∷ []) (ap last_commands e);
    most = v.most;
  }
