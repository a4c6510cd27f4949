-- A session prints the same byte by byte, chunk by chunk and line by line. Assumes nothing.
use mathlib.Core.Path.{◌≡◌, refl, sym, ap, ap₂, ◌∙◌}
use mathlib.Core.List.{List, [], ◌∷◌, ◌++◌, append_assoc}
use Prim.Native.Nat.{ℕ}
use native.Mathlib.Omega.{arith}
use lib.ListN.{take}
use Rattle.std.specs.Prelude.{Option}
use Rattle.lists.specs.Lists.{concat}
use Rattle.session_input.specs.Lines.{holds, completes, gathered}
use Rattle.session_print.specs.Printed.{printed}
use Rattle.session.specs.declared.line.Command.{Command}
use Rattle.session_input.proofs.GatherLaws.{one-for-each-line}
use Rattle.replies.specs.Session.{turn, replies, output}
use Rattle.replies.specs.PlainSession.{plain_output}
use Rattle.replies.proofs.SessionLaws.{session-is-plain}
use Rattle.dialogue.specs.Dialogue.{State, start, prints, leaves, next, fed, said, last}
use Rattle.dialogue.specs.Feed.{Closes, Feeds, Loops, at-end, reads}

-- commands in two parts
prints-append : (cs ds : List (Option Command)) (s : List ℕ) → prints (cs ++ ds) s ≡ prints cs s ++ prints ds (leaves cs s)
unfolding prints leaves replies concat
prints-append [] ds s = refl
prints-append (c ∷ cs) ds s =
    let t = turn c s in
    ap (λ (l : List ℕ). printed t.reply ++ l) (prints-append cs ds t.store)
    ∙ sym (append_assoc (printed t.reply) (prints cs t.store) (prints ds (leaves cs t.store)))

-- bytes in two parts
pub fed-append : (xs ys : List ℕ) (p : State) → fed (xs ++ ys) p ≡ fed ys (fed xs p)
unfolding fed
fed-append [] ys p = refl
fed-append (x ∷ xs) ys p = fed-append xs ys (next x p)

pub said-append : (xs ys : List ℕ) (p : State) → said (xs ++ ys) p ≡ said xs p ++ said ys (fed xs p)
unfolding fed said
said-append [] ys p = refl
said-append (x ∷ xs) ys p =
    let t = prints (completes p.held x) p.store in
    ap (λ (l : List ℕ). t ++ l) (said-append xs ys (next x p))
    ∙ sym (append_assoc t (said xs (next x p)) (said ys (fed xs (next x p))))

-- the commands are those that are gathered
to_the_end : (input : List ℕ) (p : State) → said input p ++ last (fed input p) ≡ prints (gathered 41 p.held input) p.store
unfolding fed said next gathered
to_the_end [] p = refl
to_the_end (b ∷ bs) p =
    let cs = completes p.held b in
    let t = prints cs p.store in
    append_assoc t (said bs (next b p)) (last (fed bs (next b p)))
    ∙ ap (λ (l : List ℕ). t ++ l) (to_the_end bs (next b p))
    ∙ sym (prints-append cs (gathered 41 (holds 41 p.held b) bs) p.store)

-- Byte by byte, a session prints what its lines print
pub byte-by-byte : (input : List ℕ) → said input start ++ last (fed input start) ≡ output input
unfolding output prints
byte-by-byte input = to_the_end input start ∙ ap (λ (cs : List (Option Command)). prints cs []) (one-for-each-line 41 input (omega arith))

-- a loop that hands a chunk to `feed` once and goes on where that left off is one of `Loops`, and so is one that ends
pub loop-goes-on : {p q : State} {chunk : List ℕ} {n : ℕ} {before out : List ℕ} {chunks : List (List ℕ)} {rest : List ℕ}
    → Feeds chunk p 0 before q n out → Loops q chunks rest → Loops p (chunk ∷ chunks) (take n out ++ rest)
loop-goes-on w r = reads w r

pub loop-ends : {p : State} {n : ℕ} {out : List ℕ} → Closes p n out → Loops p [] (take n out)
loop-ends w = at-end w

-- what is left to write is what the bytes that are left print
loops-said : {p : State} {chunks : List (List ℕ)} {text : List ℕ} → Loops p chunks text
    → text ≡ said (concat chunks) p ++ last (fed (concat chunks) p)
unfolding concat fed said
loops-said (at-end w) = w.text
loops-said {p} (reads {q = q} {chunk} {chunks = chunks} {rest} w r) =
    let xs = concat chunks in
    ap₂ ◌++◌ w.text (loops-said r)
    ∙ ap (λ (z : State). said chunk p ++ (said xs z ++ last (fed xs z))) w.state
    ∙ sym (append_assoc (said chunk p) (said xs (fed chunk p)) (last (fed xs (fed chunk p))))
    ∙ sym (ap₂ (λ (l : List ℕ) (z : State). l ++ last z) (said-append chunk xs p) (fed-append chunk xs p))

-- However the input is cut into chunks, the loop writes what the session prints
pub loops-output : {chunks : List (List ℕ)} {text : List ℕ} → Loops start chunks text → text ≡ output (concat chunks)
loops-output {chunks} r = loops-said r ∙ byte-by-byte (concat chunks)

-- and that is what the plain list answers to its lines
pub loops-plain : {chunks : List (List ℕ)} {text : List ℕ} → Loops start chunks text → text ≡ plain_output (concat chunks)
loops-plain {chunks} r = loops-output r ∙ session-is-plain (concat chunks)
