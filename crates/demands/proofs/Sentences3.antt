-- What demand 3 says, sentence by sentence, of a store after any list of calls; what it says of cells and chains is in SentencesCells beside
-- this. Each law takes what it says from `demand-3`; a claim that says less fails here. Assumes nothing.
use mathlib.Core.Path.{◌≡◌, refl, sym, ap, ◌∙◌, subst}
use mathlib.Core.Logic.{◌↔◌}
use mathlib.Core.List.{List, [], ◌∷◌, ◌++◌}
use Prim.Native.Nat.{ℕ, suc, ◌+◌, ◌-◌, ◌*◌, ◌^◌, ◌≤◌, ◌<◌}
use native.Mathlib.Omega.{arith}
use lib.ListN.{length, get_or, length-append, set, take}
use lib.Seq.{get_or-append_seam, take_all, take-append_seam}
use borrow.Author.Tests.{le-ltb}
use Rattle.lists.specs.Lists.{pick, sum}
use Rattle.bits.specs.Numbers.{number_at}
use Rattle.store.specs.Fitting.{Fitting}
use Rattle.store.specs.Call.{call, fresh_call, store_answers, store_end}
use Rattle.store.specs.Plain.{Append, Call, Free, Insert, Plain, Reading, Set, Strike, inserted, need, next, plain_answers, plain_fresh, step, struck}
use Rattle.answers.specs.Store.{Answer, answered, changed, refused}
use Rattle.store.specs.Reading.{read, read_for}
use Rattle.store.proofs.CallLaws.{sound-call}
use Rattle.store.proofs.Examples.{session, session-answers}
use Rattle.store.proofs.InsertLaws.{insert-end-bytes, strike-inserted}
use Rattle.store.proofs.SoundFacts.{facts}
use Rattle.store.proofs.Whole.{end-pages}
use Rattle.hourlog_c.specs.Public.{Fresh, Live, beside}
use Rattle.hourlog_c.proofs.Exports.{fresh-answers, live-answers}
use Rattle.words.specs.End.{end_of_store}
use Rattle.words.specs.Words.{minus, pair, word_of}
use Rattle.hourlog_c.specs.Export.{Answers}
use Rattle.demands.specs.Demand3.{HoldsInWords, Passes, Run, StoreHolds, appends, goes_on, inserts, list_after, over, sets}
use Rattle.demands.specs.Demand3.{store_after, strikes, words_of}
use Rattle.demands.proofs.Demand3.{demand-3}
use Rattle.demands.proofs.StoreBytes.{call-bytes, sound-bytes}

-- ---- one more call behind a list of them
last-answer : (cs : List Call) (c : Call) (s : List ℕ) → get_or (store_answers (cs ++ c ∷ []) s) (length cs) (answered 0) ≡ (call c (store_end cs s)).answer
unfolding store_answers store_end
last-answer [] c s = refl
last-answer (d ∷ cs) c s = last-answer cs c (call d s).bytes

pub last-bytes : (cs : List Call) (c : Call) (s : List ℕ) → store_end (cs ++ c ∷ []) s ≡ (call c (store_end cs s)).bytes
unfolding store_end
last-bytes [] c s = refl
last-bytes (d ∷ cs) c s = last-bytes cs c (call d s).bytes

-- ---- fresh: 'pages P from 1 to 1,024; cells C from 1 to 1,800', 'Length is 16 + 6P + 32C bytes exactly'
pub fresh-accepted : (b : List ℕ) (P C : ℕ) → 1 ≤ P → P ≤ 1024 → 1 ≤ C → C ≤ 1800 → length b ≡ 16 + 6 * P + 32 * C
    → (fresh_call b P C).answer ≡ answered 0
fresh-accepted b P C pl ph cl ch l =
    (demand-3.calls b P C (record { limits = record { pages-low = pl; pages-high = ph; cells_low = cl; cells-high = ch }; long = l }) []).accepted

-- ---- after any list of calls
module _ (b : List ℕ) (P C : ℕ) (h : Fitting b P C) (cs : List Call) where
  abbrev S : List ℕ
  S = store_after b P C cs

  abbrev X : List ℕ
  X = (list_after P C cs).counts

  abbrev D : StoreHolds S P C X
  D = (demand-3.calls b P C h cs).holds

  -- 'Length is 16 + 6P + 32C bytes exactly'
  pub as_long : length S ≡ 16 + 6 * P + 32 * C
  as_long = D.long

  -- '2-3 P, 4-5 C', those 'that fresh was given', '12-15 N (hours logged)': 'N is the list's length'
  pub header-says : (number_at S 2 2 ≡ P) × (number_at S 4 2 ≡ C) × (number_at S 12 4 ≡ length X)
  unfolding read read_for
  header-says = (
    ap (λ (L : Plain). L.pages) D.list,
    ap (λ (L : Plain). L.cells) D.list,
    (facts S D.is-sound).hours-are ∙ ap (λ (L : Plain). length L.counts) D.list,
  )

  -- 'free: C - need'
  pub free-and-need : (f : ℕ) × ((call Free S).answer ≡ answered f) × (f + need X P ≡ C)
  free-and-need = (C - need X P, D.free, omega (arith, D.need-fits))

  -- each answer is the plain list's, of any list of calls
  pub answers-are-plain : store_answers cs (fresh_call b P C).bytes ≡ plain_answers cs (plain_fresh P C)
  answers-are-plain = (demand-3.calls b P C h cs).answers

  -- 'one claim about the whole list of calls, not one for each call': whichever of them is call n
  pub any-12 : (n : ℕ) → n < length cs → (ys : List ℕ) → Passes (get_or cs n Free) (list_after P C (take n cs)) ys
      → (get_or (store_answers cs (fresh_call b P C).bytes) n (answered 0) ≡ refused 12) ↔ (C < need ys P)
  any-12 = (demand-3.calls b P C h cs).when-12

  pub any-never-12 : 8 * P ≤ C → (n : ℕ) → get_or (store_answers cs (fresh_call b P C).bytes) n (answered 0) ≡ refused 12 → ⊥
  any-never-12 = (demand-3.calls b P C h cs).never-12

  pub any-refused : (n k : ℕ) → get_or (store_answers cs (fresh_call b P C).bytes) n (answered 0) ≡ refused k
      → store_after b P C (take (suc n) cs) ≡ store_after b P C (take n cs)
  any-refused = (demand-3.calls b P C h cs).kept

  -- 'append v: .. 12 if the new need is above C', and only then; 'set i v: .. 12'
  twelve : (c : Call) (ys : List ℕ) → Passes c (list_after P C cs) ys → ((call c S).answer ≡ refused 12) ↔ (C < need ys P)
  twelve c ys w =
      rw (last-answer cs c (fresh_call b P C).bytes) at
      ((demand-3.calls b P C h (cs ++ c ∷ [])).when-12 (length cs) (omega (arith, length-append cs (c ∷ []))) ys (rw (get_or-append_seam cs c [] Free, take-append_seam cs (c ∷ [])) w))

  pub append-12 : (v : ℕ) → length X < 64 * P → sum (X ++ v ∷ []) ≤ 4294967295
      → ((call (Append v) S).answer ≡ refused 12) ↔ (C < need (X ++ v ∷ []) P)
  append-12 v l t = twelve (Append v) (X ++ v ∷ []) (appends v (list_after P C cs) (omega (arith, l, end-pages cs (plain_fresh P C))) t)

  pub set-12 : (i v : ℕ) → i < length X → sum (set X i v) ≤ 4294967295 → ((call (Set i v) S).answer ≡ refused 12) ↔ (C < need (set X i v) P)
  set-12 i v l t = twelve (Set i v) (set X i v) (sets i v (list_after P C cs) l t)

  -- document 02: '12 exactly if the new list needs more than C'
  pub insert-12 : (i v : ℕ) → i ≤ length X → length X < 64 * P → sum (inserted X i v) ≤ 4294967295
      → ((call (Insert i v) S).answer ≡ refused 12) ↔ (C < need (inserted X i v) P)
  insert-12 i v a l t =
      twelve (Insert i v) (inserted X i v) (inserts i v (list_after P C cs) a (omega (arith, l, end-pages cs (plain_fresh P C))) t)

  total-fits : sum X ≤ 4294967295
  total-fits = subst (λ (L : Plain). sum L.counts ≤ 4294967295) D.list (facts S D.is-sound).total-fits

  pub strike-12 : (i : ℕ) → i < length X → ((call (Strike i) S).answer ≡ refused 12) ↔ (C < need (struck X i) P)
  strike-12 i l = twelve (Strike i) (struck X i) (strikes i (list_after P C cs) l)

  -- an insert at N is an append, its bytes too
  pub insert-at-end : (v : ℕ) → call (Insert (length X) v) S ≡ call (Append v) S
  insert-at-end v = ap (λ (n : ℕ). call (Insert n v) S) (ap (λ (L : Plain). length L.counts) (sym D.list)) ∙ insert-end-bytes v S

  -- an hour that is inserted and struck again leaves the list that was there, and answers the cells the other way round
  pub inserted-struck : (i v r f : ℕ) → (step (Insert i v) (record { pages = P; cells = C; counts = X })).answer ≡ changed r f
      → step (Strike i) (next (Insert i v) (record { pages = P; cells = C; counts = X }))
      ≡ record { answer = changed f r; list = record { pages = P; cells = C; counts = X } }
  inserted-struck i v r f = strike-inserted (record { pages = P; cells = C; counts = X }) i v r f total-fits D.need-fits

  -- 'never with eight cells a page'
  pub eight-suffice : 8 * P ≤ C → (c : Call) → (call c S).answer ≡ refused 12 → ⊥
  eight-suffice e c q =
      (demand-3.calls b P C h (cs ++ c ∷ [])).never-12 e (length cs) (last-answer cs c (fresh_call b P C).bytes ∙ q)

  -- 'a refused call changes nothing'
  pub refused-changes-nothing : (c : Call) (k : ℕ) → (call c S).answer ≡ refused k → (call c S).bytes ≡ S
  refused-changes-nothing c k q =
      sym (last-bytes cs c (fresh_call b P C).bytes)
      ∙ ap (store_after b P C) (sym (take_all (suc (length cs)) (cs ++ c ∷ []) (omega (arith, length-append cs (c ∷ [])))))
      ∙ (demand-3.calls b P C h (cs ++ c ∷ [])).kept (length cs) k (last-answer cs c (fresh_call b P C).bytes ∙ q)
      ∙ ap (store_after b P C) (take-append_seam cs (c ∷ []))

-- ---- 'Input `n 1 2`, `a 122`, `f`, `s 0 123`, .. prints `ok`, `ok`, `1`, `ok`, ..'
printed-fits : (b : List ℕ) → length b ≡ 86 → Fitting b 1 2
printed-fits b l = record { limits = record { pages-low = omega arith; pages-high = omega arith; cells_low = omega arith; cells-high = omega arith }; long = omega (arith, l) }

-- in C's words: the cells taken, with 2^16 times those given back; numbers; and minus a refusal's
abbrev printed : List ℕ
printed = 1 ∷ 1 ∷ 1 ∷ 0 ∷ 0 ∷ 128 ∷ 2 ∷ (2 ^ 64 - 8) ∷ (2 ^ 64 - 3) ∷ (2 ^ 64 - 12) ∷ []

printed-words : words_of (plain_answers session (plain_fresh 1 2)) ≡ printed
unfolding words_of word_of end_of_store pair minus
printed-words = ap words_of session-answers

-- the calls on any buffer of 86 bytes answer so
pub session-on-bytes : (b : List ℕ) → length b ≡ 86 → words_of (store_answers session (fresh_call b 1 2).bytes) ≡ printed
session-on-bytes b l = ap words_of (demand-3.calls b 1 2 (printed-fits b l) session).answers ∙ printed-words

-- and so do the exports, one after another
pub session-in-words : (b s ws t : List ℕ) (w : ℕ) → length b ≡ 86 → Answers (Fresh b 1 2) w (s ∷ []) → Run session s ws t → (w ≡ 0) × (ws ≡ printed)
session-in-words b s ws t w l f r =
    let E = demand-3.exports b 1 2 (printed-fits b l) w s f session ws t r in
    (E.ok, E.words ∙ printed-words)

-- ---- runs of the exports
-- a run goes on with whatever an export answers on the bytes that it left
pub run-goes-on : (cs : List Call) (s ws t : List ℕ) → Run cs s ws t → (c : Call) (w : ℕ) (u : List ℕ) → Answers (Live c t) w (u ∷ beside c)
    → Run (cs ++ c ∷ []) s (ws ++ w ∷ []) u
run-goes-on cs s ws t (over s') c w u a = goes_on c [] t u u w [] a (over u)
run-goes-on cs s ws t (goes_on d cs' s' v t' x ws' b r) c w u a =
    goes_on d (cs' ++ c ∷ []) s v u x (ws' ++ w ∷ []) b (run-goes-on cs' v ws' t r c w u a)

-- on any bytes there is a run of every list of calls
run_of : (cs : List Call) (s : List ℕ) → ((i : ℕ) → get_or s i 0 < 256) → Run cs s (words_of (store_answers cs s)) (store_end cs s)
unfolding store_answers store_end words_of
run_of [] s h = over s
run_of (c ∷ cs) s h =
    let u : List ℕ = (call c s).bytes in
    let w : ℕ = word_of (end_of_store (call c s).answer) in
    goes_on c cs s u (store_end cs u) w (words_of (store_answers cs u))
    (live-answers c s u w (call c s).answer h refl (record { answer = refl; bytes = refl })) (run_of cs u (call-bytes c s h))

-- so on what hourlog_fresh leaves
pub there-are-runs : (b : List ℕ) (P C : ℕ) → Fitting b P C → (cs : List Call)
    → (w : ℕ) × (s : List ℕ) × (ws : List ℕ) × (t : List ℕ) × Answers (Fresh b P C) w (s ∷ []) × Run cs s ws t
unfolding store_end
there-are-runs b P C h cs =
    let s : List ℕ = (fresh_call b P C).bytes in
    let w : ℕ = word_of (end_of_store (fresh_call b P C).answer) in (
      w,
      s,
      words_of (store_answers cs s),
      store_end cs s,
      fresh-answers b s P C w (fresh_call b P C).answer refl (record { answer = refl; bytes = refl }),
      run_of cs s (sound-bytes s (demand-3.calls b P C h []).holds.is-sound),
    )

-- ---- after any run of the exports: what is asked next is answered as the plain list does
module _ (b : List ℕ) (P C : ℕ) (h : Fitting b P C) (w : ℕ) (s : List ℕ) (f : Answers (Fresh b P C) w (s ∷ []))
    (cs : List Call) (ws t : List ℕ) (r : Run cs s ws t) where
  abbrev E : HoldsInWords P C cs w ws t
  E = demand-3.exports b P C h w s f cs ws t r

  pub next_word : (c : Call) (v : ℕ) (u : List (List ℕ)) → Answers (Live c t) v u → v ≡ word_of (end_of_store (step c (record { pages = P; cells = C; counts = (list_after P C cs).counts })).answer)
  next_word c v u a =
      a.word
      ∙ ap word_of a.ends.0
      ∙ ap (λ (z : Answer). word_of (end_of_store z)) (sym (sound-call c t E.holds.is-sound).answer ∙ ap (λ (L : Plain). (step c L).answer) E.holds.list)

  -- fresh answers 0, each word is that of the plain list's answer, and the bytes are such a store as after the calls themselves
  pub words-are-plain : (w ≡ 0) × (ws ≡ words_of (plain_answers cs (plain_fresh P C)))
  words-are-plain = (E.ok, E.words)

  pub run_holds : StoreHolds t P C (list_after P C cs).counts
  run_holds = E.holds

  -- 'The reading at i is the sum of counts 0 to i-1'
  pub next-reading : (i v : ℕ) (u : List (List ℕ)) → i ≤ length (list_after P C cs).counts → Answers (Live (Reading i) t) v u
      → v ≡ sum (take i (list_after P C cs).counts)
  unfolding step pick word_of end_of_store
  next-reading i v u l a = rw (le-ltb (length (list_after P C cs).counts) i l) at (next_word (Reading i) v u a)
