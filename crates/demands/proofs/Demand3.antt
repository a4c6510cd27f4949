-- Demand 3, proved: any list of calls on a fresh store, and any run of the exports. Assumes nothing.
use mathlib.Core.Path.{◌≡◌, refl, sym, ap, ◌∙◌, subst}
use mathlib.Core.Logic.{◌↔◌}
use mathlib.Core.Bool.{Bool, true, false}
use mathlib.Core.List.{List, [], ◌∷◌, ◌++◌}
use Prim.Native.Nat.{ℕ, suc, ◌-◌, ◌*◌, ◌≤◌, ◌<◌}
use native.Mathlib.Omega.{arith}
use native.Mathlib.Decide.{dec_le}
use lib.ListN.{length, get_or, take, set, get_or-eq_default}
use borrow.Author.Tests.{le-ltb, lt-leb}
use Rattle.lists.specs.Lists.{pick, sum}
use Rattle.store.specs.Fitting.{Fitting}
use Rattle.store.specs.Limits.{Limits, max_total}
use Rattle.store.specs.Call.{Result, call, fresh_call, store_answers, store_end}
use Rattle.store.specs.Layout.{Model, bytes_of, fresh}
use Rattle.store.specs.Plain.{Append, Call, Count, Day, Free, Insert, Outcome, Plain, Reach, Reading, Set, Strike}
use Rattle.answers.specs.Store.{Answer, answered, refused}
use Rattle.store.specs.Plain.{inserted, need, plain_answers, plain_end, plain_fresh, refuse, step, struck, tell}
use Rattle.store.specs.Reading.{read}
use Rattle.store.specs.Sound.{Good, sound}
use Rattle.store.proofs.ChainLaws.{Says, says}
use Rattle.store.proofs.LimitLaws.{fitting-exactly}
use Rattle.store.proofs.FreshLaws.{fresh-good}
use Rattle.store.proofs.Inserting.{sum-struck}
use Rattle.store.proofs.ItemLaws.{sound-items}
use Rattle.store.proofs.Unchanged.{kept_at}
use Rattle.store.proofs.Whole.{answer_at, change-never, change-when, end-cells, end-pages, ends, length-answers}
use Rattle.hourlog_c.specs.Public.{Fresh}
use Rattle.words.specs.End.{end_of_store}
use Rattle.words.specs.Words.{word_of}
use Rattle.hourlog_c.specs.Export.{Answers}
use Rattle.demands.proofs.Slices.{same-slice}
use Rattle.demands.specs.Demand3.{Demand3, HoldsAfter, HoldsInWords, Passes, Run, StoreHolds, nth_answer, appends, goes_on, inserts, list_after, over, sets, store_after, strikes, words_of}

-- ---- the same of calls
pick-never : (b : Bool) (k : ℕ) (L : Plain) (o : Outcome) → (k ≡ 12 → ⊥) → (o.answer ≡ refused 12 → ⊥) → (pick b (refuse k L) o).answer ≡ refused 12
    → ⊥
unfolding pick
pick-never true k L o ne h e = ne (let z : k ≡ 12 = cc in z)
pick-never false k L o ne h e = h e

tell-never : (n : ℕ) (L : Plain) → (tell n L).answer ≡ refused 12 → ⊥
tell-never n L e = let z : ◌≡◌ {A = ℕ} 0 1 = cc in omega arith

step-never : (c : Call) (L : Plain) → 8 * L.pages ≤ L.cells → (step c L).answer ≡ refused 12 → ⊥
unfolding step
step-never (Append v) L h = pick-never _ 11 L _ (λ e. omega arith) (change-never L _ h)
step-never (Set i v) L h = pick-never _ 7 L _ (λ e. omega arith) (change-never L _ h)
step-never (Insert i v) L h = pick-never _ 7 L _ (λ e. omega arith) (pick-never _ 11 L _ (λ e. omega arith) (change-never L _ h))
step-never (Strike i) L h = pick-never _ 7 L _ (λ e. omega arith) (change-never L _ h)
step-never (Count i) L h = pick-never _ 7 L _ (λ e. omega arith) (tell-never _ L)
step-never (Reading i) L h = pick-never _ 7 L _ (λ e. omega arith) (tell-never _ L)
step-never (Reach p) L h = pick-never _ 8 L _ (λ e. omega arith) (tell-never _ L)
step-never (Day d cs) L h = pick-never _ 16 L _ (λ e. omega arith) (pick-never _ 7 L _ (λ e. omega arith) (tell-never _ L))
step-never Free L h = tell-never _ L

step-when : (c : Call) (L : Plain) (ys : List ℕ) → sum L.counts ≤ max_total → Passes c L ys
    → ((step c L).answer ≡ refused 12) ↔ (L.cells < need ys L.pages)
unfolding step pick
step-when c L ys f (appends v M a t) = rw (lt-leb (64 * L.pages) (length L.counts) a) (change-when L (L.counts ++ v ∷ []) t)
step-when c L ys f (sets i v M a t) = rw (lt-leb (length L.counts) i a) (change-when L (set L.counts i v) t)
step-when c L ys f (inserts i v M a b t) =
    rw (le-ltb (length L.counts) i a, lt-leb (64 * L.pages) (length L.counts) b) (change-when L (inserted L.counts i v) t)
step-when c L ys f (strikes i M a) =
    rw (lt-leb (length L.counts) i a) (change-when L (struck L.counts i) (omega (arith, f, sum-struck L.counts i)))

-- ---- what is said of one store, said of another name for it
carry : {s t : List ℕ} {P P' C C' : ℕ} {xs xs' : List ℕ} → s ≡ t → P ≡ P' → C ≡ C' → xs ≡ xs' → Says t P C xs → Says s P' C' xs'
carry a p c x h = rw (a, ← p, ← c, ← x) h

free-said : (s : List ℕ) (L : Plain) (P C : ℕ) → sound s ≡ true → (read s).plain ≡ L → L.pages ≡ P → L.cells ≡ C
    → (call Free s).answer ≡ answered (C - need L.counts P)
unfolding call step pick
free-said s L P C e l p c = rw (e, l, p, c)

when-said : (a : Answer) (c : Call) (L : Plain) (P C : ℕ) (ys : List ℕ) → a ≡ (step c L).answer → L.pages ≡ P → L.cells ≡ C
    → sum L.counts ≤ max_total → Passes c L ys → (a ≡ refused 12) ↔ (C < need ys P)
when-said a c L P C ys e p q f h = rw (e, ← p, ← q) (step-when c L ys f h)

never-said : (a : Answer) (c : Call) (L : Plain) (P C : ℕ) → a ≡ (step c L).answer → L.pages ≡ P → L.cells ≡ C → 8 * P ≤ C → a ≡ refused 12 → ⊥
never-said a c L P C e p q h r = step-never c L (omega arith) (sym e ∙ r)

-- the plain list's total fits, whatever it was fed
total-fits : (P C : ℕ) → Limits P C → (cs : List Call) → sum (list_after P C cs).counts ≤ max_total
unfolding fresh
total-fits P C l cs =
    let w = ends cs (fresh P C) (fresh-good P C l) in
    subst (λ (L : Plain). sum L.counts ≤ max_total) w.3 w.1.total

-- ---- demand 3
module _ (b : List ℕ) (P C : ℕ) (h : Fitting b P C) (cs : List Call) where
  started : fresh_call b P C ≡ record { answer = answered 0; bytes = bytes_of (fresh P C) }
  unfolding fresh_call pick
  started = rw ((fitting-exactly b P C).0 h)

  start : (fresh_call b P C).bytes ≡ bytes_of (fresh P C)
  start = ap (λ (z : Result). z.bytes) started

  begun : (fresh P C).plain ≡ plain_fresh P C
  unfolding fresh
  begun = refl

  ended : (m : Model) × Good m × (store_after b P C cs ≡ bytes_of m) × (m.plain ≡ list_after P C cs)
      × (store_answers cs (fresh_call b P C).bytes ≡ plain_answers cs (plain_fresh P C))
  ended =
      let w = ends cs (fresh P C) (fresh-good P C h.limits) in
      (w.0, w.1, ap (store_end cs) start ∙ w.2, w.3 ∙ ap (plain_end cs) begun, ap (store_answers cs) start ∙ w.4 ∙ ap (plain_answers cs) begun)

  pages-kept : (list_after P C cs).pages ≡ P
  pages-kept = end-pages cs (plain_fresh P C)

  cells-kept : (list_after P C cs).cells ≡ C
  cells-kept = end-cells cs (plain_fresh P C)

  said : Says (store_after b P C cs) P C (list_after P C cs).counts
  said =
      let w = ended in
      carry w.2 (ap (λ (z : Plain). z.pages) w.3 ∙ pages-kept) (ap (λ (z : Plain). z.cells) w.3
      ∙ cells-kept) (ap (λ (z : Plain). z.counts) w.3) (says w.0 w.1)

  answer-is : (n : ℕ) → n < length cs → nth_answer b P C cs n ≡ (step (get_or cs n Free) (list_after P C (take n cs))).answer
  answer-is n l = ap (λ (z : List Answer). get_or z n (answered 0)) ended.4 ∙ answer_at cs (plain_fresh P C) n l

  pages-then : (n : ℕ) → (list_after P C (take n cs)).pages ≡ P
  pages-then n = end-pages (take n cs) (plain_fresh P C)

  cells-then : (n : ℕ) → (list_after P C (take n cs)).cells ≡ C
  cells-then n = end-cells (take n cs) (plain_fresh P C)

  never : 8 * P ≤ C → (n : ℕ) → Dec (suc n ≤ length cs) → nth_answer b P C cs n ≡ refused 12 → ⊥
  never k n (yes l) e = never-said (nth_answer b P C cs n) (get_or cs n Free) (list_after P C (take n cs)) P C (answer-is n l) (pages-then n)
      (cells-then n) k e
  never k n (no l) e =
      let d : nth_answer b P C cs n ≡ answered 0 =
      get_or-eq_default (store_answers cs (fresh_call b P C).bytes) (answered 0)
      (omega (arith, ap (λ (z : List Answer). length z) ended.4, length-answers cs (plain_fresh P C))) in
      let z : ◌≡◌ {A = ℕ} 0 1 = cc in omega arith

  store-holds : StoreHolds (store_after b P C cs) P C (list_after P C cs).counts
  store-holds =
      let w = said in
      record {
        is-sound = w.is-sound;
        items = sound-items (store_after b P C cs) w.is-sound;
        long = w.long;
        list = w.list;
        page-sum = w.page-sum;
        page-cells = w.page-cells;
        page-ends = w.page-ends;
        free-cells = omega (arith, w.free-cells);
        free-ends = w.free-ends;
        once = w.once;
        need-fits = omega (arith, w.free-cells);
        free = free-said (store_after b P C cs) (record { pages = P; cells = C; counts = (list_after P C cs).counts }) P C w.is-sound w.list refl refl;
      }

  holds : HoldsAfter b P C cs
  holds = record {
    accepted = ap (λ (z : Result). z.answer) started;
    answers = ended.4;
    holds = store-holds;
    when-12 = λ n l ys a. when-said (nth_answer b P C cs n) (get_or cs n Free) (list_after P C (take n cs)) P C ys (answer-is n l) (pages-then n)
        (cells-then n) (total-fits P C h.limits (take n cs)) a;
    never-12 = λ e n. never (omega (arith, e)) n (dec_le (suc n) (length cs));
    kept = kept_at cs (fresh_call b P C).bytes;
  }

-- ---- a run of the exports
run-words : (cs : List Call) (s ws t : List ℕ) → Run cs s ws t → ws ≡ words_of (store_answers cs s)
unfolding store_answers words_of
run-words cs s ws t (over u) = refl
run-words cs s ws t (goes_on c cs' s' u t' w ws' d r) =
    let h = run-words cs' u ws' t r in
    let e : u ≡ (call c s).bytes = same-slice d.ends.1 in
    ap (λ (z : ℕ). z ∷ ws') (d.word ∙ ap word_of d.ends.0)
    ∙ ap (λ (z : List ℕ). word_of (end_of_store (call c s).answer) ∷ z) (h ∙ ap (λ (z : List ℕ). words_of (store_answers cs' z)) e)

run_end : (cs : List Call) (s ws t : List ℕ) → Run cs s ws t → t ≡ store_end cs s
unfolding store_end
run_end cs s ws t (over u) = refl
run_end cs s ws t (goes_on c cs' s' u t' w ws' d r) = run_end cs' u ws' t r ∙ ap (store_end cs') (same-slice d.ends.1)

module _ (b : List ℕ) (P C : ℕ) (h : Fitting b P C) (w : ℕ) (s : List ℕ) (f : Answers (Fresh b P C) w (s ∷ [])) where
  in_words : (cs : List Call) (ws t : List ℕ) → Run cs s ws t → HoldsInWords P C cs w ws t
  unfolding end_of_store word_of
  in_words cs ws t r =
      let D = holds b P C h cs in
      let e : s ≡ (fresh_call b P C).bytes = same-slice f.ends.1 in
      let end : t ≡ store_after b P C cs = run_end cs s ws t r ∙ ap (store_end cs) e in
      record {
        ok = f.word ∙ ap word_of f.ends.0 ∙ ap (λ (a : Answer). word_of (end_of_store a)) D.accepted;
        words = run-words cs s ws t r ∙ ap (λ (z : List ℕ). words_of (store_answers cs z)) e ∙ ap words_of D.answers;
        holds = subst (λ (z : List ℕ). StoreHolds z P C (list_after P C cs).counts) (sym end) D.holds;
      }

pub demand-3 : Demand3
demand-3 = record { calls = holds; exports = in_words }
