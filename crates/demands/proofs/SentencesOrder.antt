-- The order of cells, sentence by sentence: that of a fresh store's, and what an accepted change gives back and takes, of a store after any
-- list of calls. The laws of changes take what they say from `HourInOrder`, which is of append and set, and from `CellsInOrder`, which is of
-- every change. Assumes nothing.
use mathlib.Core.Bool.{Bool, true, false}
use mathlib.Core.List.{List, [], ◌∷◌, ◌++◌}
use mathlib.Core.Path.{◌≡◌, refl, sym, subst, ap, ap₂, ◌∙◌}
use Prim.Native.Nat.{ℕ, zero, suc, ◌+◌, ◌-◌, ◌*◌, ◌/◌, ◌≤◌, ◌<◌}
use native.Mathlib.Omega.{arith}
use lib.ListN.{length, get_or, drop, length-append, replicate, set, take}
use lib.Seq.{get_or-append_seam, get_or-set_other, get_or-set_same, take-append_seam}
use borrow.Author.Tests.{leb-false}
use Rattle.lists.specs.Lists.{first, part, pick, tabulate}
use Rattle.lists.proofs.Occurrences.{get_d-snoc}
use Rattle.lists.proofs.Tables.{get_d_tabulate}
use Rattle.bits.specs.Numbers.{little, number_at}
use Rattle.answers.specs.Store.{changed}
use Rattle.store.specs.Call.{appended, call, fresh_call, set_at, store_end}
use Rattle.store.specs.Fitting.{Fitting}
use Rattle.store.specs.Layout.{Model, bytes_of, entry, fresh}
use Rattle.store.specs.OneCell.{chain_of, give_cell, listed, take_cell, times}
use Rattle.store.specs.Plain.{Append, Call, Outcome, Plain, Set, change, need, plain_end, refuse, step}
use Rattle.store.specs.Reading.{chain_in, page_count_of, read, read_for, spare_in}
use Rattle.store.specs.Settle.{pagewise, settled_by_cells, wanted}
use Rattle.store.specs.Sound.{Good}
use Rattle.store.proofs.CallLaws.{sound-call}
use Rattle.store.proofs.Chained.{good-chained}
use Rattle.store.proofs.FreshLaws.{fresh-good, page-none}
use Rattle.store.proofs.Holds.{holds-bytes}
use Rattle.store.proofs.Keep.{Off, need-off}
use Rattle.store.proofs.LimitLaws.{fitting-exactly}
use Rattle.store.proofs.Orders.{cells-in-order, hour-in-order}
use Rattle.store.proofs.Refusals.{one_of_two}
use Rattle.store.proofs.SoundFacts.{bytes_read, facts}
use Rattle.store.proofs.StepLaws.{Change, End, change-is, done, made, not_done, over, said, short, step_end}
use Rattle.demands.specs.Demand3.{StoreHolds, list_after, store_after}
use Rattle.demands.proofs.Demand3.{demand-3}
use Rattle.demands.proofs.Sentences3.{header-says, last-bytes}
use Rattle.demands.proofs.PageMoves.{PageMoves, chains-read, page-moves, spare-read}

-- ---- 'A fresh store has N = 0, every page entry zero, and free chain 1, 2, .., C'
fresh-bytes : (b : List ℕ) (P C : ℕ) → Fitting b P C → (fresh_call b P C).bytes ≡ bytes_of (fresh P C)
unfolding fresh_call pick
fresh-bytes b P C h = rw ((fitting-exactly b P C).0 h)

fresh-entry : (P C p : ℕ) → p < P → entry (fresh P C) p ≡ replicate 6 0
unfolding entry fresh little first
fresh-entry P C p l = rw (page-none p, get_d_tabulate {A = List ℕ} P (λ _. []) p [] l)

fresh-free : (s : List ℕ) (P C : ℕ) → read s ≡ fresh P C → spare_in s P ≡ tabulate C suc
unfolding read read_for fresh
fresh-free s P C e = sym (spare-read s P (ap (λ (z : Model). z.plain.pages) e)) ∙ ap (λ (z : Model). z.spare) e

pub fresh-has : (b : List ℕ) (P C : ℕ) → Fitting b P C
    → let s = (fresh_call b P C).bytes in
    (number_at s 12 4 ≡ 0) × ((p : ℕ) → p < P → part s (16 + 6 * p) 6 ≡ replicate 6 0) × (spare_in s P ≡ tabulate C suc)
unfolding store_end plain_end fresh
fresh-has b P C h =
    let g : Good (fresh P C) = fresh-good P C h.limits in
    let e = fresh-bytes b P C h in (
      (header-says b P C h []).2,
      λ p l. ap (λ (s : List ℕ). part s (16 + 6 * p) 6) e ∙ (holds-bytes (fresh P C) g).entries p l ∙ fresh-entry P C p l,
      fresh-free (fresh_call b P C).bytes P C (ap read e ∙ bytes_read (fresh P C) (good-chained (fresh P C) g)),
    )

-- ---- one cell, and one page after another
-- 'A page that grows takes cells from the front of the free chain, in that order, onto the end of its own'; no other chain changes
pub takes_one : (m : Model) (p c : ℕ) (free : List ℕ) → p < length m.chains → m.spare ≡ c ∷ free
    → (chain_of (take_cell p m) p ≡ chain_of m p ++ c ∷ []) × ((take_cell p m).spare ≡ free)
    × ((q : ℕ) → (q ≡ p → ⊥) → chain_of (take_cell p m) q ≡ chain_of m q)
unfolding take_cell first
takes_one m p c free l e =
    let own : List ℕ = chain_of m p ++ first m.spare ∷ [] in (
      get_or-set_same m.chains p own [] l ∙ ap (λ (z : List ℕ). chain_of m p ++ first z ∷ []) e,
      ap (drop 1) e,
      λ q ne. get_or-set_other m.chains p q own [] ne,
    )

-- 'A page that shrinks gives its last cell to the front of the free chain, then the one before it'; no other chain changes
pub gives_one : (m : Model) (p c : ℕ) (own : List ℕ) → p < length m.chains → chain_of m p ≡ own ++ c ∷ []
    → (chain_of (give_cell p m) p ≡ own) × ((give_cell p m).spare ≡ c ∷ m.spare)
    × ((q : ℕ) → (q ≡ p → ⊥) → chain_of (give_cell p m) q ≡ chain_of m q)
unfolding give_cell
gives_one m p c own l e =
    let n : length (chain_of m p) - 1 ≡ length own = omega (arith, ap length e, length-append own (c ∷ [])) in
    let left : List ℕ = take (length (chain_of m p) - 1) (chain_of m p) in (
      get_or-set_same m.chains p left [] l ∙ ap₂ take n e ∙ take-append_seam own (c ∷ []),
      ap (λ (z : ℕ). z ∷ m.spare) (ap₂ (λ (k : ℕ) (z : List ℕ). get_or z k 0) n e ∙ get_or-append_seam own c [] 0),
      λ q ne. get_or-set_other m.chains p q left [] ne,
    )

-- 'lowest page first'
pub lowest-first : (n : ℕ) (f : ℕ → Model → Model) (m : Model) → pagewise (suc n) f m ≡ pagewise n (λ p. f (suc p)) (f 0 m)
unfolding pagewise
lowest-first zero f m = refl
lowest-first (suc n) f m = ap (f (suc n)) (lowest-first n f m)

-- document 02: 'First every page that shrinks gives back cells, lowest page first; then every page that grows takes cells in the same order':
-- the chains m of P pages, where the list xs becomes ys
abbrev pub given_then_taken : Model → ℕ → List ℕ → List ℕ → Model
given_then_taken m P xs ys =
    let given = pagewise P (λ p. times (wanted xs p - wanted ys p) (give_cell p)) m in
    pagewise P (λ p. times (wanted ys p - wanted xs p) (take_cell p)) given

-- ---- an accepted change of the plain list, past a first refusal
data Accepted (L : Plain) (ys : List ℕ) (r f : ℕ) : Type 0 where
  accepted : need ys L.pages ≤ L.cells → r ≡ need ys L.pages - need L.counts L.pages
      → f ≡ need L.counts L.pages - need ys L.pages → Accepted L ys r f

change-accepted : (L : Plain) (ys : List ℕ) (r f : ℕ) {o : Outcome} → Change L ys o → o.answer ≡ changed r f → Accepted L ys r f
change-accepted L ys r f (over a) e = let z : ◌≡◌ {A = ℕ} 0 1 = cc in absurd (omega arith)
change-accepted L ys r f (short a d) e = let z : ◌≡◌ {A = ℕ} 0 1 = cc in absurd (omega arith)
change-accepted L ys r f (done a d) e = accepted d (cc) (cc)

past-refusal : (b : Bool) (k : ℕ) (L : Plain) (ys : List ℕ) (r f : ℕ) → (pick b (refuse k L) (change L ys)).answer ≡ changed r f
    → (b ≡ false) × Accepted L ys r f
unfolding pick
past-refusal true k L ys r f e = let z : ◌≡◌ {A = ℕ} 0 1 = cc in absurd (omega arith)
past-refusal false k L ys r f e = (refl, change-accepted L ys r f (change-is L ys) e)

rise : (K : Plain) (r f : ℕ) {o : Outcome} → End K o → o.answer ≡ changed r f
    → (r ≡ need o.list.counts K.pages - need K.counts K.pages) × (f ≡ need K.counts K.pages - need o.list.counts K.pages)
rise K r f (said n) a = let z : ◌≡◌ {A = ℕ} 0 1 = cc in absurd (omega arith)
rise K r f (not_done n) a = let z : ◌≡◌ {A = ℕ} 0 1 = cc in absurd (omega arith)
rise K r f (made ys ly ls ln) a = ((cc), (cc))

-- ---- after any list of calls
module _ (b : List ℕ) (P C : ℕ) (h : Fitting b P C) (cs : List Call) where
  abbrev S : List ℕ
  S = store_after b P C cs

  abbrev X : List ℕ
  X = (list_after P C cs).counts

  abbrev D : StoreHolds S P C X
  D = (demand-3.calls b P C h cs).holds

  abbrev L : Plain
  L = record { pages = P; cells = C; counts = X }

  -- the list after one more call, c
  abbrev Y : Call → List ℕ
  Y c = (list_after P C (cs ++ c ∷ [])).counts

  list-then : (c : Call) → (read (call c S).bytes).plain ≡ record { pages = P; cells = C; counts = Y c }
  list-then c =
      ap (λ (t : List ℕ). (read t).plain) (sym (last-bytes cs c (fresh_call b P C).bytes))
      ∙ (demand-3.calls b P C h (cs ++ c ∷ [])).holds.list

  pages-are : page_count_of S ≡ P
  unfolding read read_for
  pages-are = ap (λ (K : Plain). K.pages) D.list

  pages-then : (c : Call) → page_count_of (call c S).bytes ≡ P
  unfolding read read_for
  pages-then c = ap (λ (K : Plain). K.pages) (list-then c)

  answer-is : (c : Call) (r f : ℕ) → (call c S).answer ≡ changed r f → (step c L).answer ≡ changed r f
  answer-is c r f e = ap (λ (K : Plain). (step c K).answer) (sym D.list) ∙ (sound-call c S D.is-sound).answer ∙ e

  hours-fit : length X ≤ 64 * P
  hours-fit =
      let most = facts S D.is-sound in
      omega (arith, most.hours-are, most.hours-fit, pages-are, ap (λ (K : Plain). length K.counts) D.list)

  -- an accepted change leaves the list that is then said
  list-is : (c : Call) (r f : ℕ) → (call c S).answer ≡ changed r f → (step c L).list ≡ record { pages = P; cells = C; counts = Y c }
  unfolding settled_by_cells
  list-is c r f e =
      ap (λ (K : Plain). (step c K).list) (sym D.list) ∙ ap (λ (z : Model). z.plain) (sym (cells-in-order c S r f e)) ∙ list-then c

  -- page p of the one hour that becomes another, where the list then is ys
  hour-moves : (c : Call) (i r f : ℕ) (ys zs : List ℕ) → (call c S).answer ≡ changed r f → Off X ys i → i < 64 * P → Accepted L ys r f
      → read (call c S).bytes ≡ listed zs (times r (take_cell (i / 64)) (times f (give_cell (i / 64)) (read S)))
      → PageMoves S (call c S).bytes P (i / 64) r f
  hour-moves c i r f ys zs e o li (accepted fits er ef) q =
      let lp : i / 64 < P = omega arith in
      let both = need-off X ys i P o lp in
      page-moves S (call c S).bytes P (i / 64) r f zs pages-are (pages-then c) lp q (one_of_two c S r f e)
      (omega (arith, D.free-cells, D.need-fits)) (omega (arith, both, D.page-cells (i / 64) lp))

  -- an append changes the chain of hour N's page, and the free chain; a set that of its hour's
  pub append-moves : (v r f : ℕ) → (call (Append v) S).answer ≡ changed r f → PageMoves S (call (Append v) S).bytes P (length X / 64) r f
  unfolding step
  append-moves v r f e =
      let w = past-refusal _ 11 L (X ++ v ∷ []) r f (answer-is (Append v) r f e) in
      let n : length (read S).plain.counts ≡ length X = ap (λ (K : Plain). length K.counts) D.list in
      let zs : List ℕ = (step (Append v) (read S).plain).list.counts in
      hour-moves (Append v) (length X) r f (X ++ v ∷ []) zs e (get_d-snoc X v) (leb-false _ _ w.0) w.1
      (hour-in-order (Append v) S (length (read S).plain.counts) r f (appended v (read S).plain) e
      ∙ ap (λ (i : ℕ). listed zs (times r (take_cell (i / 64)) (times f (give_cell (i / 64)) (read S)))) n)

  pub set-moves : (i v r f : ℕ) → (call (Set i v) S).answer ≡ changed r f → PageMoves S (call (Set i v) S).bytes P (i / 64) r f
  unfolding step
  set-moves i v r f e =
      let w = past-refusal _ 7 L (set X i v) r f (answer-is (Set i v) r f e) in
      let inside : i < length X = leb-false _ _ w.0 in
      hour-moves (Set i v) i r f (set X i v) (step (Set i v) (read S).plain).list.counts e (λ j ne. get_or-set_other X i j v 0 ne)
      (omega (arith, hours-fit)) w.1 (hour-in-order (Set i v) S i r f (set_at i v (read S).plain) e)

  -- any change, insert and strike among them: document 02's order, page by page and cell by cell
  pub change-moves : (c : Call) (r f : ℕ) → (call c S).answer ≡ changed r f
      → let M = given_then_taken (read S) P X (Y c) in
      (tabulate P (chain_in (call c S).bytes P) ≡ M.chains) × (spare_in (call c S).bytes P ≡ M.spare)
  unfolding settled_by_cells
  change-moves c r f e =
      let T : List ℕ = (call c S).bytes in
      let q = cells-in-order c S r f e in
      let k =
      ap (λ (K : Plain). given_then_taken (read S) K.pages K.counts (step c K).list.counts) D.list
      ∙ ap (λ (K : Plain). given_then_taken (read S) P X K.counts) (list-is c r f e) in (
        sym (chains-read T P (pages-then c)) ∙ ap (λ (z : Model). z.chains) q ∙ ap (λ (z : Model). z.chains) k,
        sym (spare-read T P (pages-then c)) ∙ ap (λ (z : Model). z.spare) q ∙ ap (λ (z : Model). z.spare) k,
      )

  -- 'An accepted append or set returns how many cells it took and gave back: the rise and the fall of the need'; insert and strike 'the rise
  -- and the fall of the whole need'
  pub rise-and-fall : (c : Call) (r f : ℕ) → (call c S).answer ≡ changed r f → (r ≡ need (Y c) P - need X P) × (f ≡ need X P - need (Y c) P)
  rise-and-fall c r f e =
      subst (λ (K : Plain). (r ≡ need K.counts P - need X P) × (f ≡ need X P - need K.counts P)) (list-is c r f e)
      (rise L r f (step_end c L hours-fit) (answer-is c r f e))
