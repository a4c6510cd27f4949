-- Document 02, note 10, in its own words, of the word that C gets and of what it lent: a store s and a list b, which become t and d. Which page is kept
-- is told clause by clause (`KeptPage`). Assumes nothing.
use mathlib.Core.Bool.{Bool, true, false, not, true≢false}
use mathlib.Core.List.{List, [], ◌∷◌, ◌++◌}
use mathlib.Core.Logic.{inl, inr, ◌↔◌}
use mathlib.Core.Path.{◌≡◌, refl, sym, ap, ◌∙◌, subst}
use Prim.Native.Nat.{ℕ, ◌-◌, ◌^◌, ◌≤◌, ◌<◌}
use native.Mathlib.Omega.{arith}
use lib.ListN.{length, get_or, take, drop, replicate}
use lib.Seq.{take_at, drop_at}
use Rattle.lists.specs.Lists.{occurrences}
use Rattle.lists.proofs.Tables.{get_d_tabulate}
use Rattle.answers.specs.Store.{answered}
use Rattle.store.specs.Layout.{Model, bytes_of}
use Rattle.store.specs.Plain.{Call, page}
use Rattle.store.specs.Reading.{cells_of, chain_in, hours_in, list_in, page_in, page_count_of, read, read_for}
use Rattle.store.specs.Shape.{Shaped}
use Rattle.store.specs.Sound.{sound}
use Rattle.store.proofs.ItemLaws.{sound-items}
use Rattle.repair.specs.Clauses.{BroughtBack, KeptPage, Rising}
use Rattle.repair.specs.Repair.{Outcome, is_kept, kept_chain, lost_pages, repair_call, repairable, repaired}
use Rattle.repair.proofs.CallLaws.{call-no, call-sound, call-yes}
use Rattle.repair.proofs.ClauseLaws.{kept-exactly, lost-exactly}
use Rattle.repair.proofs.Determined.{one_answer, one_list, one_store}
use Rattle.repair.proofs.Keeping.{chain-no, chain-yes, counts-no, counts-yes}
use Rattle.repair.proofs.Restored.{page-is, repairs-shaped, restored-hours, restored-read, restored-sound}
use Rattle.repair.proofs.Sieves.{sieve-one, sieve-range, sieve-rising}
use Rattle.repair.proofs.Whole.{resorted, sorted-already, sound-shaped, sound-sorted}
use Rattle.words.specs.End.{End, end_of_store}
use Rattle.words.specs.ReadBack.{Reads}
use Rattle.hourlog_c.specs.Export.{Answers}
use Rattle.hourlog_c.specs.Public.{Freeze, Live, Repair}
use Rattle.demands.specs.Reasons.{Repairable, Wins, reasons}
use Rattle.demands.proofs.Sentences1.{freeze-unsound, live-unsound, minus-at, minus-in, minus-refusal, repair-word, result-word}
use Rattle.demands.proofs.Slices.{same-both}
use Rattle.demands.proofs.Winning.{stands, without}

-- ---- refusals
module _ (s b t d : List ℕ) (w : ℕ) (a : Answers (Repair s b) w (t ∷ d ∷ [])) where
  -- 'its only refusal is 18, for a wrong store length, a header with byte 0, .. or a list buffer shorter than P entries'
  pub refused-18 : (w ≡ 2 ^ 64 - 18) ↔ (Repairable s (length b) → ⊥)
  unfolding reasons without stands
  refused-18 = minus-at (Repair s b) w (t ∷ d ∷ []) 18 0 (omega arith) (omega arith) (λ x. omega (arith, x.3)) refl a

  pub only-18 : 2 ^ 63 ≤ w → w ≡ 2 ^ 64 - 18
  unfolding reasons
  only-18 l = go (minus-refusal (Repair s b) w (t ∷ d ∷ []) a l).0
    where
      go : Wins (2 ^ 64 - w) (reasons (Repair s b)) → w ≡ 2 ^ 64 - 18
      go (inl (e, f)) = omega (arith, e)
      go (inr (n, v)) = absurd v

  -- 'It never refuses with 10'
  pub never-10 : w ≡ 2 ^ 64 - 10 → ⊥
  never-10 q = a.ten ((minus-in 10 (omega arith) (omega arith) a.answer w a.reads).0 q)

  -- refused, no byte of the store and no entry of the list changes
  pub refused-keeps : 2 ^ 63 ≤ w → (t ≡ s) × (d ≡ b)
  refused-keeps l = same-both (minus-refusal (Repair s b) w (t ∷ d ∷ []) a l).1

  pub repairs-it : Repairable s (length b) → w < 2 ^ 63
  unfolding reasons
  repairs-it h = result-word (Repair s b) w (t ∷ d ∷ []) a (λ n. n h, tt)

-- ---- the word w is no refusal
module _ (s b t d : List ℕ) (w : ℕ) (l : w < 2 ^ 63) (a : Answers (Repair s b) w (t ∷ d ∷ [])) where
  abbrev P : ℕ
  P = page_count_of s

  answers-w : (repair_call s b).answer ≡ answered w
  answers-w = repair-word w l (t ∷ d ∷ []) s b a

  may : repairable s (length b) ≡ true
  may = go (repairable s (length b)) refl
    where
      go : (r : Bool) → repairable s (length b) ≡ r → repairable s (length b) ≡ true
      go true e = e
      go false e = absurd (let y = sym answers-w ∙ ap (λ (o : Outcome). o.answer) (call-no s b e) in let z : ◌≡◌ {A = ℕ} 0 1 = cc in omega arith)

  shape : Shaped s
  shape = (repairs-shaped s (length b) may).0

  same_number : {m n : ℕ} → answered m ≡ answered n → m ≡ n
  same_number e = cc

  many : w ≡ length (lost_pages s)
  many = same_number (sym answers-w ∙ ap (λ (o : Outcome). o.answer) (call-yes s b may))

  bytes-are : t ≡ bytes_of (repaired s)
  bytes-are = (same-both a.ends.1).0 ∙ ap (λ (o : Outcome). o.bytes) (call-yes s b may)

  list-is : d ≡ lost_pages s ++ drop w b
  list-is =
      (same-both a.ends.1).1 ∙ ap (λ (o : Outcome). o.list) (call-yes s b may) ∙ ap (λ (n : ℕ). lost_pages s ++ drop n b) (sym many)

  read_is : read t ≡ repaired s
  read_is = ap read bytes-are ∙ restored-read s shape

  -- 'The result is sound with the same N', and the same P and C
  pub sound-after : sound t ≡ true
  sound-after = ap sound bytes-are ∙ restored-sound s shape

  pub same_size : (hours_in t ≡ hours_in s) × (page_count_of t ≡ page_count_of s) × (cells_of t ≡ cells_of s)
  unfolding read read_for repaired
  same_size = (
    ap hours_in bytes-are ∙ restored-hours s shape,
    ap (λ (m : Model). m.plain.pages) read_is,
    ap (λ (m : Model). m.plain.cells) read_is,
  )

  -- 'A bad supply leaves stores that refuse every call with 10': no call refuses this one so
  pub ten-no-more : (c : Call) (v : ℕ) (u : List (List ℕ)) → Answers (Live c t) v u → v ≡ 2 ^ 64 - 10 → ⊥
  ten-no-more c v u r q = (live-unsound c t v u r).0 q (sound-items t sound-after)

  pub freezes-again : (e : ℕ) (out : List ℕ) (v : ℕ) (u : List (List ℕ)) → Answers (Freeze t e out) v u → v ≡ 2 ^ 64 - 10 → ⊥
  freezes-again e out v u r q = (freeze-unsound t e out v u r).0 q (sound-items t sound-after)

  page-after : (p : ℕ) → p < page_count_of s → (x : List ℕ) → page (repaired s).plain.counts p ≡ x → page (list_in t) p ≡ x
  page-after p q x e = ap (λ (m : Model). page m.plain.counts p) read_is ∙ e

  chain-after : (p : ℕ) → p < page_count_of s → get_or (read t).chains p [] ≡ kept_chain s p
  unfolding repaired
  chain-after p q = ap (λ (m : Model). get_or m.chains p []) read_is ∙ get_d_tabulate (page_count_of s) (kept_chain s) p [] q

  -- 'Keep a page if ..': it has the counts and the cells that its bytes said
  pub kept-after : (p : ℕ) → p < page_count_of s → KeptPage s p
      → (page (list_in t) p ≡ page_in s (page_count_of s) p) × (get_or (read t).chains p [] ≡ chain_in s (page_count_of s) p)
  unfolding repaired
  kept-after p q g =
      let e = (kept-exactly s p).1 g in
      (page-after p q _ (page-is s shape p q ∙ counts-yes s p e), chain-after p q ∙ chain-yes s p e)

  -- 'Other pages become zero'
  pub zero-after : (p : ℕ) → p < page_count_of s → (KeptPage s p → ⊥) → (page (list_in t) p ≡ replicate 64 0) × (get_or (read t).chains p [] ≡ [])
  unfolding repaired
  zero-after p q n =
      let e = (lost-exactly s p).1 n in
      (page-after p q _ (page-is s shape p q ∙ counts-no s p e), chain-after p q ∙ chain-no s p e)

  -- 'and their numbers are listed from the start of a lent buffer in rising order'
  abbrev lost : ℕ → Bool
  lost p = not (is_kept s p)

  first-entries : take w d ≡ lost_pages s
  first-entries = ap (take w) list-is ∙ take_at (lost_pages s) (drop w b) w (sym many)

  on_list : (p : ℕ) → 1 ≤ occurrences p (take w d) → (p < page_count_of s) × (lost p ≡ true)
  unfolding lost_pages
  on_list p o =
      let r = sieve-range lost 0 (page_count_of s) p (subst (λ (z : List ℕ). 1 ≤ occurrences p z) first-entries o) in
      (omega (arith, r.1), r.2)

  pub listed-exactly : (p : ℕ) → (1 ≤ occurrences p (take w d)) ↔ ((p < page_count_of s) × (KeptPage s p → ⊥))
  unfolding lost_pages
  listed-exactly p = (
    λ o. let l = on_list p o in (l.0, λ g. true≢false (sym l.1 ∙ ap not ((kept-exactly s p).1 g))),
    λ n. omega (
      arith,
      ap (occurrences p) first-entries,
      sieve-one lost 0 (page_count_of s) p (omega arith) (omega (arith, n.0)) (ap not ((lost-exactly s p).1 n.1)),
    ),
  )

  pub listed-rising : Rising 0 (take w d)
  unfolding lost_pages
  listed-rising = subst (Rising 0) (sym first-entries) (sieve-rising lost 0 (page_count_of s))

  -- 'The result is how many were listed; later entries of that buffer are unchanged'
  pub listed-many : length (take w d) ≡ w
  listed-many = ap length first-entries ∙ sym many

  pub later-entries : drop w d ≡ drop w b
  later-entries = ap (drop w) list-is ∙ drop_at (lost_pages s) (drop w b) w (sym many)

  -- 'The remaining cells are cleared and chained in rising order': that the free chain has all other cells, cleared, is a clause of a sound store
  pub free-rising : Rising 1 (read t).spare
  unfolding repaired
  free-rising = subst (λ (m : Model). Rising 1 m.spare) (sym read_is) (sieve-rising _ 1 (cells_of s))

  -- all of them at once
  pub brought-back : BroughtBack s b t d w
  brought-back = record {
    sound-after = sound-after;
    same_size = same_size;
    kept-after = kept-after;
    zero-after = zero-after;
    listed-exactly = listed-exactly;
    listed-rising = listed-rising;
    listed-many = listed-many;
    later-entries = later-entries;
    free-rising = free-rising;
  }

-- and they leave nothing open: whatever store, list and number they are true of are those that C gets. Where the call is refused, it is by 18
pub nothing-open : (s b t d : List ℕ) (w : ℕ) → Repairable s (length b) → Answers (Repair s b) w (t ∷ d ∷ [])
    → (t' d' : List ℕ) (w' : ℕ) → BroughtBack s b t' d' w' → (t' ≡ t) × (d' ≡ d) × (w' ≡ w)
nothing-open s b t d w k a t' d' w' r =
    let l = repairs-it s b t d w a k in
    let h = shape s b t d w l a in
    let n : w' ≡ w = one_answer s b t' d' w' h r ∙ sym (many s b t d w l a) in (
      one_store s b t' d' w' h r ∙ sym (bytes-are s b t d w l a),
      one_list s b t' d' w' h r ∙ ap (λ (z : ℕ). lost_pages s ++ drop z b) n ∙ sym (list-is s b t d w l a),
      n,
    )

pub else-refused : (s b t d : List ℕ) (w : ℕ) → Answers (Repair s b) w (t ∷ d ∷ [])
    → (2 ^ 63 ≤ w → Repairable s (length b) → ⊥) × ((Repairable s (length b) → ⊥) → (w ≡ 2 ^ 64 - 18) × (t ≡ s) × (d ≡ b))
else-refused s b t d w a = (
  λ l. (refused-18 s b t d w a).0 (only-18 s b t d w a l),
  λ n. let e = (refused-18 s b t d w a).1 n in let k = refused-keeps s b t d w a (omega (arith, e)) in (e, k.0, k.1),
)

-- ---- 'a sound store loses no count and lists nothing'; it stays in its cells, and its free chain is sorted
number_read : (n w : ℕ) → Reads (end_of_store (answered n)) w → w ≡ n
unfolding end_of_store
number_read n w r = r.1

module _ (s b t d : List ℕ) (w : ℕ) (a : Answers (Repair s b) w (t ∷ d ∷ [])) (e : sound s ≡ true) (room : page_count_of s ≤ length b) where
  call-is : (t ≡ bytes_of (resorted (read s))) × (d ≡ b) × (w ≡ 0)
  call-is =
      let c = call-sound s b e room in (
        (same-both a.ends.1).0 ∙ ap (λ (o : Outcome). o.bytes) c,
        (same-both a.ends.1).1 ∙ ap (λ (o : Outcome). o.list) c,
        number_read 0 w (subst (λ (z : End). Reads z w) (a.ends.0 ∙ ap (λ (o : Outcome). end_of_store o.answer) c) a.reads),
      )

  sorted-read : read t ≡ resorted (read s)
  sorted-read =
      ap read call-is.0 ∙ ap (λ (m : Model). read (bytes_of m)) (sym (sound-sorted s e)) ∙ restored-read s (sound-shaped s e) ∙ sound-sorted s e

  pub loses-nothing : (list_in t ≡ list_in s) × ((read t).chains ≡ (read s).chains) × (d ≡ b) × (w ≡ 0)
  unfolding resorted
  loses-nothing = (ap (λ (m : Model). m.plain.counts) sorted-read, ap (λ (m : Model). m.chains) sorted-read, call-is.1, call-is.2)

-- ---- repaired once more, with any list that has room, no byte of it changes and nothing is listed
pub once_more : (s b t d : List ℕ) (w : ℕ) → w < 2 ^ 63 → Answers (Repair s b) w (t ∷ d ∷ []) → (b' t' d' : List ℕ) (w' : ℕ) → page_count_of s ≤ length b'
    → Answers (Repair t b') w' (t' ∷ d' ∷ []) → (t' ≡ t) × (d' ≡ b') × (w' ≡ 0)
once_more s b t d w l a b' t' d' w' room r =
    let c = call-is t b' t' d' w' r (sound-after s b t d w l a) (omega (arith, (same_size s b t d w l a).1)) in (
      c.0 ∙ ap (λ (m : Model). bytes_of (resorted m)) (read_is s b t d w l a) ∙ ap bytes_of (sorted-already s) ∙ sym (bytes-are s b t d w l a),
      c.1,
      c.2,
    )
