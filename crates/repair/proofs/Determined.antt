-- The sentences of note 10 leave nothing open: the store, the list and the answer of which they are true are those of `repair_call`. Assumes nothing.
use mathlib.Core.Bool.{Bool, true, false, not, true≢false}
use mathlib.Core.List.{List, [], ◌∷◌, ◌++◌}
use mathlib.Core.Path.{◌≡◌, refl, sym, ap, ap₂, ◌∙◌, subst}
use Prim.Native.Nat.{ℕ, suc, ◌≤◌, ◌<◌}
use native.Mathlib.Omega.{arith}
use native.Mathlib.Decide.{ℕ_discrete}
use lib.ListN.{length, get_or, take, drop, take-append-drop}
use Rattle.lists.specs.Lists.{concat, occurrences, tabulate}
use Rattle.lists.proofs.Occurrences.{occurrences-append, one-other, one_same}
use Rattle.lists.proofs.Pages.{pages-back}
use Rattle.lists.proofs.Tables.{tabulate-ext, tabulate-get_d}
use Rattle.store.specs.Plain.{Plain, page}
use Rattle.store.specs.Layout.{Model, bytes_of}
use Rattle.store.specs.Reading.{cells_of, hours_in, list_in, page_count_of, read, read_for}
use Rattle.store.specs.Shape.{Shaped}
use Rattle.store.specs.Sound.{Good, on_chains, is_cell}
use Rattle.store.proofs.SoundFacts.{facts}
use Rattle.repair.specs.Clauses.{BroughtBack, Rising}
use Rattle.repair.specs.Repair.{is_kept, kept_chain, kept_counts, lost_pages, repaired}
use Rattle.repair.proofs.ClauseLaws.{kept-exactly, lost-exactly}
use Rattle.repair.proofs.Keeping.{chain-no, chain-yes, counts-no, counts-yes}
use Rattle.repair.proofs.Restored.{good}
use Rattle.repair.proofs.Sieves.{sieve-one, sieve-range, sieve-rising}

-- ---- two rising lists with the same numbers are one
rising-from : (a : ℕ) (xs : List ℕ) (c : ℕ) → Rising a xs → 1 ≤ occurrences c xs → a ≤ c
unfolding occurrences
rising-from a [] c r o = absurd (omega arith)
rising-from a (x ∷ xs) c r o = go (ℕ_discrete c x) (λ q. rising-from (suc x) xs c r.1 q)
  where
    go : Dec (c ≡ x) → (1 ≤ occurrences c xs → suc x ≤ c) → a ≤ c
    go (yes e) f = omega (arith, r.0)
    go (no e) f = omega (arith, r.0, f (omega (arith, one-other c x e)))

abbrev Among : List ℕ → List ℕ → Type 0
Among xs ys = (c : ℕ) → 1 ≤ occurrences c xs → 1 ≤ occurrences c ys

first-from : (a x : ℕ) (xs ys : List ℕ) → Rising a ys → Among (x ∷ xs) ys → a ≤ x
unfolding occurrences
first-from a x xs ys r m = rising-from a ys x r (m x (omega (arith, one_same x)))

tail-among : (x : ℕ) (xs ys : List ℕ) → Rising (suc x) xs → Among (x ∷ xs) (x ∷ ys) → Among xs ys
unfolding occurrences
tail-among x xs ys r m c o =
    let l : x < c = rising-from (suc x) xs c r o in
    omega (arith, m c (omega arith), one-other c x (λ e. omega arith))

pub rising-same : (a : ℕ) (xs ys : List ℕ) → Rising a xs → Rising a ys → Among xs ys → Among ys xs → xs ≡ ys
unfolding occurrences
rising-same a [] [] r t m n = refl
rising-same a [] (y ∷ ys) r t m n = absurd (omega (arith, n y (omega (arith, one_same y))))
rising-same a (x ∷ xs) [] r t m n = absurd (omega (arith, m x (omega (arith, one_same x))))
rising-same a (x ∷ xs) (y ∷ ys) r t m n =
    let e : x ≡ y = omega (arith, first-from y x xs (y ∷ ys) (omega arith, t.1) m, first-from x y ys (x ∷ xs) (omega arith, r.1) n) in
    let t' : Rising (suc x) ys = subst (λ (z : ℕ). Rising (suc z) ys) (sym e) t.1 in
    let m' : Among (x ∷ xs) (x ∷ ys) = subst (λ (z : ℕ). Among (x ∷ xs) (z ∷ ys)) (sym e) m in
    let n' : Among (x ∷ ys) (x ∷ xs) = subst (λ (z : ℕ). Among (z ∷ ys) (x ∷ xs)) (sym e) n in
    ap₂ ◌∷◌ e (rising-same (suc x) xs ys r.1 t' (tail-among x xs ys r.1 m') (tail-among x ys xs t' n'))

-- ---- two good stores with the same list, the same chains and rising free chains are one
free-among : (m n : Model) → Good m → Good n → m.plain.cells ≡ n.plain.cells → m.chains ≡ n.chains → Among m.spare n.spare
unfolding on_chains
free-among m n g h k e c o =
    omega (
      arith,
      occurrences-append c (concat m.chains) m.spare,
      occurrences-append c (concat n.chains) n.spare,
      ap (λ (z : List (List ℕ)). occurrences c (concat z)) e,
      g.once c,
      h.once c,
      ap (λ (z : ℕ). is_cell z c) k,
    )

model-path : {L M : Plain} {cs ds : List (List ℕ)} {xs ys : List ℕ} → L ≡ M → cs ≡ ds → xs ≡ ys
    → ◌≡◌ {A = Model} (record { plain = L; chains = cs; spare = xs }) (record { plain = M; chains = ds; spare = ys })
model-path e f g i = record { plain = e i; chains = f i; spare = g i }

good-same : (m n : Model) → Good m → Good n → m.plain ≡ n.plain → m.chains ≡ n.chains → Rising 1 m.spare → Rising 1 n.spare → m ≡ n
good-same m n g h e f r t =
    let k : m.plain.cells ≡ n.plain.cells = ap (λ (L : Plain). L.cells) e in
    model-path e f (rising-same 1 m.spare n.spare r t (free-among m n g h k f) (free-among n m h g (sym k) (sym f)))

-- ---- so the sentences determine all
plain-path : {P Q C D : ℕ} {xs ys : List ℕ} → P ≡ Q → C ≡ D → xs ≡ ys
    → ◌≡◌ {A = Plain} (record { pages = P; cells = C; counts = xs }) (record { pages = Q; cells = D; counts = ys })
plain-path e f g i = record { pages = e i; cells = f i; counts = g i }

module _ (s b t d : List ℕ) (n : ℕ) (h : Shaped s) (a : BroughtBack s b t d n) where
  abbrev P : ℕ
  P = page_count_of s

  abbrev lost : ℕ → Bool
  lost p = not (is_kept s p)

  -- each page's counts and cells
  page-same : (p : ℕ) → p < P → (page (list_in t) p ≡ kept_counts s p) × (get_or (read t).chains p [] ≡ kept_chain s p)
  page-same p l = go (is_kept s p) refl
    where
      go : (r : Bool) → is_kept s p ≡ r → (page (list_in t) p ≡ kept_counts s p) × (get_or (read t).chains p [] ≡ kept_chain s p)
      go true e =
          let k = a.kept-after p l ((kept-exactly s p).0 e) in (k.0 ∙ sym (counts-yes s p e), k.1 ∙ sym (chain-yes s p e))
      go false e =
          let k = a.zero-after p l ((lost-exactly s p).0 e) in (k.0 ∙ sym (counts-no s p e), k.1 ∙ sym (chain-no s p e))

  g : Good (read t)
  g = (facts t a.sound-after).good

  hours : length (list_in t) ≡ hours_in s
  hours = sym (facts t a.sound-after).hours-are ∙ a.same_size.0

  rows : length (read t).chains ≡ P
  rows = g.rows ∙ sym (facts t a.sound-after).pages-are ∙ a.same_size.1

  counts_same : list_in t ≡ take (hours_in s) (concat (tabulate P (kept_counts s)))
  unfolding page
  counts_same =
      sym (pages-back 64 P (list_in t) (omega (arith, hours, h.hours)))
      ∙ ap₂ (λ (n : ℕ) (z : List (List ℕ)). take n (concat z)) hours (tabulate-ext P (page (list_in t)) (kept_counts s) (λ p l. (page-same p l).0))

  chains-same : (read t).chains ≡ tabulate P (kept_chain s)
  chains-same =
      sym (tabulate-get_d (read t).chains [])
      ∙ ap (λ (n : ℕ). tabulate n (λ p. get_or (read t).chains p [])) rows
      ∙ tabulate-ext P (λ p. get_or (read t).chains p []) (kept_chain s) (λ p l. (page-same p l).1)

  plain-same : (read t).plain ≡ (repaired s).plain
  unfolding read read_for repaired
  plain-same = plain-path a.same_size.1 a.same_size.2 counts_same

  free-rises : Rising 1 (repaired s).spare
  unfolding repaired
  free-rises = sieve-rising _ 1 (cells_of s)

  read_same : read t ≡ repaired s
  unfolding repaired
  read_same = good-same (read t) (repaired s) g (good s h) plain-same chains-same a.free-rising free-rises

  pub one_store : t ≡ bytes_of (repaired s)
  one_store = (facts t a.sound-after).same ∙ ap bytes_of read_same

  -- the pages on the list
  listed-lost : Among (take n d) (lost_pages s)
  unfolding lost_pages
  listed-lost p o =
      let k = (a.listed-exactly p).0 o in
      omega (arith, sieve-one lost 0 P p (omega arith) (omega (arith, k.0)) (ap not ((lost-exactly s p).1 k.1)))

  lost-listed : Among (lost_pages s) (take n d)
  unfolding lost_pages
  lost-listed p o =
      let k = sieve-range lost 0 P p o in
      (a.listed-exactly p).1 (omega (arith, k.1), λ g. true≢false (sym k.2 ∙ ap not ((kept-exactly s p).1 g)))

  listed_same : take n d ≡ lost_pages s
  unfolding lost_pages
  listed_same = rising-same 0 (take n d) (lost_pages s) a.listed-rising (sieve-rising lost 0 P) listed-lost lost-listed

  pub one_list : d ≡ lost_pages s ++ drop n b
  one_list = sym (take-append-drop n d) ∙ ap₂ ◌++◌ listed_same a.later-entries

  pub one_answer : n ≡ length (lost_pages s)
  one_answer = sym a.listed-many ∙ ap length listed_same
