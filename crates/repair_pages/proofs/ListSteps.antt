-- The list of lost pages, page by page. Assumes nothing.
use mathlib.Core.Path.{◌≡◌, refl, sym, ap, ap₂, subst, ◌∙◌}
use mathlib.Core.Bool.{Bool, true, false, not}
use mathlib.Core.List.{List, [], ◌∷◌, ◌++◌, append_assoc, append-nil}
use Prim.Native.Nat.{ℕ, suc, ◌+◌, ◌≤◌, ◌<◌}
use native.Mathlib.Omega.{arith}
use native.Mathlib.Numerals.{add-one}
use lib.ListN.{length, get_or, drop, set, replicate, length-append, length-replicate, length-set}
use lib.Seq.{drop-cons, set_at}
use Rattle.lists.specs.Lists.{occurrences, pick}
use Rattle.lists.proofs.Zeros.{zeros-at}
use Rattle.bits.specs.Numbers.{Number, number_at}
use Rattle.store.specs.Limits.{max_cells, max_total}
use Rattle.store.specs.Layout.{entry_at}
use Rattle.store.specs.Reading.{cells_of, page_count_of, sum_in}
use Rattle.store.specs.Code.Checked.{marks_length}
use Rattle.store.proofs.CheckChain.{Marked}
use Rattle.repair.specs.Repair.{is_kept, kept_of, lost_pages, sieve}
use Rattle.repair.proofs.Keeping.{kept-fits}
use Rattle.repair.proofs.Sieves.{sieve-le, sieve-snoc}
use Rattle.repair_pages.specs.Code.Page.{Judged}
use Rattle.repair_pages.proofs.Judging.{Along, along-no, along-yes, judged-is}
use Rattle.repair_pages.specs.Code.Pages.{Listed}

abbrev pub lost_of : List ℕ → ℕ → List ℕ
lost_of s p = sieve (λ q. not (is_kept s q)) 0 p

-- of the pages before p, n are lost, and stand in the list l, which was l₀
pub record Noted (s l₀ l : List ℕ) (n p : ℕ) : Type 0 where
  pub count : n ≡ length (lost_of s p)
  pub entries : l ≡ lost_of s p ++ drop n l₀
  pub long : length l ≡ length l₀

lost-next : (s : List ℕ) (p : ℕ) → lost_of s (p + 1) ≡ lost_of s p ++ pick (not (is_kept s p)) (p ∷ []) []
lost-next s p =
    let e : 0 + p ≡ p = omega arith in
    ap (lost_of s) {x = p + 1} {y = suc p} (omega arith) ∙ sieve-snoc (λ q. not (is_kept s q)) 0 p
    ∙ ap (λ (z : ℕ). lost_of s p ++ pick (not (is_kept s z)) (z ∷ []) []) e

module _ (s l₀ l : List ℕ) (n p : ℕ) (g : Noted s l₀ l n p) where
  pub noted-few : n ≤ p
  noted-few = omega (arith, g.count, sieve-le (λ q. not (is_kept s q)) 0 p)

  pub noted-yes : is_kept s p ≡ true → Noted s l₀ l n (p + 1)
  unfolding pick
  noted-yes e =
      let q : lost_of s (p + 1) ≡ lost_of s p =
      lost-next s p ∙ ap (λ (b : Bool). lost_of s p ++ pick (not b) (p ∷ []) []) e ∙ append-nil (lost_of s p) in
      record { count = g.count ∙ ap length (sym q); entries = g.entries ∙ ap (λ (z : List ℕ). z ++ drop n l₀) (sym q); long = g.long }

  pub noted-no : is_kept s p ≡ false → n < length l₀ → Noted s l₀ (set l n p) (n + 1) (p + 1)
  unfolding pick
  noted-no e lt =
      let q : lost_of s (p + 1) ≡ lost_of s p ++ p ∷ [] = lost-next s p ∙ ap (λ (b : Bool). lost_of s p ++ pick (not b) (p ∷ []) []) e in
      record {
        count = omega (arith, g.count, ap length q, length-append (lost_of s p) (p ∷ []));
        entries =
            ap (λ (z : List ℕ). set z n p) (g.entries ∙ ap (λ (z : List ℕ). lost_of s p ++ z) (drop-cons l₀ n 0 lt))
            ∙ set_at (lost_of s p) (get_or l₀ n 0) (drop (suc n) l₀) p n (sym g.count)
            ∙ sym (append_assoc (lost_of s p) (p ∷ []) (drop (suc n) l₀))
            ∙ ap₂ (λ (z : List ℕ) (i : ℕ). z ++ drop i l₀) (sym q) (sym (add-one n));
        long = length-set l n p ∙ g.long;
      }

pub noted-start : (s l : List ℕ) → Noted s l l 0 0
unfolding sieve
noted-start s l = record { count = refl; entries = refl; long = refl }

pub along-start : (s m : List ℕ) → m ≡ replicate marks_length 0 → Along s m 0 0
unfolding kept_of occurrences
along-start s m e = record {
  marked = λ d l. ap (λ (z : List ℕ). get_or z d 0) e ∙ zeros-at marks_length d;
  long = ap length e ∙ length-replicate {A = ℕ} marks_length 0;
  total-is = refl;
}

-- the total of kept pages fits
pub along-fits : (s m : List ℕ) (p total : ℕ) → Along s m p total → total ≤ max_total
along-fits s m p total a = omega (arith, a.total-is, kept-fits s p)

-- ---- one turn: page p is kept, or listed
pub record Turn (s l₀ m l : List ℕ) (total n p : ℕ) : Type 0 where
  pub along : Along s m p total
  pub noted : Noted s l₀ l n p

module _ (s l₀ m m' l l' : List ℕ) (p total n : ℕ) {total' n' : ℕ} {r : Bool} (few : cells_of s ≤ max_cells) (t : Turn s l₀ m l total n p) (j : Judged s m p total r m')
  where
    pub turn-yes : r ≡ true → {e v : ℕ} → e ≡ entry_at p → Number s e 4 v → l' ≡ l → total' ≡ total + v → n' ≡ n → Turn s l₀ m' l' total' n' (p + 1)
    unfolding sum_in
    turn-yes q {e} {v} at w a b c =
        let k = along-yes s m m' p total few t.along j q in
        let z : total + sum_in s p ≡ total' = sym (b ∙ ap (λ (i : ℕ). total + i) (w.is ∙ ap (λ (i : ℕ). number_at s i 4) at)) in
        record { along = rw z at k; noted = rw (a, c) (noted-yes s l₀ l n p t.noted (sym (judged-is s m m' p total few t.along j) ∙ q)) }

    pub turn-no : r ≡ false → n < length l₀ → l' ≡ set l n p → total' ≡ total → n' ≡ n + 1 → Turn s l₀ m' l' total' n' (p + 1)
    turn-no q lt a b c = record {
      along = rw b (along-no s m m' p total few t.along j q);
      noted = rw (a, c) (noted-no s l₀ l n p t.noted (sym (judged-is s m m' p total few t.along j) ∙ q) lt);
    }

-- the total of a kept page and those before it fits
pub turn-fits : (s l₀ m m' l : List ℕ) (p total n : ℕ) {r : Bool} {e v : ℕ} → cells_of s ≤ max_cells → Turn s l₀ m l total n p → Judged s m p total r m' → r ≡ true
    → e ≡ entry_at p → Number s e 4 v → total + v ≤ max_total
unfolding sum_in
turn-fits s l₀ m m' l p total n few t j q at w =
    let k = along-yes s m m' p total few t.along j q in
    let z = w.is ∙ ap (λ (i : ℕ). number_at s i 4) at in
    omega (arith, z, along-fits s m' (p + 1) (total + sum_in s p) k)

pub turns-done : (s l₀ m l : List ℕ) (total n p : ℕ) → p ≡ page_count_of s → Turn s l₀ m l total n p → Listed s l₀ n m l
unfolding lost_pages
turns-done s l₀ m l total n p e t =
    let w : lost_of s p ≡ lost_pages s = ap (lost_of s) e in
    record {
      count = t.noted.count ∙ ap length w;
      entries = t.noted.entries ∙ ap (λ (z : List ℕ). z ++ drop n l₀) w;
      marked = subst (λ (z : ℕ). Marked (cells_of s) m (kept_of s z).cells) e t.along.marked;
    }
