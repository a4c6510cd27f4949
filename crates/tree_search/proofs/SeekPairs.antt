-- The lowest two levels on a search's way: which of two pairs it goes to, out of the word in which their bits stand. Assumes nothing.
use mathlib.Core.Path.{◌≡◌, refl, sym, ap, ◌∙◌, subst}
use mathlib.Core.Bool.{Bool, true, false}
use mathlib.Core.List.{List}
use Prim.Native.Nat.{ℕ, suc, ◌+◌, ◌-◌, ◌^◌, ◌≤◌, ◌<◌}
use Rattle.std.specs.Prelude.{None, Some}
use lib.Dec.{ltb}
use borrow.Author.Tests.{ltb-true, ltb-false}
use Rattle.lists.specs.Lists.{pick}
use Rattle.bits.specs.Bits.{bits}
use Rattle.tree.specs.Read.{left_of, shifted, seek}
use Rattle.tree.specs.Code.Node.{Lies}
use Rattle.tree.specs.Code.InWord.{InWord}
use Rattle.tree_walk.specs.Code.Pairs.{Entered}
use Rattle.tree_search.specs.Code.Answers.{search_answer}
use Rattle.tree_walk.specs.declared.pairs.Pair.{Pair}
use Rattle.tree.proofs.SearchLaws.{seek-left, seek-right}
use Rattle.tree_walk.proofs.LowPairs.{above, inner, start, count-is}
use Rattle.tree_search.proofs.SeekSteps.{seek-damaged, Goes, goes_on}

-- ---- a pair: its left count x, and the other one
module _ (sum x : ℕ) (b : List ℕ) (a : ℕ) (e : left_of sum b a ≡ x) where
  seek-pair : (n q : ℕ) → x ≤ sum → Some (n + pick (ltb x q) 2 1) ≡ search_answer n (seek 1 sum b a q)
  unfolding pick search_answer seek shifted
  seek-pair n q l = go (ltb x q) refl
    where
      go : (c : Bool) → ltb x q ≡ c → Some (n + pick (ltb x q) 2 1) ≡ search_answer n (seek 1 sum b a q)
      go true f = rw (f, seek-right 0 sum x b a q e l (ltb-true x q f))
      go false f = rw (f, seek-left 0 sum x b a q e l (ltb-false x q f))

-- ---- a height of two, as it was tested
pub room-for-four : {h : ℕ} (n : ℕ) → h ≡ 2 → n + 2 ^ h < 2 ^ 64 → n + 4 < 2 ^ 64
room-for-four {h} n e l = subst (λ (k : ℕ). n + 2 ^ k < 2 ^ 64) e l

pub seek-two-high : {h : ℕ} (n s : ℕ) (b : List ℕ) (a q : ℕ) → h ≡ 2 → search_answer n (seek 2 s b a q) ≡ search_answer n (seek h s b a q)
seek-two-high n s b a q e = ap (λ (z : ℕ). search_answer n (seek z s b a q)) (sym e)

-- a left sum l above its node's sum s
pub seek-above : (h s l : ℕ) (b : List ℕ) (a : ℕ) → left_of s b a ≡ l → s < l → (n q : ℕ) → None ≡ search_answer n (seek (suc h) s b a q)
unfolding search_answer
seek-above h s l b a el i n q = rw (seek-damaged h s b a q (above h s l b a el i))

-- ---- four counts with sum s and left sum l at bit a of the bytes b, whose bits stand in w behind its k high ones
module _ {b : List ℕ} {a s w k : ℕ} (y : Lies b a 2 s) (o : InWord (bits b) a 2 s w k) (l : ℕ) (el : left_of s (bits b) a ≡ l) (le : l ≤ s)
    (q n : ℕ) {p : Pair} (e : Entered w k s l (ltb l q) p) where
  abbrev from : ℕ
  from = start o l el le (ltb l q)

  onward : (hours : ℕ) → hours ≡ pick (ltb l q) 2 0
      → Goes b 1 q n (search_answer n (seek 2 s (bits b) a q)) p.passed hours p.sum from
  onward hours eh =
      goes_on y (inner 1 s l (bits b) a el le) q n {m = 2} refl record { passed_is = e.passed_is; hours-is = eh; sum_is = e.sum_is; start_is = refl }

  pub passed-le : p.passed ≤ q
  passed-le = (onward _ refl).few

  pub seek-two-bad : p.sum < p.count → None ≡ search_answer n (seek 2 s (bits b) a q)
  seek-two-bad i =
      seek-above 0 p.sum p.count (bits b) from (count-is o l el le (ltb l q) e) i (n + pick (ltb l q) 2 0) (q - p.passed)
      ∙ (onward _ refl).same

  pub seek-two : p.count ≤ p.sum → (d z : ℕ) → d ≡ pick (ltb l q) 2 0 → z ≡ pick (ltb p.count (q - p.passed)) 2 1
      → Some (n + d + z) ≡ search_answer n (seek 2 s (bits b) a q)
  seek-two i d z ed ez =
      ap (λ (x : ℕ). Some (n + d + x)) ez
      ∙ seek-pair p.sum p.count (bits b) from (count-is o l el le (ltb l q) e) (n + d) (q - p.passed) i
      ∙ (onward d ed).same
