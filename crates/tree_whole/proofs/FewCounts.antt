-- Eight counts with two coins at most, by their code. Assumes nothing.
use mathlib.Core.Path.{◌≡◌, refl, sym, ap, ◌∙◌}
use mathlib.Core.Bool.{true}
use mathlib.Core.List.{List, ◌++◌}
use Prim.Native.Nat.{ℕ, zero, suc, ◌+◌, ◌-◌, ◌*◌, ◌/◌, ◌%◌, ◌^◌, ◌≤◌, ◌<◌}
use native.Mathlib.Nat.{mod-lt}
use native.Mathlib.Omega.{arith}
use lib.ListN.{length, set}
use lib.Pow.{pow_pos}
use lib.Seq.{take_all}
use Rattle.lists.specs.Lists.{part, splice}
use Rattle.lists.proofs.Parts.{splice-then}
use Rattle.bits.specs.Bits.{field}
use Rattle.bits.proofs.Laws.{length-field}
use Rattle.bits.proofs.Packing.{bits-field, field-piece}
use Rattle.reserve.specs.Reserve.{digits, reserve}
use Rattle.sum_table.specs.Code.Sums.{quarters}
use Rattle.tree.specs.Code.Exact.{exact}
use Rattle.tree.specs.Read.{counts}
use Rattle.tree.proofs.Local.{exact-local}
use Rattle.tree_word.proofs.FourCounts.{put_four}
use Rattle.tree_word.proofs.WordBits.{HighEnd, word_counts}

-- three bits a coin
reserve-few : (s : ℕ) → s < 3 → reserve 3 s ≡ 3 * s
unfolding reserve digits
reserve-few zero k = refl
reserve-few (suc zero) k = refl
reserve-few (suc (suc zero)) k = refl
reserve-few (suc (suc (suc s))) k = absurd (omega arith)

-- the code v of eight counts with sum s, at the high end of the word w
pub record FewCode (w s v : ℕ) : Type 0 where
  pub few : s < 3
  pub code : exact 3 s (field 64 w) 0 ≡ true
  pub read : v ≡ w / 2 ^ (64 - (0 + 3 * s)) % 2 ^ (3 * s)

pub few-code : {w s v : ℕ} → s < 3 → exact 3 s (field 64 w) 0 ≡ true → v ≡ w / 2 ^ (64 - (0 + 3 * s)) % 2 ^ (3 * s) → FewCode w s v
few-code k x e = record { few = k; code = x; read = e }

module _ {w s v : ℕ} (q : FewCode w s v) where
  pub below : v < 2 ^ (3 * s)
  below = rw q.read (mod-lt (w / 2 ^ (64 - (0 + 3 * s))) (pow_pos (3 * s)))

  high : HighEnd (field (3 * s) v) 0 3 s w
  high =
      let r : reserve 3 s ≡ 3 * s = reserve-few s q.few in
      let long : length (field (3 * s) v) ≡ 3 * s = length-field (3 * s) v in
      record {
        each = bits-field (3 * s) v;
        inside = omega (arith, r, long);
        same =
            ap (part (field 64 w) 0) r ∙ field-piece 64 w 0 (3 * s) (omega (arith, q.few)) ∙ ap (field (3 * s)) (sym q.read)
            ∙ sym (take_all (reserve 3 s) (field (3 * s) v) (omega (arith, r, long)));
      }

  alone : exact 3 s (field (3 * s) v) 0 ≡ true
  alone = sym (exact-local 3 s (field 64 w) (field (3 * s) v) 0 0 high.same) ∙ q.code

  -- the counts that were looked up, four and four
  pub few-written : (x y : ℕ) (o m r : List ℕ) (i : ℕ)
      → (exact 3 s (field (3 * s) v) 0 ≡ true → quarters x ++ quarters y ≡ counts 3 s (field (3 * s) v) 0) → i + 8 ≤ length o → m ≡ splice o i (quarters x)
      → r ≡ splice m (i + 4) (quarters y) → r ≡ splice o i (counts 3 s (field 64 w) 0)
  unfolding quarters
  few-written x y o m r i e l em er =
      splice-then o m r (quarters x) (quarters y) i (i + 4) em er refl (omega arith) ∙ ap (splice o i) (e alone ∙ sym (word_counts high alone))

-- four numbers of two bits, put one by one
pub quarters-put : (x : ℕ) (o : List ℕ) (i : ℕ) → i + 4 ≤ length o
    → set (set (set (set o i (x % 4)) (i + 1) (x / 4 % 4)) (i + 2) (x / 16 % 4)) (i + 3) (x / 64 % 4) ≡ splice o i (quarters x)
unfolding quarters
quarters-put x o i l = put_four o i (x % 4) (x / 4 % 4) (x / 16 % 4) (x / 64 % 4) l
