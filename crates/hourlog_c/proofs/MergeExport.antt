-- The export of merge keeps its promise. Assumes nothing.
use mathlib.Core.Path.{◌≡◌, refl, ap}
use mathlib.Core.Bool.{Bool, true, false, ◌&&◌}
use mathlib.Core.List.{List, [], ◌∷◌}
use Prim.Native.Nat.{ℕ}
use native.Mathlib.Omega.{arith}
use lib.Dec.{leb}
use Rattle.lists.specs.Counts.{max_count, within}
use Rattle.lists.specs.Lists.{pick}
use Rattle.answers.specs.Image.{Reply, Verdict, fails, holds}
use Rattle.image.specs.Calls.{Result, past, unwritten, write_call}
use Rattle.image.specs.Check.{check}
use Rattle.image.specs.Read.{list_of}
use Rattle.image.proofs.Sizes.{SmallVerdict, check-small, write-small}
use Rattle.image_merge.specs.Merge.{merge_call, merge_lists, sums}
use Rattle.hourlog_c.specs.Public.{ImageMerge}
use Rattle.words.specs.End.{end_of_image}
use Rattle.words.specs.Words.{word_of}
use Rattle.words.proofs.WordLaws.{Small}
use Rattle.hourlog_c.specs.Export.{Answers}
use Rattle.hourlog_c.proofs.Exports.{answers, reply-word, small-image}

-- every answer is small
merge-small : (e : ℕ) (a b out : List ℕ) → Small (end_of_image (merge_call e a b out).reply)
unfolding merge_call merge_lists past pick unwritten end_of_image
merge-small e a b out = go (leb 2 e && leb e 8) (check a) (check-small a) (check b) (check-small b) (within max_count zs)
  where
    zs : List ℕ
    zs = sums (list_of a) (list_of b)

    W : Result
    W = write_call e zs out

    go : (t : Bool) (v : Verdict) → SmallVerdict v → (w : Verdict) → SmallVerdict w → (u : Bool)
        → Small (end_of_image (pick t (past v out (past w out (pick u W (unwritten out 3)))) (unwritten out 1)).reply)
    go false v x w y u = omega arith
    go true (fails k) x w y u = (x.0, omega (arith, x.1))
    go true (holds n s) x (fails k) y u = (y.0, omega (arith, y.1))
    go true (holds n s) x (holds i j) y false = omega arith
    go true (holds n s) x (holds i j) y true = small-image W.reply (write-small e zs out)

pub merge-answers : (a b out t : List ℕ) (e w : ℕ) (r : Reply) → w ≡ word_of (end_of_image r) → record { reply = r; bytes = t } ≡ merge_call e a b out
    → Answers (ImageMerge a b e out) w (a ∷ b ∷ t ∷ [])
merge-answers a b out t e w r q d =
    answers (ImageMerge a b e out) w (a ∷ b ∷ t ∷ []) (end_of_image (merge_call e a b out).reply) (refl, ap (λ (z : Result). a ∷ b ∷ z.bytes ∷ []) d) tt
    (merge-small e a b out) (reply-word w r (merge_call e a b out).reply q (ap (λ (z : Result). z.reply) d))
