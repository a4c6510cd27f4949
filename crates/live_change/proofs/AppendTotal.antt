-- An append past the total's limit, tested before its page is read. Assumes nothing.
use mathlib.Core.Path.{◌≡◌}
use mathlib.Core.Bool.{true}
use mathlib.Core.List.{List, [], ◌∷◌, ◌++◌}
use Prim.Native.Nat.{ℕ, ◌+◌, ◌*◌, ◌<◌}
use native.Mathlib.Omega.{arith}
use lib.ListN.{length}
use borrow.Author.Tests.{lt-leb, lt-ltb}
use Rattle.lists.specs.Lists.{pick, sum}
use Rattle.lists.proofs.Sums.{sum-snoc}
use Rattle.answers.specs.Store.{refused}
use Rattle.store.specs.Limits.{max_total}
use Rattle.store.specs.Plain.{Append, Plain, change, step}
use Rattle.store.specs.Reading.{list_in, read}
use Rattle.store.specs.Sound.{sound}
use Rattle.store.specs.Call.{Called}
use Rattle.store.specs.Code.Head.{HeadOf}
use Rattle.store.specs.declared.header.Header.{Header}
use Rattle.store.proofs.CallLaws.{refused_as}
use Rattle.store.proofs.SoundFacts.{facts}

append-over : (L : Plain) (v : ℕ) → length L.counts < 64 * L.pages → max_total < sum L.counts + v
    → step (Append v) L ≡ record { answer = refused 3; list = L }
unfolding step change pick
append-over L v l k =
    rw (lt-leb (64 * L.pages) (length L.counts) l, lt-ltb max_total (sum (L.counts ++ v ∷ [])) (omega (arith, sum-snoc L.counts v)))

pub append-3 : {s : List ℕ} (v : ℕ) → sound s ≡ true → {H : Header} → HeadOf s H → {all : ℕ} → H.hours < 64 * H.pages → all ≡ sum (list_in s)
    → max_total < all + v → Called (Append v) s (refused 3) s
append-3 {s} v e {H} h l q k =
    let f = facts s e in
    refused_as (Append v) s 3 e
    (append-over (read s).plain v (omega (arith, f.hours-are, f.pages-are, h.hours-is, h.pages-is)) (omega arith))
