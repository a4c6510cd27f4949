-- A page of a store as it is decoded. Assumes nothing.
use mathlib.Core.Bool.{true}
use mathlib.Core.Path.{◌≡◌, ap, ◌∙◌}
use mathlib.Core.List.{List}
use Prim.Native.Nat.{ℕ}
use lib.ListN.{length}
use Rattle.lists.proofs.Pages.{paged}
use Rattle.bits.specs.Bits.{bits}
use Rattle.tree.specs.Read.{counts}
use Rattle.tree.specs.Code.Exact.{exact}
use Rattle.tree.proofs.Shape.{counts-tree}
use Rattle.pages.specs.Gathered.{Gathered}
use Rattle.pages.proofs.Coding.{code-exact, tree-at}
use Rattle.pages.proofs.SoundPage.{sum_same}
use Rattle.store.specs.Plain.{page}
use Rattle.store.specs.Code.Hours.{OfPage}
use Rattle.store.specs.Reading.{list_in}
use Rattle.store.proofs.Holds.{page-length}

-- a page as it is decoded
pub page-decoded : {s : List ℕ} {P p t k : ℕ} {code : List ℕ} → OfPage s P p t k → Gathered s p code
    → (exact 6 t (bits code) 0 ≡ true) × (counts 6 t (bits code) 0 ≡ paged 64 (list_in s) p)
unfolding page
page-decoded {s} {P} {p} {t} {k} {code} o g =
    let ys : List ℕ = page (list_in s) p in
    let n : length ys ≡ 64 = page-length (list_in s) p in (
      code-exact code ys _ t n (sum_same o) g.code_is,
      ap (λ (z : ℕ). counts 6 z (bits code) 0) (sum_same o) ∙ counts-tree 6 ys (bits code) 0 n (tree-at code ys _ g.code_is),
    )
