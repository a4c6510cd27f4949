-- Lists of lent slices. Assumes nothing.
use mathlib.Core.Path.{◌≡◌}
use mathlib.Core.List.{List, [], ◌∷◌}
use Prim.Native.Nat.{ℕ}

pub same-slice : {s t : List ℕ} {more : List (List ℕ)} → ◌≡◌ {A = List (List ℕ)} (s ∷ more) (t ∷ more) → s ≡ t
same-slice e = cc

pub same_second : {r s t : List ℕ} → ◌≡◌ {A = List (List ℕ)} (r ∷ s ∷ []) (r ∷ t ∷ []) → s ≡ t
same_second e = cc

pub same-third : {q r s t : List ℕ} → ◌≡◌ {A = List (List ℕ)} (q ∷ r ∷ s ∷ []) (q ∷ r ∷ t ∷ []) → s ≡ t
same-third e = cc

pub same-both : {r s t u : List ℕ} → ◌≡◌ {A = List (List ℕ)} (r ∷ s ∷ []) (t ∷ u ∷ []) → (r ≡ t) × (s ≡ u)
same-both e = (cc, cc)
