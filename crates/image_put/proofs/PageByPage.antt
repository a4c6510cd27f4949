-- The loops of the crates above, which put an image page by page: what they hand to the last step. Assumes nothing.
use mathlib.Core.List.{List}
use Prim.Native.Nat.{ℕ, ◌≤◌}
use Rattle.image_put.specs.Code.Writing.{Filled, Laid, Room, Roomy}
use Rattle.image_plan.specs.declared.Layout.{Layout}
use Rattle.image_put.specs.declared.Place.{Place}

-- ---- a buffer, in which begin put o, and the steps since out
pub laid-since : {xs first o out : List ℕ} {r : Layout} {at₀ at : Place} → Room xs r first → ((a : Roomy r first) → Laid a.xs first o r at₀)
    → ((l : List ℕ) → Laid xs l o r at₀ → Laid xs l out r at) → Laid xs first out r at
laid-since {xs} {first} g b k = k first (b (record { xs = xs; room = g }))

-- all pages
abbrev pub filled : {xs first o out : List ℕ} {r : Layout} {at₀ at : Place} → Room xs r first → ((a : Roomy r first) → Laid a.xs first o r at₀)
    → ((l : List ℕ) → Laid xs l o r at₀ → Laid xs l out r at) → r.pages ≤ at.page → Filled r out
filled {xs} {first} {at = at} g b k l = record { xs = xs; first = first; at = at; so_far = laid-since g b k; all = l }
