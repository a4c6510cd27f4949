-- What the functions of src/ hand each other. Assumes nothing.
use Rattle.std.specs.Prelude.{true, false, List, ◌≡◌, ℕ, ◌+◌, ◌-◌, ◌*◌, ◌^◌, ◌≤◌, ◌<◌, min, get_or, Result, Ok, Err}
use Rattle.answers.specs.Number.{number}
use Rattle.answers.specs.declared.refusal.Refusal.{Refusal}
use Rattle.answers.specs.declared.refusal.Refusal.TheVariants.{Total}
use Rattle.lists.specs.Counts.{max_count, within}
use Rattle.lists.specs.Lists.{window}
use Rattle.image.specs.Calls.{Result as Bytes, unwritten}
use Rattle.image.specs.Image.{Limits}
use Rattle.image.specs.Read.{list_of}
use Rattle.image_plan.specs.Code.Planning.{Drafted, LayoutOf}
use Rattle.image_plan.specs.declared.Layout.{Layout}
use Rattle.image_plan.specs.declared.Plan.{Plan}
use Rattle.image_merge.specs.Merge.{merge_lists, sums}
use Rattle.image_merge.specs.declared.block.Pair.{Pair}

-- the sums of two images' lists, and what merging them is to give
abbrev pub sums_of : Pair → List ℕ
sums_of p = sums (list_of p.a.now.bytes.now) (list_of p.b.now.bytes.now)

abbrev pub merged : ℕ → Pair → List ℕ → Bytes
merged e p out = merge_lists e (list_of p.a.now.bytes.now) (list_of p.b.now.bytes.now) out

-- rs are the sums of cs and ds, all of them counts; or one is none: refusal 3
abbrev pub Added : List ℕ → List ℕ → List ℕ → Result (Unit {0}) Refusal → Type 0
Added cs ds rs (Ok u) = (i : ℕ) → i < 256 → (get_or rs i 0 ≡ get_or cs i 0 + get_or ds i 0) × (get_or rs i 0 ≤ max_count)
Added cs ds rs (Err r) = (r ≡ Total) × ((i : ℕ) × (i < 256) × (max_count < get_or cs i 0 + get_or ds i 0))

-- rs is block k of the list zs, and all of it are counts; or not all of zs are: refusal 3
abbrev pub Summed : List ℕ → List ℕ → ℕ → Result (Unit {0}) Refusal → Type 0
Summed zs rs k (Ok u) = (rs ≡ window zs (256 * k) 256) × ((i : ℕ) → get_or rs i 0 ≤ max_count)
Summed zs rs k (Err r) = (r ≡ Total) × (within max_count zs ≡ false)

-- a plan of a list with the pages of the blocks before block k; counts is block k
pub record Block (counts : List ℕ) (k : ℕ) (r : Plan) : Type 0 where
  pub zs : List ℕ
  pub drafted : Drafted r.e zs r
  pub counts-are : counts ≡ window zs (256 * k) 256
  pub small : (i : ℕ) → get_or counts i 0 ≤ max_count
  pub few : k ≤ 255
  pub done-is : r.done ≡ min (2 ^ (8 - r.e) * k) r.pages

-- a layout where the sums have an image; else the call's refusal
abbrev pub Merging : ℕ → Pair → Result Layout Refusal → Type 0
Merging e p (Ok r) = (within max_count (sums_of p) ≡ true) × Limits e (sums_of p) × LayoutOf e (sums_of p) r
Merging e p (Err k) = (out : List ℕ) → merged e p out ≡ unwritten out (number k)
