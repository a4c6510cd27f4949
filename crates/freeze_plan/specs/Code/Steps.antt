-- What the steps of a freeze's plan ask. Assumes nothing.
use Rattle.std.specs.Prelude.{List, ◌≡◌, ℕ, ◌+◌, ◌*◌, ◌^◌, ◌≤◌, ◌<◌}
use Rattle.lists.specs.Lists.{reading, sum}
use Rattle.store.specs.Limits.{max_total}
use Rattle.store.specs.Reading.{list_in}
use Rattle.image_plan.specs.Code.Planning.{Drafted}
use Rattle.image_plan.specs.declared.Plan.{Plan}

-- the next page of the image of a list that a store can have ends in page p of the store, or behind it, and page number end - 1 in p or before it
pub record Within (s : List ℕ) (p end : ℕ) (r : Plan) : Type 0 where
  pub total-fits : sum (list_in s) ≤ max_total
  pub drafted : Drafted r.e (list_in s) r
  pub ahead : r.done < r.pages → 64 * p < 2 ^ r.e * (r.done + 1)
  pub end-one : end ≤ r.pages
  pub end-in : 2 ^ r.e * end ≤ 64 * p + 64

-- there is a list of whose first end pages the plan lacks one at most, and then all is the reading at that page's end
pub record Ending (all end : ℕ) (r : Plan) : Type 0 where
  pub e : ℕ
  pub xs : List ℕ
  pub drafted : Drafted e xs r
  pub total-fits : sum xs ≤ max_total
  pub end-one : end ≤ r.pages
  pub next : r.done < end → (end ≤ r.done + 1) × (all ≡ reading xs (2 ^ e * (r.done + 1)))
