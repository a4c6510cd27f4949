-- What the functions of src/page.rt answer. Assumes nothing.
use Rattle.std.specs.Prelude.{true, false, Option, Some, None, List, ◌≡◌, ℕ, ◌+◌, ◌≤◌}
use Rattle.tree.specs.Code.Node.{Lies}
use Rattle.image.specs.Code.Head.{Opened}
use Rattle.image.specs.Query.{before_passing, page_fine, passing}
use Rattle.image.specs.Read.{before_of, e_of, l_of, root_at, s_of, start_of, sum_of, tree_at, width_of}
use Rattle.image.specs.declared.head.Head.{Head}
use Rattle.image.specs.declared.page.Root.{Root}
use Rattle.image.specs.declared.page.Page.{Page}

-- page p's root, which does not pass L: its number, and where it ends in the code
pub record RootOf (s : List ℕ) (p : ℕ) (r : Root) : Type 0 where
  pub inside : passing s (start_of s p) (width_of s) ≡ false
  pub value-is : r.value ≡ root_at s p
  pub end_is : r.end ≡ start_of s p + width_of s
  pub end-le : r.end ≤ l_of s

-- it, or that it passes L
abbrev pub RootAt : List ℕ → ℕ → Option Root → Type 0
RootAt s p (Some r) = RootOf s p r
RootAt s p None = passing s (start_of s p) (width_of s) ≡ true

-- the number of the root of the page before page p, or that this root passes L
abbrev pub BeforeAt : List ℕ → ℕ → Option ℕ → Type 0
BeforeAt s p (Some v) = (before_passing s p ≡ false) × (v ≡ before_of s p)
BeforeAt s p None = before_passing s p ≡ true

-- there is an image with this header and a page p of it whose root is own, the root before it being last
pub record Rooted (h : Head) (own : Option Root) (last : Option ℕ) : Type 0 where
  pub s : List ℕ
  pub p : ℕ
  pub opened : Opened s h
  pub own_at : RootAt s p own
  pub last-at : BeforeAt s p last

-- page p, which has no damage but in its tree: the root before it, its sum, and its tree, which lies in the bytes
pub record PageOf (s : List ℕ) (p : ℕ) (r : Page) : Type 0 where
  pub fine : page_fine s p ≡ true
  pub before-is : r.before ≡ before_of s p
  pub sum_is : r.sum ≡ sum_of s p
  pub at-is : r.at ≡ tree_at s p
  pub total : r.before + r.sum ≤ s_of s
  pub lies : Lies s r.at (e_of s) r.sum

-- it, or that it has damage
abbrev pub PageAt : List ℕ → ℕ → Option Page → Type 0
PageAt s p (Some r) = PageOf s p r
PageAt s p None = page_fine s p ≡ false
