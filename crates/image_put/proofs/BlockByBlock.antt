-- The loops of the crates above, which put an image block by block of 256 hours: what they hand to the steps. Assumes nothing.
use mathlib.Core.List.{List}
use mathlib.Core.Path.{◌≡◌, sym, ap, ◌∙◌}
use Prim.Native.Nat.{ℕ, ◌+◌, ◌-◌, ◌*◌, ◌/◌, ◌%◌, ◌^◌, ◌≤◌, ◌<◌, min}
use Rattle.lists.specs.Lists.{window}
use Rattle.image.specs.Image.{pages}
use Rattle.image_plan.specs.declared.Layout.{Layout}
use Rattle.image_plan.proofs.BlockByBlock.{none-left, one-left}
use Rattle.image_put.specs.Code.Writing.{Blocked, Filled, Laid}
use Rattle.image_put.specs.declared.Place.{Place}

-- the pages of the k blocks so far stand there
module _ {xs first out : List ℕ} {r : Layout} {at : Place} (k : ℕ) (a : Laid xs first out r at) (q : at.page ≡ min (2 ^ (8 - r.e) * k) r.pages) where
  abbrev pages-of : r.pages ≡ pages r.e r.hours
  pages-of = a.room.layout.pages-are ∙ ap (pages r.e) (sym a.room.layout.hours-are)

  -- the next block
  abbrev pub blocked : {cs : List ℕ} → k < r.hours / 256 + min 1 (r.hours % 256) → cs ≡ window xs (256 * k) 256 → Blocked r k at cs out
  blocked l ec =
      let o = one-left r.hours k a.room.limits.e-high pages-of q l in
      record { xs = xs; first = first; so_far = a; more = o.0; at-is = o.1; counts-are = ec }

  -- all pages
  abbrev pub placed : r.hours / 256 + min 1 (r.hours % 256) ≤ k → Filled r out
  placed l = record { xs = xs; first = first; at = at; so_far = a; all = none-left r.hours k a.room.limits.e-high pages-of q l }
