-- `image_write::put::put_image` meets its contract. Assumes nothing.
use mathlib.Core.List.{List}
use mathlib.Core.Path.{◌≡◌}
use Prim.Native.Nat.{ℕ, ◌*◌, ◌^◌, ◌<◌}
use native.Mathlib.Omega.{arith}
use Rattle.image_put.specs.Code.Writing.{Handed, Laid}
use Rattle.image_plan.specs.declared.Layout.{Layout}
use Rattle.image_put.specs.declared.Place.{Place}
use Rattle.image_plan.proofs.PageByPage.{page-from}
use Rattle.image_write.proofs.ListPages.{page-window}
use Rattle.image_write.proofs.put.put_image.Goals as goal

-- the next page of the list
abbrev handed : {xs first out : List ℕ} {r : Layout} {at : Place} (m p : ℕ) → Laid xs first out r at → at.page ≡ p → p < r.pages → m ≡ 2 ^ r.e
    → Handed r at xs (m * p) out
handed {xs} {first} {r = r} m p a i l em = record {
  xs = xs;
  first = first;
  so_far = a;
  more = omega arith;
  counts-are = rw i (page-window r.e xs p m em);
  near =
      let b = page-from r.e xs p m a.room.limits.e-high a.room.limits.hours (omega (arith, l, a.room.layout.pages-are)) em in
      omega (arith, b.0);
}

pub loop-page-init : goal.loop-page-init
loop-page-init c = record { laid = c.begin-at.ensures.1 (record { xs = c.args.counts.now; room = c.requires }); at = c.begin-at.ensures.0 }

pub overflow_mul-m : goal.overflow_mul-m
overflow_mul-m c =
    omega (arith, (handed c.power-m.result c.loop-page.page c.loop-page.invariant.laid c.loop-page.invariant.at c.loop-page-test.true c.power-m.ensures).near)

pub put_page-at-requires : goal.put_page-at-requires
put_page-at-requires c =
    handed c.power-m.result c.loop-page.page c.loop-page.invariant.laid c.loop-page.invariant.at c.loop-page-test.true c.power-m.ensures

pub loop-page-preserved : goal.loop-page-preserved
loop-page-preserved c = record {
  laid =
      c.put_page-at.ensures.1
      (handed c.power-m.result c.loop-page.page c.loop-page.invariant.laid c.loop-page.invariant.at c.loop-page-test.true c.power-m.ensures);
  at = omega (arith, c.put_page-at.ensures.0);
}

pub end-requires : goal.end-requires
end-requires c = record { xs = _; first = _; at = _; so_far = c.loop-page.invariant.laid; all = omega arith }

pub returns : goal.returns
returns c = c.end.ensures (record { xs = _; first = _; at = _; so_far = c.loop-page.invariant.laid; all = omega arith })
