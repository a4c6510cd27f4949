-- `image_reach::reach_in` meets its contract. Assumes nothing.
use mathlib.Core.Path.{◌≡◌, refl, sym, subst}
use mathlib.Core.List.{List}
use Prim.Native.Nat.{ℕ, ◌+◌, ◌*◌, ◌^◌, ◌≤◌, ◌<◌}
use native.Mathlib.Omega.{arith}
use Rattle.std.specs.Prelude.{Option, None, Some, Err}
use Rattle.answers.specs.declared.refusal.Refusal.TheVariants.{Body}
use Rattle.tree.specs.Code.Node.{Lies}
use Rattle.answers.specs.Image.{given, refused, told}
use Rattle.image.specs.Reach.{Reach}
use Rattle.std.specs.Bool.{then_some}
use Rattle.std.specs.Option.{ok_or}
use lib.Dec.{leb}
use borrow.Author.Tests.{le-leb, lt-leb}
use native.Mathlib.Decide.{dec_le}
use Rattle.image.specs.declared.head.Head.{Head}
use Rattle.image.specs.declared.page.Page.{Page}
use Rattle.image.specs.declared.page.Root.{Root}
use Rattle.image.specs.Code.Page.{BeforeAt, PageAt, PageOf, RootAt, Rooted}
use Rattle.image.proofs.HeadLaws.{bounds}
use Rattle.image_find.proofs.SearchSteps.{Found, above, before_small, index, last-six, no-index, page-six}
use Rattle.image_reach.proofs.reach_in.Goals as goal

-- where the page's hours start
first_small : {s : List ℕ} {h : Head} {q p m : ℕ} → Found s h q p → m ≡ 2 ^ h.e → m * p + 2 ^ h.e ≤ 16777472
first_small {s} {h} {p = p} {m = m} g e =
    let f = bounds s h g.opened in
    before_small h.e p m f.e-high (omega (arith, g.hit.inside, f.few)) e

-- the page, once it is there
at-page : {s : List ℕ} {h : Head} {q p : ℕ} {own : Option Root} {last : Option ℕ} (o : Option Page) (r : Page) → Found s h q p → RootAt s p own
    → BeforeAt s p last → ((a : Rooted h own last) → PageAt a.s a.p o) → o ≡ Some r → PageOf s p r
at-page {s} {p = p} o r f x y g e = rw e at (g (record { s = s; p = p; opened = f.opened; own_at = x; last-at = y }))

-- an index past the hours is damage, too
within : {s : List ℕ} {q : ℕ} (hours : ℕ) (w r : Option ℕ) → (w ≡ None → Reach s q (refused 6))
    → ((i : ℕ) → w ≡ Some i → (i ≤ hours → Reach s q (given i)) × (hours < i → Reach s q (refused 6)))
    → (w ≡ None → r ≡ None) → ((i : ℕ) → w ≡ Some i → r ≡ then_some (leb i hours) i) → Reach s q (told (ok_or r Body))
unfolding told
within hours None r a b h k = rw (h refl) (a refl)
within {s} {q} hours (Some i) r a b h k = rw (k i refl) (go (dec_le i hours))
  where
    go : Dec (i ≤ hours) → Reach s q (told (ok_or (then_some (leb i hours) i) Body))
    go (yes l) = rw (le-leb i hours l) ((b i refl).0 l)
    go (no l) = rw (lt-leb i hours (omega arith)) ((b i refl).1 (omega arith))

-- ---- the calls and the returns
pub root_of-requires : goal.root_of-requires
root_of-requires c = c.requires.1.inside

pub root_before-requires : goal.root_before-requires
root_before-requires c = c.requires.1.inside

pub returns-in_err-page : goal.returns-in_err-page
unfolding told
returns-in_err-page c =
    let g : Found _ _ _ _ = record { opened = c.args.image.now.opened; within = c.requires.0; hit = c.requires.1 } in
    let e : c.from_residual.result ≡ Err Body = grind arith in
    let n : c.page_between-found.result ≡ None = grind arith in
    rw e (page-six g (rw n at (c.page_between-found.ensures (record { s = c.args.image.now.bytes.now; p = c.args.p; opened = g.opened; own_at = c.root_of.ensures; last-at = c.root_before.ensures }))))

pub overflow_add-page : goal.overflow_add-page
overflow_add-page c =
    let g : Found _ _ _ _ = record { opened = c.args.image.now.opened; within = c.requires.0; hit = c.requires.1 } in
    let r = at-page c.page_between-found.result c.in_ok-page.page g c.root_of.ensures c.root_before.ensures c.page_between-found.ensures (grind arith) in
    let q = c.args.image.now.opened.head in
    omega (arith, r.total, q.total-is, q.total-small)

pub returns-then-page-q : goal.returns-then-page-q
unfolding told
returns-then-page-q c =
    let g : Found _ _ _ _ = record { opened = c.args.image.now.opened; within = c.requires.0; hit = c.requires.1 } in
    let r = at-page c.page_between-found.result c.in_ok-page.page g c.root_of.ensures c.root_before.ensures c.page_between-found.ensures (grind arith) in
    last-six g r c.if-page-q.true

pub overflow_sub-q : goal.overflow_sub-q
overflow_sub-q c =
    let g : Found _ _ _ _ = record { opened = c.args.image.now.opened; within = c.requires.0; hit = c.requires.1 } in
    let r = at-page c.page_between-found.result c.in_ok-page.page g c.root_of.ensures c.root_before.ensures c.page_between-found.ensures (grind arith) in
    omega (arith, above g r)

pub power-requires : goal.power-requires
power-requires c = omega (arith, (bounds _ _ c.args.image.now.opened).e-high)

pub overflow_mul-power : goal.overflow_mul-power
overflow_mul-power c =
    let g : Found _ _ _ _ = record { opened = c.args.image.now.opened; within = c.requires.0; hit = c.requires.1 } in
    record { fits = omega (arith, first_small g c.power.ensures) }

pub search-sought-requires : goal.search-sought-requires
search-sought-requires c =
    let g : Found _ _ _ _ = record { opened = c.args.image.now.opened; within = c.requires.0; hit = c.requires.1 } in
    let r = at-page c.page_between-found.result c.in_ok-page.page g c.root_of.ensures c.root_before.ensures c.page_between-found.ensures (grind arith) in (
      subst (λ (h : ℕ). Lies c.args.image.now.bytes.now c.in_ok-page.page.at h c.in_ok-page.page.sum) (sym g.opened.head.e-is) r.lies,
      omega (arith, first_small g c.power.ensures),
    )

pub returns : goal.returns
unfolding told
returns c =
    let g : Found _ _ _ _ = record { opened = c.args.image.now.opened; within = c.requires.0; hit = c.requires.1 } in
    let r = at-page c.page_between-found.result c.in_ok-page.page g c.root_of.ensures c.root_before.ensures c.page_between-found.ensures (grind arith) in
    let n = no-index g r c.power.ensures c.search-sought.ensures c.if-page-q.false in
    let i : (i : ℕ) → c.search-sought.result ≡ Some i → _ = λ i. index g r c.power.ensures c.search-sought.ensures c.if-page-q.false {i = i} in
    subst (λ z. Reach c.args.image.now.bytes.now c.args.q (told z)) (sym c.ok_or-2.ensures.value)
    (within c.args.image.now.head.hours c.search-sought.result c.filter.result n i (λ e. grind arith) (λ i e. grind arith))
