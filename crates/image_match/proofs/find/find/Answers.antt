-- `image_match::find::find` meets its contract. Assumes nothing.
use mathlib.Core.Path.{◌≡◌, refl, ap, sym, ◌∙◌}
use Prim.Native.Nat.{ℕ, ◌+◌, ◌*◌, ◌^◌, ◌<◌}
use native.Mathlib.Omega.{arith}
use Rattle.lists.specs.Lists.{reading}
use Rattle.image.specs.Read.{list_of}
use Rattle.image_cursor.proofs.CursorLaws.{small}
use Rattle.runs.specs.Runs.{FirstMatch}
use Rattle.match_seek.specs.Code.Seek.{Seeks}
use Rattle.match_page.proofs.PageLaws.{coins-first, coins-next, coins-small, page-end, page-meets, page-shifted, page-start, pages-all}
use Rattle.match_seek.proofs.SeekLaws.{as-sought, seeks-as, seeks-at, seeks-beyond, seeks-first, seeks-none, visit-ready}
use Rattle.image_match.proofs.find.find.Goals as goal

pub loop-p-init : goal.loop-p-init
loop-p-init c =
    let a = c.args.image.now in
    let xs = list_of a.bytes.now in
    let z : 2 ^ a.head.e * 0 ≡ 0 = omega arith in (
      seeks-as _ _ _ _ _ z (seeks-first _ _ c.requires),
      c.read.ensures.0,
      c.read.ensures.1 ∙ c.new-back.ensures,
      coins-first xs ∙ ap (reading xs) (sym z),
    )

pub overflow_shl-p : goal.overflow_shl-p
overflow_shl-p c =
    let a = c.args.image.now in
    omega (arith, small _ a.head_of a.accepted)

pub front_page-page-requires-clause-starts : goal.front_page-page-requires-clause-starts
front_page-page-requires-clause-starts c =
    let a = c.args.image.now in
    let l : c.loop-p.p < a.head.pages = omega (arith, c.loop-p-test.true) in
    let e = page-shifted _ a.accepted a.head_of c.loop-p.p l in
    (omega (arith, e, page-start _ a.accepted a.head_of c.loop-p.p l), page-meets _ a.accepted a.head_of c.loop-p.p _ e)

pub front_page-page-requires-clause-before_value : goal.front_page-page-requires-clause-before_value
front_page-page-requires-clause-before_value c =
    let a = c.args.image.now in
    c.loop-p.invariant.3 ∙ ap (reading (list_of a.bytes.now)) (sym (page-shifted _ a.accepted a.head_of c.loop-p.p (omega (arith, c.loop-p-test.true))))

pub visit-requires : goal.visit-requires
visit-requires c =
    let a = c.args.image.now in
    let l = c.loop-p in
    let f = c.front_page-page in
    let e = f.ensures.0 ∙ page-shifted _ a.accepted a.head_of l.p (omega (arith, c.loop-p-test.true)) in
    visit-ready a l.back c.args.q f.result l.at l.invariant.2 f.ensures.1 (seeks-as _ _ _ _ _ e l.invariant.0) l.invariant.1 _ refl

pub returns-in-Matched : goal.returns-in-Matched
returns-in-Matched c =
    let a = c.args.image.now in
    let l = c.loop-p in
    let f = c.front_page-page in
    let e = f.ensures.0 ∙ page-shifted _ a.accepted a.head_of l.p (omega (arith, c.loop-p-test.true)) in
    let r = c.in-Matched.run' in
    as-sought (λ xs z. FirstMatch xs z r.first r.hours) a l.back c.args.q f.result.first l.at l.invariant.2 (seeks-as _ _ _ _ _ e l.invariant.0) _ refl
    c.in-Matched.ensures.0

pub overflow_add-before : goal.overflow_add-before
overflow_add-before c =
    let a = c.args.image.now in
    let l = c.loop-p in
    let f = c.front_page-page in
    let e = f.ensures.0 ∙ page-shifted _ a.accepted a.head_of l.p (omega (arith, c.loop-p-test.true)) in
    let b = coins-next _ _ _ _ e f.ensures.1.run_is l.invariant.3 in
    record { fits = omega (arith, b, coins-small _ a.accepted a.head_of (2 ^ a.head.e * l.p + f.result.hours)) }

pub loop-p-preserved : goal.loop-p-preserved
loop-p-preserved c =
    let a = c.args.image.now in
    let xs = list_of a.bytes.now in
    let l = c.loop-p in
    let f = c.front_page-page in
    let g = f.ensures.1 in
    let e = f.ensures.0 ∙ page-shifted _ a.accepted a.head_of l.p (omega (arith, c.loop-p-test.true)) in
    let x = c.in-Beyond.ensures in
    let s = as-sought (λ ys z. Seeks ys z f.result.first c.in-Beyond.next) a l.back c.args.q f.result.first l.at l.invariant.2
    (seeks-as _ _ _ _ _ e l.invariant.0) _ refl x.0.0 in
    let n = page-end _ a.accepted a.head_of l.p f.result.first f.result.hours (omega (arith, c.loop-p-test.true)) e g.whole in (
      seeks-at _ _ _ _ (seeks-beyond _ _ _ g.run_is _ s x.0.1) _ n,
      x.0.2,
      x.1 ∙ l.invariant.2,
      coins-next _ _ _ _ e g.run_is l.invariant.3 ∙ ap (λ (z : ℕ). reading xs (z + f.result.hours)) (sym e) ∙ n,
    )

pub returns : goal.returns
returns c =
    let a = c.args.image.now in
    seeks-none _ _ _ _ c.loop-p.invariant.0 (pages-all _ a.accepted a.head_of c.loop-p.p (omega (arith, c.loop-p-test.false)))
