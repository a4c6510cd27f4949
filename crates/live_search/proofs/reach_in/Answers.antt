-- `live_search::reach_in` meets its contract. Assumes nothing.
use mathlib.Core.Path.{sym, ap, ◌∙◌}
use Prim.Native.Nat.{ℕ, ◌+◌, ◌*◌}
use native.Mathlib.Omega.{arith}
use Rattle.lists.specs.Lists.{reached, sum}
use Rattle.lists.proofs.Reach.{reached-zero}
use Rattle.store.specs.Reading.{list_in}
use Rattle.store.proofs.SoundFacts.{facts}
use Rattle.live_page.proofs.PageTree.{page-same}
use Rattle.live_search.proofs.SpotLaws.{spot-reached}
use Rattle.live_search.proofs.reach_in.Goals as goal

pub returns-then-q-eq0 : goal.returns-then-q-eq0
returns-then-q-eq0 c =
    let xs = list_in c.args.s.bytes.now in
    sym (reached-zero xs) ∙ ap (λ (z : ℕ). reached z xs) (sym c.if-q-eq0.true)

pub overflow_mul-first : goal.overflow_mul-first
overflow_mul-first c =
    omega (arith, (facts c.args.s.bytes.now c.args.s.is_sound).pages-high, c.page_of-stop.ensures.inside)

pub entry_of-requires : goal.entry_of-requires
entry_of-requires c = c.page_of-stop.ensures.inside

pub search_page-requires : goal.search_page-requires
search_page-requires c =
    let w = c.page_of-stop.ensures in
    record {
      small = omega (arith, (facts c.args.s.bytes.now c.args.s.is_sound).pages-high, w.inside);
      le_q = (w.some, omega (arith, w.enough, page-same c.entry_of.ensures sum));
    }

pub returns : goal.returns
returns c =
    let a = c.args in
    let rest = c.page_of-stop.result.rest in
    let e = ap (λ (n : ℕ). 64 * c.page_of-stop.result.page + n) (page-same c.entry_of.ensures (reached rest)) in
    spot-reached (list_in a.s.bytes.now) _ a.q _ _ _ c.page_of-stop.ensures (c.search_page.ensures ∙ e)
