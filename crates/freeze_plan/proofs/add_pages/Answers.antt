-- `freeze_plan::add_pages` meets its contract. Assumes nothing.
use Prim.Native.Nat.{ℕ}
use native.Mathlib.Nat.{mul-le-mul_left}
use lib.Pow.{pow_pos}
use Rattle.pages.proofs.Prefix.{reading-none}
use Rattle.pages.proofs.SoundPage.{of_store, sum-small}
use Rattle.store.proofs.SoundFacts.{facts}
use Rattle.image_plan.specs.declared.Plan.{Plan}
use Rattle.freeze_plan.specs.Code.Steps.{Ending}
use Rattle.freeze_plan.proofs.PageEnds.{ahead, all-next, at_own, of-own, behind, end-in, last-page, power-low, reading-fits, total-fits}
use mathlib.Core.Path.{◌≡◌}
use mathlib.Core.List.{List}
use mathlib.Core.Bool.{true}
use Rattle.store.specs.Sound.{sound}
use Prim.Native.Nat.{◌+◌, ◌*◌, ◌^◌, ◌≤◌, ◌<◌}
use native.Mathlib.Omega.{arith}
use Rattle.lists.specs.Lists.{reading}
use Rattle.store.specs.Reading.{list_in, page_count_of}
use Rattle.image_plan.specs.Code.Planning.{Drafted}
use Rattle.freeze_plan.proofs.add_pages.Goals as goal

pub power-m-requires : goal.power-m-requires
power-m-requires c = omega (arith, c.requires.1.e-high)

one-le : (d : ℕ) → 1 ≤ d + 1
one-le d = omega arith

pub loop-p-init : goal.loop-p-init
loop-p-init c = record {
  all-is = reading-none (list_in c.args.s.bytes.now);
  drafted = c.requires.1;
  ahead = λ (l : c.args.plan.done < c.args.plan.pages). omega (arith, mul-le-mul_left (2 ^ c.args.plan.e) (one-le c.args.plan.done), pow_pos c.args.plan.e);
}

-- the page is one of the store
few : (s : List ℕ) (p pages : ℕ) → sound s ≡ true → pages ≡ page_count_of s → p < pages → p < 1024
few s p pages h q l = omega (arith, q, l, (facts s h).pages-high)

pub overflow_add-all : goal.overflow_add-all
overflow_add-all c =
    omega (arith, c.loop-p.invariant.all-is, reading-fits c.args.s.bytes.now c.args.s.is_sound (64 * c.loop-p.p), sum-small c.entry_of-own.result.of_page)

pub overflow_add-p : goal.overflow_add-p
overflow_add-p c = omega (arith, few c.args.s.bytes.now c.loop-p.p c.args.pages c.args.s.is_sound c.requires.0 c.loop-p-test.true)

pub overflow_mul-p : goal.overflow_mul-p
overflow_mul-p c = omega (arith, few c.args.s.bytes.now c.loop-p.p c.args.pages c.args.s.is_sound c.requires.0 c.loop-p-test.true)

pub nonzero_div-p : goal.nonzero_div-p
nonzero_div-p c = (power-low c.args.plan.e _ c.power-m.ensures c.requires.1.e-high).0

-- as many pages as when the loop began
same : {e : ℕ} {xs : List ℕ} {r n : Plan} → Drafted e xs r → Drafted e xs n → r.pages ≡ n.pages
same d t = omega (arith, d.pages-are, t.pages-are)

pub add_within-next-requires : goal.add_within-next-requires
add_within-next-requires c =
    let i = c.loop-p.invariant in
    let o = c.entry_of-own in
    let e = end-in c.args.plan.e c.power-m.result c.loop-p.p c.min-end.result c.args.plan.pages c.power-m.ensures c.min-end.ensures in
    record {
      within = rw (o.ensures.0, o.ensures.1) (record {
        total-fits = total-fits c.args.s.bytes.now c.args.s.is_sound;
        drafted = at_own i.drafted;
        ahead = λ (l : c.loop-p.next.done < c.loop-p.next.pages). rw i.drafted.e-is (i.ahead l);
        end-one = omega (arith, e.0, same c.requires.1 i.drafted);
        end-in = rw i.drafted.e-is e.1;
      });
      reading = rw (o.ensures.0, o.ensures.1) (all-next c.loop-p.all (of_store o.result.of_page o.ensures) i.all-is);
    }

pub loop-p-preserved : goal.loop-p-preserved
loop-p-preserved c =
    let d = c.add_within-next in
    let i = c.loop-p.invariant in
    let o = c.entry_of-own in
    let t : Drafted c.args.plan.e (list_in c.args.s.bytes.now) d.result = of-own i.drafted (rw (← o.ensures.0) d.ensures.0) in
    record {
      all-is = all-next c.loop-p.all (of_store o.result.of_page o.ensures) i.all-is;
      drafted = t;
      ahead = λ (l : d.result.done < d.result.pages).
          ahead c.args.plan.e c.power-m.result c.loop-p.p c.min-end.result c.args.plan.pages d.result.done c.power-m.ensures
          c.min-end.ensures d.ensures.1 (omega (arith, l, same c.requires.1 t));
    }

-- the last page, if it ends behind the store's
abbrev at-end : (s : List ℕ) (e p all pages : ℕ) (plan r : Plan) → sound s ≡ true → pages ≡ page_count_of s → pages ≤ p
    → all ≡ reading (list_in s) (64 * p) → Drafted e (list_in s) plan → Drafted e (list_in s) r → (r.done < r.pages → 64 * p < 2 ^ e * (r.done + 1))
    → Ending all plan.pages r
at-end s e p all pages plan r so q k al d₀ d f = record {
  e = e;
  xs = list_in s;
  drafted = d;
  total-fits = total-fits s so;
  end-one = omega (arith, d₀.pages-are, d.pages-are);
  next = λ (l : r.done < plan.pages).
      let h = f (omega (arith, l, d₀.pages-are, d.pages-are)) in
      (last-page s so e p pages r.done plan.pages q k d₀.pages-are h, behind s so p pages (2 ^ e * (r.done + 1)) all q k al h);
}

pub add_ending-requires : goal.add_ending-requires
add_ending-requires c =
    let a = c.args in
    let i = c.loop-p.invariant in
    at-end a.s.bytes.now a.plan.e c.loop-p.p c.loop-p.all a.pages a.plan c.loop-p.next a.s.is_sound c.requires.0 c.loop-p-test.false i.all-is c.requires.1 i.drafted i.ahead

pub returns : goal.returns
returns c =
    let a = c.args in
    let i = c.loop-p.invariant in
    let d =
    c.add_ending.ensures
    (at-end a.s.bytes.now a.plan.e c.loop-p.p c.loop-p.all a.pages a.plan c.loop-p.next a.s.is_sound c.requires.0 c.loop-p-test.false i.all-is c.requires.1 i.drafted i.ahead) in
    (d.0, omega (arith, d.1, same c.requires.1 d.0))
