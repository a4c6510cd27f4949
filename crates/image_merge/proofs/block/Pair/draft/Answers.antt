-- `image_merge::block::Pair::draft` meets its contract. Assumes nothing.
use mathlib.Core.List.{List}
use mathlib.Core.Path.{◌≡◌, sym, subst}
use Prim.Native.Nat.{ℕ, ◌-◌, ◌*◌, ◌^◌, ◌≤◌, min}
use native.Mathlib.Omega.{arith}
use lib.ListN.{get_or}
use Rattle.std.specs.Prelude.{Err}
use Rattle.answers.specs.declared.refusal.Refusal.TheVariants.{Total}
use Rattle.lists.specs.Counts.{max_count}
use Rattle.lists.specs.Lists.{window}
use Rattle.image_plan.specs.Code.Planning.{Drafted}
use Rattle.image_plan.specs.declared.Plan.{Plan}
use Rattle.image_plan.proofs.BlockByBlock.{none-left}
use Rattle.image_merge.specs.Code.{Block, sums_of}
use Rattle.image_merge.proofs.BlockLaws.{all-within, grown}
use Rattle.image_merge.proofs.MergeLaws.{count_no}
use Rattle.image_merge.proofs.PlanLaws.{merging_of, own-e}
use Rattle.image_merge.proofs.block.Pair.draft.Goals as goal

pub returns-in_err-block : goal.returns-in_err-block
returns-in_err-block c =
    let q : c.from_residual.result ≡ Err Total = grind arith in
    rw q (λ out. count_no _ _ _ out c.in_err-block.ensures.1)

-- the next block of the list
abbrev block : {zs cs : List ℕ} {e k : ℕ} {next : Plan} → Drafted e zs next → next.done ≡ min (2 ^ (8 - e) * k) next.pages → k ≤ 255
    → (cs ≡ window zs (256 * k) 256) × ((i : ℕ) → get_or cs i 0 ≤ max_count) → Block cs k next
block {zs} {k = k} {next} d n l g = record {
  zs = zs;
  drafted = own-e d;
  counts-are = g.0;
  small = g.1;
  few = l;
  done-is = subst (λ (z : ℕ). next.done ≡ min (2 ^ (8 - z) * k) next.pages) (sym d.e-is) n;
}

pub block-requires : goal.block-requires
block-requires c =
    let i = c.loop-k.invariant in
    omega (arith, c.loop-k-test.true, c.div_ceil-k-end.ensures, i.drafted.short, c.requires.0.hours-are, c.requires.0.short)

pub loop-k-init : goal.loop-k-init
loop-k-init c = record { drafted = c.requires.0; at = omega (arith, c.requires.1); small = λ i l. absurd (omega arith) }

pub plan_block-next-requires : goal.plan_block-next-requires
plan_block-next-requires c =
    let i = c.loop-k.invariant in
    block i.drafted i.at (omega (arith, c.loop-k-test.true, c.div_ceil-k-end.ensures, i.drafted.short, c.requires.0.hours-are, c.requires.0.short)) c.in_ok-block.ensures

pub loop-k-preserved : goal.loop-k-preserved
loop-k-preserved c =
    let i = c.loop-k.invariant in
    let g = c.in_ok-block.ensures in
    let few : c.loop-k.k ≤ 255 = omega (arith, c.loop-k-test.true, c.div_ceil-k-end.ensures, i.drafted.short, c.requires.0.hours-are, c.requires.0.short) in
    let d = c.plan_block-next.ensures (block i.drafted i.at few g) in
    let e = i.drafted.e-is in
    record { drafted = rw e at d.0; at = rw e at d.1; small = grown (sums_of c.args.self.now) _ c.loop-k.k i.small g.0 g.1 }

pub finish-requires : goal.finish-requires
finish-requires c =
    let i = c.loop-k.invariant in
    record {
      e = c.args.plan.e;
      xs = sums_of c.args.self.now;
      drafted = i.drafted;
      all = none-left _ c.loop-k.k i.drafted.e-high i.drafted.pages-are i.at (omega (arith, c.loop-k-test.false, c.div_ceil-k-end.ensures, c.requires.0.hours-are));
    }

pub returns : goal.returns
returns c =
    let i = c.loop-k.invariant in
    merging_of c.args.plan.e c.args.self.now c.finish.result
    (all-within (sums_of c.args.self.now) c.loop-k.k
    (omega (arith, c.loop-k-test.false, c.div_ceil-k-end.ensures, c.requires.0.hours-are)) i.small)
    (c.finish.ensures
    (record {
      e = c.args.plan.e;
      xs = sums_of c.args.self.now;
      drafted = i.drafted;
      all = none-left _ c.loop-k.k i.drafted.e-high i.drafted.pages-are i.at (omega (arith, c.loop-k-test.false, c.div_ceil-k-end.ensures, c.requires.0.hours-are));
    }))
