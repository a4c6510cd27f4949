-- `freeze_put::block::ListedBlocks::block` meets its contract. Assumes nothing.
use mathlib.Core.Path.{◌≡◌, refl, ap, ◌∙◌}
use mathlib.Core.List.{List}
use Prim.Native.Nat.{ℕ, ◌+◌, ◌*◌, ◌<◌}
use native.Mathlib.Omega.{arith}
use lib.ListN.{length, replicate}
use Rattle.lists.specs.Lists.{splice, window}
use Rattle.lists.proofs.Blocks.{block-is, none-put, one-put}
use Rattle.tree_decode.proofs.Limits.{small-fits}
use Rattle.store.specs.Reading.{list_in}
use Rattle.store.proofs.SoundFacts.{facts}
use Rattle.pages.proofs.Coding.{lies}
use Rattle.pages.proofs.SoundPage.{sum-small}
use Rattle.freeze_put.specs.declared.block.Listed.{Listed}
use Rattle.freeze_put.proofs.Listing.{page-decoded}
use Rattle.freeze_put.proofs.block.ListedBlocks.block.Goals as goal

-- the block begins in the store's pages
inside : (l : Listed) (k : ℕ) → 256 * k < length (list_in l.store.bytes.now) → 4 * k < l.pages
inside l k h =
    let f = facts l.store.bytes.now l.store.is_sound in
    omega (arith, h, f.hours-are, f.hours-fit, l.pages_are)

pub overflow_mul-first : goal.overflow_mul-first
overflow_mul-first c = omega (arith, inside c.args.self.now c.args.k c.requires, (facts c.args.self.now.store.bytes.now c.args.self.now.store.is_sound).pages-high, c.args.self.now.pages_are)

pub overflow_sub-self : goal.overflow_sub-self
overflow_sub-self c = omega (arith, inside c.args.self.now c.args.k c.requires)

pub loop-j-init : goal.loop-j-init
loop-j-init c = none-put _ 64 (list_in c.args.self.now.store.bytes.now) (4 * c.args.k)

pub entry_of-own-requires : goal.entry_of-own-requires
entry_of-own-requires c = omega (arith, c.args.self.now.pages_are, c.loop-j-test.true, c.min-j-end.ensures)

pub decode-requires-clause-code : goal.decode-requires-clause-code
decode-requires-clause-code c =
    let o = c.entry_of-own.result.of_page in
    let y = lies c.code-code.result _ (omega arith) (sum-small o) in
    let x = (page-decoded o c.code-code.ensures).0 in
    record { lies = y; code = x; fits = small-fits y x (omega (arith, sum-small o)) }

pub decode-requires-clause-room : goal.decode-requires-clause-room
decode-requires-clause-room c = omega (arith, c.loop-j-test.true, c.min-j-end.ensures)

pub loop-j-preserved : goal.loop-j-preserved
loop-j-preserved c =
    let l = c.loop-j in
    let e = c.entry_of-own.ensures in
    one-put c.fill.new.self l.counts _ 64 (list_in c.args.self.now.store.bytes.now) (4 * c.args.k) l.j
    (omega (arith, c.loop-j-test.true, c.min-j-end.ensures, c.fill.ensures.len, c.told-counts)) l.invariant
    (c.decode.ensures ∙ ap (λ z. splice l.counts (64 * l.j) z) (rw (e.0, e.1) at (page-decoded c.entry_of-own.result.of_page c.code-code.ensures).1))

pub returns : goal.returns
returns c =
    let l = c.loop-j in
    let s = c.args.self.now in
    let xs = list_in s.store.bytes.now in
    let f = facts s.store.bytes.now s.store.is_sound in
    block-is 64 4 xs c.fill.new.self l.counts s.pages (4 * c.args.k) l.j refl
    (omega (arith, f.hours-are, f.hours-fit, s.pages_are)) (omega (arith, c.min-j-end.ensures, l.auto, c.loop-j-test.false))
    (c.fill.ensures.after (λ y h. h) ∙ ap (λ (n : ℕ). replicate n 0) c.told-counts) l.invariant
    ∙ ap (λ (z : ℕ). window xs z 256) {x = 64 * (4 * c.args.k)} {y = 256 * c.args.k} (omega arith)
