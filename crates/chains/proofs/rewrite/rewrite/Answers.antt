-- `chains::rewrite::rewrite` meets its contract. Assumes nothing.
use native.Mathlib.Omega.{arith}
use Rattle.chains.proofs.LinkSteps.{rewritten-is}
use Rattle.chains.proofs.rewrite.rewrite.Goals as goal

pub join-requires : goal.join-requires
join-requires c =
    let q = c.requires in
    (q.low, omega arith, rw c.entry_at-entry.ensures q.own)

pub fill-requires : goal.fill-requires
fill-requires c =
    let q = c.requires in
    let l = c.max-most.ensures in
    (q.low, rw l q.long, rw (c.join.ensures, c.entry_at-entry.ensures, l) q.both)

pub cut-requires : goal.cut-requires
cut-requires c =
    let q = c.requires in
    let l = c.max-most.ensures in (
      q.low,
      omega arith,
      rw (c.fill.ensures, c.join.ensures, c.entry_at-entry.ensures, l) q.kept,
    )

pub returns : goal.returns
returns c =
    let a = c.args in
    rewritten-is a.s.now _ _ _ _ _ _ a.code.now a.base a.c.page _ a.c.old a.c.new _ _ a.c.sum a.hours
    c.entry_at-entry.ensures c.get-free.ensures.is c.max-most.ensures
    c.join.ensures
    c.fill.ensures c.cut.ensures
    c.put.ensures
    c.put-2.ensures c.put-3.ensures
