-- `image::head::open_image` meets its contract. Assumes nothing.
use mathlib.Core.Path.{◌≡◌, refl}
use Prim.Native.Nat.{ℕ, ◌≤◌}
use native.Mathlib.Omega.{arith}
use mathlib.Core.List.{List}
use lib.ListN.{length, get_or}
use Rattle.std.proofs.Common.{Fits, w8}
use Rattle.std.specs.Prelude.{Option, Some}
use Rattle.bits.specs.Numbers.{Number}
use Rattle.image.specs.declared.head.Tail.{Tail}
use Rattle.image.specs.Code.Head.{Tailed, TailOf}
use Rattle.image.specs.Read.{wide_of}
use Rattle.image.proofs.Editions.{header-least}
use Rattle.image.proofs.HeadLaws.{too_short}
use Rattle.image.proofs.TailLaws.{First, end-small, first-bytes, three-wrong, length-wrong, opened, table-low}
use Rattle.image.proofs.head.open_image.Goals as goal
use Rattle.image.proofs.head.open_image.Goals.{then-e-lt2-via-then-e-lt2, then-e-lt2-via-else-e-lt2+then-e-gt8, then-e-lt2-via-else-e-lt2+else-e-gt8+then-hours-gt-MAX_HOURS}

-- bytes 0 to 3, as they were read
first : {s : List ℕ} → ((i : ℕ) → Fits w8 (get_or s i 0)) → 16 ≤ length s → {n : ℕ} → Number s 0 4 n → First s n
first {s} b long n = first-bytes s (λ i. omega (arith, b i)) long n

pub returns-then-s-lt-SIZE : goal.returns-then-s-lt-SIZE
returns-then-s-lt-SIZE c = (too_short _ 16 (header-least (wide_of c.args.s.now)) c.if-s-lt-SIZE.true, refl)

pub tail_of-requires : goal.tail_of-requires
tail_of-requires c = (c.if-s-lt-SIZE.false, (first c.type_inv.s c.if-s-lt-SIZE.false c.get-first.ensures).low)

pub returns-then-e-lt2 : goal.returns-then-e-lt2
returns-then-e-lt2 c =
    let f = first c.type_inv.s c.if-s-lt-SIZE.false c.get-first.ensures in (
      three-wrong f c.get-hours.ensures (λ t. let low = t.0 in let high = t.1 in let few = t.2 in elim c.then-e-lt2.branch [
        | then-e-lt2-via-then-e-lt2 w ↦ omega arith
        | then-e-lt2-via-else-e-lt2+then-e-gt8 w ↦ omega arith
        | then-e-lt2-via-else-e-lt2+else-e-gt8+then-hours-gt-MAX_HOURS w ↦ omega arith
      ]),
      refl,
    )

-- the tail, once it is there
read : {s : List ℕ} (o : Option Tail) (t : Tail) → Tailed s o → o ≡ Some t → TailOf s t
read o t h e = rw e at h

pub head_of-head-requires : goal.head_of-head-requires
head_of-head-requires c =
    let f = first c.type_inv.s c.if-s-lt-SIZE.false c.get-first.ensures in
    let t = read c.tail_of.result c.in_ok-tail.tail c.tail_of.ensures (grind arith) in
    (c.if-e-gt8.false, c.if-hours-gt-MAX_HOURS.false, table-low f c.get-hours.ensures t c.if-e-lt2.false c.if-e-gt8.false c.if-hours-gt-MAX_HOURS.false)

pub overflow_add-end : goal.overflow_add-end
overflow_add-end c =
    let f = first c.type_inv.s c.if-s-lt-SIZE.false c.get-first.ensures in
    let t = read c.tail_of.result c.in_ok-tail.tail c.tail_of.ensures (grind arith) in
    let m = end-small f c.get-hours.ensures t c.if-e-lt2.false c.if-e-gt8.false c.if-hours-gt-MAX_HOURS.false c.head_of-head.ensures in
    omega arith

pub returns-then-s-end : goal.returns-then-s-end
returns-then-s-end c =
    let f = first c.type_inv.s c.if-s-lt-SIZE.false c.get-first.ensures in
    let t = read c.tail_of.result c.in_ok-tail.tail c.tail_of.ensures (grind arith) in
    (length-wrong f c.get-hours.ensures t c.if-e-lt2.false c.if-e-gt8.false c.if-hours-gt-MAX_HOURS.false c.head_of-head.ensures (omega (arith, c.div_ceil.ensures)) c.if-s-end.true, refl)

pub invariant_of-result : goal.invariant_of-result
invariant_of-result c =
    let f = first c.type_inv.s c.if-s-lt-SIZE.false c.get-first.ensures in
    let t = read c.tail_of.result c.in_ok-tail.tail c.tail_of.ensures (grind arith) in
    record {
      opened = opened f c.get-hours.ensures t c.if-e-lt2.false c.if-e-gt8.false c.if-hours-gt-MAX_HOURS.false c.head_of-head.ensures
          (omega (arith, c.div_ceil.ensures)) c.if-s-end.false;
      each = λ i. omega (arith, c.type_inv.s i);
    }
