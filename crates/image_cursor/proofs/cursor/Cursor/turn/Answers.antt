-- `image_cursor::cursor::Cursor::turn` meets its contract. Assumes nothing.
use native.Mathlib.Omega.{arith}
use Rattle.image_cursor.proofs.CursorLaws.{page-small, ready-stays, small}
use Rattle.image_cursor.proofs.cursor.Cursor.turn.Goals as goal

pub overflow_add-next : goal.overflow_add-next
overflow_add-next c =
    let a = c.args.self.now.image.now in
    record { fits = omega (arith, a.head_of.hours-small, c.requires.0, c.requires.1, page-small _ a.head_of a.accepted) }

pub low_bits-requires : goal.low_bits-requires
low_bits-requires c =
    let a = c.args.self.now.image.now in
    omega (arith, small _ a.head_of a.accepted)

pub invariant_of-self : goal.invariant_of-self
invariant_of-self c =
    let s = c.args.self.now in
    record {
      ready = ready-stays _ s.image.now.head_of s.hour c.args.n _ _ c.low_bits.ensures c.if-low_bits-eq0.false c.requires.1 s.ready;
    }
