-- `image_cursor::cursor::Cursor::follow` meets its contract. Assumes nothing.
use native.Mathlib.Omega.{arith}
use Rattle.image.proofs.PageLaws.{hour-low}
use Rattle.image_cursor.proofs.CursorLaws.{page-small, ready-copied, small}
use Rattle.image_cursor.proofs.cursor.Cursor.follow.Goals as goal

pub overflow_add-next : goal.overflow_add-next
overflow_add-next c =
    let a = c.args.self.now.image.now in
    record { fits = omega (arith, a.head_of.hours-small, c.requires.inside.0, c.requires.inside.1, page-small _ a.head_of a.accepted) }

pub low_bits-requires : goal.low_bits-requires
low_bits-requires c =
    let a = c.args.self.now.image.now in
    omega (arith, small _ a.head_of a.accepted)

pub overflow_add-next-2 : goal.overflow_add-next-2
overflow_add-next-2 c =
    let a = c.args.self.now.image.now in
    record {
      fits = omega (
        arith,
        a.head_of.hours-small,
        c.requires.inside.0,
        c.requires.inside.1,
        page-small _ a.head_of a.accepted,
        c.low_bits.ensures,
        hour-low a.head.e c.args.lead.now.hour,
      );
    }

pub power-requires : goal.power-requires
power-requires c =
    let a = c.args.self.now.image.now in
    omega (arith, small _ a.head_of a.accepted)

pub copy_page-requires : goal.copy_page-requires
copy_page-requires c =
    let a = c.args.self.now.image.now in
    omega (arith, c.power.ensures, page-small _ a.head_of a.accepted)

pub invariant_of-self : goal.invariant_of-self
invariant_of-self c =
    let a = c.args.self.now.image.now in
    let j = c.args.lead.now in
    record {
      ready = ready-copied _ a.head_of _ j.hour _ _ _ _ c.low_bits.ensures (omega arith) c.requires.inside.2 c.power.ensures
          (rw c.requires.same at j.ready) c.copy_page.ensures.long c.copy_page.ensures.taken;
    }
