-- `image_cursor::cursor::Cursor::read` meets its contract. Assumes nothing.
use native.Mathlib.Omega.{arith}
use Rattle.image_cursor.proofs.CursorLaws.{fits, page-in, ready-end, ready_read, small}
use Rattle.image_cursor.proofs.cursor.Cursor.read.Goals.{then-hour-self, else-hour-self}
use Rattle.image_cursor.proofs.cursor.Cursor.read.Goals as goal

pub overflow_shr-p : goal.overflow_shr-p
overflow_shr-p c =
    let a = c.args.self.now.image.now in
    omega (arith, small _ a.head_of a.accepted)

pub page_counts-requires : goal.page_counts-requires
page_counts-requires c =
    let a = c.args.self.now.image.now in
    let p = c.places_of in
    (rw p.ensures (page-in _ a.head_of c.args.hour c.if-hour-self.true), rw p.result.page (omega (arith, fits _ p.result.accepted)))

pub invariant_of-self : goal.invariant_of-self
invariant_of-self c =
    let s = c.args.self.now in
    let a = s.image.now in
    elim c.if-hour-self.branch [
      | then-hour-self w ↦ record {
        ready = rw w.self-is (ready_read _ a.head_of a.accepted c.args.hour _ _ s.ready.long (rw w.places_of.ensures at w.page_counts.ensures));
      }
      | else-hour-self w ↦ record { ready = rw w.self-is (ready-end _ a.head_of c.args.hour _ w.if-hour-self.false s.ready.long) }
    ]
