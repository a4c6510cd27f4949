-- `image_page::places_of` meets its contract. Assumes nothing.
use Rattle.image_page.proofs.AcceptedPage.{wide-as}
use Rattle.image_page.proofs.places_of.Goals as goal

pub invariant_of-result : goal.invariant_of-result
invariant_of-result c =
    let i = c.args.image.now in
    let h = i.head_of in
    record {
      accepted = i.accepted;
      places = record { entries-are = h.table_is; code_is = h.code_is; width_is = wide-as h c.digits_of.ensures };
      page = h.e-is;
    }
