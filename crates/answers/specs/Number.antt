-- The refusals' numbers. Assumes nothing.
use Rattle.std.specs.Prelude.{ℕ}
use Rattle.answers.specs.Refusals.{above_total, bag_empty, body_damaged, book_wrong, buffer_short, cells_short, changes_wrong}
use Rattle.answers.specs.Refusals.{count_too_wide, fresh_wrong, header_wrong, list_too_long, log_full, not_logged, not_repairable}
use Rattle.answers.specs.Refusals.{page_size_wrong, store_not_sound, stretch_wrong, total_too_high}
use Rattle.answers.specs.declared.refusal.Refusal.{Refusal}
use Rattle.answers.specs.declared.refusal.Refusal.TheVariants.{PageSize, List, Total, Buffer, Header, Body, Hour, Figure, Fresh, Unsound}
use Rattle.answers.specs.declared.refusal.Refusal.TheVariants.{Full, Cells, Stretch, Book, FourDigits, Changes, Bag, Repair}

abbrev pub number : Refusal → ℕ
number PageSize = page_size_wrong
number List = list_too_long
number Total = total_too_high
number Buffer = buffer_short
number Header = header_wrong
number Body = body_damaged
number Hour = not_logged
number Figure = above_total
number Fresh = fresh_wrong
number Unsound = store_not_sound
number Full = log_full
number Cells = cells_short
number Stretch = stretch_wrong
number Book = book_wrong
number FourDigits = count_too_wide
number Changes = changes_wrong
number Bag = bag_empty
number Repair = not_repairable
