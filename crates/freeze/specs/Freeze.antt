-- Document 01: 'freeze, which writes the image of a store's list'. Assumes nothing.
use Rattle.std.specs.Prelude.{List, ℕ}
use Rattle.answers.specs.Refusals.{store_not_sound}
use Rattle.lists.specs.Lists.{pick}
use Rattle.store.specs.Reading.{list_in}
use Rattle.store.specs.Sound.{sound}
use Rattle.image.specs.Calls.{Result, unwritten, write_call}

-- 10, 'not sound'; then what write answers and leaves for the store's list: 1 and 4, for 2 and 3 never come (`only-page-size`)
unfoldable pub freeze_call : ℕ → List ℕ → List ℕ → Result
freeze_call e s out = pick (sound s) (write_call e (list_in s) out) (unwritten out store_not_sound)
