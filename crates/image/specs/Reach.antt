-- Reach on any bytes: the answers that it may give. Assumes nothing.
use Rattle.std.specs.Prelude.{true, false, List, ◌≡◌, ℕ, ◌≤◌, ◌<◌}
use Rattle.answers.specs.Refusals.{above_total, body_damaged, header_wrong}
use Rattle.lists.specs.Lists.{reached}
use Rattle.answers.specs.Image.{Reply, given, refused}
use Rattle.image.specs.Read.{n_of, s_of, list_of}
use Rattle.image.specs.Check.{headed, accepted}

-- what reach may answer to the figure p on the bytes s
pub data Reach (s : List ℕ) (p : ℕ) : Reply → Type 0 where
  -- 'image header', 5
  header-wrong : headed s ≡ false → Reach s p (refused header_wrong)
  -- 'figure', 8: 'p above the total'
  above-total : headed s ≡ true → s_of s < p → Reach s p (refused above_total)
  -- on an image that check accepts 'the smallest i with reading at i ≥ p'
  smallest : accepted s ≡ true → p ≤ s_of s → Reach s p (given (reached p (list_of s)))
  -- 'On an image that check doesn't accept, reach past refusals 5 and 8 may give refusal 6'
  damage : headed s ≡ true → p ≤ s_of s → accepted s ≡ false → Reach s p (refused body_damaged)
  -- 'or any index from 0 to N'
  any-index : headed s ≡ true → p ≤ s_of s → accepted s ≡ false → (i : ℕ) → i ≤ n_of s → Reach s p (given i)
