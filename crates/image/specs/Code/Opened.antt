-- What open_image answers. Assumes nothing.
use Rattle.std.specs.Prelude.{false, List, ◌≡◌, ℕ, Result, Ok, Err}
use Rattle.image.specs.Check.{headed}
use Rattle.image.specs.declared.opened.Image.{Image}
use Rattle.answers.specs.declared.refusal.Refusal.{Refusal}
use Rattle.answers.specs.declared.refusal.Refusal.TheVariants.{Header}

-- what opening the bytes s gives: them, past refusal 5, with their header, or refusal 5
abbrev pub Opens : List ℕ → Result Image Refusal → Type 0
Opens s (Ok image) = image.bytes.now ≡ s
Opens s (Err r) = (headed s ≡ false) × (r ≡ Header)
