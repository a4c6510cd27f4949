-- An answer is told as a refusal exactly where it is one. Assumes nothing.
use Rattle.std.proofs.Common.{◌≡◌, ℕ, ◌↔◌}
use Rattle.answers.specs.Store.{Answer, answered, changed, refused as turned}
use Rattle.answers.specs.Image.{Reply, given, refused}
use Rattle.words.specs.End.{end_of_image, end_of_store, refusal}

pub store-refused : (a : Answer) (k : ℕ) → (end_of_store a ≡ refusal k) ↔ (a ≡ turned k)
unfolding end_of_store
store-refused (changed t r) k = (λ e. cc, λ e. cc)
store-refused (answered n) k = (λ e. cc, λ e. cc)
store-refused (turned j) k = (λ e. cc, λ e. cc)

pub image-refused : (r : Reply) (k : ℕ) → (end_of_image r ≡ refusal k) ↔ (r ≡ refused k)
unfolding end_of_image
image-refused (given n) k = (λ e. cc, λ e. cc)
image-refused (refused j) k = (λ e. cc, λ e. cc)
