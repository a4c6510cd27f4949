-- An array that holds a page of an image's list, hour after hour. Assumes nothing.
use Rattle.std.specs.Prelude.{List, ◌≡◌, ℕ, ◌+◌, ◌/◌, ◌%◌, ◌^◌, ◌≤◌, ◌<◌, length, take}
use Rattle.image.specs.Image.{page}
use Rattle.image.specs.Read.{e_of, list_of, n_of}
use Rattle.image.specs.declared.head.Head.{Head}

-- the array holds the page of hour i, if this hour is logged
pub record Ready (s : List ℕ) (i : ℕ) (counts : List ℕ) : Type 0 where
  pub long : length counts ≡ 256
  pub page-is : i < n_of s → take (2 ^ e_of s) counts ≡ page (e_of s) (list_of s) (i / 2 ^ e_of s)

-- n hours from hour i on that are logged and in its page: some if hour i is logged, and all of them to the page's end, or the list's
pub record Ahead (h : Head) (i n : ℕ) : Type 0 where
  pub inside : i + n ≤ h.hours
  pub room : i % 2 ^ h.e + n ≤ 2 ^ h.e
  pub some : i < h.hours → 1 ≤ n
  pub whole : i + n < h.hours → i % 2 ^ h.e + n ≡ 2 ^ h.e
