-- What the functions of src/ do to links: numbers of two bytes that say a chain's first cell or a cell's next one. Assumes nothing.
use Rattle.std.specs.Prelude.{List, ℕ, zero, suc, ◌+◌, ◌-◌, ◌*◌, ◌≤◌, ◌<◌, max, length, take, drop}
use Rattle.std.proofs.lemmas.List.Edits.{sets}
use Rattle.bits.specs.Numbers.{little, number_at}
use Rattle.store.specs.Layout.{cell_at, entry_at, entry_size}

-- the number v put into the w bytes from a on
unfoldable pub put : List ℕ → ℕ → ℕ → ℕ → List ℕ
put s a w v = sets s a (little w v)

-- the address of the link that k cells after the one at a lead to
unfoldable pub nth_link : List ℕ → ℕ → ℕ → ℕ → ℕ
nth_link s base a zero = a
nth_link s base a (suc k) = nth_link s base (cell_at base (number_at s a 2)) k

-- k cells can be walked from the link at a
abbrev pub Steps : List ℕ → ℕ → ℕ → ℕ → Type 0
Steps s base a zero = a + 2 ≤ length s
Steps s base a (suc k) = (a + 2 ≤ length s) × (1 ≤ number_at s a 2) × (cell_at base (number_at s a 2) + 32 ≤ length s)
    × Steps s base (cell_at base (number_at s a 2)) k

-- the free chain joined behind the chain of k cells from the link at e on
unfoldable pub joined : List ℕ → ℕ → ℕ → ℕ → List ℕ
joined s base e k = put s (nth_link s base e k) 2 (number_at s 6 2)

-- the chain from the link at e cut after k cells: the free chain is the rest
unfoldable pub cut : List ℕ → ℕ → ℕ → ℕ → List ℕ
cut s base e k = put (put s 6 2 (number_at s (nth_link s base e k) 2)) (nth_link s base e k) 2 0

-- n cells from the link at a on get the code, 30 bytes each
unfoldable pub filled : List ℕ → ℕ → ℕ → ℕ → List ℕ → List ℕ
filled s base a zero code = s
filled s base a (suc n) code =
    filled (sets s (cell_at base (number_at s a 2) + 2) (take 30 code)) base (cell_at base (number_at s a 2)) n (drop 30 code)

-- page p, which had k cells, gets n cells, the code, the sum and the number of hours
unfoldable pub rewritten : List ℕ → ℕ → ℕ → ℕ → ℕ → List ℕ → ℕ → ℕ → List ℕ
rewritten s base p k n code sum hours =
    let e = entry_at p + 4 in
    let t = cut (filled (joined s base e k) base e (max k n) code) base e n in
    put (put (put t 8 2 (number_at s 8 2 + k - n)) (entry_at p) 4 sum) 12 4 hours

-- what it asks for
pub record Rewritable (s : List ℕ) (base p k n : ℕ) (code : List ℕ) (sum hours : ℕ) : Type 0 where
  pub low : base < 65536
  pub page : entry_at p + entry_size ≤ base
  pub size : base ≤ length s
  pub long : 30 * max k n ≤ length code
  pub small : sum < 4294967296
  pub short : hours < 4294967296
  pub fits : number_at s 8 2 + k < 65536 + n
  pub own : Steps s base (entry_at p + 4) k
  pub both : Steps (joined s base (entry_at p + 4) k) base (entry_at p + 4) (max k n)
  pub kept : Steps (filled (joined s base (entry_at p + 4) k) base (entry_at p + 4) (max k n) code) base (entry_at p + 4) n
  pub enough : n ≤ number_at s 8 2 + k
