-- Demand 2: 'Coding follows the address-calculation formula of document 01. Each subtree's bits stay in its reserved range, sibling ranges
-- are disjoint. An image is accepted exactly when it is what the writer makes of some list, and that list reads back; count, reading and
-- reach equal plain sums.' Assumes nothing.
use Rattle.std.specs.Prelude.{◌≡◌, true, List, [], ◌∷◌, ◌++◌, ◌↔◌, ℕ, suc, ◌+◌, ◌-◌, ◌*◌, ◌≤◌, ◌<◌, length, get_or, take, drop, leb, ltb}
use Rattle.answers.specs.Refusals.{above_total, not_logged}
use Rattle.lists.specs.Lists.{part, pick, reached, sum}
use Rattle.bits.specs.Bits.{bits}
use Rattle.reserve.specs.Reserve.{digits, reserve}
use Rattle.tree.specs.Ranges.{Inside, Node, Parts, Side, end, left, node, right}
use Rattle.tree.specs.Tree.{tree}
use Rattle.image.specs.Calls.{Result, length_call, write_call}
use Rattle.image.specs.Check.{accepted, check}
use Rattle.answers.specs.Image.{holds, Reply, given, refused}
use Rattle.image.specs.Image.{IsImage, Limits, code, code_start, image, page, pages, size, start, wide}
use Rattle.image.specs.Query.{count, reading}
use Rattle.image.specs.Reach.{Reach}
use Rattle.image.specs.Read.{e_of, list_of, s_of}
use Rattle.store.specs.Layout.{cells_start}
use Rattle.store.specs.PageCode.{cells}
use Rattle.store.specs.Plain.{page as plain_page}
use Rattle.store.specs.Reading.{chain_in, code_in, list_in, page_count_of}
use Rattle.store.specs.Sound.{sound}
use Rattle.freeze.specs.Freeze.{freeze_call}

-- the bit where page p starts in the image, behind header and start bits, and where its tree does. Addresses are those of the bits of all
-- the image's bytes
abbrev pub page_start : ℕ → List ℕ → ℕ → ℕ
page_start e xs p = code_start (wide (sum xs)) (pages e (length xs)) + start e xs p

abbrev pub tree_start : ℕ → List ℕ → ℕ → ℕ
tree_start e xs p = page_start e xs p + digits (sum xs)

-- the node that a path leads to in page p of a list's image
abbrev pub node_in : ℕ → List ℕ → ℕ → List Side → Node
node_in e xs p ds = node ds e (page e xs p) (tree_start e xs p)

-- two ranges: one in the other, or no bit in common
pub data Related (m n : Node) : Type 0 where
  within : Inside m n → Related m n
  around : Inside n m → Related m n
  before : end m ≤ n.first → Related m n
  behind : end n ≤ m.first → Related m n

-- in the bits B a node's range holds the code of its counts
abbrev pub Coded : List ℕ → Node → Type 0
Coded B n = part B n.first (reserve n.height (sum n.counts)) ≡ tree n.height n.counts

-- 'Each subtree's bits stay in its reserved range, sibling ranges are disjoint': of a tree with counts xs from bit a on, where a path leads
-- to each of its subtrees
pub record Ranges (h : ℕ) (xs : List ℕ) (a : ℕ) : Type 0 where
  -- a subtree's code has as many bits as its range
  pub owns : (ds : List Side) → length (tree (node ds h xs a).height (node ds h xs a).counts) ≡ end (node ds h xs a) - (node ds h xs a).first
  -- a subtree's field, left range and right range: in this order, none over another, all in its own range
  pub parts : (ds : List Side) (k : ℕ) → (node ds h xs a).height ≡ suc k → Parts k (node ds h xs a).counts (node ds h xs a).first
  -- two subtrees that part at a node: all that is in the left one ends where the right one starts, or before
  pub apart : (cs ds es : List Side) → length cs < h → end (node (cs ++ left ∷ ds) h xs a) ≤ (node (cs ++ right ∷ es) h xs a).first
  -- any two subtrees; and all are in the whole tree's range
  pub related : (ds es : List Side) → Related (node ds h xs a) (node es h xs a)
  pub inside : (ds : List Side) → Inside (node ds h xs a) (node [] h xs a)

-- in an image, beside that
pub record InImage (e : ℕ) (xs : List ℕ) : Type 0 where
  -- a node's range lies behind its page's root and before the next page; pages are apart, and all in the L bits of code
  pub in-page : (p : ℕ) (ds : List Side)
      → (tree_start e xs p ≤ (node_in e xs p ds).first) × (end (node_in e xs p ds) ≤ page_start e xs (suc p))
  pub pages-apart : (p q : ℕ) → p < q → page_start e xs (suc p) ≤ page_start e xs q
  pub in_code : (p : ℕ) (ds : List Side) → p < pages e (length xs)
      → end (node_in e xs p ds) ≤ code_start (wide (sum xs)) (pages e (length xs)) + length (code e xs)
  -- so any two nodes of the image
  pub any-two : (p q : ℕ) (ds es : List Side) → Related (node_in e xs p ds) (node_in e xs q es)
  -- and there the image has the code of the node's counts
  pub coded : (p : ℕ) (ds : List Side) → p < pages e (length xs) → Coded (bits (image e xs)) (node_in e xs p ds)

-- what stands in the cells of page p of a store: the 30 bytes of each, along the page's chain
abbrev pub code_of : List ℕ → ℕ → List ℕ
code_of s p = code_in s (cells_start (page_count_of s)) (chain_in s (page_count_of s) p)

-- in the code r of a live page with counts xs: the tree starts at its first bit
pub record InCells (xs r : List ℕ) : Type 0 where
  pub in_cells : (ds : List Side) → end (node ds 6 xs 0) ≤ 240 * cells (sum xs)
  pub coded : (ds : List Side) → Coded (bits r) (node ds 6 xs 0)

-- what a call that writes the image i leaves in a buffer that is long enough: the image first, and the bytes beyond it as they were. It
-- answers the image's length
pub record Written (w : Result) (i out : List ℕ) : Type 0 where
  pub reply-is : w.reply ≡ given (length i)
  pub image-first : take (length i) w.bytes ≡ i
  pub rest-same : drop (length i) w.bytes ≡ drop (length i) out
  pub as_long : length w.bytes ≡ length out

-- a list that has an image, which fits into the buffer and is n bytes long
pub record HasRoom (e : ℕ) (xs out : List ℕ) (n : ℕ) : Type 0 where
  pub limits : Limits e xs
  pub room : length (image e xs) ≤ length out
  pub long : n ≡ length (image e xs)

-- The whole claim, for every list and all bytes
pub record Demand2 : Type 0 where
  -- 'Each subtree's bits stay in its reserved range, sibling ranges are disjoint': of every tree, in images and in a store's cells
  pub trees : (h : ℕ) (xs : List ℕ) (a : ℕ) → Ranges h xs a
  pub images : (e : ℕ) (xs : List ℕ) → Limits e xs → InImage e xs
  pub stores : (s : List ℕ) (p : ℕ) → sound s ≡ true → p < page_count_of s → InCells (plain_page (list_in s) p) (code_of s p)
  -- 'An image is accepted exactly when it is what the writer makes of some list, and that list reads back'
  pub accepted-when : (s : List ℕ) → (accepted s ≡ true) ↔ ((e : ℕ) × (xs : List ℕ) × IsImage s e xs)
  pub read_back : (s : List ℕ) (e : ℕ) (xs : List ℕ) → IsImage s e xs → (e ≡ e_of s) × (xs ≡ list_of s)
  -- 'count, reading and reach equal plain sums', and check answers N and S
  pub count-sum : (s : List ℕ) → accepted s ≡ true → (i : ℕ)
      → count s i ≡ pick (leb (length (list_of s)) i) (refused not_logged) (given (get_or (list_of s) i 0))
  pub reading-sum : (s : List ℕ) → accepted s ≡ true → (i : ℕ)
      → reading s i ≡ pick (ltb (length (list_of s)) i) (refused not_logged) (given (sum (take i (list_of s))))
  pub reach-sum : (s : List ℕ) → accepted s ≡ true → (q : ℕ) (r : Reply) → Reach s q r
      → r ≡ pick (ltb (sum (list_of s)) q) (refused above_total) (given (reached q (list_of s)))
  pub check-sums : (s : List ℕ) → accepted s ≡ true → check s ≡ holds (length (list_of s)) (sum (list_of s))
  pub check-only : (s : List ℕ) (n t : ℕ) → check s ≡ holds n t → IsImage s (e_of s) (list_of s) × (n ≡ length (list_of s)) × (t ≡ s_of s)
  -- the writer: the lists that have an image, its length, and its bytes
  pub lengths : (e : ℕ) (xs : List ℕ) → Limits e xs → length_call e xs ≡ given (size (wide (sum xs)) e (length xs) (length (code e xs)))
  pub no-others : (e : ℕ) (xs : List ℕ) (n : ℕ) → length_call e xs ≡ given n → Limits e xs
  pub writes : (e : ℕ) (xs out : List ℕ) → Limits e xs → length (image e xs) ≤ length out → Written (write_call e xs out) (image e xs) out
  pub only-these : (e : ℕ) (xs out : List ℕ) (n : ℕ) → (write_call e xs out).reply ≡ given n → HasRoom e xs out n
  -- 'freeze, which writes the image of a store's list': of a sound store's, and of no other bytes
  pub freezes : (s : List ℕ) (e : ℕ) (out : List ℕ) → sound s ≡ true → 2 ≤ e → e ≤ 8
      → length (image e (list_in s)) ≤ length out → Written (freeze_call e s out) (image e (list_in s)) out
  pub only-sound : (s : List ℕ) (e : ℕ) (out : List ℕ) (n : ℕ) → (freeze_call e s out).reply ≡ given n
      → (sound s ≡ true) × HasRoom e (list_in s) out n
