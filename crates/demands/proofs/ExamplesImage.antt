-- The frozen image by examples, in the numbers of documents 01 and 02: images byte by byte, and what the calls on them give at each border, from
-- both sides, and which of two refusals that fit is answered. `Leaves` says what C gets and what is left of all that a call was lent; under `Asking`
-- nothing of that changes (`ExampleForms`). Assumes nothing.
use mathlib.Core.Bool.{◌&&◌, false, true}
use mathlib.Core.List.{List, [], ◌∷◌, ◌++◌}
use mathlib.Core.Path.{◌≡◌, refl, ap, ◌∙◌}
use Prim.Native.Nat.{ℕ, ◌+◌, ◌*◌, ◌≤◌}
use native.Mathlib.Omega.{arith}
use lib.Dec.{leb}
use lib.ListN.{get_or, length, length-append, replicate, set, take}
use Rattle.lists.specs.Lists.{pick, sum, window}
use Rattle.lists.proofs.Sums.{sum-nones, zero-at}
use Rattle.lists.proofs.Tables.{concat-most}
use Rattle.bits.specs.Bits.{field}
use Rattle.bits.proofs.Laws.{length-field}
use Rattle.reserve.specs.Reserve.{digits, reserve}
use Rattle.tree.specs.Tree.{tree}
use Rattle.tree.proofs.Shape.{length-tree}
use Rattle.answers.specs.Image.{Reply, given, refused as turned}
use Rattle.image.specs.Calls.{Result, length_call, put_after}
use Rattle.image.specs.Check.{accepted, headed}
use Rattle.image.specs.Image.{Limits, code, image, page, page_code, pages, root, size, wide}
use Rattle.image.proofs.Editions.{size_same}
use Rattle.image.specs.Read.{s_of}
use Rattle.words.specs.End.{end_of_image, refusal, the_number}
use Rattle.words.specs.Words.{word_of}
use Rattle.hourlog_c.specs.Public.{ImageCheck, ImageCount, ImageLength, ImageReach, ImageReading, ImageWrite}
use Rattle.demands.specs.Demand2.{page_start, tree_start}
use Rattle.demands.proofs.Demand2.{demand-2}
use Rattle.demands.proofs.ExampleForms.{Asking, Ended, Leaves, ◌gives◌, asking, expected, hex, holding, leaves, refused}
use Rattle.demands.proofs.ExampleSearches.{Is, May, Reaching, may-give, may-refuse, never-gives, reach-5, reach-8, reaching}
use Rattle.demands.proofs.Computing.{the-image}

-- ---- 'Header, 16 bytes: 0 is 1 (edition), 1 is e, 2-3 zero, 4-7 N, 8-11 total S, 12-15 L, the bits of code. Per page, 4 bytes: its start bit. L
-- bits of code, last byte filled with zeros'
-- 'e = 2, counts 1,0,2,0,5: ..'
abbrev printed_list : List ℕ
printed_list = 1 ∷ 0 ∷ 2 ∷ 0 ∷ 5 ∷ []

abbrev printed : List ℕ
printed = hex "01 02 00 00 05 00 00 00 08 00 00 00 14 00 00 00 00 00 00 00 09 00 00 00 37 45 A0"

-- pages of eight, 18 coins: 01011 and the tree of the first eight, 0110 100 011 00 000 100 0 0; then 10010 and that of 0,0,7
abbrev two_pages_list : List ℕ
two_pages_list = 3 ∷ 1 ∷ 0 ∷ 2 ∷ 0 ∷ 0 ∷ 4 ∷ 1 ∷ 0 ∷ 0 ∷ 7 ∷ []

abbrev two_pages : List ℕ
two_pages = hex "01 03 00 00 0B 00 00 00 12 00 00 00 2E 00 00 00 00 00 00 00 19 00 00 00 5B 46 08 4B 8E 00"

-- four pages of 67,305,985 coins, 0x04030201: S is 0x100C0804, L is 0x01B0, the last page starts at bit 0x0144
abbrev many_coins_list : List ℕ
many_coins_list = 67305985 ∷ 0 ∷ 0 ∷ 0 ∷ 67305985 ∷ 0 ∷ 0 ∷ 0 ∷ 67305985 ∷ 0 ∷ 0 ∷ 0 ∷ 67305985 ∷ []

abbrev many_coins : List ℕ
many_coins =
    hex "01 02 00 00 0D 00 00 00 04 08 0C 10 B0 01 00 00 00 00 00 00 6C 00 00 00 D8 00 00 00 44 01 00 00"
    ++ (hex "20 18 10 0C 03 02 01 80 60 40 20 00 00 04 03 02 01 40 30 20 18 06 04 02 00 00 00"
    ++ hex "60 48 30 1C 03 02 01 80 60 40 20 00 00 08 06 04 02 40 30 20 18 06 04 02 00 00 00")

-- pages of 256: 2 coins in hour 100, 1 in hour 200, 3 in hour 256. Page 0 is 011 and left 2 of 3, then 0, 0, 2, 2, 0, 2, 2 of 2 and 0, 1, 1, 0, 1,
-- 1, 1 of 1; page 1 is 110 and left 3 of 3 eight times
abbrev long_pages_list : List ℕ
long_pages_list = replicate 100 0 ++ 2 ∷ replicate 99 0 ++ 1 ∷ replicate 55 0 ++ 3 ∷ []

abbrev long_pages : List ℕ
long_pages = hex "01 08 00 00 01 01 00 00 06 00 00 00 34 00 00 00 00 00 00 00 1A 00 00 00 70 51 4D F7 FF F8 00"

-- the largest total, in fields of 32 bits: 0xABCDEF01 of it in hour 0, the rest in hour 1
abbrev rich_list : List ℕ
rich_list = 2882400001 ∷ 1412567294 ∷ []

abbrev rich : List ℕ
rich = hex "01 02 00 00 02 00 00 00 FF FF FF FF 80 00 00 00 00 00 00 00 FF FF FF FF FF FF FF FF AB CD EF 01 00 00 00 00"

-- no hour; and 300 hours without a coin
abbrev none : List ℕ
none = hex "01 02 00 00 00 00 00 00 00 00 00 00 00 00 00 00"

abbrev idle : List ℕ
idle = hex "01 08 00 00 2C 01 00 00 00 00 00 00 00 00 00 00 00 00 00 00 00 00 00 00"

abbrev blank : ℕ → List ℕ
blank n = replicate n 0xFF

-- 'Let r be the binary digits of S': three for 7, four for 8. 'Bytes beyond the image are left unchanged'
pub writes :
    Leaves (ImageWrite printed_list 2 (blank 27)) 27 (printed_list ∷ printed ∷ [])
    × Leaves (ImageWrite printed_list 2 (blank 29)) 27 (printed_list ∷ (printed ++ blank 2) ∷ [])
    × Leaves (ImageWrite two_pages_list 3 (blank 30)) 30 (two_pages_list ∷ two_pages ∷ [])
    × Leaves (ImageWrite many_coins_list 2 (blank 86)) 86 (many_coins_list ∷ many_coins ∷ [])
    × Leaves (ImageWrite long_pages_list 8 (blank 31)) 31 (long_pages_list ∷ long_pages ∷ [])
    × Leaves (ImageWrite rich_list 2 (blank 36)) 36 (rich_list ∷ rich ∷ [])
    × Leaves (ImageWrite (7 ∷ []) 2 (blank 22)) 22
    ((7 ∷ []) ∷ hex "01 02 00 00 01 00 00 00 07 00 00 00 0C 00 00 00 00 00 00 00 FF 80" ∷ [])
    × Leaves (ImageWrite (8 ∷ []) 2 (blank 22)) 22
    ((8 ∷ []) ∷ hex "01 02 00 00 01 00 00 00 08 00 00 00 0E 00 00 00 00 00 00 00 88 80" ∷ [])
    × Leaves (ImageWrite (replicate 300 0) 8 (blank 24)) 24 (replicate 300 0 ∷ idle ∷ [])
    × Leaves (ImageWrite [] 2 (blank 16)) 16 ([] ∷ none ∷ [])
unfolding the-image
writes = (
  leaves refl,
  leaves refl,
  leaves refl,
  leaves refl,
  leaves refl,
  leaves refl,
  leaves refl,
  leaves refl,
  leaves refl,
  leaves refl,
)

-- where page 1 of the second one stands among the bits of all its bytes, and its tree: behind 24 bytes and 25 bits of code, and its root
pub addresses : (page_start 3 two_pages_list 1 ≡ 192 + 25) × (tree_start 3 two_pages_list 1 ≡ 192 + 25 + 5)
unfolding the-image
addresses = (refl, refl)

-- length and write: 1, 'e outside 2 to 8'; 4, a buffer 'shorter than the image'; in that order. 3 between them is in ExamplesEditions
pub write-borders :
    Asking
    (ImageLength printed_list 1 gives refused 1
    ∷ ImageLength printed_list 2 gives 27
    ∷ ImageLength printed_list 3 gives 23
    ∷ ImageLength printed_list 8 gives 28
    ∷ ImageLength printed_list 9 gives refused 1
    ∷ ImageLength [] 2 gives 16
    ∷ ImageLength (4294967295 ∷ 0 ∷ []) 2 gives 36
    ∷ ImageWrite printed_list 2 (blank 26) gives refused 4
    ∷ ImageWrite printed_list 1 [] gives refused 1
    ∷ ImageWrite printed_list 9 [] gives refused 1
    ∷ [])
unfolding the-image
write-borders = asking refl

-- ---- check, which 'returns N and S', count and reading
pub answered :
    Asking
    (ImageCheck printed gives holding 5 8
    ∷ ImageCount printed 0 gives 1
    ∷ ImageCount printed 4 gives 5
    ∷ ImageCount printed 5 gives refused 7
    ∷ ImageReading printed 0 gives 0
    ∷ ImageReading printed 4 gives 3
    ∷ ImageReading printed 5 gives 8
    ∷ ImageReading printed 6 gives refused 7
    ∷ ImageCheck two_pages gives holding 11 18
    ∷ ImageCount two_pages 6 gives 4
    ∷ ImageCount two_pages 10 gives 7
    ∷ ImageReading two_pages 7 gives 10
    ∷ ImageReading two_pages 11 gives 18
    ∷ ImageCheck many_coins gives holding 13 269223940
    ∷ ImageReading many_coins 12 gives 201917955
    ∷ ImageCheck long_pages gives holding 257 6
    ∷ ImageCount long_pages 100 gives 2
    ∷ ImageCount long_pages 200 gives 1
    ∷ ImageCount long_pages 255 gives 0
    ∷ ImageCount long_pages 256 gives 3
    ∷ ImageReading long_pages 100 gives 0
    ∷ ImageReading long_pages 200 gives 2
    ∷ ImageReading long_pages 257 gives 6
    ∷ ImageCheck rich gives holding 2 4294967295
    ∷ ImageCount rich 0 gives 2882400001
    ∷ ImageReading rich 2 gives 4294967295
    ∷ ImageCheck none gives holding 0 0
    ∷ ImageCount none 0 gives refused 7
    ∷ ImageReading none 0 gives 0
    ∷ ImageReading none 1 gives refused 7
    ∷ [])
unfolding the-image
answered = asking refl

-- reach: 'There reach 3 is 3, reach 4 is 5, reach 0 is 0, reach 9 is refused 8'
accepted-so : Is printed printed_list × Is two_pages two_pages_list × Is none []
unfolding the-image
accepted-so = (record { accepts = refl; says = refl }, record { accepts = refl; says = refl }, record { accepts = refl; says = refl })

pub reaches :
    Reaching printed (0 gives 0 ∷ 1 gives 1 ∷ 2 gives 3 ∷ 3 gives 3 ∷ 4 gives 5 ∷ 8 gives 5 ∷ 9 gives refused 8 ∷ [])
    × Reaching two_pages
    (1 gives 1 ∷ 3 gives 1 ∷ 4 gives 2 ∷ 6 gives 4 ∷ 7 gives 7 ∷ 11 gives 8 ∷ 12 gives 11 ∷ 18 gives 11 ∷ 19 gives refused 8 ∷ [])
    × Reaching none (0 gives 0 ∷ 1 gives refused 8 ∷ [])
unfolding the-image
reaches = (reaching accepted-so.0 refl, reaching accepted-so.1 refl, reaching accepted-so.2 refl)

-- ---- 5, 'image header: under 16 bytes; edition, e, zero bytes or N wrong; byte length not the one N, e and L give'; before 7
-- the printed bytes with another byte at place k
abbrev but : ℕ → ℕ → List ℕ
but k v = set printed k v

pub wrong-header :
    Asking
    (ImageCheck [] gives refused 5
    ∷ ImageCheck (take 15 none) gives refused 5
    ∷ ImageCheck none gives holding 0 0
    ∷ ImageCheck (but 0 0) gives refused 5
    ∷ ImageCheck (but 0 2) gives refused 5
    ∷ ImageCheck (but 0 3) gives refused 5
    ∷ ImageCheck (set none 1 1) gives refused 5
    ∷ ImageCheck (set none 1 8) gives holding 0 0
    ∷ ImageCheck (set none 1 9) gives refused 5
    ∷ ImageCheck (but 2 1) gives refused 5
    ∷ ImageCheck (but 3 1) gives refused 5
    ∷ ImageCheck (take 26 printed) gives refused 5
    ∷ ImageCheck (printed ++ 0 ∷ []) gives refused 5
    ∷ ImageCount (but 0 2) 5 gives refused 5
    ∷ ImageReading (but 0 2) 6 gives refused 5
    ∷ ImageReading (but 0 2) 0 gives refused 5
    ∷ [])
unfolding the-image
wrong-header = asking refl

-- 'N at most 65,536': a header of so many hours and no coin, with 256 pages of 256; and of an hour more, with 257
pub longest-header :
    Asking
    (ImageReading (hex "01 08 00 00 00 00 01 00 00 00 00 00 00 00 00 00" ++ replicate 1024 0) 0 gives 0
    ∷ ImageReading (hex "01 08 00 00 01 00 01 00 00 00 00 00 00 00 00 00" ++ replicate 1028 0) 0 gives refused 5
    ∷ [])
unfolding the-image
longest-header = asking refl

-- ---- 6, 'check: not the writer's bytes; queries: damage', on their path alone; behind 7. Beside the printed image those of 0,0,0,0,5, where page 1
-- starts at bit 3 of 13, and of 1,0,2,0,6, where S is 9
abbrev fifth : List ℕ
fifth = hex "01 02 00 00 05 00 00 00 05 00 00 00 0D 00 00 00 00 00 00 00 03 00 00 00 16 D0"

abbrev nine : List ℕ
nine = hex "01 02 00 00 05 00 00 00 09 00 00 00 15 00 00 00 00 00 00 00 09 00 00 00 37 4E C0"

pub damages :
    Asking
    -- page 0's root above S
    (ImageCheck (but 24 0xB7) gives refused 6
    ∷ ImageCount (but 24 0xB7) 0 gives refused 6
    ∷ ImageCount (but 24 0xB7) 4 gives refused 6
    ∷ ImageCount (but 24 0xB7) 5 gives refused 7
    ∷ ImageReading (but 24 0xB7) 0 gives 0
    ∷ ImageReading (but 24 0xB7) 6 gives refused 7
    -- page 1's root above an S of 8
    ∷ ImageCheck (set nine 8 8) gives refused 6
    ∷ ImageCount (set nine 8 8) 4 gives refused 6
    ∷ ImageCount (set nine 8 8) 2 gives 2
    -- page 1's root 2, below page 0's
    ∷ ImageCheck (but 25 0x15) gives refused 6
    ∷ ImageCount (but 25 0x15) 4 gives refused 6
    ∷ ImageCount (but 25 0x15) 2 gives 2
    -- page 0's root from bit 11 on passes L, which page 1 minds too
    ∷ ImageCheck (set fifth 16 11) gives refused 6
    ∷ ImageCount (set fifth 16 11) 4 gives refused 6
    -- page 1's tree passes an L of 19, and its root one of 12
    ∷ ImageCheck (but 12 19) gives refused 6
    ∷ ImageCount (but 12 19) 4 gives refused 6
    ∷ ImageReading (but 12 19) 4 gives 3
    ∷ ImageCount (set (take 26 printed) 12 12) 4 gives refused 6
    -- a left sum above its node's, in page 1
    ∷ ImageCheck (but 25 0x47) gives refused 6
    ∷ ImageCount (but 25 0x47) 4 gives refused 6
    ∷ ImageCount (but 25 0x47) 2 gives 2
    -- a bit behind the code, which check alone minds
    ∷ ImageCheck (but 26 0xA1) gives refused 6
    ∷ ImageCount (but 26 0xA1) 4 gives 5
    ∷ [])
unfolding the-image
damages = asking refl

-- ---- reach: 5 before 8, and 8 before 6. 'On an image that check doesn't accept, reach past refusals 5 and 8 may give refusal 6 or any index from 0
-- to N', which is 5
abbrev damaged : List ℕ
damaged = but 24 0xB7

damaged-so : (headed damaged ≡ true) × (leb 8 (s_of damaged) ≡ true) × (accepted damaged ≡ false)
unfolding the-image
damaged-so = (refl, refl, refl)

pub reach-refusals :
    Leaves (ImageReach (but 0 2) 9) (refused 5) (but 0 2 ∷ [])
    × Leaves (ImageReach damaged 9) (refused 8) (damaged ∷ [])
    × (May damaged 8 (refusal 6) × May damaged 8 (the_number 0) × May damaged 8 (the_number 5) × (May damaged 8 (the_number 6) → ⊥))
unfolding the-image
reach-refusals =
    let h = damaged-so.0 in
    let l = damaged-so.1 in
    let n = damaged-so.2 in (
      reach-5 refl refl,
      reach-8 h refl refl,
      (may-refuse damaged 8 h l n, may-give damaged 8 h l n 0 refl, may-give damaged 8 h l n 5 refl, never-gives damaged 8 6 n refl),
    )

-- ---- 2, 'over 65,536 counts': whatever the counts are, so before 3, and whatever the buffer is, so before 4; 1 comes first
pub over-2 : (e : ℕ) (xs : List ℕ) → (leb 2 e && leb e 8) ≡ true → length xs ≡ 65537 → length_call e xs ≡ turned 2
unfolding length_call pick
over-2 e xs h l = rw (h, l)

module _ (xs out : List ℕ) (long : length xs ≡ 65537) where
  pub too_long :
      Leaves (ImageLength xs 2) (refused 2) (xs ∷ [])
      × Leaves (ImageWrite xs 8 out) (refused 2) (xs ∷ out ∷ [])
      × Leaves (ImageLength xs 9) (refused 1) (xs ∷ [])
      × Leaves (ImageWrite xs 1 out) (refused 1) (xs ∷ out ∷ [])
  unfolding the-image
  too_long = (
    leaves (ap (λ (r : Reply). expected (word_of (end_of_image r)) (xs ∷ [])) (over-2 2 xs refl long)),
    leaves (ap (λ (r : Reply). written (put_after r out (image 8 xs))) (over-2 8 xs refl long)),
    leaves refl,
    leaves refl,
  )
    where
      written : Result → Ended
      written r = expected (word_of (end_of_image r.reply)) (xs ∷ r.bytes ∷ [])

-- 65,536 hours without a coin are 256 pages of 256 without code: 16 + 4·256 bytes
nothing-for-zero : (digits 0 ≡ 0) × (reserve 8 0 ≡ 0)
unfolding the-image
nothing-for-zero = (refl, refl)

module _ (xs : List ℕ) (long : length xs ≡ 65536) (idle : sum xs ≡ 0) where
  no_bits : (p : ℕ) → length (page_code 8 xs p) ≤ 0
  unfolding page_code page window
  no_bits p = omega (
    arith,
    nothing-for-zero.0,
    nothing-for-zero.1,
    length-append (field (digits (sum xs)) (root 8 xs p)) (tree 8 (page 8 xs p)),
    length-field (digits (sum xs)) (root 8 xs p),
    ap digits idle,
    length-tree 8 (page 8 xs p),
    ap (reserve 8) (sum-nones 256 (λ j. get_or xs (256 * p + j) 0) (λ j. zero-at xs (256 * p + j) idle)),
  )

  no_code : length (code 8 xs) ≡ 0
  unfolding code
  no_code = omega (arith, concat-most (pages 8 (length xs)) 0 (page_code 8 xs) (λ p l. no_bits p))

  pub longest : Leaves (ImageLength xs 8) 1040 (xs ∷ [])
  unfolding the-image
  longest =
      let m : Limits 8 xs = record { e-low = omega arith; e-high = omega arith; hours = omega (arith, long); total = omega (arith, idle) } in
      let e : length_call 8 xs ≡ given (size (wide 0) 8 65536 0) =
      demand-2.lengths 8 xs m ∙ ap given (size_same {e = 8} (ap wide idle) refl long no_code) in
      leaves (ap (λ (r : Reply). expected (word_of (end_of_image r)) (xs ∷ [])) e)
