-- Two doors by examples, in the numbers of document 02, note 9: what C gets and what its buffers hold, each refusal at its border, and which of two
-- that fit is answered. Forms as in `ExamplesNotes`. Assumes nothing.
use mathlib.Core.Bool.{Bool, true, ◌&&◌}
use mathlib.Core.List.{List, [], ◌∷◌, ◌++◌}
use mathlib.Core.Path.{◌≡◌, refl, sym, ap, ap₂, ◌∙◌}
use Prim.Native.Nat.{ℕ}
use native.Mathlib.Omega.{arith}
use lib.Dec.{leb}
use lib.ListN.{length, replicate, set}
use borrow.Author.Tests.{leb-true}
use Rattle.lists.specs.Counts.{max_count, within}
use Rattle.lists.specs.Lists.{sum}
use Rattle.lists.proofs.CountLaws.{within-at}
use Rattle.lists.proofs.Tests.{left, right}
use Rattle.image.specs.Calls.{Result}
use Rattle.image.specs.Image.{Limits, image, max_total}
use Rattle.image_merge.specs.Merge.{merge_call, merge_lists}
use Rattle.image_merge.proofs.MergeLaws.{past_all}
use Rattle.words.specs.End.{end_of_image}
use Rattle.words.specs.Words.{word_of}
use Rattle.hourlog_c.specs.Public.{ImageMerge}
use Rattle.demands.proofs.Sentences2.{is-accepted}
use Rattle.demands.proofs.ExampleForms.{Asking, Leaves, ◌gives◌, asking, ended, expected, hex, leaves, refused}
use Rattle.demands.proofs.ExampleSearches.{Is}
use Rattle.demands.proofs.ExamplesEditions.{last, least, most, most-so}
use Rattle.demands.proofs.Computing.{the-merge}

abbrev blank : ℕ → List ℕ
blank n = replicate n 0xFF

-- ---- 'make the image of the hour-by-hour sums, the shorter log taken as zero beyond its end'
-- document 01's image of 1,0,2,0,5, with e = 2, and that of 4,0,0,7,1,0,9 with e = 3. The sums are 5,0,2,7,6,0,9
abbrev front : List ℕ
front = hex "01 02 00 00 05 00 00 00 08 00 00 00 14 00 00 00 00 00 00 00 09 00 00 00 37 45 A0"

abbrev side : List ℕ
side = hex "01 03 00 00 07 00 00 00 15 00 00 00 20 00 00 00 00 00 00 00 AA D2 00 E4"

-- theirs with e = 2, 3 and 4
abbrev both2 : List ℕ
both2 = hex "01 02 00 00 07 00 00 00 1D 00 00 00 22 00 00 00 00 00 00 00 11 00 00 00 72 D2 75 B4 80"

abbrev both3 : List ℕ
both3 = hex "01 03 00 00 07 00 00 00 1D 00 00 00 23 00 00 00 00 00 00 00 EB 96 91 B4 80"

abbrev both4 : List ℕ
both4 = hex "01 04 00 00 07 00 00 00 1D 00 00 00 3A 00 00 00 00 00 00 00 EF 5C B4 8D A4 00 00 00"

-- 'It returns the new image's length in bytes and leaves later output bytes unchanged'
pub merges :
    Leaves (ImageMerge front side 2 (blank 29)) 29 (front ∷ side ∷ both2 ∷ [])
    × Leaves (ImageMerge front side 3 (blank 27)) 25 (front ∷ side ∷ (both3 ++ blank 2) ∷ [])
    × Leaves (ImageMerge front side 4 (blank 28)) 28 (front ∷ side ∷ both4 ∷ [])
    × Leaves (ImageMerge side front 2 (blank 30)) 29 (side ∷ front ∷ (both2 ++ blank 1) ∷ [])
unfolding the-merge
merges = (leaves refl, leaves refl, leaves refl, leaves refl)

-- the same bytes as both, 2,0,4,0,10; and with a log of no hour, whose e is 5
abbrev twice : List ℕ
twice = hex "01 02 00 00 05 00 00 00 10 00 00 00 1C 00 00 00 00 00 00 00 0D 00 00 00 32 A4 2A 80"

abbrev empty : List ℕ
empty = hex "01 05 00 00 00 00 00 00 00 00 00 00 00 00 00 00"

abbrev front3 : List ℕ
front3 = hex "01 03 00 00 05 00 00 00 08 00 00 00 16 00 00 00 00 00 00 00 83 75 A0"

pub same-and-empty :
    Leaves (ImageMerge front front 2 (blank 28)) 28 (front ∷ front ∷ twice ∷ [])
    × Leaves (ImageMerge front empty 2 (blank 27)) 27 (front ∷ empty ∷ front ∷ [])
    × Leaves (ImageMerge empty front 3 (blank 23)) 23 (empty ∷ front ∷ front3 ∷ [])
    × Leaves (ImageMerge empty empty 2 (blank 17)) 16 (empty ∷ empty ∷ (set empty 1 2 ++ blank 1) ∷ [])
unfolding the-merge
same-and-empty = (leaves refl, leaves refl, leaves refl, leaves refl)

-- ---- editions: 4,294,967,295 coins in hour 0 and one in hour 1, each of edition 1, are 2^32; with 7 more in hour 2 edition 2 stays. And
-- 4,294,967,294 coins and one are of edition 1
abbrev later : List ℕ
later = hex "01 02 00 00 02 00 00 00 01 00 00 00 03 00 00 00 00 00 00 00 C0"

abbrev seven : List ℕ
seven = hex "01 03 00 00 03 00 00 00 07 00 00 00 13 00 00 00 00 00 00 00 FC 70 00"

abbrev more : List ℕ
more =
    hex "02 02 00 00 03 00 00 00 07 00 00 00 01 00 00 00 82 00 00 00 00 00 00 00 00 00 00 00"
    ++ hex "80 00 00 03 C0 00 00 00 1F FF FF FF FC 00 00 00 00"

abbrev almost : List ℕ
almost = hex "01 02 00 00 01 00 00 00 FE FF FF FF 80 00 00 00 00 00 00 00 FF FF FF FE FF FF FF FE FF FF FF FE 00 00 00 00"

abbrev one : List ℕ
one = hex "01 02 00 00 01 00 00 00 01 00 00 00 03 00 00 00 00 00 00 00 E0"

pub editions :
    Leaves (ImageMerge last later 2 (blank 45)) 45 (last ∷ later ∷ least ∷ [])
    × Leaves (ImageMerge seven least 2 (blank 46)) 45 (seven ∷ least ∷ (more ++ blank 1) ∷ [])
    × Leaves (ImageMerge almost one 2 (blank 36)) 36 (almost ∷ one ∷ last ∷ [])
unfolding the-merge
editions = (leaves refl, leaves refl, leaves refl)

-- ---- 'Refusals: 1, then 5 and 6 of the first, the same of the second, then 3 if a count passes 4,294,967,295 or the total its limit, then 4'
-- the first image with another edition, and with page 0's root above S; and of 4,294,967,295 coins the same, and a bit behind the code
abbrev five : List ℕ
five = set front 0 2

abbrev six : List ℕ
six = set front 24 0xB7

pub in_order :
    Asking
    (ImageMerge five six 1 [] gives refused 1
    ∷ ImageMerge five six 9 [] gives refused 1
    ∷ ImageMerge front side 1 (blank 99) gives refused 1
    ∷ ImageMerge front side 9 (blank 99) gives refused 1
    ∷ ImageMerge five side 2 [] gives refused 5
    ∷ ImageMerge six side 2 [] gives refused 6
    ∷ ImageMerge side five 2 [] gives refused 5
    ∷ ImageMerge side six 2 [] gives refused 6
    ∷ ImageMerge five six 2 [] gives refused 5
    ∷ ImageMerge six five 2 [] gives refused 6
    ∷ ImageMerge five five 2 [] gives refused 5
    ∷ ImageMerge six six 2 [] gives refused 6
    ∷ ImageMerge last (set last 0 2) 2 [] gives refused 5
    ∷ ImageMerge last (set last 35 1) 2 [] gives refused 6
    ∷ ImageMerge last one 2 [] gives refused 3
    ∷ ImageMerge last one 2 (blank 99) gives refused 3
    ∷ ImageMerge one last 2 (blank 99) gives refused 3
    ∷ ImageMerge last last 2 (blank 99) gives refused 3
    ∷ ImageMerge almost one 2 (blank 35) gives refused 4
    ∷ ImageMerge front side 2 (blank 28) gives refused 4
    ∷ ImageMerge front side 8 [] gives refused 4
    ∷ ImageMerge empty empty 2 (blank 15) gives refused 4
    ∷ [])
unfolding the-merge
in_order = asking refl

-- 3 for the total alone: 2^40 - 1 coins in 257 hours, and one more in the last, which has 255. One less, and the buffer is looked at. The images are
-- too long to print
abbrev fits : List ℕ → Bool
fits xs = leb (length xs) 65536 && (leb (sum xs) max_total && within max_count xs)

image-of : (xs : List ℕ) → fits xs ≡ true → Is (image 8 xs) xs
image-of xs h =
    let a : Bool = leb (length xs) 65536 in
    let b : Bool = leb (sum xs) max_total in
    let r = right a (b && within max_count xs) h in
    let m : Limits 8 xs = record {
      e-low = omega arith;
      e-high = omega arith;
      hours = leb-true (length xs) 65536 (left a (b && within max_count xs) h);
      total = leb-true (sum xs) max_total (left b (within max_count xs) r);
    } in
    let w = is-accepted (image 8 xs) 8 xs m (within-at max_count xs (right b (within max_count xs) r)) refl in
    record { accepts = w.0; says = w.1 }

into-nothing : {a b xs ys : List ℕ} {w : ℕ} → Is a xs → Is b ys → word_of (end_of_image (merge_lists 8 xs ys []).reply) ≡ w → (merge_lists 8 xs ys []).bytes ≡ []
    → Leaves (ImageMerge a b 8 []) w (a ∷ b ∷ [] ∷ [])
unfolding ended
into-nothing {a} {b} {xs} {ys} i j p q =
    let m : merge_call 8 a b [] ≡ merge_lists 8 xs ys [] =
    sym (past_all 8 a b [] (omega arith) (omega arith) i.accepts j.accepts)
    ∙ ap₂ (λ (x y : List ℕ). merge_lists 8 x y []) i.says j.says in
    leaves
    (ap (λ (z : Result). expected (word_of (end_of_image z.reply)) (a ∷ b ∷ z.bytes ∷ [])) m
    ∙ ap₂ (λ (v : ℕ) (t : List ℕ). expected v (a ∷ b ∷ t ∷ [])) p q)

abbrev almost_list : List ℕ
almost_list = replicate 256 4294967295 ++ 254 ∷ []

abbrev coin_list : List ℕ
coin_list = replicate 256 0 ++ 1 ∷ []

pub by-the-total :
    Leaves (ImageMerge (image 8 almost_list) (image 8 coin_list) 8 []) (refused 4) (image 8 almost_list ∷ image 8 coin_list ∷ [] ∷ [])
    × Leaves (ImageMerge most (image 8 coin_list) 8 []) (refused 3) (most ∷ image 8 coin_list ∷ [] ∷ [])
unfolding the-merge
by-the-total = (
  into-nothing (image-of almost_list refl) (image-of coin_list refl) refl refl,
  into-nothing most-so (image-of coin_list refl) refl refl,
)
