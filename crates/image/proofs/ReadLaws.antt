-- What the bytes of a list's image say is the list. Assumes nothing.
use mathlib.Core.Path.{◌≡◌, refl, sym, ap, ap₂, ◌∙◌}
use mathlib.Core.Bool.{Bool, true, false}
use mathlib.Core.List.{List, [], ◌∷◌, ◌++◌, append-nil}
use Prim.Native.Nat.{ℕ, zero, suc, ◌+◌, ◌*◌, ◌^◌, ◌≤◌, ◌<◌}
use native.Mathlib.Nat.{add-zero, mul-zero}
use native.Mathlib.Omega.{arith}
use lib.ListN.{length, get_or, take, drop, length-append}
use lib.Seq.{take_at, drop_at, drop-drop, take_all}
use lib.Dec.{leb, ltb, eqb}
use borrow.Author.Tests.{le-leb, eq-eqb}
use Rattle.lists.specs.Lists.{concat, every, part, sum, tabulate}
use Rattle.lists.proofs.Parts.{part_in, part-skip, piece}
use Rattle.lists.proofs.Tables.{concat-at, concat-each, part-concat}
use Rattle.lists.proofs.Tests.{every_of}
use Rattle.bits.specs.Bits.{bits, field, value}
use Rattle.bits.specs.Numbers.{little, number, number_at}
use Rattle.bits.proofs.Laws.{length-field}
use Rattle.bits.proofs.Little.{length-little, number-little}
use Rattle.bits.proofs.Packing.{Bits, bits-field, bits-join, value-field}
use Rattle.reserve.specs.Reserve.{digits, reserve}
use Rattle.reserve.proofs.Exact.{digits-is}
use Rattle.tree.specs.Tree.{tree}
use Rattle.tree.proofs.Shape.{bits-tree, length-tree}
use Rattle.image.specs.Check.{headed, wide_right}
use Rattle.image.specs.Image.{Limits, bits_place, code, code_start, edition, header, header_in, header_length, image, max_hours, max_total, narrow_total, packed, page, page_code, pages, root, size}
use Rattle.image.specs.Image.{start, table, table_at, total_width, wide}
use Rattle.image.specs.Read.{before_of, code_at, e_of, l_of, n_of, page_count_of, root_at, s_of, start_of, sum_of, tree_at, wide_of, width_of}
use Rattle.image.proofs.Editions.{edition-wide, header-least, header-low, size-more, size_same, total-fits, total-low}
use Rattle.image.proofs.Packed.{bits-packed, drop_bits, length-packed, tail}
use Rattle.image.proofs.PageLaws.{code-most, length-page_code, page-sum, pages-cover, root-le, start-within}

bits-concat : (k : ℕ) (f : ℕ → List ℕ) → ((j : ℕ) → Bits (f j)) → Bits (concat (tabulate k f))
unfolding tabulate concat
bits-concat zero f h = tt
bits-concat (suc k) f h = bits-join (f 0) (concat (tabulate k (λ j. f (suc j)))) (h 0) (bits-concat k (λ j. f (suc j)) (λ j. h (suc j)))

pub bits-code : (e : ℕ) (xs : List ℕ) → Bits (code e xs)
unfolding code page_code
bits-code e xs =
    bits-concat (pages e (length xs)) (page_code e xs) (λ p. bits-join (field (digits (sum xs)) (root e xs p)) (tree e (page e xs p))
    (bits-field (digits (sum xs)) (root e xs p)) (bits-tree e (page e xs p)))

-- ---- the header of an edition
module _ (e n s l : ℕ) where
  length-in : (b : Bool) → length (header_in b e n s l) ≡ header_length b
  unfolding header_in little
  length-in false = refl
  length-in true = refl

  hours-in : (b : Bool) → part (header_in b e n s l) 4 4 ≡ little 4 n
  unfolding header_in little
  hours-in false = refl
  hours-in true = refl

  total-in : (b : Bool) → part (header_in b e n s l) 8 (total_width b) ≡ little (total_width b) s
  unfolding header_in little
  total-in false = refl
  total-in true = refl

  bits_in : (b : Bool) → part (header_in b e n s l) (bits_place b) 4 ≡ little 4 l
  unfolding header_in little
  bits_in false = refl
  bits_in true = refl

  zeros-in : part (header_in true e n s l) 20 4 ≡ little 4 0
  unfolding header_in little
  zeros-in = refl

  pub length-header : length (header e n s l) ≡ header_length (wide s)
  unfolding header
  length-header = length-in (wide s)

length-table : (e : ℕ) (xs : List ℕ) → length (table e xs) ≡ 4 * pages e (length xs)
unfolding table
length-table e xs = concat-each (pages e (length xs)) 4 (λ p. little 4 (start e xs p)) (λ j _. length-little 4 (start e xs j))

total-take : (e : ℕ) (xs : List ℕ) → sum (take (2 ^ e * pages e (length xs)) xs) ≡ sum xs
total-take e xs = ap sum (take_all (2 ^ e * pages e (length xs)) xs (pages-cover e (length xs)))

module _ (e : ℕ) (xs : List ℕ) where
  abbrev S : List ℕ
  S = image e xs

  abbrev H : List ℕ
  H = header e (length xs) (sum xs) (length (code e xs))

  abbrev P : ℕ
  P = pages e (length xs)

  abbrev W : Bool
  W = wide (sum xs)

  pub length-image : length (image e xs) ≡ size W e (length xs) (length (code e xs))
  unfolding image size
  length-image =
      length-append H (table e xs ++ packed (code e xs)) ∙ ap₂ ◌+◌ (length-header e (length xs) (sum xs) (length (code e xs)))
      (length-append (table e xs) (packed (code e xs)) ∙ ap₂ ◌+◌ (length-table e xs) (length-packed (code e xs)))
      ∙ omega arith

  head : part S 0 (header_length W) ≡ H
  unfolding image
  head = take_at H (table e xs ++ packed (code e xs)) (header_length W) (length-header e (length xs) (sum xs) (length (code e xs)))

  head-word : (a w v : ℕ) → a + w ≤ header_length W → part H a w ≡ little w v → v < 256 ^ w → number_at S a w ≡ v
  head-word a w v l q m =
      ap number (ap (λ (z : ℕ). part S z w) {x = a} {y = 0 + a} (omega arith) ∙ part_in S H 0 (header_length W) a w head l ∙ q) ∙ number-little w v m

  pub wide_is : wide_of S ≡ W
  unfolding wide_of image header header_in
  wide_is = edition-wide W

  pub e-is : e_of S ≡ e
  unfolding e_of image header header_in
  e-is = refl

  table-at : (p : ℕ) → p < P → part S (table_at W p) 4 ≡ little 4 (start e xs p)
  unfolding image table
  table-at p l =
      part-skip H (table e xs ++ packed (code e xs)) (4 * p) 4 (header_length W) (length-header e (length xs) (sum xs) (length (code e xs)))
      ∙ concat-at P 4 (λ p. little 4 (start e xs p)) (packed (code e xs)) p (λ j _. length-little 4 (start e xs j)) l

  body : drop (table_at W P) S ≡ packed (code e xs)
  unfolding image
  body =
      sym (drop-drop (4 * P) (header_length W) (image e xs)) ∙ ap (drop (4 * P))
      (drop_at H (table e xs ++ packed (code e xs)) (header_length W) (length-header e (length xs) (sum xs) (length (code e xs))))
      ∙ drop_at (table e xs) (packed (code e xs)) (4 * P) (length-table e xs)

  first-is : eqb (get_or S 0 0) (edition (wide_of S)) ≡ true
  unfolding image header header_in
  first-is = ap (λ (b : Bool). eqb (edition W) (edition b)) wide_is ∙ eq-eqb (edition W) (edition W) refl

  second_is : eqb (get_or S 2 0) 0 ≡ true
  unfolding image header header_in
  second_is = refl

  third-is : eqb (get_or S 3 0) 0 ≡ true
  unfolding image header header_in
  third-is = refl

  module _ (m : Limits e xs) where
    pub n-is : n_of S ≡ length xs
    unfolding n_of header
    n-is = head-word 4 4 (length xs) (omega (arith, header-least W)) (hours-in e (length xs) (sum xs) (length (code e xs)) W) (omega (arith, m.hours))

    pub s-is : s_of S ≡ sum xs
    unfolding s_of header
    s-is =
        ap (λ (b : Bool). number_at S 8 (total_width b)) wide_is
        ∙ head-word 8 (total_width W) (sum xs) (total-low W) (total-in e (length xs) (sum xs) (length (code e xs)) W)
        (total-fits (sum xs) m.total W refl)

    pub l-is : l_of S ≡ length (code e xs)
    unfolding l_of header
    l-is =
        ap (λ (b : Bool). number_at S (bits_place b) 4) wide_is
        ∙ head-word (bits_place W) 4 (length (code e xs)) (header-low W) (bits_in e (length xs) (sum xs) (length (code e xs)) W)
        (omega (arith, code-most e xs m))

    pub pages-is : page_count_of S ≡ P
    unfolding page_count_of
    pages-is = ap₂ pages e-is n-is

    pub width_is : width_of S ≡ digits (sum xs)
    unfolding width_of
    width_is = ap digits s-is

    pub code_is : code_at S ≡ code_start W P
    unfolding code_at
    code_is = ap₂ code_start wide_is pages-is

    -- the bits from where the code starts
    pub bits_is : drop (code_at S) (bits S) ≡ code e xs ++ tail (code e xs)
    bits_is = ap (λ (z : ℕ). drop z (bits S)) code_is ∙ drop_bits (table_at W P) S ∙ ap bits body ∙ bits-packed (code e xs) (bits-code e xs)

    pub start_is : (p : ℕ) → p < P → start_of S p ≡ start e xs p
    unfolding start_of
    start_is p l =
        ap (λ (b : Bool). number_at S (table_at b p) 4) wide_is ∙ ap number (table-at p l)
        ∙ number-little 4 (start e xs p) (omega (arith, start-within e xs p l, code-most e xs m))

    -- a page's bits
    page-bits : (p : ℕ) → p < P
        → part (bits S) (code_at S + start_of S p) (digits (sum xs) + reserve e (sum (page e xs p))) ≡ field (digits (sum xs)) (root e xs p) ++
        (tree e (page e xs p) ++ [])
    unfolding code start page_code
    page-bits p l =
        ap (take (digits (sum xs) + reserve e (sum (page e xs p)))) (sym (drop-drop (start_of S p) (code_at S) (bits S)))
        ∙ ap₂ (λ (b : List ℕ) (a : ℕ). part b a (digits (sum xs) + reserve e (sum (page e xs p)))) bits_is (start_is p l)
        ∙ ap (part (code e xs ++ tail (code e xs)) (start e xs p)) (sym (length-page_code e xs p))
        ∙ part-concat P (page_code e xs) (tail (code e xs)) p l
        ∙ ap (λ (z : List ℕ). field (digits (sum xs)) (root e xs p) ++ z) (sym (append-nil (tree e (page e xs p))))

    pub root_is : (p : ℕ) → p < P → root_at S p ≡ root e xs p
    unfolding root_at
    root_is p l =
        let w : ℕ = digits (sum xs) in
        let a : ℕ = code_at S + start_of S p in
        ap₂ (λ (z y : ℕ). value (part (bits S) y z)) width_is (sym (add-zero a))
        ∙ ap value (piece (bits S) a (w + reserve e (sum (page e xs p))) [] (field w (root e xs p)) (tree e (page e xs p) ++ []) 0 w
        (page-bits p l) refl (length-field w (root e xs p)) (omega arith))
        ∙ value-field w (root e xs p) (omega (arith, root-le e xs p, digits-is (sum xs)))

    pub before-is : (p : ℕ) → p < P → before_of S p ≡ sum (take (2 ^ e * p) xs)
    unfolding before_of root sum
    before-is zero l = sym (ap (λ (z : ℕ). sum (take z xs)) (mul-zero (2 ^ e)))
    before-is (suc p) l = root_is p (omega arith)

    -- the root of the last page is S
    pub last-root : (p : ℕ) → p ≡ P → before_of S p ≡ sum xs
    unfolding before_of root sum
    last-root zero q = ap (λ (z : ℕ). sum (take z xs)) (sym (mul-zero (2 ^ e)) ∙ ap (λ (z : ℕ). 2 ^ e * z) q) ∙ total-take e xs
    last-root (suc p) q = root_is p (omega arith) ∙ ap (λ (z : ℕ). sum (take (2 ^ e * z) xs)) q ∙ total-take e xs

    pub sum_is : (p : ℕ) → p < P → sum_of S p ≡ sum (page e xs p)
    unfolding sum_of
    sum_is p l = omega (arith, root_is p l, before-is p l, page-sum e xs p)

    pub tree_is : (p : ℕ) → p < P → part (bits S) (tree_at S p) (reserve e (sum (page e xs p))) ≡ tree e (page e xs p)
    unfolding tree_at
    tree_is p l =
        let w : ℕ = digits (sum xs) in
        let a : ℕ = code_at S + start_of S p in
        ap (λ (z : ℕ). part (bits S) (a + z) (reserve e (sum (page e xs p)))) width_is
        ∙ piece (bits S) a (w + reserve e (sum (page e xs p))) (field w (root e xs p)) (tree e (page e xs p)) [] w (reserve e (sum (page e xs p)))
        (page-bits p l) (length-field w (root e xs p)) (length-tree e (page e xs p)) (omega arith)

    -- an image passes the header's tests
    zero_is : (b : Bool) → W ≡ b → wide_right b S ≡ true
    unfolding wide_right every header wide
    zero_is false q = refl
    zero_is true q =
        every_of (ltb narrow_total (s_of S) ∷ leb (s_of S) max_total ∷ eqb (number_at S 20 4) 0 ∷ []) (
          ap (ltb narrow_total) s-is ∙ q,
          (
            ap (λ (z : ℕ). leb z max_total) s-is ∙ le-leb (sum xs) max_total m.total,
            (
              eq-eqb (number_at S 20 4) 0
                  (head-word 20 4 0 (rw q (omega arith)) (rw q (zeros-in e (length xs) (sum xs) (length (code e xs)))) (omega arith)),
              tt,
            ),
          ),
        )

    pub headed-image : headed S ≡ true
    unfolding headed
    headed-image =
        every_of _ (
          le-leb (header_length (wide_of S)) (length S) (rw wide_is (omega (arith, length-image, size-more W e (length xs) (length (code e xs))))),
          (
            first-is,
            (
              ap (leb 2) e-is ∙ le-leb 2 e m.e-low,
              (
                ap (λ (z : ℕ). leb z 8) e-is ∙ le-leb e 8 m.e-high,
                (
                  second_is,
                  (
                    third-is,
                    (
                      ap (λ (z : ℕ). leb z max_hours) n-is ∙ le-leb (length xs) max_hours m.hours,
                      (
                        ap (λ (b : Bool). wide_right b S) wide_is ∙ zero_is W refl,
                        (
                          eq-eqb (length S) (size (wide_of S) (e_of S) (n_of S) (l_of S))
                              (length-image ∙ sym (size_same wide_is e-is n-is l-is)),
                          tt,
                        ),
                      ),
                    ),
                  ),
                ),
              ),
            ),
          ),
        )
