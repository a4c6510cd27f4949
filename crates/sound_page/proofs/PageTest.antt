-- The test of a page's gathered code says that its cells hold the page's bytes. Assumes nothing.
use mathlib.Core.Path.{◌≡◌, refl, sym, ap, ap₂, ◌∙◌}
use Rattle.std.specs.Prelude.{Option, Some}
use mathlib.Core.Bool.{Bool, true, false, ◌&&◌}
use mathlib.Core.List.{List, [], ◌∷◌, ◌++◌}
use Prim.Native.Nat.{ℕ, ◌+◌, ◌-◌, ◌*◌, ◌≤◌, ◌<◌}
use native.Mathlib.Omega.{arith}
use lib.ListN.{length, get_or, take, replicate}
use lib.Seq.{take_at, drop_at, length-take-le, take-add, take-take}
use lib.Dec.{eqb}
use borrow.Author.Tests.{eq-eqb, eqb-true}
use Rattle.lists.specs.Lists.{fill, part, same, sum}
use Rattle.lists.proofs.Parts.{part-sub}
use Rattle.lists.proofs.Sums.{sum-take-le}
use Rattle.lists.proofs.Zeros.{take-zeros}
use Rattle.lists.proofs.Tests.{agree, both, each, every_of, left, right, same-eq, same-is}
use Rattle.bits.specs.Bits.{bits}
use Rattle.bits.specs.Pack.{pack}
use Rattle.bits.proofs.Laws.{length-bits}
use Rattle.bits.proofs.Packing.{bits-bytes, pack-bits, take-bits}
use Rattle.bits.proofs.Little.{byte-take}
use Rattle.reserve.specs.Reserve.{reserve}
use Rattle.reserve.proofs.Fit.{most}
use Rattle.tree.specs.Read.{counts, walk}
use Rattle.tree.specs.Code.Exact.{clear, CodeOfCounts, exact}
use Rattle.tree.specs.Tree.{tree}
use Rattle.tree.specs.Code.Node.{Lies}
use Rattle.tree_walk.specs.Code.Answers.{walk_answer}
use Rattle.tree.proofs.Clearing.{clear_none}
use Rattle.tree.proofs.Exacts.{exact-coded, exact-zero, tree-exact}
use Rattle.tree.proofs.Shape.{counts-tree, length-counts, length-tree}
use Rattle.tree.proofs.WalkLaws.{walk-tree}
use Rattle.store.specs.PageCode.{cells, page_bytes, counts_in_page}
use Rattle.store.specs.Code.Checked.{quiet}
use Rattle.store.proofs.PageCodeLaws.{cells-hold, cells-most, cells-none, page-bits}
use Rattle.sound_page.specs.Code.Page.{HandedPage, page_code_fits}
use Rattle.sound_page.proofs.Quiet.{quiet_all, quiet_none, quiet-some, quiet_sum}

-- a list as two of its parts
split-front : (b : List ℕ) (n r : ℕ) → r ≤ n → take n b ≡ take r b ++ part b r (n - r)
split-front b n r l = ap (λ (z : ℕ). take z b) {x = n} {y = r + (n - r)} (omega arith) ∙ take-add r (n - r) b

-- ---- the gathered code of page p, of sum s
pub record Paged (code : List ℕ) (s p N : ℕ) : Type 0 where
  pub long : length code ≡ 240
  pub handed : HandedPage s p N

module _ {code : List ℕ} {s p N : ℕ} (g : Paged code s p N) where
  abbrev B : List ℕ
  B = bits code

  abbrev R : ℕ
  R = reserve 6 s

  abbrev xs : List ℕ
  xs = counts 6 s (bits code) 0

  xs-long : length xs ≡ 64
  xs-long = length-counts 6 s (bits code) 0

  pub page-lies : Lies code 0 6 s
  page-lies =
      let l = g.long in
      let m : reserve 6 s ≤ 1820 = most s g.handed.small in
      record { height = omega arith; total = omega (arith, g.handed.small); long = omega arith; inside = omega arith; small = omega arith }

  -- ---- its hours, where it is the code of some list
  module _ (i : exact 6 s (bits code) 0 ≡ true) where
    found : CodeOfCounts 6 s (bits code) 0
    found = exact-coded 6 s (bits code) 0 (bits-bytes code) (omega (arith, page-lies.inside, length-bits code)) i

    -- the walk to hour j of the page tells the prefix sum to it
    walk-told : (j : ℕ) → j < 64 → walk_answer 0 1 (walk 6 s (bits code) 0 j) ≡ Some (sum (take j xs) + get_or xs j 0)
    unfolding walk_answer
    walk-told j l =
        let t : s ≡ sum xs = sym found.total in
        let w : part B 0 (reserve 6 (sum xs)) ≡ tree 6 xs = ap (λ (n : ℕ). part B 0 (reserve 6 n)) (sym t) ∙ found.code in
        let x : ℕ = sum (take j xs) in
        let c : ℕ = get_or xs j 0 in
        ap (walk_answer 0 1) (ap (λ (n : ℕ). walk 6 n B 0 j) t ∙ walk-tree 6 xs B 0 j xs-long (omega arith) w)
        ∙ ap Some {x = 0 + 1 * x + c} {y = x + c} (omega arith)

    pub hours-all : 64 * p + 64 ≤ N → true ≡ same xs (quiet N p xs)
    hours-all l = quiet_all xs N p xs-long l

    pub hours-none : N ≤ 64 * p → eqb s 0 ≡ same xs (quiet N p xs)
    hours-none l = quiet_none xs N p xs-long l s found.total

    pub hours-some : 64 * p < N → N < 64 * p + 64 → {way : Option ℕ} {t : Bool} → way ≡ walk_answer 0 1 (walk 6 s (bits code) 0 (N - 64 * p - 1))
        → ((r : ℕ) → way ≡ Some r → t ≡ eqb r s) → t ≡ same xs (quiet N p xs)
    hours-some l u e some =
        let j : ℕ = N - 64 * p - 1 in
        some (sum (take j xs) + get_or xs j 0) (e ∙ walk-told j (omega arith)) ∙ quiet-some xs N p xs-long l u _ s found.total refl

  -- ---- its k cells, at the front of the code
  module _ {k : ℕ} (fit : k ≡ cells s) where
    abbrev own : List ℕ
    own = take (30 * k) code

    abbrev Z : List ℕ
    Z = replicate (240 * k - reserve 6 s) 0

    pub few : k ≤ 8
    few = omega (arith, cells-most s (omega (arith, g.handed.small)))

    pub holds : reserve 6 s ≤ 240 * k
    holds = omega (arith, cells-hold s)

    own-fits : 30 * k ≤ length code
    own-fits = omega (arith, few, g.long)

    own_bits : bits own ≡ take (240 * k) B
    own_bits = let e : 8 * (30 * k) ≡ 240 * k = omega arith in sym (take-bits (30 * k) code) ∙ ap (λ (n : ℕ). take n B) e

    -- bytes that are a page's are its tree and zeros
    module _ (ys : List ℕ) (t : sum ys ≡ s) (e : own ≡ page_bytes ys) where
      parts : take (240 * k) B ≡ tree 6 ys ++ Z
      unfolding fill
      parts =
          sym own_bits ∙ ap bits e ∙ page-bits ys
          ∙ ap₂ (λ (n r : ℕ). tree 6 ys ++ replicate (240 * n - r) 0) (ap cells t ∙ sym fit) (length-tree 6 ys ∙ ap (reserve 6) t)

      tree-length : length (tree 6 ys) ≡ R
      tree-length = length-tree 6 ys ∙ ap (reserve 6) t

      is-exact : exact 6 s B 0 ≡ true
      is-exact =
          let w : part B 0 (reserve 6 (sum ys)) ≡ tree 6 ys =
          ap (λ (n : ℕ). part B 0 (reserve 6 n)) t ∙ sym (take-take R (240 * k) B holds) ∙ ap (take R) parts ∙ take_at (tree 6 ys) Z R tree-length in
          ap (λ (n : ℕ). exact 6 n B 0) (sym t) ∙ tree-exact 6 ys B 0 w

      is-clear : clear B R (240 * k - R) ≡ true
      unfolding clear
      is-clear =
          same-eq _ _
          (sym (part-sub B R (240 * k - R) (240 * k) (omega (arith, holds))) ∙ ap (λ (z : List ℕ). part z R (240 * k - R)) parts
          ∙ ap (take (240 * k - R)) (drop_at (tree 6 ys) Z R tree-length) ∙ take-zeros (240 * k - R) (240 * k - R) (omega arith))

    module _ (bytes : (i : ℕ) → get_or code i 0 < 256) where
      -- and the other way: a tree and zeros are the bytes of the page that it says
      module _ (i : exact 6 s (bits code) 0 ≡ true) (z : clear (bits code) (reserve 6 s) (240 * k - reserve 6 s) ≡ true) where
        total : sum xs ≡ s
        total = (found i).total

        says : counts_in_page s own ≡ xs
        unfolding counts_in_page
        says =
            let w : part (bits own) 0 (reserve 6 (sum xs)) ≡ tree 6 xs =
            ap (λ (n : ℕ). part (bits own) 0 (reserve 6 n)) total ∙ ap (take R) own_bits ∙ take-take R (240 * k) B holds ∙ (found i).code in
            ap (λ (n : ℕ). counts 6 n (bits own) 0) (sym total) ∙ counts-tree 6 xs (bits own) 0 xs-long w

        bytes-are : own ≡ page_bytes xs
        unfolding page_bytes fill clear
        bytes-are =
            let zeros : part B R (240 * k - R) ≡ Z = same-is _ _ z in
            let length-is : R ≡ length (tree 6 xs) = sym (length-tree 6 xs ∙ ap (reserve 6) total) in
            sym (pack-bits own (byte-take (30 * k) code bytes))
            ∙ ap₂ pack (length-take-le (30 * k) code own-fits)
            (own_bits ∙ split-front B (240 * k) R holds ∙ ap₂ ◌++◌ (found i).code zeros
            ∙ ap (λ (n : ℕ). tree 6 xs ++ replicate (240 * k - n) 0) length-is)
            ∙ ap (λ (n : ℕ). pack (30 * n) (tree 6 xs ++ replicate (240 * n - length (tree 6 xs)) 0)) (fit ∙ ap cells (sym total))

      abbrev three : Bool
      three = exact 6 s (bits code) 0 && (clear (bits code) (reserve 6 s) (240 * k - reserve 6 s) && same xs (quiet N p xs))

      to-three : page_code_fits own s p N ≡ true → three ≡ true
      unfolding page_code_fits
      to-three q =
          let ys : List ℕ = counts_in_page s own in
          let w = each (eqb (sum ys) s ∷ same own (page_bytes ys) ∷ same ys (quiet N p ys) ∷ []) q in
          let t : sum ys ≡ s = eqb-true (sum ys) s w.0 in
          let e : own ≡ page_bytes ys = same-is own (page_bytes ys) w.1.0 in
          let i = is-exact ys t e in
          let j = is-clear ys t e in
          both i (both j (ap (λ (z : List ℕ). same z (quiet N p z)) (sym (says i j)) ∙ w.1.1.0))

      from-three : three ≡ true → page_code_fits own s p N ≡ true
      unfolding page_code_fits
      from-three q =
          let ys : List ℕ = counts_in_page s own in
          let i = left (exact 6 s B 0) _ q in
          let r = right (exact 6 s B 0) _ q in
          let j = left (clear B R (240 * k - R)) _ r in
          every_of (eqb (sum ys) s ∷ same own (page_bytes ys) ∷ same ys (quiet N p ys) ∷ []) (
            eq-eqb _ _ (ap sum (says i j) ∙ total i j),
            (
              same-eq _ _ (bytes-are i j ∙ ap page_bytes (sym (says i j))),
              (ap (λ (z : List ℕ). same z (quiet N p z)) (says i j) ∙ right (clear B R (240 * k - R)) _ r, tt),
            ),
          )

      -- the test in its three parts
      fits-test : page_code_fits own s p N ≡ three
      fits-test = agree (page_code_fits own s p N) three to-three from-three

      -- a page of sum 0 has no code and no counts
      pub fits-none : s ≡ 0 → true ≡ page_code_fits own s p N
      fits-none e =
          let i : exact 6 s B 0 ≡ true = ap (λ (n : ℕ). exact 6 n B 0) e ∙ exact-zero 6 B 0 in
          let none : 240 * k - R ≡ 0 = omega (arith, fit, ap cells e, cells-none) in
          let t : sum (take (N - 64 * p) xs) ≡ sum xs = omega (arith, sum-take-le (N - 64 * p) xs, (found i).total) in
          sym (fits-test ∙ ap₂ ◌&&◌ i (ap₂ ◌&&◌ (sym (clear_none B R (240 * k - R) none)) (quiet_sum xs N p xs-long ∙ eq-eqb _ _ t)))

      pub fits-no-tree : false ≡ exact 6 s (bits code) 0 → false ≡ page_code_fits own s p N
      fits-no-tree e = sym (fits-test ∙ ap (λ (z : Bool). z && (clear B R (240 * k - R) && same xs (quiet N p xs))) (sym e))

      module _ {b : Bool} {used : ℕ} (i : exact 6 s (bits code) 0 ≡ true) (u : used ≡ reserve 6 s)
          (e : b ≡ clear (bits code) used (240 * k - used)) where
        last : page_code_fits own s p N ≡ (b && same xs (quiet N p xs))
        last =
            fits-test
            ∙ ap₂ (λ (y z : Bool). y && (z && same xs (quiet N p xs))) i (sym (e ∙ ap (λ (n : ℕ). clear B n (240 * k - n)) u))

        pub fits-no-rest : b ≡ false → false ≡ page_code_fits own s p N
        fits-no-rest f = sym (last ∙ ap (λ (z : Bool). z && same xs (quiet N p xs)) f)

        pub fits-hours : b ≡ true → {r : Bool} → r ≡ same xs (quiet N p xs) → r ≡ page_code_fits own s p N
        fits-hours f q = q ∙ sym (last ∙ ap (λ (z : Bool). z && same xs (quiet N p xs)) f)
