-- A page's code and its counts, in 240 bytes. Assumes nothing.
use mathlib.Core.Path.{◌≡◌, sym, ap, ap₂, ◌∙◌}
use mathlib.Core.Bool.{true}
use mathlib.Core.List.{List, ◌++◌, append_assoc}
use Prim.Native.Nat.{ℕ, ◌+◌, ◌-◌, ◌*◌, ◌≤◌, ◌<◌}
use native.Mathlib.Omega.{arith}
use lib.ListN.{length, get_or, take, drop, replicate}
use lib.Seq.{ext_get_or, take_at}
use Rattle.lists.specs.Lists.{fill, part, splice, sum, tabulate, window}
use Rattle.lists.proofs.Tables.{get_d_tabulate, length-tabulate}
use Rattle.lists.proofs.Zeros.{fill_more, splice-zeros, zeros-same}
use Rattle.bits.specs.Bits.{bits}
use Rattle.bits.specs.Pack.{pack}
use Rattle.bits.proofs.Laws.{bits-append, length-bits}
use Rattle.bits.proofs.Packing.{length-fill, pack-append, pack-bits, pack-zeros, zeros-bits}
use Rattle.reserve.specs.Reserve.{reserve}
use Rattle.tree.specs.Tree.{tree}
use Rattle.tree.specs.Code.Node.{Lies}
use Rattle.tree.specs.Read.{counts}
use Rattle.tree.specs.Code.Exact.{exact}
use Rattle.tree.proofs.Shape.{counts-tree, length-tree}
use Rattle.tree.proofs.Exacts.{tree-exact}
use Rattle.store.specs.PageCode.{cells, page_bytes}
use Rattle.store.proofs.PageCodeLaws.{cells-hold, cells-most, page-bits}

pub window-all : (xs : List ℕ) (n : ℕ) → length xs ≡ n → window xs 0 n ≡ xs
unfolding window
window-all xs n e =
    let f : ℕ → ℕ = λ j. get_or xs (0 + j) 0 in
    ext_get_or 0 (tabulate n f) xs (length-tabulate n f ∙ sym e)
    (λ i l. get_d_tabulate n f i 0 (omega (arith, length-tabulate n f)) ∙ ap (λ (z : ℕ). get_or xs z 0) {x = 0 + i} {y = i} (omega arith))

-- the tree of a page lies in 240 bytes
pub lies : (b : List ℕ) (s : ℕ) → length b ≡ 240 → s < 4294967296 → Lies b 0 6 s
lies b s n l = record {
  height = omega arith;
  total = omega arith;
  long = omega arith;
  inside = omega (arith, cells-hold s, cells-most s (omega arith));
  small = omega (arith, cells-hold s, cells-most s (omega arith));
}

-- the code that is written into b, which is zeros
pub coded : (b r xs : List ℕ) (s : ℕ) → b ≡ replicate 240 0 → length xs ≡ 64 → s ≡ sum xs → s < 4294967296 → ((i : ℕ) → get_or r i 0 < 256)
    → bits r ≡ splice (bits b) 0 (tree 6 (window xs 0 64)) → r ≡ page_bytes xs ++ replicate (240 - 30 * cells s) 0
unfolding page_bytes
coded b r xs s z n es l h e =
    let k : ℕ = cells (sum xs) in
    let T : List ℕ = tree 6 xs in
    let few : k ≤ 8 = cells-most (sum xs) (omega arith) in
    let short : length T ≤ 240 * k = omega (arith, length-tree 6 xs, cells-hold (sum xs)) in
    let f : bits r ≡ fill 1920 T =
    e ∙ ap₂ (λ (y t : List ℕ). splice y 0 (tree 6 t)) (ap bits z ∙ zeros-bits 240) (window-all xs 64 n) ∙ splice-zeros 1920 T in
    let long : length r ≡ 30 * k + (240 - 30 * k) = omega (arith, length-bits r, ap length f, length-fill 1920 T (omega arith)) in
    let rest : 1920 - 240 * k ≡ 8 * (240 - 30 * k) = omega arith in
    sym (pack-bits r h)
    ∙ ap₂ pack long (f ∙ fill_more (240 * k) 1920 T short (omega arith))
    ∙ pack-append (30 * k) (240 - 30 * k) (fill (240 * k) T) (replicate (1920 - 240 * k) 0) (omega (arith, length-fill (240 * k) T short))
    ∙ ap (λ (y : List ℕ). page_bytes xs ++ y) (ap (pack (240 - 30 * k)) (zeros-same rest) ∙ pack-zeros (240 - 30 * k))
    ∙ ap (λ (i : ℕ). page_bytes xs ++ replicate (240 - 30 * cells i) 0) (sym es)

-- code with a page's bytes at its front has the page's tree there
pub tree-at : (code xs z : List ℕ) → code ≡ page_bytes xs ++ z → part (bits code) 0 (reserve 6 (sum xs)) ≡ tree 6 xs
unfolding fill
tree-at code xs z e =
    let y : List ℕ = replicate (240 * cells (sum xs) - length (tree 6 xs)) 0 in
    ap (take (reserve 6 (sum xs)))
    (ap bits e ∙ bits-append (page_bytes xs) z ∙ ap (λ (b : List ℕ). b ++ bits z) (page-bits xs) ∙ append_assoc (tree 6 xs) y (bits z))
    ∙ take_at (tree 6 xs) (y ++ bits z) (reserve 6 (sum xs)) (length-tree 6 xs)

-- what decoding asks for and gives
module _ (code xs z : List ℕ) (s : ℕ) (l : length xs ≡ 64) (es : s ≡ sum xs) (e : code ≡ page_bytes xs ++ z) where
  pub code-exact : exact 6 s (bits code) 0 ≡ true
  code-exact = rw es (tree-exact 6 xs (bits code) 0 (tree-at code xs z e))

  -- decoded into an array, of which they are the first
  pub decoded : (o d r : List ℕ) → d ≡ splice o 0 (counts 6 s (bits code) 0) → r ≡ take 64 d → r ≡ xs
  unfolding splice
  decoded o d r h q =
      let c : counts 6 s (bits code) 0 ≡ xs = rw es (counts-tree 6 xs (bits code) 0 l (tree-at code xs z e)) in
      q ∙ ap (take 64) (h ∙ ap (splice o 0) c) ∙ take_at xs (drop (0 + length xs) o) 64 l
