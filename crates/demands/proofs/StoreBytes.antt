-- The bytes of a store are bytes, each below 256, and so are those that a call leaves. Assumes nothing.
use mathlib.Core.Bool.{Bool, true, false}
use mathlib.Core.List.{List, [], ◌∷◌, ◌++◌}
use mathlib.Core.Path.{◌≡◌, sym, subst}
use Prim.Native.Nat.{ℕ, zero, suc, ◌*◌, ◌<◌}
use native.Mathlib.Omega.{arith}
use lib.ListN.{length, get_or, take, drop, replicate}
use lib.Dec.{eqb}
use Rattle.lists.specs.Lists.{concat, fill, first, pick, sum, tabulate}
use Rattle.bits.specs.Numbers.{little}
use Rattle.bits.proofs.Little.{Bytes, bytes-little, bytes_take}
use Rattle.bits.proofs.Packing.{bits-fill}
use Rattle.tree.specs.Tree.{tree}
use Rattle.tree.proofs.Shape.{bits-tree}
use Rattle.image_put.proofs.Splices.{bytes-concat, bytes-join, bytes-pack}
use Rattle.answers.specs.Store.{refused}
use Rattle.store.specs.Call.{Result, after, call}
use Rattle.store.specs.Layout.{Laid, Model, bytes_of, entry, header, laid_at, lay, lay_all, lay_pages}
use Rattle.store.specs.PageCode.{cells, page_bytes}
use Rattle.store.specs.Plain.{Call, page, step}
use Rattle.store.specs.Reading.{read}
use Rattle.store.specs.Sound.{sound}
use Rattle.store.proofs.Laying.{All, all_append}
use Rattle.store.proofs.SoundFacts.{facts}

-- ---- lists of bytes
bytes_drop : (n : ℕ) (s : List ℕ) → Bytes s → Bytes (drop n s)
bytes_drop zero s h = h
bytes_drop (suc n) [] h = tt
bytes_drop (suc n) (x ∷ s) h = bytes_drop n s h.1

bytes-zeros : (n : ℕ) → Bytes (replicate n 0)
bytes-zeros zero = tt
bytes-zeros (suc n) = (omega arith, bytes-zeros n)

bytes-pick : (b : Bool) (xs ys : List ℕ) → Bytes xs → Bytes ys → Bytes (pick b xs ys)
unfolding pick
bytes-pick true xs ys h k = h
bytes-pick false xs ys h k = k

-- as a slice says it: whatever the place
byte_at : (s : List ℕ) → Bytes s → (i : ℕ) → get_or s i 0 < 256
byte_at [] h i = omega arith
byte_at (x ∷ s) h zero = h.0
byte_at (x ∷ s) h (suc i) = byte_at s h.1 i

-- ---- a store's parts
header-bytes : (m : Model) → Bytes (header m)
unfolding header concat little
header-bytes m = omega arith

entry-bytes : (m : Model) (p : ℕ) → Bytes (entry m p)
unfolding entry
entry-bytes m p =
    let s : ℕ = sum (page m.plain.counts p) in
    let c : ℕ = first (get_or m.chains p []) in
    bytes-join (little 4 s) (little 2 c) (bytes-little 4 s) (bytes-little 2 c)

page-bytes : (xs : List ℕ) → Bytes (page_bytes xs)
unfolding page_bytes
page-bytes xs =
    let k : ℕ = cells (sum xs) in
    bytes-pack (30 * k) (fill (240 * k) (tree 6 xs)) (bits-fill (240 * k) (tree 6 xs) (bits-tree 6 xs))

abbrev of_bytes : Laid → Type 0
of_bytes l = Bytes l.bytes

lay-bytes : (cs code : List ℕ) → Bytes code → All of_bytes (lay cs code)
unfolding lay
lay-bytes [] code h = tt
lay-bytes (c ∷ cs) code h = (
  bytes-join (little 2 (first cs)) (take 30 code) (bytes-little 2 (first cs)) (bytes_take 30 code h),
  lay-bytes cs (drop 30 code) (bytes_drop 30 code h),
)

pages-bytes : (xs : List ℕ) (p : ℕ) (css : List (List ℕ)) → All of_bytes (lay_pages xs p css)
unfolding lay_pages
pages-bytes xs p [] = tt
pages-bytes xs p (cs ∷ css) =
    all_append of_bytes (lay cs (page_bytes (page xs p))) (lay_pages xs (suc p) css) (lay-bytes cs (page_bytes (page xs p)) (page-bytes (page xs p)))
    (pages-bytes xs (suc p) css)

all-bytes : (m : Model) → All of_bytes (lay_all m)
unfolding lay_all
all-bytes m =
    let zs : List ℕ = replicate (30 * length m.spare) 0 in
    all_append of_bytes (lay_pages m.plain.counts 0 m.chains) (lay m.spare zs) (pages-bytes m.plain.counts 0 m.chains)
    (lay-bytes m.spare zs (bytes-zeros (30 * length m.spare)))

laid-bytes : (c : ℕ) (ls : List Laid) → All of_bytes ls → Bytes (laid_at c ls)
unfolding laid_at
laid-bytes c [] h = tt
laid-bytes c (l ∷ ls) h = bytes-pick (eqb c l.cell) l.bytes (laid_at c ls) h.0 (laid-bytes c ls h.1)

model-bytes : (m : Model) → Bytes (bytes_of m)
unfolding bytes_of
model-bytes m =
    let E : List ℕ = concat (tabulate m.plain.pages (entry m)) in
    let K : ℕ → List ℕ = λ j. laid_at (suc j) (lay_all m) in
    let C : List ℕ = concat (tabulate m.plain.cells K) in
    bytes-join (header m) (E ++ C) (header-bytes m)
    (bytes-join E C (bytes-concat m.plain.pages (entry m) (entry-bytes m))
    (bytes-concat m.plain.cells K (λ j. laid-bytes (suc j) (lay_all m) (all-bytes m))))

-- ---- a sound store, and what a call leaves of any bytes
pub sound-bytes : (s : List ℕ) → sound s ≡ true → (i : ℕ) → get_or s i 0 < 256
sound-bytes s e = byte_at s (subst Bytes (sym (facts s e).same) (model-bytes (read s)))

pub call-bytes : (c : Call) (s : List ℕ) → ((i : ℕ) → get_or s i 0 < 256) → (i : ℕ) → get_or (call c s).bytes i 0 < 256
unfolding call pick
call-bytes c s h = go (sound s)
  where
    told : Result
    told = record { answer = (step c (read s).plain).answer; bytes = bytes_of (after c (read s)) }

    kept : Result
    kept = record { answer = refused 10; bytes = s }

    go : (b : Bool) (i : ℕ) → get_or (pick b told kept).bytes i 0 < 256
    go true i = byte_at (bytes_of (after c (read s))) (model-bytes (after c (read s))) i
    go false i = h i
