-- The parts of an image, put into a buffer one after another. Assumes nothing.
use mathlib.Core.Path.{◌≡◌, refl, sym, ap, ◌∙◌}
use mathlib.Core.Bool.{Bool, true, false}
use mathlib.Core.List.{List, [], ◌∷◌, ◌++◌, append_assoc}
use Prim.Native.Nat.{ℕ, suc, ◌+◌, ◌-◌, ◌*◌, ◌/◌, ◌%◌, ◌≤◌, ◌<◌}
use native.Mathlib.Omega.{arith}
use lib.ListN.{length, get_or, drop, replicate, length-append, length-replicate}
use lib.Pow.{shr-shr}
use lib.Seq.{get_or-drop, sets}
use borrow.Author.Tests.{lt-ltb}
use Rattle.lists.specs.Lists.{concat, splice, sum, tabulate}
use Rattle.lists.proofs.Parts.{length-splice, sets-splice, splice-more, splice-nil, splice-then}
use Rattle.lists.proofs.Tables.{concat-each, concat-le, concat-suc}
use Rattle.bits.specs.Bits.{bits}
use Rattle.bits.specs.Numbers.{little}
use Rattle.bits.proofs.Laws.{bits-append, length-bits}
use Rattle.bits.proofs.Little.{Bytes, bytes-little, length-little}
use Rattle.bits.proofs.Packing.{bits-fill}
use Rattle.image.specs.Image.{bytes_for, code, edition, first_pages, header, header_in, header_length, image, narrow_total, packed, page_code, pages, size, start}
use Rattle.image.specs.Image.{table, table_at, total_width, wide, zero_bytes}
use Rattle.image_put.specs.Code.Writing.{code_of, head_front, head_length, head_tail, laid, starts, table_and_code}
use Rattle.image.proofs.ReadLaws.{bits-code, length-header, length-image}
use Rattle.image.proofs.Editions.{edition-byte}
use Rattle.image.proofs.Packed.{bits-one, bits-packed, tail}
use Rattle.image_put.proofs.Splices.{bits-splice, bytes-concat, bytes-join, bytes-pack, byte-in, splice-apart}

-- ---- the header
pub front-put : (s s₁ : List ℕ) (d e n : ℕ) → 16 ≤ length s → s₁ ≡ splice (sets s 0 (d ∷ e ∷ 0 ∷ 0 ∷ [])) 4 (little 4 n) → s₁ ≡ splice s 0 (head_front d e n)
front-put s s₁ d e n h q =
    let x : List ℕ = d ∷ e ∷ 0 ∷ 0 ∷ [] in
    splice-then s (sets s 0 x) s₁ x (little 4 n) 0 4 (sets-splice x s 0 (omega arith)) q refl (omega (arith, length-little 4 n))

pub narrow-put : (s s₁ s₂ : List ℕ) (t l : ℕ) → 16 ≤ length s → s₁ ≡ splice s 8 (little 4 t) → s₂ ≡ splice s₁ 12 (little 4 l)
    → s₂ ≡ splice s 8 (head_tail false t l)
unfolding little
narrow-put s s₁ s₂ t l h e₁ e₂ =
    splice-then s s₁ s₂ (little 4 t) (little 4 l) 8 12 e₁ e₂ (omega (arith, length-little 4 t)) (omega (arith, length-little 4 t, length-little 4 l))

-- eight bytes are twice four
little-eight : (t : ℕ) → little 4 t ++ little 4 (t / 4294967296) ≡ little 8 t
unfolding little
little-eight t =
    ap (λ (z : ℕ). t % 256 ∷ t / 256 % 256 ∷ t / 256 / 256 % 256 ∷ t / 256 / 256 / 256 % 256 ∷ little 4 z)
    (sym (shr-shr t 24 8) ∙ ap (λ (z : ℕ). z / 256) (sym (shr-shr t 16 8) ∙ ap (λ (z : ℕ). z / 256) (sym (shr-shr t 8 8))))

pub wide-put : (s s₁ s₂ s₃ : List ℕ) (t l : ℕ) → 24 ≤ length s → s₁ ≡ splice s 8 (little 8 t) → s₂ ≡ splice s₁ 16 (little 4 l)
    → s₃ ≡ splice s₂ 20 (little 4 0) → s₃ ≡ splice s 8 (head_tail true t l)
wide-put s s₁ s₂ s₃ t l h e₁ e₂ e₃ =
    let T : List ℕ = little 8 t in
    let L : List ℕ = little 4 l in
    let Z : List ℕ = little 4 0 in
    let lT = length-little 8 t in
    let lL = length-little 4 l in
    let lZ = length-little 4 0 in
    let l₁ : length s₁ ≡ length s = ap length e₁ ∙ length-splice s 8 T (omega arith) in
    let i : s₃ ≡ splice s₁ 16 (L ++ Z) = splice-then s₁ s₂ s₃ L Z 16 20 e₂ e₃ (omega arith) (omega arith) in
    let lLZ = length-append L Z in
    splice-then s s₁ s₃ T (L ++ Z) 8 16 e₁ i (omega arith) (omega arith)

-- front and tail, of an edition
length-tail : (b : Bool) (t l : ℕ) → 8 + length (head_tail b t l) ≡ header_length b
unfolding little
length-tail false t l = refl
length-tail true t l = refl

joined : (s s₁ s₂ : List ℕ) (b : Bool) (e n t l : ℕ) → header_length b ≤ length s → s₁ ≡ splice s 0 (head_front (edition b) e n) → s₂ ≡ splice s₁ 8 (head_tail b t l)
    → s₂ ≡ splice s 0 (header_in b e n t l)
unfolding header_in
joined s s₁ s₂ b e n t l h p q =
    splice-then s s₁ s₂ (head_front (edition b) e n) (head_tail b t l) 0 8 p q (omega (arith, length-little 4 n))
    (omega (arith, length-little 4 n, length-tail b t l))

-- of the edition of a total
pub header-put : (s s₁ s₂ : List ℕ) (b : Bool) (e n t l : ℕ) → b ≡ wide t → header_length (wide t) ≤ length s
    → s₁ ≡ splice s 0 (head_front (edition b) e n) → s₂ ≡ splice s₁ 8 (head_tail b t l) → s₂ ≡ splice s 0 (header e n t l)
unfolding header
header-put s s₁ s₂ b e n t l w h p q =
    joined s s₁ s₂ b e n t l (omega (arith, h, ap header_length w)) p q ∙ ap (λ (b : Bool). splice s 0 (header_in b e n t l)) w

pub wide_room : (t k : ℕ) → header_length (wide t) ≤ k → narrow_total < t → 24 ≤ k
unfolding wide
wide_room t k h l = omega (arith, ap header_length (lt-ltb narrow_total t l))

-- ---- pages
pub laid_none : (b : List ℕ) (e : ℕ) (xs : List ℕ) → b ≡ laid b e xs 0
unfolding laid tabulate concat bits
laid_none b e xs = sym (splice-nil (splice b (8 * head_length xs) []) (code_of e xs) ∙ splice-nil b (8 * head_length xs))

length-starts : (e : ℕ) (xs : List ℕ) (k : ℕ) → length (bits (starts e xs k)) ≡ 32 * k
length-starts e xs k =
    length-bits (starts e xs k) ∙ ap (λ (z : ℕ). 8 * z) (concat-each k 4 (λ p. little 4 (start e xs p)) (λ j _. length-little 4 (start e xs j)))
    ∙ omega arith

-- page k put into them: its start bit, then its code
pub laid_more : (b c : List ℕ) (e : ℕ) (xs : List ℕ) (k : ℕ) → k < pages e (length xs) → code_of e xs + length (code e xs) ≤ length b
    → c ≡ splice (splice (laid b e xs k) (8 * table_at (wide (sum xs)) k) (bits (little 4 (start e xs k)))) (code_of e xs + start e xs k) (page_code e xs k)
    → c ≡ laid b e xs (suc k)
unfolding laid start code
laid_more b c e xs k l h ec =
    let C : ℕ = code_of e xs in
    let T : List ℕ = bits (starts e xs k) in
    let Y : List ℕ = bits (little 4 (start e xs k)) in
    let F : List ℕ = first_pages e xs k in
    let G : List ℕ = page_code e xs k in
    let lT : length T ≡ 32 * k = length-starts e xs k in
    let lY : length Y ≡ 32 = length-bits (little 4 (start e xs k)) ∙ ap (λ (z : ℕ). 8 * z) (length-little 4 (start e xs k)) in
    let lG : length F + length G ≤ length (code e xs) = concat-le (pages e (length xs)) (page_code e xs) k l in
    let t : splice (splice b (8 * head_length xs) T) (8 * table_at (wide (sum xs)) k) Y ≡ splice b (8 * head_length xs) (bits (starts e xs (suc k))) =
    ap (λ (z : ℕ). splice (splice b (8 * head_length xs) T) z Y) {x = 8 * table_at (wide (sum xs)) k} {y = (8 * head_length xs) + length T} (omega arith) ∙ splice-more b (8 * head_length xs) T Y (omega arith)
    ∙ ap (splice b (8 * head_length xs)) (sym (bits-append (starts e xs k) (little 4 (start e xs k))) ∙ ap bits (sym (concat-suc k (λ p. little 4 (start e xs p))))) in
    let B : List ℕ = splice b (8 * head_length xs) (bits (starts e xs (suc k))) in
    let lB : length B ≡ length b = length-splice b (8 * head_length xs) (bits (starts e xs (suc k))) (omega (arith, length-starts e xs (suc k))) in
    let l₀ : length (splice b (8 * head_length xs) T) ≡ length b = length-splice b (8 * head_length xs) T (omega arith) in
    ec
    ∙ ap (λ (z : List ℕ). splice z (C + length F) G)
    (sym (splice-apart (splice b (8 * head_length xs) T) Y F (8 * table_at (wide (sum xs)) k) (32 * (pages e (length xs) - suc k)) C (omega arith) (omega arith))
    ∙ ap (λ (z : List ℕ). splice z C F) t)
    ∙ splice-more B C F G (omega arith) ∙ ap (splice B C) (sym (concat-suc k (page_code e xs)))

length-table-bits : (e : ℕ) (xs : List ℕ) → length (bits (table e xs)) ≡ 32 * pages e (length xs)
unfolding table
length-table-bits e xs = length-starts e xs (pages e (length xs))

-- all pages
pub laid-all : (b : List ℕ) (e : ℕ) (xs : List ℕ) (k : ℕ) → k ≡ pages e (length xs) → code_of e xs + length (code e xs) ≤ length b
    → laid b e xs k ≡ splice b (8 * head_length xs) (table_and_code e xs)
unfolding laid code table
laid-all b e xs k ek h =
    let T : List ℕ = bits (table e xs) in
    let lT : length T ≡ 32 * pages e (length xs) = length-table-bits e xs in
    ap (laid b e xs) ek ∙ ap (λ (z : ℕ). splice (splice b (8 * head_length xs) T) z (code e xs)) {x = code_of e xs} {y = (8 * head_length xs) + length T} (omega arith)
    ∙ splice-more b (8 * head_length xs) T (code e xs) (omega arith)

-- ---- the whole image
length-header-bits : (e n t l : ℕ) → length (bits (header e n t l)) ≡ 8 * header_length (wide t)
length-header-bits e n t l = length-bits (header e n t l) ∙ ap (λ (z : ℕ). 8 * z) (length-header e n t l)

bytes-header : (e n t l : ℕ) → e ≤ 8 → Bytes (header e n t l)
unfolding header header_in
bytes-header e n t l h =
    let b : Bool = wide t in
    let f = bytes-join (little 4 n) _ (bytes-little 4 n)
    (bytes-join (little (total_width b) t) _ (bytes-little (total_width b) t)
    (bytes-join (little 4 l) (little (zero_bytes b) 0) (bytes-little 4 l) (bytes-little (zero_bytes b) 0))) in
    (edition-byte b, (omega arith, (omega arith, (omega arith, f))))

bytes-table : (e : ℕ) (xs : List ℕ) → Bytes (table e xs)
unfolding table
bytes-table e xs = bytes-concat (pages e (length xs)) (λ p. little 4 (start e xs p)) (λ j. bytes-little 4 (start e xs j))

bytes-image : (e : ℕ) (xs : List ℕ) → e ≤ 8 → Bytes (image e xs)
unfolding image packed
bytes-image e xs l =
    let C : List ℕ = code e xs in
    let H : List ℕ = header e (length xs) (sum xs) (length C) in
    bytes-join H (table e xs ++ packed C) (bytes-header e (length xs) (sum xs) (length C) l)
    (bytes-join (table e xs) (packed C) (bytes-table e xs)
    (bytes-pack (bytes_for (length C)) _ (bits-fill (8 * bytes_for (length C)) C (bits-code e xs))))

-- bytes with others at their start
pub splice_front : (s m : List ℕ) → splice s 0 m ≡ m ++ drop (length m) s
unfolding splice
splice_front s m = ap (λ (z : ℕ). m ++ drop z s) {x = 0 + length m} {y = length m} (omega arith)

byte-front : (s m : List ℕ) → Bytes m → ((i : ℕ) → get_or s i 0 < 256) → (i : ℕ) → get_or (splice s 0 m) i 0 < 256
byte-front s m h k i = rw (splice_front s m) (byte-in m (drop (length m) s) h (λ j. rw (get_or-drop (length m) s j 0) (k (length m + j))) i)

-- header, table and code, and zeros behind the code to the end of its last byte
pub image-put : (e : ℕ) (xs o o₁ o₂ o₃ : List ℕ) (z : ℕ) → e ≤ 8 → length (image e xs) ≤ length o → ((i : ℕ) → get_or o i 0 < 256)
    → ((i : ℕ) → get_or o₃ i 0 < 256) → o₁ ≡ splice o 0 (header e (length xs) (sum xs) (length (code e xs)))
    → bits o₂ ≡ splice (bits o₁) (8 * head_length xs) (table_and_code e xs) → z ≡ 8 * bytes_for (length (code e xs)) - length (code e xs)
    → bits o₃ ≡ splice (bits o₂) (code_of e xs + length (code e xs)) (replicate z 0) → o₃ ≡ splice o 0 (image e xs)
unfolding image tail bytes_for size
image-put e xs o o₁ o₂ o₃ z l room ho h₃ e₁ e₂ ez e₃ =
    let C : List ℕ = code e xs in
    let T : List ℕ = bits (table e xs) in
    let Z : List ℕ = replicate z 0 in
    let H : List ℕ = bits (header e (length xs) (sum xs) (length C)) in
    let I : List ℕ = image e xs in
    let lH : length H ≡ (8 * head_length xs) = length-header-bits e (length xs) (sum xs) (length C) in
    let lT : length T ≡ 32 * pages e (length xs) = length-table-bits e xs in
    let lZ : length Z ≡ z = length-replicate {A = ℕ} z 0 in
    let lTC = length-append T C in
    let lTCZ = length-append (T ++ C) Z in
    let lI : length I ≡ size (wide (sum xs)) e (length xs) (length C) = length-image e xs in
    let lo : length (bits o) ≡ 8 * length o = length-bits o in
    let i₁ : bits o₁ ≡ splice (bits o) 0 H = ap bits e₁ ∙ bits-splice o 0 (header e (length xs) (sum xs) (length C)) in
    let l₁ : length (bits o₁) ≡ length (bits o) = ap length i₁ ∙ length-splice (bits o) 0 H (omega arith) in
    let i₂ : bits o₃ ≡ splice (bits o₁) (8 * head_length xs) ((T ++ C) ++ Z) =
    splice-then (bits o₁) (bits o₂) (bits o₃) (T ++ C) Z (8 * head_length xs) (code_of e xs + length C) e₂ e₃ (omega arith) (omega arith) in
    let i₃ : bits o₃ ≡ splice (bits o) 0 (H ++ ((T ++ C) ++ Z)) =
    splice-then (bits o) (bits o₁) (bits o₃) H ((T ++ C) ++ Z) 0 (8 * head_length xs) i₁ i₂ (omega arith) (omega arith) in
    let j : H ++ ((T ++ C) ++ Z) ≡ bits I =
    ap (λ (w : List ℕ). H ++ w) (append_assoc T C Z ∙ ap (λ (k : ℕ). T ++ (C ++ replicate k 0)) ez
    ∙ ap (λ (w : List ℕ). T ++ w) (sym (bits-packed C (bits-code e xs))) ∙ sym (bits-append (table e xs) (packed C)))
    ∙ sym (bits-append (header e (length xs) (sum xs) (length C)) (table e xs ++ packed C)) in
    bits-one o₃ (splice o 0 I) h₃ (byte-front o I (bytes-image e xs l) ho) (i₃ ∙ ap (splice (bits o) 0) j ∙ sym (bits-splice o 0 I))
