-- Document 02, note 3, in its own words, of the word that C gets: the calls between books and images. Each law takes what it says from `demand-1`
-- or `round-trips`; a claim that says less fails here. Assumes nothing.
use mathlib.Core.Bool.{true}
use mathlib.Core.List.{List, [], ◌∷◌}
use mathlib.Core.Logic.{◌⊎◌, ◌↔◌}
use mathlib.Core.Path.{◌≡◌, refl, sym, ◌∙◌}
use Prim.Native.Nat.{ℕ, ◌-◌, ◌*◌, ◌/◌, ◌%◌, ◌^◌, ◌≤◌, ◌<◌}
use native.Mathlib.Omega.{arith}
use lib.ListN.{length, get_or, take}
use Rattle.answers.specs.Image.{given}
use Rattle.image.specs.Check.{accepted}
use Rattle.image.specs.Read.{e_of, list_of, n_of}
use Rattle.book_in.specs.FromBook.{from_call}
use Rattle.book_out.specs.ToBook.{to_call}
use Rattle.book_trips.specs.RoundTrips.{Gave}
use Rattle.book_trips.proofs.Trips.{round-trips}
use Rattle.book_trips.proofs.Given.{from-long, to-long}
use Rattle.hourlog_c.specs.Public.{ImageFromBcd, ImageToBcd}
use Rattle.hourlog_c.specs.Export.{Answers}
use Rattle.demands.specs.Reasons.{TooWide, reasons}
use Rattle.demands.specs.Demand1.{Given, row}
use Rattle.demands.proofs.Demand1.{demand-1}
use Rattle.demands.proofs.ReasonTests.{accepted-passes, past-6}
use Rattle.demands.proofs.Sentences1.{a-page-size, image-number, minus-at, number}
use Rattle.demands.proofs.Slices.{same_second}
use Rattle.demands.proofs.Winning.{stands, without}

-- ---- 'It refuses with 14, after 1 and before 2, a book of odd length or with a digit above 9', and then alone
pub refused-14 : (b : List ℕ) (e : ℕ) (out : List ℕ) (w : ℕ) (t : List (List ℕ)) → Answers (ImageFromBcd b e out) w t
    → (w ≡ 2 ^ 64 - 14)
    ↔ ((2 ≤ e) × (e ≤ 8) × ((length b % 2 ≡ 1) ⊎ ((i : ℕ) × (i < length b) × ((9 < get_or b i 0 / 16) ⊎ (9 < get_or b i 0 % 16)))))
unfolding reasons without stands
refused-14 b e out w t a =
    let m = minus-at (ImageFromBcd b e out) w t 14 1 (omega arith) (omega arith) (λ x. omega (arith, x.3)) refl a in (
      λ q. let x = m.0 q in let s = (a-page-size e).0 x.0 in (s.0, s.1, x.1),
      λ x. m.1 ((a-page-size e).1 (x.0, x.1), x.2),
    )

-- ---- 'with 15, after 5 and 6 .., an image with a count above 9999', and then alone
module _ (s out : List ℕ) (w : ℕ) (t : List (List ℕ)) (a : Answers (ImageToBcd s out) w t) where
  pub refused-15 : (w ≡ 2 ^ 64 - 15) ↔ ((accepted s ≡ true) × ((i : ℕ) × (i < n_of s) × (9999 < get_or (list_of s) i 0)))
  unfolding reasons without stands
  refused-15 =
      let m = minus-at (ImageToBcd s out) w t 15 2 (omega arith) (omega arith) (λ x. omega (arith, x.3)) refl a in (
        λ q. let x = (m.0 q).1 in (past-6 s x.0, x.1),
        λ x. let p = accepted-passes s x.0 in m.1 (p.0, (p.1, x.1)),
      )

  -- '4, which comes last here', 'also covers a buffer shorter than the book': two bytes an hour
  pub refused-4 : (w ≡ 2 ^ 64 - 4) ↔ ((accepted s ≡ true) × (TooWide s → ⊥) × (length out < 2 * n_of s))
  unfolding reasons without stands
  refused-4 =
      let m = minus-at (ImageToBcd s out) w t 4 3 (omega arith) (omega arith) (λ x. omega (arith, x.3)) refl a in (
        λ q. let x = (m.0 q).1 in (past-6 s x.0, x.1.0, x.1.1),
        λ x. let p = accepted-passes s x.0 in m.1 (p.0, (p.1, (x.1, x.2))),
      )

-- ---- 'Both calls return how many bytes they wrote'. The word w is no refusal; o is the buffer afterwards
pub from-word : (e w : ℕ) (b out o : List ℕ) → w < 2 ^ 63 → Answers (ImageFromBcd b e out) w (b ∷ o ∷ []) → Gave (from_call e b out) (take w o)
unfolding row
from-word e w b out o l a =
    let t : List (List ℕ) = b ∷ o ∷ [] in
    let G : Given (ImageFromBcd b e out) w t = demand-1.above (ImageFromBcd b e out) w t a l in
    from-long e b out o w (image-number (from_call e b out).reply w (sym (number w l t (ImageFromBcd b e out) refl a) ∙ G.ends.0))
    (same_second G.ends.1)

pub to_word : (w : ℕ) (s out o : List ℕ) → w < 2 ^ 63 → Answers (ImageToBcd s out) w (s ∷ o ∷ []) → Gave (to_call s out) (take w o)
unfolding row
to_word w s out o l a =
    let t : List (List ℕ) = s ∷ o ∷ [] in
    let G : Given (ImageToBcd s out) w t = demand-1.above (ImageToBcd s out) w t a l in
    to-long s out o w (image-number (to_call s out).reply w (sym (number w l t (ImageToBcd s out) refl a) ∙ G.ends.0)) (same_second G.ends.1)

-- ---- 'Going over and coming back must give the first bytes again, starting from either side': o and p are the buffers afterwards, w and v
-- the words, neither of them a refusal
pub book-there-and-back : (e w v : ℕ) (b out o out' p : List ℕ) → w < 2 ^ 63 → v < 2 ^ 63 → Answers (ImageFromBcd b e out) w (b ∷ o ∷ [])
    → Answers (ImageToBcd (take w o) out') v (take w o ∷ p ∷ []) → take v p ≡ b
book-there-and-back e w v b out o out' p l m f g =
    round-trips.book-again e b out (take w o) out' (take v p) (from-word e w b out o l f) (to_word v (take w o) out' p m g)

-- 'with the image's own e used on the way back'
pub image-there-and-back : (w v : ℕ) (s out o out' p : List ℕ) → w < 2 ^ 63 → v < 2 ^ 63 → Answers (ImageToBcd s out) w (s ∷ o ∷ [])
    → Answers (ImageFromBcd (take w o) (e_of s) out') v (take w o ∷ p ∷ []) → take v p ≡ s
image-there-and-back w v s out o out' p l m f g =
    round-trips.image-again s out (take w o) out' (take v p) (to_word w s out o l f) (from-word (e_of s) v (take w o) out' p m g)

-- which is the e that a book went over with
pub its-own-e : (e w : ℕ) (b out o : List ℕ) → w < 2 ^ 63 → Answers (ImageFromBcd b e out) w (b ∷ o ∷ []) → e_of (take w o) ≡ e
its-own-e e w b out o l f = round-trips.own-e e b out (take w o) (from-word e w b out o l f)

-- and the way back is refused for its buffer alone
pub book-is-taken-back : (e w : ℕ) (b out o out' : List ℕ) → w < 2 ^ 63 → Answers (ImageFromBcd b e out) w (b ∷ o ∷ []) → length b ≤ length out'
    → (to_call (take w o) out').reply ≡ given (length b)
book-is-taken-back e w b out o out' l f h = (round-trips.book-comes e b out (take w o) out' (from-word e w b out o l f) h).answer

pub image-is-taken-back : (w : ℕ) (s out o out' : List ℕ) → w < 2 ^ 63 → Answers (ImageToBcd s out) w (s ∷ o ∷ []) → length s ≤ length out'
    → (from_call (e_of s) (take w o) out').reply ≡ given (length s)
image-is-taken-back w s out o out' l f h = (round-trips.image-comes s out (take w o) out' (to_word w s out o l f) h).answer
