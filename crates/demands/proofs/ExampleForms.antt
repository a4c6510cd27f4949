-- What an example says. A line is a call and the word that C gets; it holds of every word that an export which is called so may answer. The
-- laws take a line from what the checker computes, so that the examples' own proofs are `refl`. Assumes nothing.
use mathlib.Core.Bool.{Bool, true, false, true≢false}
use mathlib.Core.List.{List, [], ◌∷◌, ◌++◌}
use mathlib.Core.Path.{◌≡◌, refl, sym, ap, ◌∙◌}
use Prim.Native.Char.{code}
use Prim.Native.String.{String}
use Prim.Native.String.{[] as empty, ◌∷◌ as ◌then◌}
use Prim.Native.Nat.{ℕ, ◌+◌, ◌-◌, ◌*◌, ◌^◌}
use lib.Dec.{leb, eqb}
use lib.ListN.{length, drop, get_or}
use Rattle.lists.specs.Lists.{every, pick}
use Rattle.answers.specs.Store.{Answer, answered, refused as turned}
use Rattle.store.specs.Call.{Result, after, call, fresh_call}
use Rattle.store.specs.Fitting.{fits}
use Rattle.store.specs.Layout.{Model, bytes_of, size}
use Rattle.store.specs.Limits.{limit_tests}
use Rattle.store.specs.Plain.{Call, Plain, plain_answers, plain_fresh, step}
use Rattle.store.specs.Reading.{read}
use Rattle.store.specs.Sound.{fine, sound}
use Rattle.store.proofs.CallLaws.{sound-call}
use Rattle.store.proofs.LimitLaws.{limits-hold}
use Rattle.store.proofs.SoundLaws.{fine-good}
use Rattle.store.proofs.Whole.{call-good}
use Rattle.image.specs.Calls.{length_call, write_call}
use Rattle.image.specs.Check.{check}
use Rattle.image.specs.Query.{count, reading}
use Rattle.repair.specs.Repair.{repair_call}
use Rattle.freeze.specs.Freeze.{freeze_call}
use Rattle.image_merge.specs.Merge.{merge_call}
use Rattle.book_in.specs.FromBook.{from_call}
use Rattle.book_out.specs.ToBook.{to_call}
use Rattle.words.specs.End.{End, end_of_check, end_of_image, end_of_store}
use Rattle.words.specs.Words.{word_of}
use Rattle.hourlog_c.specs.Export.{Answers}
use Rattle.hourlog_c.specs.Public.{Fresh, Freeze, ImageBusiest, ImageCheck, ImageCount, ImageFromBcd, ImageLength, ImageMatch, ImageReach}
use Rattle.hourlog_c.specs.Public.{ImageMerge, ImageReading, ImageToBcd, ImageWrite, Live, PublicCall, Repair, beside, lent}
use Rattle.demands.specs.Demand3.{Run, words_of}
use Rattle.demands.proofs.Demand3.{demand-3}

-- ---- bytes and bits as documents print them
-- the digit of a character, 0 to 9 and A to F
abbrev digit : ℕ → ℕ
digit c = pick (leb c 57) (c - 48) (c - 55)

-- bytes in hexadecimal, a space between two of them
unfoldable pub hex : String → List ℕ
unfolding pick
hex empty = []
hex (a then empty) = []
hex (a then (b then empty)) = (16 * digit (code a) + digit (code b)) ∷ []
hex (a then (b then (c then s))) = (16 * digit (code a) + digit (code b)) ∷ hex s

-- bits, with spaces where one likes
unfoldable pub binary : String → List ℕ
unfolding pick
binary empty = []
binary (a then s) = pick (eqb (code a) 32) (binary s) ((code a - 48) ∷ binary s)

-- ---- the words of C. A refusal is minus its number, in 64 bits
abbrev pub refused : ℕ → ℕ
refused k = 2 ^ 64 - k

-- append, set, insert and strike: the cells taken, and those given back, 2^16 times
abbrev pub taken : ℕ → ℕ
taken n = n

abbrev pub returned : ℕ → ℕ
returned n = n * 2 ^ 16

-- check: N, 2^40 times, and S
abbrev pub holding : (hours total : ℕ) → ℕ
holding n s = s + n * 2 ^ 40

-- busiest: a run's first hour, 2^40 times, and its sum
abbrev pub stretch : (first total : ℕ) → ℕ
stretch f s = s + f * 2 ^ 40

-- match: a run's first hour, and its hours, 2^32 times; 0 for none
abbrev pub hours : (first hours : ℕ) → ℕ
hours f n = f + n * 2 ^ 32

abbrev pub none : ℕ
none = 0

-- ---- a line: what is asked, and the word
pub record Line (A : Type 0) : Type 0 where
  pub asked : A
  pub word : ℕ

infix 68 ◌gives◌
abbrev pub ◌gives◌ : {A : Type 0} → A → ℕ → Line A
c gives w = record { asked = c; word = w }

abbrev pub calls : {A : Type 0} → List (Line A) → List A
calls [] = []
calls (l ∷ ls) = l.asked ∷ calls ls

abbrev pub words : {A : Type 0} → List (Line A) → List ℕ
words [] = []
words (l ∷ ls) = l.word ∷ words ls

-- two lists of words that are the same, taken apart
pub same_first : {x y : ℕ} {xs ys : List ℕ} → x ∷ xs ≡ y ∷ ys → x ≡ y
same_first e = ap (λ (l : List ℕ). get_or l 0 0) e

pub same_rest : {x y : ℕ} {xs ys : List ℕ} → x ∷ xs ≡ y ∷ ys → xs ≡ ys
same_rest e = ap (drop 1) e

-- ---- a session: on a store that hourlog_fresh made of P pages and C cells in any buffer, any run of the exports, called line by line, each on
-- the bytes that the one before left, gives these words
pub record Session (P C : ℕ) (ls : List (Line Call)) : Type 0 where
  pub runs : (b s ws t : List ℕ) (w : ℕ) → length b ≡ 16 + 6 * P + 32 * C → Answers (Fresh b P C) w (s ∷ []) → Run (calls ls) s ws t
      → (w ≡ 0) × (ws ≡ words ls)

-- which is what the plain list answers
pub session : {P C : ℕ} {ls : List (Line Call)} → every (limit_tests P C) ≡ true → words_of (plain_answers (calls ls) (plain_fresh P C)) ≡ words ls
    → Session P C ls
session {P} {C} {ls} m e = record {
  runs = λ b s ws t w l f r.
      let E = demand-3.exports b P C (record { limits = limits-hold P C m; long = l }) w s f (calls ls) ws t r in
      (E.ok, E.words ∙ e);
}

-- ---- fresh, in any buffer of so many bytes
pub record Buffer : Type 0 where
  pub pages : ℕ
  pub cells : ℕ
  pub bytes : ℕ

abbrev pub of : (pages cells bytes : ℕ) → Buffer
of P C n = record { pages = P; cells = C; bytes = n }

abbrev Start : Buffer → ℕ → Type 0
Start u v = (b : List ℕ) → length b ≡ u.bytes → (w : ℕ) (t : List (List ℕ)) → Answers (Fresh b u.pages u.cells) w t → w ≡ v

abbrev Starts : List (Line Buffer) → Type 0
Starts [] = Unit {0}
Starts (l ∷ ls) = Start l.asked l.word × Starts ls

pub record Starting (ls : List (Line Buffer)) : Type 0 where
  pub lines : Starts ls

-- it looks at the buffer's length alone
abbrev tests : ℕ → ℕ → ℕ → List Bool
tests P C n = limit_tests P C ++ eqb n (size P C) ∷ []

unfoldable pub fresh_word : Buffer → ℕ
fresh_word b = word_of (end_of_store (pick (every (tests b.pages b.cells b.bytes)) (answered 0) (turned 9)))

picked : (x : Bool) (r t : Result) → (pick x r t).answer ≡ pick x r.answer t.answer
unfolding pick
picked true r t = refl
picked false r t = refl

by_length : (b : List ℕ) (P C n : ℕ) → length b ≡ n → word_of (end_of_store (fresh_call b P C).answer) ≡ fresh_word (of P C n)
unfolding fresh_word fresh_call fits
by_length b P C n l =
    ap (λ (z : Answer). word_of (end_of_store z)) (picked (every (tests P C (length b))) _ _)
    ∙ ap (λ (k : ℕ). word_of (end_of_store (pick (every (tests P C k)) (answered 0) (turned 9)))) l

unfoldable pub fresh_words : List Buffer → List ℕ
fresh_words [] = []
fresh_words (b ∷ bs) = fresh_word b ∷ fresh_words bs

starts : (ls : List (Line Buffer)) → fresh_words (calls ls) ≡ words ls → Starts ls
unfolding fresh_words
starts [] e = tt
starts (l ∷ ls) e = (
  λ b h w t a. a.word ∙ ap word_of a.ends.0 ∙ by_length b l.asked.pages l.asked.cells l.asked.bytes h ∙ same_first e,
  starts ls (same_rest e),
)

pub started : {ls : List (Line Buffer)} → fresh_words (calls ls) ≡ words ls → Starting ls
started {ls} e = record { lines = starts ls e }

-- ---- single calls, each on any sound store that holds the list L
abbrev Hold : Plain → Call → ℕ → Type 0
Hold L c v = (s : List ℕ) → sound s ≡ true → (read s).plain ≡ L → (w : ℕ) (t : List (List ℕ)) → Answers (Live c s) w t → w ≡ v

abbrev Holds : Plain → List (Line Call) → Type 0
Holds L [] = Unit {0}
Holds L (l ∷ ls) = Hold L l.asked l.word × Holds L ls

pub record Holding (L : Plain) (ls : List (Line Call)) : Type 0 where
  pub lines : Holds L ls

unfoldable pub plain_words : Plain → List Call → List ℕ
plain_words L [] = []
plain_words L (c ∷ cs) = word_of (end_of_store (step c L).answer) ∷ plain_words L cs

holds : (L : Plain) (ls : List (Line Call)) → plain_words L (calls ls) ≡ words ls → Holds L ls
unfolding plain_words
holds L [] e = tt
holds L (l ∷ ls) e = (
  λ s h r w t a.
      a.word
      ∙ ap word_of a.ends.0
      ∙ ap (λ (z : Answer). word_of (end_of_store z)) (sym (sound-call l.asked s h).answer ∙ ap (λ (M : Plain). (step l.asked M).answer) r)
      ∙ same_first e,
  holds L ls (same_rest e),
)

pub held : {L : Plain} {ls : List (Line Call)} → plain_words L (calls ls) ≡ words ls → Holding L ls
held {L} {ls} e = record { lines = holds L ls e }

-- ---- a public call with all that it is lent: it gives this word, and leaves this of what it was lent
pub record Leaves (c : PublicCall) (w : ℕ) (t : List (List ℕ)) : Type 0 where
  pub only : (v : ℕ) (u : List (List ℕ)) → Answers c v u → (v ≡ w) × (u ≡ t)

-- questions, and calls that are refused: each gives its word and leaves what it was lent as it was
abbrev Asks : List (Line PublicCall) → Type 0
Asks [] = Unit {0}
Asks (l ∷ ls) = Leaves l.asked l.word (lent l.asked) × Asks ls

pub record Asking (ls : List (Line PublicCall)) : Type 0 where
  pub lines : Asks ls

-- what a call gives and leaves, where a function defines that: all but reach, busiest and match
pub record Ended : Type 0 where
  pub computed : Bool
  pub word : ℕ
  pub slices : List (List ℕ)

abbrev by : End → List (List ℕ) → Ended
by a t = record { computed = true; word = word_of a; slices = t }

abbrev unknown : Ended
unknown = record { computed = false; word = 0; slices = [] }

unfoldable pub ended : PublicCall → Ended
ended (Fresh s P C) = by (end_of_store (fresh_call s P C).answer) ((fresh_call s P C).bytes ∷ [])
ended (Live c s) = by (end_of_store (call c s).answer) ((call c s).bytes ∷ beside c)
ended (Repair s b) = by (end_of_store (repair_call s b).answer) ((repair_call s b).bytes ∷ (repair_call s b).list ∷ [])
ended (Freeze s e i) = by (end_of_image (freeze_call e s i).reply) (s ∷ (freeze_call e s i).bytes ∷ [])
ended (ImageLength xs e) = by (end_of_image (length_call e xs)) (xs ∷ [])
ended (ImageWrite xs e i) = by (end_of_image (write_call e xs i).reply) (xs ∷ (write_call e xs i).bytes ∷ [])
ended (ImageCheck i) = by (end_of_check (check i)) (i ∷ [])
ended (ImageCount i k) = by (end_of_image (count i k)) (i ∷ [])
ended (ImageReading i k) = by (end_of_image (reading i k)) (i ∷ [])
ended (ImageReach i p) = unknown
ended (ImageBusiest i k) = unknown
ended (ImageFromBcd b e i) = by (end_of_image (from_call e b i).reply) (b ∷ (from_call e b i).bytes ∷ [])
ended (ImageToBcd i b) = by (end_of_image (to_call i b).reply) (i ∷ (to_call i b).bytes ∷ [])
ended (ImageMatch i q) = unknown
ended (ImageMerge f s e i) = by (end_of_image (merge_call e f s i).reply) (f ∷ s ∷ (merge_call e f s i).bytes ∷ [])

-- what a line says of it
abbrev pub expected : ℕ → List (List ℕ) → Ended
expected w t = record { computed = true; word = w; slices = t }

-- whatever word an export answers is this one, and what it was lent is afterwards this
ends_so : (c : PublicCall) → (ended c).computed ≡ true → (v : ℕ) (u : List (List ℕ)) → Answers c v u → (v ≡ (ended c).word) × (u ≡ (ended c).slices)
unfolding ended
ends_so (Fresh s P C) h v u a = (a.word ∙ ap word_of a.ends.0, a.ends.1)
ends_so (Live c s) h v u a = (a.word ∙ ap word_of a.ends.0, a.ends.1)
ends_so (Repair s b) h v u a = (a.word ∙ ap word_of a.ends.0, a.ends.1)
ends_so (Freeze s e i) h v u a = (a.word ∙ ap word_of a.ends.0, a.ends.1)
ends_so (ImageLength xs e) h v u a = (a.word ∙ ap word_of a.ends.0, a.ends.1)
ends_so (ImageWrite xs e i) h v u a = (a.word ∙ ap word_of a.ends.0, a.ends.1)
ends_so (ImageCheck i) h v u a = (a.word ∙ ap word_of a.ends.0, a.ends.1)
ends_so (ImageCount i k) h v u a = (a.word ∙ ap word_of a.ends.0, a.ends.1)
ends_so (ImageReading i k) h v u a = (a.word ∙ ap word_of a.ends.0, a.ends.1)
ends_so (ImageReach i p) h v u a = absurd (true≢false (sym h))
ends_so (ImageBusiest i k) h v u a = absurd (true≢false (sym h))
ends_so (ImageFromBcd b e i) h v u a = (a.word ∙ ap word_of a.ends.0, a.ends.1)
ends_so (ImageToBcd i b) h v u a = (a.word ∙ ap word_of a.ends.0, a.ends.1)
ends_so (ImageMatch i q) h v u a = absurd (true≢false (sym h))
ends_so (ImageMerge f s e i) h v u a = (a.word ∙ ap word_of a.ends.0, a.ends.1)

pub leaves : {c : PublicCall} {w : ℕ} {t : List (List ℕ)} → ended c ≡ expected w t → Leaves c w t
leaves {c} {w} {t} e = record {
  only = λ v u a.
      let d = ends_so c (ap (λ (z : Ended). z.computed) e) v u a in
      (d.0 ∙ ap (λ (z : Ended). z.word) e, d.1 ∙ ap (λ (z : Ended). z.slices) e);
}

-- a table of questions and refused calls
unfoldable pub endings : List PublicCall → List Ended
endings [] = []
endings (c ∷ cs) = ended c ∷ endings cs

abbrev pub said : List (Line PublicCall) → List Ended
said [] = []
said (l ∷ ls) = expected l.word (lent l.asked) ∷ said ls

asks : (ls : List (Line PublicCall)) → endings (calls ls) ≡ said ls → Asks ls
unfolding endings
asks [] e = tt
asks (l ∷ ls) e = (leaves (ap (λ (z : List Ended). get_or z 0 unknown) e), asks ls (ap (drop 1) e))

pub asking : {ls : List (Line PublicCall)} → endings (calls ls) ≡ said ls → Asking ls
asking {ls} e = record { lines = asks ls e }

-- ---- a store as its list and its chains: after the call the list and the chains are these, and so are the bytes
pub record Settles (c : Call) (m : Model) (w : ℕ) (n : Model) : Type 0 where
  pub leaves : Leaves (Live c (bytes_of m)) w (bytes_of n ∷ beside c)

pub settles : {c : Call} {m n : Model} {w : ℕ} → fine m ≡ true → word_of (end_of_store (step c m.plain).answer) ≡ w → after c m ≡ n → Settles c m w n
settles {c} {m} {n} {w} g e f =
    let k = call-good c m (fine-good m g) in
    record {
      leaves = record {
        only = λ v u a. (
          a.word ∙ ap word_of a.ends.0 ∙ ap (λ (z : Result). word_of (end_of_store z.answer)) k ∙ e,
          a.ends.1 ∙ ap (λ (z : Result). z.bytes ∷ beside c) k ∙ ap (λ (z : Model). bytes_of z ∷ beside c) f,
        );
      };
    }
