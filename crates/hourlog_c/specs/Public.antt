-- The public calls of document 01 and of document 02's notes: what each is given, which answers it may end in, and what it leaves of what it
-- was lent. Assumes nothing.
use Rattle.std.specs.Prelude.{List, [], ◌∷◌, ◌↔◌, ◌≡◌, ℕ}
use Rattle.store.specs.Plain.{Append, Call, Count, Day, Free, Insert, Reach as ReachOf, Reading, Set, Strike}
use Rattle.store.specs.Call.{call, fresh_call}
use Rattle.store.specs.Items.{Items}
use Rattle.answers.specs.Refusals.{store_not_sound}
use Rattle.answers.specs.Image.{Reply}
use Rattle.image.specs.Check.{check}
use Rattle.image.specs.Calls.{length_call, write_call}
use Rattle.image.specs.Query.{count, reading}
use Rattle.image.specs.Reach.{Reach}
use Rattle.image_busiest.specs.Busiest.{BusiestCall}
use Rattle.image_match.specs.Match.{MatchCall}
use Rattle.repair.specs.Repair.{repair_call}
use Rattle.freeze.specs.Freeze.{freeze_call}
use Rattle.answers.specs.Stretch.{Stretch}
use Rattle.book_in.specs.FromBook.{from_call}
use Rattle.book_out.specs.ToBook.{to_call}
use Rattle.image_merge.specs.Merge.{merge_call}
use Rattle.answers.specs.Bag.{Bag}
use Rattle.words.specs.End.{End, end_of_bag, end_of_check, end_of_image, end_of_store, end_of_stretch, refusal}

-- a public call with its numbers and with the slices that it is lent; the live calls are nine
pub data PublicCall : Type 0 where
  Fresh : (store : List ℕ) (pages cells : ℕ) → PublicCall
  Live : (call : Call) (store : List ℕ) → PublicCall
  Repair : (store list : List ℕ) → PublicCall
  Freeze : (store : List ℕ) (e : ℕ) (image : List ℕ) → PublicCall
  ImageLength : (counts : List ℕ) (e : ℕ) → PublicCall
  ImageWrite : (counts : List ℕ) (e : ℕ) (image : List ℕ) → PublicCall
  ImageCheck : (image : List ℕ) → PublicCall
  ImageCount : (image : List ℕ) (hour : ℕ) → PublicCall
  ImageReading : (image : List ℕ) (hour : ℕ) → PublicCall
  ImageReach : (image : List ℕ) (figure : ℕ) → PublicCall
  ImageBusiest : (image : List ℕ) (hours : ℕ) → PublicCall
  ImageFromBcd : (book : List ℕ) (e : ℕ) (image : List ℕ) → PublicCall
  ImageToBcd : (image book : List ℕ) → PublicCall
  ImageMatch : (image : List ℕ) (figure : ℕ) → PublicCall
  ImageMerge : (first second : List ℕ) (e : ℕ) (image : List ℕ) → PublicCall

-- what a live call is lent beside the store: day its list of changed days
abbrev pub beside : Call → List (List ℕ)
beside (Append v) = []
beside (Set i v) = []
beside (Insert i v) = []
beside (Strike i) = []
beside (Count i) = []
beside (Reading i) = []
beside (ReachOf p) = []
beside (Day d changes) = changes ∷ []
beside Free = []

-- all that it is lent, to read or to change
abbrev pub lent : PublicCall → List (List ℕ)
lent (Fresh s P C) = s ∷ []
lent (Live c s) = s ∷ beside c
lent (Repair s b) = s ∷ b ∷ []
lent (Freeze s e i) = s ∷ i ∷ []
lent (ImageLength xs e) = xs ∷ []
lent (ImageWrite xs e i) = xs ∷ i ∷ []
lent (ImageCheck i) = i ∷ []
lent (ImageCount i k) = i ∷ []
lent (ImageReading i k) = i ∷ []
lent (ImageReach i p) = i ∷ []
lent (ImageBusiest i k) = i ∷ []
lent (ImageFromBcd b e i) = b ∷ i ∷ []
lent (ImageToBcd i b) = i ∷ b ∷ []
lent (ImageMatch i q) = i ∷ []
lent (ImageMerge f s e i) = f ∷ s ∷ i ∷ []

-- The call may end in the answer a, and what it was lent is afterwards t. Reach alone may end in one of several answers; a call on runs of
-- hours has one, though its definition speaks of all runs and computes none
abbrev pub Ends : PublicCall → End → List (List ℕ) → Type 0
Ends (Fresh s P C) a t = (a ≡ end_of_store (fresh_call s P C).answer) × (t ≡ (fresh_call s P C).bytes ∷ [])
Ends (Live c s) a t = (a ≡ end_of_store (call c s).answer) × (t ≡ (call c s).bytes ∷ beside c)
Ends (Repair s b) a t = (a ≡ end_of_store (repair_call s b).answer) × (t ≡ (repair_call s b).bytes ∷ (repair_call s b).list ∷ [])
Ends (Freeze s e i) a t = (a ≡ end_of_image (freeze_call e s i).reply) × (t ≡ s ∷ (freeze_call e s i).bytes ∷ [])
Ends (ImageLength xs e) a t = (a ≡ end_of_image (length_call e xs)) × (t ≡ xs ∷ [])
Ends (ImageWrite xs e i) a t = (a ≡ end_of_image (write_call e xs i).reply) × (t ≡ xs ∷ (write_call e xs i).bytes ∷ [])
Ends (ImageCheck i) a t = (a ≡ end_of_check (check i)) × (t ≡ i ∷ [])
Ends (ImageCount i k) a t = (a ≡ end_of_image (count i k)) × (t ≡ i ∷ [])
Ends (ImageReading i k) a t = (a ≡ end_of_image (reading i k)) × (t ≡ i ∷ [])
Ends (ImageReach i p) a t = ((r : Reply) × Reach i p r × (a ≡ end_of_image r)) × (t ≡ i ∷ [])
Ends (ImageBusiest i k) a t = ((r : Stretch) × BusiestCall i k r × (a ≡ end_of_stretch r)) × (t ≡ i ∷ [])
Ends (ImageFromBcd b e i) a t = (a ≡ end_of_image (from_call e b i).reply) × (t ≡ b ∷ (from_call e b i).bytes ∷ [])
Ends (ImageToBcd i b) a t = (a ≡ end_of_image (to_call i b).reply) × (t ≡ i ∷ (to_call i b).bytes ∷ [])
Ends (ImageMatch i q) a t = ((r : Bag) × MatchCall i q r × (a ≡ end_of_bag r)) × (t ≡ i ∷ [])
Ends (ImageMerge f s e i) a t = (a ≡ end_of_image (merge_call e f s i).reply) × (t ≡ f ∷ s ∷ (merge_call e f s i).bytes ∷ [])

-- 'store, every other live call and freeze: 10, not sound', where a sound store is told clause by clause; of the repair document 02 says, note 10,
-- 'It never refuses with 10'
abbrev pub Ten : PublicCall → End → Type 0
Ten (Fresh s P C) a = Unit {0}
Ten (Live c s) a = (a ≡ refusal store_not_sound) ↔ (Items s → ⊥)
Ten (Repair s b) a = a ≡ refusal store_not_sound → ⊥
Ten (Freeze s e i) a = (a ≡ refusal store_not_sound) ↔ (Items s → ⊥)
Ten (ImageLength xs e) a = Unit {0}
Ten (ImageWrite xs e i) a = Unit {0}
Ten (ImageCheck i) a = Unit {0}
Ten (ImageCount i k) a = Unit {0}
Ten (ImageReading i k) a = Unit {0}
Ten (ImageReach i p) a = Unit {0}
Ten (ImageBusiest i k) a = Unit {0}
Ten (ImageFromBcd b e i) a = Unit {0}
Ten (ImageToBcd i b) a = Unit {0}
Ten (ImageMatch i q) a = Unit {0}
Ten (ImageMerge f s e i) a = Unit {0}
