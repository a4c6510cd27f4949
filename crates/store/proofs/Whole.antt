-- Any list of calls on a good store leaves one, and answers as the plain list does; when 12 is refused. Assumes nothing.
use mathlib.Core.Path.{◌≡◌, refl, ap, ◌∙◌}
use mathlib.Core.Logic.{◌↔◌}
use mathlib.Core.List.{List, [], ◌∷◌}
use Prim.Native.Nat.{ℕ, zero, suc, ◌*◌, ◌≤◌, ◌<◌}
use native.Mathlib.Nat.{not-suc-le-zero, le_of_suc-le-suc}
use native.Mathlib.Omega.{arith}
use lib.ListN.{length, get_or, take}
use Rattle.lists.specs.Lists.{pick, sum}
use Rattle.store.specs.Limits.{max_total}
use Rattle.store.specs.Call.{after, call, store_answers, store_end}
use Rattle.store.specs.Layout.{Model, bytes_of}
use Rattle.store.specs.PageCode.{cells}
use Rattle.store.specs.Plain.{Call, Free, Outcome, Plain}
use Rattle.answers.specs.Store.{Answer, answered, refused}
use Rattle.store.specs.Plain.{change, need, next, page, plain_answers, plain_end, step}
use Rattle.store.specs.Sound.{Good}
use Rattle.lists.proofs.Sums.{sum-most}
use Rattle.store.proofs.Holds.{holds-bytes}
use Rattle.store.proofs.PageCodeLaws.{cells-most}
use Rattle.store.proofs.Chained.{good-chained}
use Rattle.store.proofs.ReadBack.{page-le, read_is}
use Rattle.store.proofs.SoundLaws.{sound-bytes}
use Rattle.store.proofs.StepLaws.{Change, after-good, after-plain, change-is, done, over, short, next-cells, next-pages}

pub call-good : (c : Call) (m : Model) → Good m → call c (bytes_of m) ≡ record { answer = (step c m.plain).answer; bytes = bytes_of (after c m) }
unfolding call pick
call-good c m g = rw (sound-bytes m g, read_is (bytes_of m) m (good-chained m g) (holds-bytes m g))

-- a list of calls leads to a good store, whose list and answers are the plain list's
pub ends : (cs : List Call) (m : Model) → Good m
    → (m' : Model) × Good m' × (store_end cs (bytes_of m) ≡ bytes_of m') × (m'.plain ≡ plain_end cs m.plain)
    × (store_answers cs (bytes_of m) ≡ plain_answers cs m.plain)
unfolding store_end store_answers plain_end plain_answers
ends [] m g = (m, g, refl, refl, refl)
ends (c ∷ cs) m g =
    let e = call-good c m g in
    let w = ends cs (after c m) (after-good c m g) in
    let p : (after c m).plain ≡ next c m.plain = after-plain c m g in (
      w.0,
      w.1,
      rw e w.2,
      w.3 ∙ ap (plain_end cs) p,
      rw e (ap (λ (z : List Answer). (step c m.plain).answer ∷ z) (w.4 ∙ ap (plain_answers cs) p)),
    )

pub end-pages : (cs : List Call) (L : Plain) → (plain_end cs L).pages ≡ L.pages
unfolding plain_end next
end-pages [] L = refl
end-pages (c ∷ cs) L = end-pages cs (next c L) ∙ next-pages c L

pub end-cells : (cs : List Call) (L : Plain) → (plain_end cs L).cells ≡ L.cells
unfolding plain_end next
end-cells [] L = refl
end-cells (c ∷ cs) L = end-cells cs (next c L) ∙ next-cells c L

-- answer n is that of the list after the n calls before it
pub answer_at : (cs : List Call) (L : Plain) (n : ℕ) → n < length cs
    → get_or (plain_answers cs L) n (answered 0) ≡ (step (get_or cs n Free) (plain_end (take n cs) L)).answer
unfolding plain_answers plain_end
answer_at [] L n l = absurd (not-suc-le-zero l)
answer_at (c ∷ cs) L zero l = refl
answer_at (c ∷ cs) L (suc n) l = answer_at cs (next c L) n (le_of_suc-le-suc l)

pub length-answers : (cs : List Call) (L : Plain) → length (plain_answers cs L) ≡ length cs
unfolding plain_answers
length-answers [] L = refl
length-answers (c ∷ cs) L = ap suc (length-answers cs (next c L))

-- with at least eight cells a page the cells suffice
enough : (L : Plain) (ys : List ℕ) → 8 * L.pages ≤ L.cells → sum ys ≤ max_total → need ys L.pages ≤ L.cells
unfolding need
enough L ys h t = omega (
  arith,
  sum-most 8 L.pages (λ p. cells (sum (page ys p))) (λ p. cells-most (sum (page ys p)) (omega (arith, page-le ys p))),
)

pub change-never : (L : Plain) (ys : List ℕ) → 8 * L.pages ≤ L.cells → (change L ys).answer ≡ refused 12 → ⊥
change-never L ys h = go (change-is L ys)
  where
    go : {o : Outcome} → Change L ys o → o.answer ≡ refused 12 → ⊥
    go (over a) e = let z : ◌≡◌ {A = ℕ} 3 12 = cc in omega arith
    go (short a d) e = omega (arith, enough L ys h a)
    go (done a d) e = let z : ◌≡◌ {A = ℕ} 0 1 = cc in omega arith

-- refused for cells exactly when the changed list needs more than there are
pub change-when : (L : Plain) (ys : List ℕ) → sum ys ≤ max_total → ((change L ys).answer ≡ refused 12) ↔ (L.cells < need ys L.pages)
change-when L ys t = go (change-is L ys)
  where
    go : {o : Outcome} → Change L ys o → (o.answer ≡ refused 12) ↔ (L.cells < need ys L.pages)
    go (over a) = absurd (omega arith)
    go (short a d) = (λ _. d, λ _. refl)
    go (done a d) = (λ e. let z : ◌≡◌ {A = ℕ} 0 1 = cc in absurd (omega arith), λ e. absurd (omega arith))
