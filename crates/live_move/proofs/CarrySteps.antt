-- A shift carried out, in the numbers that the code has. Assumes nothing.
use mathlib.Core.Path.{◌≡◌, sym, ap, ap₂, ◌∙◌}
use mathlib.Core.List.{List}
use Prim.Native.Nat.{ℕ, ◌+◌, ◌-◌, ◌*◌, ◌≤◌, ◌<◌}
use native.Mathlib.Omega.{arith}
use lib.ListN.{length}
use Rattle.answers.specs.Store.{changed, refused}
use Rattle.store.specs.Plain.{Outcome, Plain, need}
use Rattle.store.specs.Layout.{bytes_of, cells_start}
use Rattle.store.specs.Reading.{cells_of, list_in, page_count_of, read}
use Rattle.store.specs.Call.{settle}
use Rattle.store.specs.Code.Head.{HeadOf}
use Rattle.store.specs.declared.header.Header.{Header}
use Rattle.store.proofs.ChangeLaws.{change-done, change-short}
use Rattle.store.proofs.SoundFacts.{Facts, facts}
use Rattle.move_plan.specs.declared.shift.Shift.{Shift}
use Rattle.move_pages.specs.declared.Plan.{Plan}
use Rattle.move_plan.specs.Code.Plan.{Counted, Leaves, Needs, Shiftable, shifted}
use Rattle.move_pages.specs.Code.Pass.{Enough, Settles}
use Rattle.live_move.specs.Code.Carry.{Carried, shift_of}

module _ {s : List ℕ} {m : Shift} (h : Shiftable s m) where
  f : Facts s
  f = facts s h.is-sound

  abbrev L : Plain
  L = (read s).plain

  abbrev ys : List ℕ
  ys = shifted m (list_in s)

  pub header-in : 16 ≤ length s
  header-in = omega (arith, f.long)

  -- the cells, by what the header says of them
  module _ {H : Header} (hd : HeadOf s H) {had asked : ℕ} (n : Needs s m had asked) where
    left : H.free + need (list_in s) (page_count_of s) ≡ cells_of s
    left = omega (arith, hd.free-is, f.free-and-need)

    pub sum-few : had + H.free ≤ 1800
    sum-few = omega (arith, n.had-low, left, f.cells-high)

    new-need : need ys L.pages ≡ need ys (page_count_of s)
    new-need = ap (need ys) (sym f.pages-are)

    old-need : need (list_in s) L.pages ≡ need (list_in s) (page_count_of s)
    old-need = ap (need (list_in s)) (sym f.pages-are)

    pub carried-12 : had + H.free < asked → Carried s m (refused 12) s
    unfolding shift_of settle
    carried-12 l =
        let e = change-short L ys h.total (omega (arith, new-need, n.moved, left, f.cells_are)) in
        record {
          answer = sym (ap (λ (o : Outcome). o.answer) e);
          bytes = f.same ∙ sym (ap (λ (o : Outcome). bytes_of (settle (read s) o o.answer)) e);
        }

    module _ (l : asked ≤ had + H.free) where
      cells_fit : need ys (page_count_of s) ≤ cells_of s
      cells_fit = omega (arith, n.moved, n.had-low, left)

      pub enough-now : (w : Plan) → w.shift ≡ m → w.base ≡ cells_start H.pages → w.all ≡ 64 * H.pages → Leaves m (list_in s) w.leaving.now m.end
          → Counted m (list_in s) w.old.now m.end → Counted m ys w.new.now m.end → m.end ≤ length w.leaving.now → m.end ≤ length w.old.now
          → m.end ≤ length w.new.now → Enough s w
      enough-now w em eb ea hl ho hn ll lo ln = rw em record {
        shiftable = h;
        enough = cells_fit;
        base-is = eb ∙ ap cells_start hd.pages-is;
        leaves = hl;
        had = ho;
        asked = hn;
        leaving-long = ll;
        old-long = lo;
        new-long = ln;
        hours-are = ea ∙ ap (λ (v : ℕ). 64 * v) hd.pages-is;
      }

      pub carried-now : {t : List ℕ} {rise fall : ℕ} → Settles s m t → rise ≡ asked - had → fall ≡ had - asked → Carried s m (changed rise fall) t
      unfolding shift_of settle
      carried-now e a b =
          let d = change-done L ys h.total (omega (arith, new-need, cells_fit, f.cells_are)) in
          record {
            answer =
                sym (ap (λ (o : Outcome). o.answer) d
                ∙ ap₂ changed (omega (arith, new-need, old-need, n.moved, a)) (omega (arith, new-need, old-need, n.moved, b)));
            bytes = e ∙ sym (ap (λ (o : Outcome). bytes_of (settle (read s) o o.answer)) d);
          }
