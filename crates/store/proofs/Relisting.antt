-- Another number of hours, the pages as they are. Assumes nothing.
use mathlib.Core.Path.{◌≡◌, sym, ap, ◌∙◌}
use mathlib.Core.List.{List, []}
use Prim.Native.Nat.{ℕ, ◌+◌, ◌*◌, ◌≤◌, ◌<◌}
use native.Mathlib.Omega.{arith}
use lib.ListN.{length, get_or}
use Rattle.lists.specs.Lists.{concat, part, sum}
use Rattle.bits.specs.Numbers.{little}
use Rattle.store.specs.Layout.{Model, bytes_of, cell_at, cells_start, entry_at, header}
use Rattle.store.specs.OneCell.{listed}
use Rattle.store.specs.PageCode.{cells, page_bytes}
use Rattle.store.specs.Plain.{page}
use Rattle.store.specs.Sound.{on_chains}
use Rattle.store.specs.Code.Chained.{Chained}
use Rattle.store.specs.Code.Links.{put}
use Rattle.store.proofs.Holds.{chained-only}
use Rattle.store.proofs.Moved.{filled-same, linked-same}
use Rattle.store.proofs.Spread.{Spread, spread-holds}
use Rattle.store.proofs.Writes.{put-length, put-off, put_same}

module _ (m : Model) (g : Chained m) (ys : List ℕ) (ly : length ys ≤ 64 * m.plain.pages)
    (same : (q : ℕ) → q < m.plain.pages → page ys q ≡ page m.plain.counts q) where
  abbrev P : ℕ
  P = m.plain.pages

  pub relisted-chained : Chained (listed ys m)
  unfolding on_chains
  relisted-chained = record {
    limits = g.limits;
    hours = ly;
    rows = g.rows;
    lengths = λ p l. g.lengths p l ∙ ap (λ (z : List ℕ). cells (sum z)) (sym (same p l));
    sums = λ p l. rw (same p l) (g.sums p l);
    once = g.once;
    all = g.all;
  }

  module _ (s : List ℕ) (h : Spread s m) where
    t : List ℕ
    t = put s 12 4 (length ys)

    before : (b n : ℕ) → b + n ≤ 12 → part t b n ≡ part s b n
    unfolding t
    before b n l = put-off s 12 4 (length ys) b n (λ q. omega arith)

    behind : (b n : ℕ) → 16 ≤ b → part t b n ≡ part s b n
    unfolding t
    behind b n l = put-off s 12 4 (length ys) b n (λ q. absurd (omega arith))

    spread-hours : Spread t (listed ys m)
    unfolding t header concat little
    spread-hours = record {
      size = put-length s 12 4 (length ys) ∙ h.size;
      fixed = before 0 6 (omega arith) ∙ h.fixed;
      free = linked-same s t (cells_start P) 6 m.spare 0 (before 6 2 (omega arith)) (λ d q. behind (cell_at (cells_start P) d) 2 (omega arith)) h.free;
      free-count = before 8 2 (omega arith) ∙ h.free-count;
      gap = before 10 2 (omega arith) ∙ h.gap;
      hours = put_same s 12 4 (length ys) (omega (arith, h.size));
      sums = λ q l. behind (entry_at q) 4 (omega arith) ∙ h.sums q l ∙ ap (λ (z : List ℕ). little 4 (sum z)) (sym (same q l));
      links = λ q l.
          linked-same s t (cells_start P) (entry_at q + 4) (get_or m.chains q []) 0 (behind (entry_at q + 4) 2 (omega arith))
          (λ d w. behind (cell_at (cells_start P) d) 2 (omega arith)) (h.links q l);
      fills = λ q l.
          filled-same s t (cells_start P) (get_or m.chains q []) (page_bytes (page ys q)) (λ d w. behind (cell_at (cells_start P) d + 2) 30 (omega arith))
          (rw (same q l) (h.fills q l));
      zeros = filled-same s t (cells_start P) m.spare _ (λ d w. behind (cell_at (cells_start P) d + 2) 30 (omega arith)) h.zeros;
    }

    -- the header says the new list's hours, and nothing else is written
    pub hours-bytes : put s 12 4 (length ys) ≡ bytes_of (listed ys m)
    unfolding t
    hours-bytes = chained-only t (listed ys m) relisted-chained (spread-holds t (listed ys m) g.rows spread-hours)
