-- A plan: the sums of an image's pages, added one after another, and the layout at the end. Assumes nothing.
use mathlib.Core.Path.{◌≡◌, refl, sym, ap, ap₂, ◌∙◌}
use mathlib.Core.Bool.{Bool}
use mathlib.Core.List.{List}
use Prim.Native.Nat.{ℕ, ◌+◌, ◌*◌, ◌^◌, ◌≤◌, ◌<◌}
use native.Mathlib.Nat.{mul-le-mul_left, mul-zero}
use native.Mathlib.Numerals.{add-one}
use native.Mathlib.Omega.{arith}
use lib.ListN.{length, take}
use lib.Seq.{take_all}
use borrow.Author.Tests.{le-leb, lt-leb}
use Rattle.lists.specs.Lists.{concat, pick, sum, tabulate}
use Rattle.reserve.specs.Reserve.{digits, reserve}
use Rattle.reserve.proofs.Exact.{digits_le}
use Rattle.image.specs.Calls.{length_call}
use Rattle.image.specs.Image.{code, header_length, image, max_hours, max_total, pages, root, size, start, wide}
use Rattle.answers.specs.Image.{refused}
use Rattle.std.specs.Prelude.{Ok}
use Rattle.image.proofs.Editions.{header-most}
use Rattle.image.proofs.ReadLaws.{length-image}
use Rattle.image.proofs.PageLaws.{code-most, page-sum, pages-cover, pages-few, reserve-most, start-next}
use Rattle.image_plan.specs.Code.Planning.{Begun, Drafted, Laying, PageSum, Passed, Planned}
use Rattle.image_plan.specs.declared.Layout.{Layout}
use Rattle.image_plan.specs.declared.Plan.{Plan}

-- ---- the refusals of length
pub e-below : (e : ℕ) (xs : List ℕ) → e < 2 → length_call e xs ≡ refused 1
unfolding length_call pick
e-below e xs l = rw (lt-leb 2 e l)

pub e-above : (e : ℕ) (xs : List ℕ) → 8 < e → length_call e xs ≡ refused 1
unfolding length_call pick
e-above e xs l = rw (le-leb 2 e (omega arith), lt-leb e 8 l)

pub list-long : (e : ℕ) (xs : List ℕ) → 2 ≤ e → e ≤ 8 → max_hours < length xs → length_call e xs ≡ refused 2
unfolding length_call pick
list-long e xs a b l = rw (le-leb 2 e a, le-leb e 8 b, lt-leb (length xs) max_hours l)

pub total-above : (e : ℕ) (xs : List ℕ) (t : ℕ) → 2 ≤ e → e ≤ 8 → length xs ≤ max_hours → t ≡ sum xs → max_total < t
    → length_call e xs ≡ refused 3
unfolding length_call pick
total-above e xs t a b l q h = rw (le-leb 2 e a, le-leb e 8 b, le-leb (length xs) max_hours l, lt-leb (sum xs) max_total (omega arith))

-- ---- no page yet
none_passed : (e : ℕ) (xs : List ℕ) → Passed e xs 0 0 0
unfolding start concat tabulate sum
none_passed e xs = record {
  total-is = sym (ap (λ (z : ℕ). sum (take z xs)) (mul-zero (2 ^ e)));
  bits_are = omega arith;
  total-most = omega arith;
  trees-most = omega arith;
}

pub begun : (e n k : ℕ) → 2 ≤ e → e ≤ 8 → n ≤ max_hours → k ≡ pages e n
    → Begun e n (Ok (record { e = e; hours = n; pages = k; done = 0; total = 0; trees = 0 }))
begun e n k low high l q = (
  refl,
  λ xs h. record {
    e-low = low;
    e-high = high;
    short = omega arith;
    e-is = refl;
    hours-are = sym h;
    pages-are = q ∙ ap (pages e) (sym h);
    done-le = omega arith;
    passed = none_passed e xs;
  },
)

-- ---- one page more
-- how large a plan's numbers are
pub record Sizes (r : Plan) : Type 0 where
  pub few : r.pages ≤ 16384
  pub done-most : r.done ≤ 16384
  pub total-most : r.total ≤ 18014398509465600
  pub trees-most : r.trees ≤ 146800640

pub sizes : {e : ℕ} {xs : List ℕ} {r : Plan} → Drafted e xs r → Sizes r
sizes {e} {xs} {r} d =
    let f : r.pages ≤ 16384 = omega (arith, d.pages-are, pages-few e (length xs) d.e-low d.short) in
    let n : r.done ≤ 16384 = omega (arith, d.done-le) in
    record {
      few = f;
      done-most = n;
      total-most = omega (arith, d.passed.total-most);
      trees-most = omega (arith, d.passed.trees-most);
    }

one-passed : (e : ℕ) (xs : List ℕ) (p total trees s v : ℕ) → e ≤ 8 → Passed e xs p total trees → PageSum e xs p s → v ≡ reserve e s
    → Passed e xs (p + 1) (total + s) (trees + v)
unfolding root
one-passed e xs p total trees s v h a n q =
    let t : total + s ≡ root e xs p = omega (arith, a.total-is, n.page-is, page-sum e xs p) in
    rw (add-one p)
    (record {
      total-is = t;
      bits_are = omega (arith, a.bits_are, start-next e xs p, ap (reserve e) n.page-is);
      total-most = omega (arith, a.total-most, n.small);
      trees-most = omega (arith, a.trees-most, reserve-most e s h n.small);
    })

pub reserve-low : {e : ℕ} {xs : List ℕ} {r : Plan} {s v : ℕ} → Drafted e xs r → s < 1099511627776 → v ≡ reserve r.e s → v ≤ 8960
reserve-low {e} {xs} {r} {s} d l q = omega (arith, ap (λ (z : ℕ). reserve z s) d.e-is, reserve-most e s d.e-high l)

pub added : {e : ℕ} {xs : List ℕ} {r : Plan} {s : ℕ} (v : ℕ) → Drafted e xs r → r.done < r.pages → PageSum e xs r.done s → v ≡ reserve r.e s
    → Drafted e xs (record { e = r.e; hours = r.hours; pages = r.pages; done = r.done + 1; total = r.total + s; trees = r.trees + v })
added {e} {xs} {r} {s} v d l n q = record {
  e-low = d.e-low;
  e-high = d.e-high;
  short = d.short;
  e-is = d.e-is;
  hours-are = d.hours-are;
  pages-are = d.pages-are;
  done-le = omega arith;
  passed = one-passed e xs r.done r.total r.trees s v d.e-high d.passed n (q ∙ ap (λ (z : ℕ). reserve z s) d.e-is);
}

-- ---- all pages
module _ {e : ℕ} {xs : List ℕ} {r : Plan} (d : Drafted e xs r) (all : r.pages ≤ r.done) where
  done-is : r.done ≡ pages e (length xs)
  done-is = omega (arith, d.pages-are, d.done-le)

  total-is : r.total ≡ sum xs
  total-is =
      d.passed.total-is ∙ ap (λ (z : ℕ). sum (take (2 ^ e * z) xs)) done-is
      ∙ ap sum (take_all (2 ^ e * pages e (length xs)) xs (pages-cover e (length xs)))

  pub width_low : (t : ℕ) → t ≡ digits r.total → r.pages * t ≤ 884736
  width_low t q =
      let w : t ≤ 54 = omega (arith, digits_le r.total 54 (omega (arith, (sizes d).total-most))) in
      omega (arith, mul-le-mul_left r.pages w, (sizes d).few)

  pub too_much : max_total < r.total → length_call e xs ≡ refused 3
  too_much l = total-above e xs r.total d.e-low d.e-high d.short total-is l

  pub finished : (t h : ℕ) → t ≡ digits r.total → h ≡ header_length (wide r.total) → r.total ≤ max_total
      → Planned e xs (Ok (record { e = r.e; hours = r.hours; pages = r.pages; total = r.total; table = h; code = 8 * (h + 4 * r.pages); bits = r.pages * t + r.trees }))
  unfolding code start
  finished t h q eh l = (
    record { e-low = d.e-low; e-high = d.e-high; hours = d.short; total = omega (arith, total-is) },
    record {
      e-is = d.e-is;
      hours-are = d.hours-are;
      pages-are = d.pages-are;
      total-is = total-is;
      table_is = eh ∙ ap (λ (z : ℕ). header_length (wide z)) total-is;
      code_is = ap₂ (λ (y z : ℕ). 8 * (y + 4 * z)) (eh ∙ ap (λ (z : ℕ). header_length (wide z)) total-is) d.pages-are;
      bits_are =
          ap₂ (λ (y z : ℕ). y * z + r.trees) {x = r.pages} {y = r.done} (omega (arith, d.done-le)) (q ∙ ap digits total-is)
          ∙ d.passed.bits_are ∙ ap (start e xs) done-is;
    },
  )

-- ---- the image's bytes
-- what working them out asks, and what it gives
pub size-asks : {r : Layout} → Laying r → (r.table ≤ 24) × (r.e ≤ 8) × (r.hours ≤ max_hours) × (r.bits < 4294967296)
size-asks {r} a = (
  omega (arith, a.layout.table_is, header-most (wide (sum a.xs))),
  a.limits.e-high,
  omega (arith, a.layout.hours-are, a.limits.hours),
  omega (arith, a.layout.bits_are, code-most r.e a.xs a.limits),
)

pub size_is : {r : Layout} (n : ℕ) → ((b : Bool) → r.table ≡ header_length b → n ≡ size b r.e r.hours r.bits)
    → (a : Laying r) → n ≡ length (image r.e a.xs)
size_is {r} n q a =
    q (wide (sum a.xs)) a.layout.table_is ∙ ap₂ (size (wide (sum a.xs)) r.e) a.layout.hours-are a.layout.bits_are ∙ sym (length-image r.e a.xs)
