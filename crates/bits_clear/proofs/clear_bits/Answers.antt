-- `bits_clear::clear_bits` meets its contract: three runs of zeros, one behind the other, are one. Assumes nothing.
use Rattle.std.proofs.Common.{ℕ, ◌≡◌, ◌+◌, ◌-◌, ◌*◌, ◌/◌, ap, ◌∙◌, arith, rules, length, take, drop, replicate}
use lib.ListN.{length-take, length-drop}
use borrow.Rule.Slice.PartMut.{put_mid}
use Rattle.lists.specs.Lists.{splice}
use Rattle.bits.specs.Bits.{bits}
use Rattle.bits.proofs.Zeros.{bytes_filled, cleared_more, cleared-bytes, field-zero}
use Rattle.bits_clear.proofs.clear_bits.Goals as goal

pub returns : goal.returns
returns c =
    let a = c.args in
    let one = c.put_field in
    let n = c.min-front.result in
    let k = (a.n - n) / 8 in
    let i = (a.at + n) / 8 in
    let two = put_mid i (i + k - i) one.new.out c.fill.new.self in
    let last = a.at + n + 8 * k in
    let e : n + 8 * k + (a.at + a.n - last) ≡ a.n = omega arith in
    let long : length (take (i + k - i) (drop i one.new.out)) ≡ k =
    omega (arith, length-take (i + k - i) (drop i one.new.out), length-drop i one.new.out, one.auto.out) in
    cleared_more a.out.now two c.put_field-2.new.out a.at last (n + 8 * k) (a.at + a.n - last) (omega arith) (omega arith)
    (cleared-bytes a.out.now one.new.out two a.at i n k (λ l. omega arith) (omega arith)
    (one.ensures ∙ ap (splice (bits a.out.now) a.at) (field-zero n))
    (bytes_filled one.new.out c.fill.new.self i k (i + k - i) (c.fill.ensures.after (search rules) ∙ ap (λ (z : ℕ). replicate z 0) long) (omega arith)))
    (c.put_field-2.ensures ∙ ap (splice (bits two) last) (field-zero (a.at + a.n - last)))
    ∙ ap (λ (z : ℕ). splice (bits a.out.now) a.at (replicate z 0)) e
