-- A tree that is some list's code, and its halves: what decoding asks of it, each half has too. Assumes nothing.
use mathlib.Core.Path.{◌≡◌, ap, subst, ◌∙◌}
use mathlib.Core.List.{List}
use Prim.Native.Nat.{ℕ, suc, ◌-◌, ◌≤◌}
use native.Mathlib.Omega.{arith}
use Rattle.std.specs.Prelude.{Option, Some, IsSome}
use Rattle.bits.specs.Bits.{bits}
use Rattle.tree.specs.Code.Exact.{exact}
use Rattle.tree.specs.Code.Node.{Rooted}
use Rattle.tree.specs.declared.node.Split.{Split}
use Rattle.tree.proofs.Rooting.{left-lies, right-lies}
use Rattle.tree_word.proofs.Decoding.{Unfolded, rooted-some, unfolded}
use Rattle.tree_decode.specs.Code.Coded.{Coded}
use Rattle.tree_decode.proofs.Limits.{left-fits, right-fits}

pub of-height : {h k : ℕ} {b : List ℕ} {a s : ℕ} → h ≡ k → Coded h b a s → Coded k b a s
of-height {h} {k} {b} {a} {s} e n = subst (λ (j : ℕ). Coded j b a s) e n

-- of a tree whose root was read
module _ {b : List ℕ} {a h s : ℕ} (n : Coded h b a s) (high : h ≡ 0 → ⊥) (o : Option Split) (g : Rooted (bits b) a (h - 1) s o) where
  pub root-some : IsSome o
  root-some = rooted-some (bits b) a (h - 1) s o (ap (λ (k : ℕ). exact k s (bits b) a) {x = suc (h - 1)} {y = h} (omega (arith, high)) ∙ n.code) g

  module _ {r : Split} (e : o ≡ Some r) where
    pub read : Unfolded (bits b) a h s r
    read = unfolded high n.code (subst (Rooted (bits b) a (h - 1) s) e g)

    pub root-le : r.left ≤ s
    root-le = read.node.root.left_le

    pub first-half : Coded (h - 1) b r.first r.left
    first-half = record { lies = left-lies n.lies read.node; code = read.left-exact; fits = left-fits read.node n.fits }

    pub second-half : Coded (h - 1) b r.second (s - r.left)
    second-half = record { lies = right-lies n.lies read.node; code = read.right-exact; fits = right-fits read.node n.fits }
