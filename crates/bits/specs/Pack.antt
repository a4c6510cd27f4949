-- Bits as bytes. Assumes nothing.
use Rattle.std.specs.Prelude.{List, [], ◌∷◌, ℕ, zero, suc, take, drop}
use Rattle.bits.specs.Bits.{value}

-- eight bits a byte, n bytes
unfoldable pub pack : ℕ → List ℕ → List ℕ
pack zero bs = []
pack (suc n) bs = value (take 8 bs) ∷ pack n (drop 8 bs)
