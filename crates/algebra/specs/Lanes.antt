-- Several text units in one word, and the mark that tells a zero among them.
use Rattle.std.specs.Prelude.{ℕ, zero, suc, ◌+◌, ◌*◌, ◌/◌, ◌%◌, List, [], ◌∷◌, Bool, not, eqb}
use Rattle.std.specs.Int.Bits.{bit_and}

-- the k lanes of 16 bits of a word, the lowest first
unfoldable pub lanes : ℕ → ℕ → List ℕ
lanes zero x = []
lanes (suc k) x = x % 65536 ∷ lanes k (x / 65536)

-- the word of k lanes that all hold v
unfoldable pub every : ℕ → ℕ → ℕ
every zero v = 0
every (suc k) v = every k v * 65536 + v

-- the highest bit of one of the k lanes is set
unfoldable pub any_high_bit : ℕ → ℕ → Bool
any_high_bit k m = not (eqb (bit_and m (every k 0x8000)) 0)
