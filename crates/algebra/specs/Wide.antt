-- The widths of the fields of a byte string of a set, by how it is joined. Nothing here reads.
use Rattle.std.specs.Prelude.{ℕ, zero, suc, List, [], ◌∷◌, ◌++◌, length}
use Rattle.algebra.specs.Sets.{Field, Seq, seq, Prefixed, prefixed, Run}

-- the widths of each byte string of a set
abbrev pub Wide : Field → Type 0
Wide X = (b : List ℕ) → X b → List ℕ

-- one field, as long as it is
abbrev pub one_wide : (X : Field) → Wide X
one_wide X b x = length b ∷ []

abbrev pub seq_wide : (X Y : Field) → Wide X → Wide Y → Wide (Seq X Y)
seq_wide X Y v w b (seq {x} {y} p q) = v x p ++ w y q

-- the count, and then what it says
abbrev pub counted_wide : (Y : ℕ → Field) → ((n : ℕ) → Wide (Y n)) → Wide (Prefixed Y)
counted_wide Y w b (prefixed n {y} small q) = 4 ∷ w n y q

abbrev pub run_wide : (X : Field) → Wide X → (n : ℕ) → Wide (Run X n)
run_wide X w zero b r = []
run_wide X w (suc n) b (seq {x} {y} p q) = w x p ++ run_wide X w n y q
