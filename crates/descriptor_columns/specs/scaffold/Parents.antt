-- Scaffolding: parents by the numbers of rows.
use Rattle.std.specs.Prelude.{ℕ, zero, suc, ◌<◌, ◌≡◌, List, [], ◌∷◌, get_or}
use Rattle.descriptor_columns.specs.Columns.{parent_of}

-- the first i of some depths, the last first
abbrev pub back : List ℕ → ℕ → List ℕ
back ds zero = []
back ds (suc i) = get_or ds i 0 ∷ back ds i

-- the parent of the row i
abbrev pub parent_at : List ℕ → ℕ → ℕ
parent_at ds i = parent_of (get_or ds i 0) (back ds i)

-- those of the first i rows stand in a run
pub record Parented (ds run : List ℕ) (i : ℕ) : Type 0 where
  pub stands : (j : ℕ) → j < i → get_or run j 0 ≡ parent_at ds j
