-- Units that are badly closed. Nothing here reads.
use Rattle.std.specs.Prelude.{ℕ, ◌<◌, List, [], ◌∷◌, ◌++◌}

-- the last unit is not zero, or one before it is
pub data BadlyClosed : List ℕ → Type 0 where
  last : (us : List ℕ) (u : ℕ) → 0 < u → BadlyClosed (us ++ (u ∷ []))
  early : (us vs : List ℕ) (v : ℕ) → BadlyClosed (us ++ (0 ∷ v ∷ vs))
