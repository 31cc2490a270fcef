-- The refusals that reading a file may give, by their numbers of the refusal table.
use Rattle.std.specs.Prelude.{ℕ, List, [], ◌∷◌}

abbrev pub refusals : List ℕ
refusals = 1 ∷ 2 ∷ 3 ∷ 4 ∷ 5 ∷ 6 ∷ 8 ∷ 10 ∷ []
