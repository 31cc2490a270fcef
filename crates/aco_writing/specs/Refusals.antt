-- The refusals that a run of records to write may give, by their numbers of the refusal table; writing has 11 besides.
use Rattle.std.specs.Prelude.{ℕ, List, [], ◌∷◌}

abbrev pub refusals : List ℕ
refusals = 1 ∷ 2 ∷ 4 ∷ 5 ∷ 8 ∷ 14 ∷ []
