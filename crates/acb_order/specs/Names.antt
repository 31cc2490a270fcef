-- The order of names.
use Rattle.std.specs.Prelude.{ℕ, List, [], ◌∷◌}
use Rattle.order.specs.Order.{Order, less, same, greater, or_else, compare}

-- unit by unit as numbers; a shorter name before a longer one that begins with it
unfoldable pub compare_names : List ℕ → List ℕ → Order
compare_names [] [] = same
compare_names [] (v ∷ vs) = less
compare_names (u ∷ us) [] = greater
compare_names (u ∷ us) (v ∷ vs) = or_else (compare u v) (compare_names us vs)
