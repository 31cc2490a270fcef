-- What makes a comparison a total order in which only equals are the same.
use Rattle.std.specs.Prelude.{◌≡◌}
use Rattle.order.specs.Order.{Order, less, same, greater}

-- seen from the other
abbrev pub turn : Order → Order
turn less = greater
turn same = same
turn greater = less

pub record Total {A : Type 0} (by : A → A → Order) : Type 0 where
  pub itself : (a : A) → by a a ≡ same
  pub equal : (a b : A) → by a b ≡ same → a ≡ b
  pub turned : (a b : A) → by b a ≡ turn (by a b)
  pub onward : (a b c : A) → by a b ≡ less → by b c ≡ less → by a c ≡ less
