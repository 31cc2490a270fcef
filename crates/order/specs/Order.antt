-- Which of two comes first.
use Rattle.std.specs.Prelude.{ℕ, Bool, true, false, ltb}
use Rattle.algebra.specs.Reader.{pick}

pub data Order : Type 0 where
  less : Order
  same : Order
  greater : Order

-- the first comparison that tells two apart
abbrev pub or_else : Order → Order → Order
or_else less o = less
or_else same o = o
or_else greater o = greater

abbrev pub is_less : Order → Bool
is_less less = true
is_less same = false
is_less greater = false

abbrev pub is_same_order : Order → Bool
is_same_order less = false
is_same_order same = true
is_same_order greater = false

-- numbers
unfoldable pub compare : ℕ → ℕ → Order
compare a b = pick (ltb a b) less (pick (ltb b a) greater same)
