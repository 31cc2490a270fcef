-- What a percentage is of a byte, whatever the formula.
use Rattle.std.specs.Prelude.{ℕ, ◌+◌, ◌*◌, ◌<◌}

-- b of 255 is p percent to less than half a percent: no other whole number is as near, and no byte lies halfway
pub record Nearest (b p : ℕ) : Type 0 where
  pub most : 2 * (255 * p) < 2 * (100 * b) + 255
  pub least : 2 * (100 * b) < 2 * (255 * p) + 255
