-- Scaffolding: the scales of `nearest`, which is private. Where a sum is rounded to a double, none of these reaches the next number.
use Rattle.std.specs.Prelude.{ℕ}

pub data Full : ℕ → Type 0 where
  long : Full 65535
  short : Full 10000
