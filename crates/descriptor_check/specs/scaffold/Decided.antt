-- Scaffolding: a test whose answer says whether a fact holds.
use Rattle.std.specs.Prelude.{◌≡◌, Bool, true, false}

pub record Decides (b : Bool) (P : Type 0) : Type 0 where
  pub yes : b ≡ true → P
  pub no : b ≡ false → P → ⊥
