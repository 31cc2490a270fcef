-- Scaffolding: rows that stand in runs.
use Rattle.std.specs.Prelude.{ℕ, ◌<◌, ◌≡◌, List, map, length, get_or, take}
use Rattle.descriptor.specs.Reading.{Row}
use Rattle.descriptor_columns.specs.Columns.{depths_of, parents_of}

-- a row that no file has
abbrev pub spare : Row
spare = record { kind = 0; parent = 0; first = 0; size = 0; depth = 0; value = 0 }

-- n rows in runs of their first bytes, lengths, depths and kinds
pub record Given (rs : List Row) (first size depth kind : List ℕ) (n : ℕ) : Type 0 where
  pub count : n ≡ length rs
  pub firsts : (i : ℕ) → i < n → get_or first i 0 ≡ (get_or rs i spare).first
  pub sizes : (i : ℕ) → i < n → get_or size i 0 ≡ (get_or rs i spare).size
  pub depths : (i : ℕ) → i < n → get_or depth i 0 ≡ (get_or rs i spare).depth
  pub kinds : (i : ℕ) → i < n → get_or kind i 0 ≡ (get_or rs i spare).kind
  pub all : take n depth ≡ depths_of rs
  pub parents : map (λ (r : Row). r.parent) rs ≡ parents_of (depths_of rs)

-- and of their parents
pub record Held (rs : List Row) (first size depth kind parent : List ℕ) (n : ℕ) : Type 0 where
  pub given : Given rs first size depth kind n
  pub parents : (i : ℕ) → i < n → get_or parent i 0 ≡ (get_or rs i spare).parent
