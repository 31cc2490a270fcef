-- Scaffolding: what stands at the front of units, by two of them, in private contracts. What is public cites nothing of it.
use Rattle.std.specs.Prelude.{ℕ, Bool, ◌&&◌}
use Rattle.algebra.specs.Reader.{pick}
use Rattle.unicode_text.specs.Reading.{is_high, is_low, paired, single}

-- u is the high surrogate and v the low one of a pair
abbrev pub is_pair : ℕ → ℕ → Bool
is_pair u v = is_high u && is_low v

-- the scalar value of u, with v behind it
unfoldable pub scalar_at : ℕ → ℕ → ℕ
scalar_at u v = pick (is_pair u v) (paired u v) (single u)

-- how many units it takes
unfoldable pub taken : ℕ → ℕ → ℕ
taken u v = pick (is_pair u v) 2 1
