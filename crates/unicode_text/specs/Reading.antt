-- The scalar values of 16-bit units, and their UTF-8 bytes.
use Rattle.std.specs.Prelude.{ℕ, ◌+◌, ◌-◌, ◌*◌, ◌/◌, ◌%◌, List, [], ◌∷◌, Bool, ◌&&◌, leb, ltb}
use Rattle.algebra.specs.Reader.{pick}
use Rattle.algebra.specs.Numbers.{joined}

abbrev pub is_high : ℕ → Bool
is_high u = leb 0xD800 u && leb u 0xDBFF

abbrev pub is_low : ℕ → Bool
is_low u = leb 0xDC00 u && leb u 0xDFFF

-- the scalar value of a high surrogate and the low one behind it
abbrev pub paired : ℕ → ℕ → ℕ
paired u v = 0x10000 + (u - 0xD800) * 0x400 + (v - 0xDC00)

-- what a unit alone stands for: a surrogate for U+FFFD, any other for itself
abbrev pub single : ℕ → ℕ
single u = pick (leb 0xD800 u && leb u 0xDFFF) 0xFFFD u

-- the scalar values of units: a high surrogate with a low one behind it is one, and so is every other unit
unfoldable pub scalars : List ℕ → List ℕ
scalars [] = []
scalars (u ∷ []) = single u ∷ []
scalars (u ∷ v ∷ us) = pick (is_high u && is_low v) (paired u v ∷ scalars us) (single u ∷ scalars (v ∷ us))

-- the bytes of a scalar value in UTF-8: 7 bits in one, 11 in two, 16 in three, 21 in four
unfoldable pub scalar_bytes : ℕ → List ℕ
scalar_bytes c =
    pick (ltb c 0x80) (c ∷ [])
    (pick (ltb c 0x800) ((0xC0 + c / 64) ∷ (0x80 + c % 64) ∷ [])
    (pick (ltb c 0x10000) ((0xE0 + c / 4096) ∷ (0x80 + c / 64 % 64) ∷ (0x80 + c % 64) ∷ [])
    ((0xF0 + c / 262144) ∷ (0x80 + c / 4096 % 64) ∷ (0x80 + c / 64 % 64) ∷ (0x80 + c % 64) ∷ [])))

-- the bytes of units in UTF-8
abbrev pub utf8 : List ℕ → List ℕ
utf8 us = joined scalar_bytes (scalars us)
