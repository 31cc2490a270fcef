-- Text in 16-bit units, as pieces: scalar values, and surrogates that have no partner. Nothing here reads.
use Rattle.std.specs.Prelude.{ℕ, ◌+◌, ◌-◌, ◌/◌, ◌%◌, ◌≤◌, ◌<◌, ◌≡◌, List, [], ◌∷◌, ltb, get_or}
use Rattle.algebra.specs.Reader.{pick}
use Rattle.algebra.specs.Numbers.{joined}

-- a Unicode scalar value: a code point that is no surrogate
pub data Scalar : ℕ → Type 0 where
  below : {c : ℕ} → c < 0xD800 → Scalar c
  above : {c : ℕ} → 0xE000 ≤ c → c < 0x110000 → Scalar c

-- the units of a scalar value in UTF-16: itself below 0x10000, else a high and a low surrogate with ten bits each of what it has beyond
unfoldable pub utf16 : ℕ → List ℕ
utf16 c = pick (ltb c 0x10000) (c ∷ []) ((0xD800 + (c - 0x10000) / 0x400) ∷ (0xDC00 + (c - 0x10000) % 0x400) ∷ [])

abbrev pub Scalars : List ℕ → Type 0
Scalars [] = Unit
Scalars (c ∷ cs) = Scalar c × Scalars cs

-- units in which every surrogate has its partner: the units of some scalar values
abbrev pub Paired : List ℕ → Type 0
Paired us = (cs : List ℕ) × Scalars cs × (joined utf16 cs ≡ us)

-- text of any units
pub data Piece : Type 0 where
  scalar : ℕ → Piece
  -- a high or a low surrogate without its partner, by its ten bits
  high : ℕ → Piece
  low : ℕ → Piece

-- the units of a text
abbrev pub units_held : Piece → List ℕ
units_held (scalar c) = utf16 c
units_held (high h) = (0xD800 + h) ∷ []
units_held (low l) = (0xDC00 + l) ∷ []

abbrev pub text_units : List Piece → List ℕ
text_units ps = joined units_held ps

-- what each piece is shown as: a surrogate without its partner as U+FFFD
abbrev pub shown_as : Piece → ℕ
shown_as (scalar c) = c
shown_as (high h) = 0xFFFD
shown_as (low l) = 0xFFFD

-- a piece in its bounds
abbrev pub Sound : Piece → Type 0
Sound (scalar c) = Scalar c
Sound (high h) = h < 0x400
Sound (low l) = l < 0x400

-- the first piece is no low surrogate without its partner
abbrev pub NoLow : List Piece → Type 0
NoLow [] = Unit
NoLow (scalar c ∷ ps) = Unit
NoLow (high h ∷ ps) = Unit
NoLow (low l ∷ ps) = ⊥

-- behind a high surrogate without its partner no low one stands
abbrev pub Apart : Piece → List Piece → Type 0
Apart (scalar c) ps = Unit
Apart (high h) ps = NoLow ps
Apart (low l) ps = Unit

-- pieces that are a text
abbrev pub Text : List Piece → Type 0
Text [] = Unit
Text (p ∷ ps) = Sound p × Apart p ps × Text ps

-- every number of a list is a unit, as in a lent `&[u16]`
abbrev pub Units : List ℕ → Type 0
Units us = (k : ℕ) → get_or us k 0 < 0x10000
