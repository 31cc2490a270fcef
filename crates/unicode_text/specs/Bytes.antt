-- UTF-8 by its bytes: what is well-formed, and the scalar values that bytes spell.
use Rattle.std.specs.Prelude.{ℕ, zero, suc, ◌+◌, ◌-◌, ◌*◌, ◌≤◌, List, [], ◌∷◌, ◌++◌, ltb}
use Rattle.algebra.specs.Reader.{pick}

abbrev pub From : ℕ → ℕ → ℕ → Type 0
From low high b = (low ≤ b) × (b ≤ high)

-- a continuation byte
abbrev pub Tail : ℕ → Type 0
Tail b = From 0x80 0xBF b

-- the bytes of one scalar value: the rows of the Unicode Standard's table of well-formed byte sequences
pub data Sequence : List ℕ → Type 0 where
  ascii : {a : ℕ} → From 0x00 0x7F a → Sequence (a ∷ [])
  two : {a b : ℕ} → From 0xC2 0xDF a → Tail b → Sequence (a ∷ b ∷ [])
  lowest_three : {b c : ℕ} → From 0xA0 0xBF b → Tail c → Sequence (0xE0 ∷ b ∷ c ∷ [])
  three : {a b c : ℕ} → From 0xE1 0xEC a → Tail b → Tail c → Sequence (a ∷ b ∷ c ∷ [])
  before_surrogates : {b c : ℕ} → From 0x80 0x9F b → Tail c → Sequence (0xED ∷ b ∷ c ∷ [])
  highest_three : {a b c : ℕ} → From 0xEE 0xEF a → Tail b → Tail c → Sequence (a ∷ b ∷ c ∷ [])
  lowest_four : {b c d : ℕ} → From 0x90 0xBF b → Tail c → Tail d → Sequence (0xF0 ∷ b ∷ c ∷ d ∷ [])
  four : {a b c d : ℕ} → From 0xF1 0xF3 a → Tail b → Tail c → Tail d → Sequence (a ∷ b ∷ c ∷ d ∷ [])
  highest_four : {b c d : ℕ} → From 0x80 0x8F b → Tail c → Tail d → Sequence (0xF4 ∷ b ∷ c ∷ d ∷ [])

-- sequences one after the other
pub data WellFormed : List ℕ → Type 0 where
  none : WellFormed []
  more : {a b : List ℕ} → Sequence a → WellFormed b → WellFormed (a ++ b)

-- how many continuation bytes a leading byte of 0xC0 or more has, and what it gives to the value
abbrev pub tails : ℕ → ℕ
tails b = pick (ltb b 0xE0) 1 (pick (ltb b 0xF0) 2 3)

abbrev pub lead : ℕ → ℕ
lead b = pick (ltb b 0xE0) (b - 0xC0) (pick (ltb b 0xF0) (b - 0xE0) (b - 0xF0))

-- the scalar values that bytes spell, where k continuation bytes are due and v is what those before them gave; nothing here is judged
unfoldable pub decoded_from : ℕ → ℕ → List ℕ → List ℕ
decoded_from k v [] = []
decoded_from zero v (b ∷ bs) = pick (ltb b 0x80) (b ∷ decoded_from 0 0 bs) (decoded_from (tails b) (lead b) bs)
decoded_from (suc zero) v (b ∷ bs) = (v * 64 + (b - 0x80)) ∷ decoded_from 0 0 bs
decoded_from (suc (suc k)) v (b ∷ bs) = decoded_from (suc k) (v * 64 + (b - 0x80)) bs

abbrev pub decoded : List ℕ → List ℕ
decoded bs = decoded_from 0 0 bs
