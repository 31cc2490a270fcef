-- What the head of a row to be built is made of: numbers, and parts of the lent text. How long it is, its bytes and its first fault all follow one order of pieces.
use Rattle.std.specs.Prelude.{ℕ, ◌+◌, ◌*◌, ◌^◌, ◌<◌, ◌≡◌, List, [], ◌∷◌, length}
use Rattle.algebra.specs.Numbers.{be, nums, joined}
use Rattle.algebra.specs.Reader.{pick, body, each, number_of}
use Rattle.algebra.specs.Store.{part}
use Rattle.algebra.specs.Faults.{first_of, faults}
use Rattle.descriptor.specs.Reading.{shut, double}

-- a number v of w bytes whose content has the fault x, 0 for none; n bytes of the text from a place on; n units; n doubles
pub data Piece : Type 0 where
  number : (w v x : ℕ) → Piece
  run units doubles : (first n : ℕ) → Piece

-- how many bytes it takes; a part of the text counts as long as it is given
abbrev pub size_of : Piece → ℕ
size_of (number w v x) = w
size_of (run first n) = n
size_of (units first n) = 2 * n
size_of (doubles first n) = 8 * n

abbrev pub bytes_of : (text : List ℕ) → Piece → List ℕ
bytes_of text (number w v x) = be w v
bytes_of text (run first n) = part text first n
bytes_of text (units first n) = part text first (2 * n)
bytes_of text (doubles first n) = part text first (8 * n)

-- its fault: a part outside the text is 2, one of no bytes never; units of which the last is not zero are then 8; doubles are judged one after the other
abbrev pub fault_of : (text : List ℕ) → Piece → ℕ
fault_of text (number w v x) = x
fault_of text (run first n) = number_of (body 1 n text first)
fault_of text (units first n) = first_of (number_of (body 2 n text first)) (pick (shut (nums 2 n text first)) 0 8)
fault_of text (doubles first n) = number_of (each n 0 (λ i. double) text first)

-- ---- the same of pieces in their order

unfoldable pub size : List Piece → ℕ
size [] = 0
size (p ∷ ps) = size_of p + size ps

abbrev pub bytes : (text : List ℕ) → List Piece → List ℕ
bytes text ps = joined (bytes_of text) ps

abbrev pub fault : (text : List ℕ) → List Piece → ℕ
fault text ps = faults (fault_of text) ps

-- ---- pieces that fit their fields: a number its bytes, and a part lies in the text

abbrev pub Fit : (text : List ℕ) → Piece → Type 0
Fit text (number w v x) = v < 256 ^ w
Fit text (run first n) = length (part text first n) ≡ n
Fit text (units first n) = length (part text first (2 * n)) ≡ 2 * n
Fit text (doubles first n) = length (part text first (8 * n)) ≡ 8 * n

abbrev pub Fits : (text : List ℕ) → List Piece → Type 0
Fits text [] = Unit {0}
Fits text (p ∷ ps) = Fit text p × Fits text ps
