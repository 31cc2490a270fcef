-- Sets of byte strings, joined from smaller ones: what may stand in a file, with no place and no reading.
use Rattle.std.specs.Prelude.{ℕ, zero, suc, ◌^◌, ◌<◌, ◌≡◌, List, ◌++◌, length}
use Rattle.algebra.specs.Numbers.{be}

abbrev pub Field : Type 1
Field = List ℕ → Type 0

-- n bytes
abbrev pub Size : ℕ → Field
Size n b = length b ≡ n

-- a number of w bytes of which P holds
pub data Number (w : ℕ) (P : ℕ → Type 0) : List ℕ → Type 0 where
  number : (n : ℕ) → n < 256 ^ w → P n → Number w P (be w n)

-- one field, and then another
pub data Seq (X Y : Field) : List ℕ → Type 0 where
  seq : {x y : List ℕ} → X x → Y y → Seq X Y (x ++ y)

-- a number of 32 bits, and then what it says
pub data Prefixed (Y : ℕ → Field) : List ℕ → Type 0 where
  prefixed : (n : ℕ) {y : List ℕ} → n < 256 ^ 4 → Y n y → Prefixed Y (be 4 n ++ y)

-- X, where P holds
abbrev pub When : Type 0 → Field → Field
When P X b = P × X b

-- n of X, one after the other
abbrev pub Run : Field → ℕ → Field
Run X zero = Size 0
Run X (suc n) = Seq X (Run X n)
