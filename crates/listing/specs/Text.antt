-- The words of a listing, as bytes: docs/LISTINGS.md.
use Rattle.std.specs.Prelude.{ℕ, zero, suc, ◌+◌, ◌/◌, ◌%◌, List, [], ◌∷◌, ◌++◌, length, ltb, leb}
use Prim.Native.String.{String, [] as empty, ◌∷◌ as ◌then◌}
use Prim.Native.Char.{code}
use Rattle.algebra.specs.Reader.{pick}
use Rattle.algebra.specs.Numbers.{be, joined}

-- a text in ASCII
abbrev pub ascii : String → List ℕ
ascii empty = []
ascii (c then more) = code c ∷ ascii more

-- a digit: 0 to 9, A to F
unfoldable pub digit : ℕ → ℕ
digit d = pick (ltb d 10) (48 + d) (55 + d)

-- a number in decimal, without leading zeros, of at most k digits and one more
unfoldable pub decimal_in : ℕ → ℕ → List ℕ
decimal_in zero n = digit (n % 10) ∷ []
decimal_in (suc k) n = pick (ltb n 10) (digit n ∷ []) (decimal_in k (n / 10) ++ (digit (n % 10) ∷ []))

-- a number of 64 bits has at most 20 digits
abbrev pub decimal : ℕ → List ℕ
decimal n = decimal_in 19 n

-- a space, and a number
abbrev pub word : ℕ → List ℕ
word n = ascii " " ++ decimal n

-- a byte in hexadecimal
unfoldable pub hex : ℕ → List ℕ
hex b = digit (b / 16) ∷ digit (b % 16) ∷ []

-- a name, by the bytes of its units
unfoldable pub name : List ℕ → List ℕ
name [] = ascii "-"
name (b ∷ more) = joined hex (b ∷ more)

-- a number of 32 bits, its highest byte first
abbrev pub bits : ℕ → List ℕ
bits v = joined hex (be 4 v)

-- the lines of some records, which are numbered from i
unfoldable pub lines : {A : Type 0} → (ℕ → A → List ℕ) → ℕ → List A → List ℕ
lines line i [] = []
lines line i (a ∷ more) = line i a ++ lines line (i + 1) more

-- the line of a refused file
abbrev pub refusal : ℕ → ℕ → List ℕ
refusal number place = ascii "refused" ++ word number ++ ascii " at" ++ word place ++ ascii "\n"

-- what is put for a file, of which so many bytes are taken and the listing is known: a longer one is refusal 1
abbrev pub taken : ℕ → List ℕ → List ℕ → List ℕ
taken most file listing = pick (leb (length file) most) listing (refusal 1 0)
