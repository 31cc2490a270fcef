-- A buffer that is filled byte by byte, and written out when it is full.
use Rattle.std.specs.Prelude.{ℕ, ◌+◌, List, [], ◌∷◌, length, set, ltb}
use Rattle.algebra.specs.Reader.{pick}

-- the bytes of a buffer, and how many of them are full
abbrev pub Buffer : Type 0
Buffer = List ℕ × ℕ

-- a byte goes behind those that are full; a full buffer, which is written out, starts anew; one without bytes takes none
unfoldable pub put_byte : Buffer → ℕ → Buffer
put_byte (out, n) b = pick (ltb n (length out)) (set out n b, n + 1) (pick (ltb 0 (length out)) (set out 0 b, 1) (out, 0))

-- bytes one after the other
unfoldable pub put_all : Buffer → List ℕ → Buffer
put_all buffer [] = buffer
put_all buffer (b ∷ more) = put_all (put_byte buffer b) more
