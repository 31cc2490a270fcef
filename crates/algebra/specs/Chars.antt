-- A signature, tag, type or unit by its characters, as the documents write it.
use Rattle.std.specs.Prelude.{ℕ, ◌+◌, ◌*◌}
use Prim.Native.String.{String, [] as empty, ◌∷◌ as ◌then◌}
use Prim.Native.Char.{code}

-- the characters behind a number n of those before, each in so many values
abbrev pub chars_from : ℕ → ℕ → String → ℕ
chars_from values n empty = n
chars_from values n (c then more) = chars_from values (n * values + code c) more

-- the number whose bytes, the highest first, are these characters in ASCII
abbrev pub chars : String → ℕ
chars s = chars_from 256 0 s

-- the same in units of 16 bits
abbrev pub wide_chars : String → ℕ
wide_chars s = chars_from 65536 0 s
