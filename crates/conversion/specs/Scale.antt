-- A sample as a channel, and back, on a scale from 0 to n.
use Rattle.std.specs.Prelude.{ℕ, ◌+◌, ◌*◌, ◌/◌, pos, leb, Float}
use Rattle.std.specs.Float.{binary32}
use Rattle.std.specs.Float.Ieee.{div, of_bits, of_int}
use Rattle.std.specs.Float.Ieee.Positive.{num, den}
use Rattle.algebra.specs.Reader.{pick}

-- one 32-bit division of the sample by n
abbrev pub channel_of : ℕ → ℕ → Float
channel_of n s = div binary32 (of_int binary32 (pos s)) (of_int binary32 (pos n))

-- the whole number nearest to a / c, halves upward
abbrev pub nearest_up : ℕ → ℕ → ℕ
nearest_up a c = (2 * a + c) / (2 * c)

-- the whole number nearest to n times a channel from 0 to 1, which is the fraction num / den
unfoldable pub sample_of : ℕ → Float → ℕ
sample_of n x = nearest_up (n * num x) (den x)

-- the same of a channel's bits; 0 where they stand behind those of 1, as minus zero's do, which is zero
abbrev pub sample_of_bits : ℕ → ℕ → ℕ
sample_of_bits n b = pick (leb b 0x3f80_0000) (sample_of n (of_bits binary32 b)) 0
