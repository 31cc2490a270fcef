-- What each exported answer of a conversion says: refusal number 0 is given, and all that an answer does not have is 0.
use Rattle.std.specs.Prelude.{ℕ, Float}
use Rattle.std.specs.Float.{binary32}
use Rattle.std.specs.Float.Ieee.{to_bits}
use Rattle.conversion.specs.Convert.{Converted, gives, refused}
use Rattle.khuyurek.specs.declared.conversions.ChannelBits.{ChannelBits}
use Rattle.khuyurek.specs.declared.conversions.SampleValue.{SampleValue}

abbrev pub channel_of : Converted Float → ChannelBits
channel_of (gives x) = record { number = 0; bits = to_bits binary32 x }
channel_of (refused n p) = record { number = n; bits = 0 }

abbrev pub sample_of : Converted ℕ → SampleValue
sample_of (gives v) = record { number = 0; sample = v }
sample_of (refused n p) = record { number = n; sample = 0 }
