-- Scaffolding: numbers that a stream is handed over by.
use Rattle.std.specs.Prelude.{ℕ, Bool, true, false}
use Rattle.aco_stream.specs.declared.Stream.{Stream}
use Rattle.khuyurek.specs.declared.stream.AcoStream.{AcoStream}

abbrev pub flag_of : Bool → ℕ
flag_of true = 1
flag_of false = 0

-- a stage with no more numbers than its own, its count and an index
abbrev pub plain_of : Stream → ℕ → ℕ → ℕ → AcoStream
plain_of s stage count index =
    record {
      total = s.total;
      got = s.got;
      place = 0;
      stage = stage;
      ended = flag_of s.ended;
      number = 0;
      at = 0;
      left = 0;
      zero = 0;
      count = count;
      index = index;
      rec = 0;
      field = 0;
      carry = s.carry;
    }
