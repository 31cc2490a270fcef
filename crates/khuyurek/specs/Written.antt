-- What the exported answer of a writer says: refusal number 0 is accepted, and all that an answer does not have is 0.
use Rattle.std.specs.Prelude.{ℕ, List}
use Rattle.algebra.specs.Writing.{Outcome, bytes, refused}
use Rattle.khuyurek.specs.declared.Length.{Length}

abbrev pub written_of : Outcome → Length
written_of (bytes n) = record { number = 0; size = n }
written_of (refused x p) = record { number = x; size = 0 }

-- and what the lent buffer then holds
abbrev pub wrote_of : Outcome × List ℕ → Length × List ℕ
wrote_of o = (written_of o.0, o.1)
