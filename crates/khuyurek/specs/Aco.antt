-- What each exported answer about ACO says: refusal number 0 is accepted, and all that an answer does not have is 0.
use Rattle.std.specs.Prelude.{ℕ, List}
use Rattle.algebra.specs.Table.{Verdict, accepted, refused}
use Rattle.colour.specs.declared.space.Colour.{Colour}
use Rattle.khuyurek.specs.declared.swatches.AcoAnswer.{AcoAnswer}
use Rattle.khuyurek.specs.declared.swatches.AcoRecord.{AcoRecord}

abbrev pub answer_of : Verdict (ℕ × ℕ) → AcoAnswer
answer_of (accepted w) = record { number = 0; place = 0; rec = 0; field = 0; colours = w.0; lists = w.1 }
answer_of (refused x p r f) = record { number = x; place = p; rec = r; field = f; colours = 0; lists = 0 }

-- an answer, and what the lent buffer then holds
abbrev pub read_of : Verdict (ℕ × ℕ) × List ℕ → AcoAnswer × List ℕ
read_of v = (answer_of v.0, v.1)

abbrev pub placed : Colour → ℕ → Verdict (ℕ × ℕ) → AcoRecord
placed c k (accepted w) = record { number = 0; units = w.1; place = 0; rec = 0; field = 0; name = w.0; space = c.space; samples = c.samples; ink = k }
placed c k (refused x p r f) = record { number = x; units = 0; place = p; rec = r; field = f; name = 0; space = c.space; samples = c.samples; ink = k }

abbrev pub to_record : Colour × Verdict (ℕ × ℕ) × ℕ → AcoRecord
to_record w = placed w.0 w.2 w.1
