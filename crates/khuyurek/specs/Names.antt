-- What each exported answer about a book's index says: refusal number 0 is accepted, and all that an answer does not have is 0.
use Rattle.std.specs.Prelude.{ℕ, List}
use Rattle.algebra.specs.Table.{Verdict, accepted, refused}
use Rattle.khuyurek.specs.declared.indexes.AcbIndexed.{AcbIndexed}
use Rattle.khuyurek.specs.declared.indexes.AcbFound.{AcbFound}

abbrev pub answer_of : Verdict ℕ → AcbIndexed
answer_of (accepted n) = record { number = 0; place = 0; shown = n }
answer_of (refused x p r f) = record { number = x; place = p; shown = 0 }

-- an answer, and what the lent index then holds
abbrev pub indexed_of : Verdict ℕ × List ℕ → AcbIndexed × List ℕ
indexed_of v = (answer_of v.0, v.1)

abbrev pub found_of : Verdict ℕ → AcbFound
found_of (accepted i) = record { number = 0; place = 0; «record» = i }
found_of (refused x p r f) = record { number = x; place = p; «record» = 0 }
