-- What each exported answer about image resource blocks says: refusal number 0 is accepted, and all that an answer does not have is 0.
use Rattle.std.specs.Prelude.{ℕ, List}
use Rattle.algebra.specs.Table.{Verdict, accepted, refused}
use Rattle.resource.specs.declared.Record.{Record}
use Rattle.khuyurek.specs.declared.resources.ResourceAnswer.{ResourceAnswer}
use Rattle.khuyurek.specs.declared.resources.ResourceRecord.{ResourceRecord}
use Rattle.khuyurek.specs.declared.resources.ResourceFound.{ResourceFound}
use Rattle.khuyurek.specs.declared.resources.Section.{Section}

abbrev pub answer_of : Verdict ℕ → ResourceAnswer
answer_of (accepted n) = record { number = 0; place = 0; blocks = n }
answer_of (refused x p r f) = record { number = x; place = p; blocks = 0 }

-- an answer, and what the lent table then holds
abbrev pub read_of : Verdict ℕ × List ℕ → ResourceAnswer × List ℕ
read_of v = (answer_of v.0, v.1)

abbrev pub to_record : Verdict Record → ResourceRecord
to_record (accepted r) = record { number = 0; id = r.id; place = 0; name = r.name; name_length = r.letters; «data» = r.payload; data_length = r.size }
to_record (refused x p r f) = record { number = x; id = 0; place = p; name = 0; name_length = 0; «data» = 0; data_length = 0 }

abbrev pub found_of : Verdict ℕ → ResourceFound
found_of (accepted i) = record { number = 0; place = 0; index = i }
found_of (refused x p r f) = record { number = x; place = p; index = 0 }

abbrev pub section_of : Verdict (ℕ × ℕ) → Section
section_of (accepted l) = record { number = 0; place = 0; first = l.0; length = l.1 }
section_of (refused x p r f) = record { number = x; place = p; first = 0; length = 0 }
