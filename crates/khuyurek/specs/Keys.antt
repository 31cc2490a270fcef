-- What the exported answer about keys says: refusal number 0 is accepted, and all that an answer does not have is 0.
use Rattle.std.specs.Prelude.{ℕ, List}
use Rattle.descriptor_find.specs.Find.{Answered, answered, refused, among_keys}
use Rattle.khuyurek.specs.declared.keys.Found.{Found}

abbrev pub answer_of : Answered → Found
answer_of (answered n) = record { number = 0; in_keys = 0; place = 0; keys = n }
answer_of (refused x p) = record { number = x; in_keys = 0; place = p; keys = 0 }
answer_of (among_keys x p) = record { number = x; in_keys = 1; place = p; keys = 0 }

-- and what the run of answers then holds
abbrev pub found_of : Answered × List ℕ → Found × List ℕ
found_of a = (answer_of a.0, a.1)
