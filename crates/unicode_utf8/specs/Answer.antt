-- What the calls answer, and what they leave in the lent bytes.
use Rattle.std.specs.Prelude.{ℕ, ◌-◌, ◌*◌, List, length, leb}
use Rattle.algebra.specs.Numbers.{nums}
use Rattle.algebra.specs.Reader.{pick, limit}
use Rattle.algebra.specs.Writing.{Outcome, needs, writes}
use Rattle.unicode_text.specs.Reading.{utf8}

-- of units alone: 1 where their bytes pass the limit
abbrev pub units_fault : List ℕ → ℕ
units_fault us = pick (leb (2 * length us) limit) 0 1

abbrev pub length_of : List ℕ → Outcome
length_of us = needs (units_fault us) (length (utf8 us))

abbrev pub written : List ℕ → List ℕ → Outcome × List ℕ
written us out = writes (units_fault us) (length (utf8 us)) (utf8 us) out

-- of n units that stand in a file from `at`: 1 where the file passes the limit, 2 where they pass its end
abbrev pub name_fault : List ℕ → ℕ → ℕ → ℕ
name_fault s at n = pick (leb (length s) limit) (pick (leb (2 * n) (length s - at)) 0 2) 1

abbrev pub length_of_name : List ℕ → ℕ → ℕ → Outcome
length_of_name s at n = needs (name_fault s at n) (length (utf8 (nums 2 n s at)))

abbrev pub name_written : List ℕ → ℕ → ℕ → List ℕ → Outcome × List ℕ
name_written s at n out = writes (name_fault s at n) (length (utf8 (nums 2 n s at))) (utf8 (nums 2 n s at)) out
