-- Scaffolding: a name's bytes by units, in private contracts. What is public cites nothing of it.
use Rattle.std.specs.Prelude.{ℕ, ◌/◌, ◌≤◌, ◌≡◌, List, length, Result, Ok, Err}
use Rattle.algebra.specs.Numbers.{nums}
use Rattle.fault.specs.Fault.{number_of}
use Rattle.fault.specs.declared.Fault.{Fault}
use Rattle.unicode_utf8.specs.Answer.{name_fault}
use denote.Ref.{Bor}

-- the units of a name's bytes
unfoldable pub units_within : List ℕ → List ℕ
units_within b = nums 2 (length b / 2) b 0

-- the bytes of n units that stand in a file from `at`; or why they do not
abbrev pub Found : List ℕ → ℕ → ℕ → Result (Bor (List ℕ)) Fault → Type 0
Found s at n (Ok b) = (name_fault s at n ≡ 0) × (units_within b.now ≡ nums 2 n s at) × (length b.now ≤ 16777216)
Found s at n (Err f) = number_of f ≡ name_fault s at n
