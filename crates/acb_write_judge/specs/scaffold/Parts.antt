-- Scaffolding: the form in which the code goes; cited by private contracts and by proofs.
use Rattle.std.specs.Prelude.{ℕ, ◌+◌, ◌≤◌, ◌≡◌, List, ◌++◌, map, eqb, Result, Ok, Err}
use Rattle.algebra.specs.Chars.{chars}
use Rattle.algebra.specs.Numbers.{be, joined}
use Rattle.algebra.specs.Reader.{pick}
use Rattle.algebra.specs.Faults.{faults}
use Rattle.algebra.specs.Writing.{Outcome, needs}
use Rattle.fault.specs.Fault.{number_of}
use Rattle.fault.specs.declared.Fault.{Fault}
use Rattle.acb.specs.Grammar.{bytes_of_string, Ending}
use Rattle.acb_judge.specs.Answer.{HeaderPlaces}
use Rattle.acb_writing.specs.Writing.{units_within, sizes, string_size, size_within, size, text_fault, colour_fault, other_fault}
use Rattle.algebra.specs.Table.{row_at}
use Rattle.acb.specs.Row.{RecordRow, width, taken}

-- a judgement's number, 0 where there is no fault
abbrev pub told_fault : Result Unit Fault → ℕ
told_fault (Ok u) = 0
told_fault (Err f) = number_of f

-- the length that writing needs, or the refusal, apart from the inks
abbrev pub needed_apart : List ℕ → HeaderPlaces → Ending → List RecordRow → Outcome
needed_apart text h t gs = needs (other_fault text h t gs) (size h t gs)

-- record k of a run
abbrev pub given_at : List ℕ → ℕ → RecordRow
given_at run k = taken (row_at width run k)

-- where a string begins; 0 for one of no units, whose place may be any
abbrev pub start : ℕ × ℕ → ℕ
start l = pick (eqb l.1 0) 0 l.0

-- the numbers of a header behind its strings
abbrev pub number_bytes : HeaderPlaces → ℕ → List ℕ
number_bytes h count = be 2 count ++ (be 2 h.size ++ (be 2 h.offset ++ be 2 h.space))

-- a header before so many records
abbrev pub heading_bytes : List ℕ → HeaderPlaces → ℕ → List ℕ
heading_bytes text h count = be 4 (chars "8BCB") ++ (be 2 1 ++ (be 2 h.identifier ++ (joined bytes_of_string (map (units_within text) h.texts) ++ number_bytes h count)))

pub record StringFits (text : List ℕ) (l : ℕ × ℕ) (at room : ℕ) : Type 0 where
  pub inside : at + string_size l ≤ room
  pub sound : text_fault text l ≡ 0

pub record TextsFit (text : List ℕ) (ls : List (ℕ × ℕ)) (at room : ℕ) : Type 0 where
  pub inside : at + sizes string_size ls ≤ room
  pub sound : faults (text_fault text) ls ≡ 0

pub record RecordFits (text : List ℕ) (n : ℕ) (g : RecordRow) (at room : ℕ) : Type 0 where
  pub least : 3 ≤ n
  pub most : n ≤ 4
  pub inside : at + size_within n g ≤ room
  pub sound : colour_fault text n g ≡ 0

pub record RecordsFit (text : List ℕ) (n : ℕ) (gs : List RecordRow) (at room : ℕ) : Type 0 where
  pub least : 3 ≤ n
  pub most : n ≤ 4
  pub inside : at + sizes (size_within n) gs ≤ room
  pub sound : faults (colour_fault text n) gs ≡ 0
