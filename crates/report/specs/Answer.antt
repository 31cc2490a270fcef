-- What each answer of the code says.
use Rattle.std.specs.Prelude.{ℕ, List, Result, Ok, Err}
use Rattle.fault.specs.Fault.{number_of}
use Rattle.fault.specs.declared.Fault.{Fault}
use Rattle.fault.specs.declared.Refusal.{Refusal}
use Rattle.report.specs.declared.Added.{Added}
use Rattle.report.specs.declared.Merged.{Merged}

-- the call's own number, 0 where there is a sum
abbrev pub told_answer : Result Unit Fault → ℕ
told_answer (Ok u) = 0
told_answer (Err f) = number_of f

-- a file's number and place; 0 and 0 where it is accepted
abbrev pub told_file : Result Unit Refusal → ℕ × ℕ
told_file (Ok u) = (0, 0)
told_file (Err e) = (number_of e.0, e.1)

abbrev pub told_added : Added → ℕ × ℕ × ℕ × List ℕ
told_added a = (told_answer a.answer, (told_file a.file).0, (told_file a.file).1, a.report.totals)

abbrev pub told_merged : Merged → ℕ × List ℕ
told_merged m = (told_answer m.answer, m.report.totals)
