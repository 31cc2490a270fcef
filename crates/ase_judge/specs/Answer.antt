-- What each answer of the code says.
use Rattle.std.specs.Prelude.{ℕ, ◌+◌, List, [], ◌∷◌, length, Result, Ok, Err}
use Rattle.algebra.specs.Reader.{Res, ok}
use Rattle.algebra.specs.Table.{Verdict, accepted, refused}
use Rattle.fault.specs.Fault.{number_of}
use Rattle.fault.specs.Answer.{told as Fault·told}
use Rattle.fault.specs.declared.Refusal.{Refusal}
use Rattle.ase.specs.Reading.{Entry, group_start_read, group_end_read, colour_read, open_after_entry}
use Rattle.ase_judge.specs.declared.Counts.{Counts}
use Rattle.ase_judge.specs.declared.Passed.{Passed}

-- 1 for a colour, else 0
abbrev pub colour_in : Entry → ℕ
colour_in (group_start_read nm) = 0
colour_in group_end_read = 0
colour_in (colour_read nm t bs k) = 1

-- how many of some records are colours
unfoldable pub colours : List Entry → ℕ
colours [] = 0
colours (e ∷ es) = colour_in e + colours es

-- what is reported of an accepted file: the number of blocks and of colours
abbrev pub report : List Entry → ℕ × ℕ
report es = (length es, colours es)

abbrev pub told : Result Counts Refusal → Verdict (ℕ × ℕ)
told (Ok c) = accepted (c.blocks, c.colours)
told (Err e) = refused (number_of e.0) e.1 0 0

-- what is told of a block that was passed, where d groups stood open: how many then do, and how many colours it is
abbrev pub passed : ℕ → Entry → ℕ × ℕ
passed d e = (open_after_entry d e, colour_in e)

abbrev pub told_passed : Result Passed Refusal → Res (ℕ × ℕ)
told_passed r = Fault·told (λ (p : Passed). ok (p.depth, p.colours) p.next) r
