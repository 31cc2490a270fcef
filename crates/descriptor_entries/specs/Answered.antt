-- What the call answers, and what the lent run then holds.
use Rattle.std.specs.Prelude.{ℕ, ◌*◌, List, leb, length}
use Rattle.algebra.specs.Numbers.{joined}
use Rattle.algebra.specs.Reader.{Res, ok, refuse, pick}
use Rattle.descriptor_heads.specs.Heads.{Opened, file_heads}
use Rattle.descriptor_judge.specs.Answer.{Verdict, accepted, refused}
use Rattle.descriptor_columns.specs.Filled.{onto}
use Rattle.descriptor_entry.specs.Shapes.{width, Entry}
use Rattle.descriptor_entries.specs.Taken.{entries_of}

-- entries one after the other, as a run of numbers
abbrev pub numbers : List Entry → List ℕ
numbers es = joined (λ e. e) es

-- the number of rows, and their entries at the beginning of the run, past which it is as it was; 11 where it is shorter than they are; a refusal changes nothing, the file's own first
abbrev pub answered : (s : List ℕ) → Res (List Opened) → (run : List ℕ) → Verdict × List ℕ
answered s (ok os q) run = pick (leb (width * length os) (length run)) (accepted (length os), onto (numbers (entries_of s os)) run) (refused 11 0, run)
answered s (refuse x p r f) run = (refused x p, run)

-- of a file s and a lent run
abbrev pub entered : (s run : List ℕ) → Verdict × List ℕ
entered s run = answered s (file_heads s) run
