-- What the parts of judging and storing take.
use Rattle.std.specs.Prelude.{ℕ, List, [], get_or}
use Rattle.acb_judge.specs.Answer.{told_text}
use Rattle.acb_write_judge.specs.declared.Record.{Record}
use Rattle.algebra.specs.Table.{whole}
use Rattle.acb.specs.Row.{RecordRow, width, taken}

-- the same, all zeros where the run does not have it whole
abbrev pub record_in : List ℕ → ℕ → RecordRow
record_in run k = get_or (whole width taken run) k (taken [])

-- a record that was taken out of a run
abbrev pub told_record : Record → RecordRow
told_record r = record {
  name = told_text r.name;
  code = r.code;
  components = r.components;
  ink = r.ink;
}
