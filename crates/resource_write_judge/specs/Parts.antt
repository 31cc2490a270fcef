-- What the parts of judging and storing take. No rule stands here.
use Rattle.std.specs.Prelude.{ℕ, ◌/◌, List, [], ltb, length}
use Rattle.algebra.specs.Reader.{pick}
use Rattle.algebra.specs.Table.{row_at}
use Rattle.resource.specs.Rows.{width, taken}
use Rattle.resource.specs.declared.Record.{Record}

-- record k of a run, all zeros where the run does not have it whole
abbrev pub record_in : List ℕ → ℕ → Record
record_in run k = pick (ltb k (length run / width)) (taken (row_at width run k)) (taken [])
