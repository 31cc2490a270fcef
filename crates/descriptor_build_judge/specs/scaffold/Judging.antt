-- Scaffolding: the form in which the code goes; cited by private contracts and by proofs.
use Rattle.std.specs.Prelude.{ℕ, ◌*◌, ◌≤◌, List, length}
use Rattle.algebra.specs.Reader.{limit}
use Rattle.algebra.specs.Table.{row_at}
use Rattle.descriptor_entry.specs.Shapes.{width, object}
use Rattle.descriptor_entry.specs.Entries.{root_pieces, asks}
use Rattle.descriptor_entry_judge.specs.Judging.{Judges}
use Rattle.descriptor_entry_judge.specs.declared.Judged.{Judged}

-- n entries, of which the root's head is judged
pub record Begun (text run : List ℕ) (n : ℕ) (r : Judged) : Type 0 where
  pub inside : width * n ≤ length run
  pub some : 1 ≤ n
  pub judged : Judges text (root_pieces (row_at width run 0)) (asks object 0 0 0 (row_at width run 0)) r
  pub within : r.size ≤ limit
