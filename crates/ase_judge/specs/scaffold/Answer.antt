-- Scaffolding: the form in which the code goes; cited by private contracts and by proofs.
use Rattle.std.specs.Prelude.{ℕ, List}
use Rattle.algebra.specs.Reader.{state_after}
use Rattle.ase.specs.Reading.{Entry, open_after_entry}
use Rattle.ase_judge.specs.Answer.{colours}

-- the same of some blocks
abbrev pub tally : ℕ → List Entry → ℕ × ℕ
tally d es = (state_after open_after_entry d es, colours es)
