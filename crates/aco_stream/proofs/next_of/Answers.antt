use mathlib.Core.Path.{sym, ap, ◌∙◌}
use Rattle.aco_chunks.specs.declared.Stage.{Stage}
use Rattle.aco_chunks.specs.Chunks.{next}
use Rattle.aco_stream.proofs.next_of.Goals as goal

pub returns-in-First : goal.returns-in-First
returns-in-First c = let a = c.args in c.colours_of.ensures ∙ sym (ap (λ (g : Stage). next g a.from a.u) c.in-First.is)

pub returns-in-Colour : goal.returns-in-Colour
returns-in-Colour c = let a = c.args in c.colours_of-in-Colour.ensures ∙ sym (ap (λ (g : Stage). next g a.from a.u) c.in-Colour.is)

pub returns-in-Second : goal.returns-in-Second
returns-in-Second c = let a = c.args in c.entries_of.ensures ∙ sym (ap (λ (g : Stage). next g a.from a.u) c.in-Second.is)

pub returns-in-Entry : goal.returns-in-Entry
returns-in-Entry c = let a = c.args in sym (ap (λ (g : Stage). next g a.from a.u) c.in-Entry.is)

pub returns-in-Unit : goal.returns-in-Unit
returns-in-Unit c = let a = c.args in c.unit_of.ensures ∙ sym (ap (λ (g : Stage). next g a.from a.u) c.in-Unit.is)

pub returns-in-End : goal.returns-in-End
returns-in-End c = let a = c.args in sym (ap (λ (g : Stage). next g a.from a.u) c.in-End.is)

pub returns-in-Fault : goal.returns-in-Fault
returns-in-Fault c = let a = c.args in sym (ap (λ (g : Stage). next g a.from a.u) c.in-Fault.is)
