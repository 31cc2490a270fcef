use mathlib.Core.Path.{sym, ap, ◌∙◌}
use Rattle.algebra.specs.Reader.{ok}
use Rattle.aco_chunks.specs.declared.Stage.{Stage}
use Rattle.aco_chunks.specs.Chunks.{kept}
use Rattle.aco_items.proofs.keep.Goals as goal

pub returns-in-Colour : goal.returns-in-Colour
returns-in-Colour c = let a = c.args in c.put_run.ensures ∙ sym (ap (λ (g : Stage). kept g (ok 0 0) a.bytes.now a.store.now) c.in-Colour.is)
