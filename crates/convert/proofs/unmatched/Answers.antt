use mathlib.Core.Bool.{Bool}
use mathlib.Core.Path.{sym, ap, ◌∙◌}
use Rattle.conversion.specs.Convert.{unmatched}
use Rattle.convert.proofs.unmatched.Goals as goal

pub returns-then-is_known : goal.returns-then-is_known
returns-then-is_known c = ap (λ (b : Bool). unmatched b) (sym c.if-is_known.true ∙ c.is_known.ensures)

pub returns : goal.returns
returns c = ap (λ (b : Bool). unmatched b) (sym c.if-is_known.false ∙ c.is_known.ensures)
