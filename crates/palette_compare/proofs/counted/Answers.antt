use Prim.Native.Nat.{ℕ}
use mathlib.Core.Path.{◌≡◌, refl, ap, ◌∙◌}
use mathlib.Core.Bool.{not}
use denote.Enum.Bare.{sameb}
use lib.Dec.{eqb}
use mir.Val.{bool_byte}
use Rattle.algebra.specs.Reader.{pick}
use Rattle.palette_compare.specs.Answer.{told_kind}
use Rattle.palette_compare.specs.contracts.Difference.{the_type}
use Rattle.palette_compare.specs.declared.Difference.{Difference}
use Rattle.palette_compare.specs.declared.Difference.TheVariants as difference
use Rattle.palette_compare.proofs.counted.Goals as goal

marked : (d : Difference) → ◌≡◌ {A = ℕ} (bool_byte (not (sameb the_type d difference.Same))) (pick (eqb (told_kind d) 0) 0 1)
marked difference.Same = refl
marked difference.Name = refl
marked difference.Colour = refl
marked difference.Both = refl
marked difference.OnlyFirst = refl
marked difference.OnlySecond = refl

pub returns : goal.returns
returns c = c.from.ensures ∙ ap bool_byte c.ne.ensures ∙ marked c.args.kind
