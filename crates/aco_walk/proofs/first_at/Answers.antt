use mathlib.Core.Path.{sym, ◌∙◌}
use native.Mathlib.Omega.{arith}
use Rattle.aco_walk.proofs.Stepping.{first_plain, first-named, first-none}
use Rattle.aco_walk.proofs.first_at.Goals as goal

pub returns-then-is_plain : goal.returns-then-is_plain
returns-then-is_plain c =
    first_plain c.args.file.now (sym c.is_plain.ensures ∙ c.if-is_plain.true)

pub returns-then-place-n : goal.returns-then-place-n
returns-then-place-n c =
    first-named c.args.file.now _ c.number_or_zero-count.ensures (sym c.is_plain.ensures ∙ c.if-is_plain.false) c.if-place-n.true

pub returns : goal.returns
returns c =
    first-none c.args.file.now _ c.number_or_zero-count.ensures (sym c.is_plain.ensures ∙ c.if-is_plain.false) (omega (arith, c.if-place-n.false))
