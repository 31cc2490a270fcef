use mathlib.Core.Path.{sym, ap}
use borrow.Author.Tests.{ne_eqb}
use Rattle.khuyurek.specs.Seasons.{palette_kind}
use Rattle.khuyurek.proofs.seasons.palette_kind.Goals as goal

pub returns-in-0 : goal.returns-in-0
unfolding palette_kind
returns-in-0 c = ap palette_kind (sym c.in-0.is)

pub returns-in-1 : goal.returns-in-1
unfolding palette_kind
returns-in-1 c = ap palette_kind (sym c.in-1.is)

pub returns-in_default : goal.returns-in_default
unfolding palette_kind
returns-in_default c = let r = c.in_default.in_default-own.rest in simp (ne_eqb _ _ r.0.1, ne_eqb _ _ r.1)
