use mathlib.Core.Path.{sym, ap, ◌∙◌}
use borrow.Author.Tests.{eqb-true, eqb-false}
use native.Mathlib.Omega.{arith}
use Rattle.listing.specs.Buffer.{put_all}
use Rattle.listing.proofs.Wording.{name-none, name-some}
use Rattle.listing.proofs.put_name.Goals as goal

pub returns-then-is_empty : goal.returns-then-is_empty
unfolding put_all
returns-then-is_empty c = let a = c.args in c.put.ensures ∙ ap (put_all (a.out.now, a.n)) (sym (name-none a.units.now (eqb-true _ _ (sym c.is_empty.ensures ∙ c.if-is_empty.true))))

pub returns : goal.returns
returns c = let a = c.args in c.put_bytes.ensures ∙ ap (put_all (a.out.now, a.n)) (sym (name-some a.units.now (omega (arith, eqb-false _ _ (sym c.is_empty.ensures ∙ c.if-is_empty.false)))))
