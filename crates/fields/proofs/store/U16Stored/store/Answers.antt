use mathlib.Core.Path.{sym, ◌∙◌}
use native.Mathlib.Omega.{arith}
use native.Mathlib.Numerals.{unary_clauses}
use borrow.Author.Tests.{leb-true, leb-false}
use Rattle.algebra.specs.Numbers.{be}
use Rattle.algebra.proofs.Stores.{stored-in, stored-out}
use Rattle.fields.proofs.store.U16Stored.store.Goals as goal

pub returns-then-not-has_bytes : goal.returns-then-not-has_bytes
unfolding be
returns-then-not-has_bytes c = sym (stored-out _ _ (be 2 _) (omega (arith, leb-false _ _ (sym c.has_bytes.ensures ∙ c.if-not-has_bytes.true))))

pub returns : goal.returns
unfolding be
returns c = (simp unary_clauses) ∙ sym (stored-in _ _ (be 2 _) (omega (arith, leb-true _ _ (sym c.has_bytes.ensures ∙ c.if-not-has_bytes.false))))
