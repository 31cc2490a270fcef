use mathlib.Core.Path.{sym, ap}
use borrow.Author.Tests.{ne_eqb}
use Rattle.colour.specs.Inks.{ink_of}
use Rattle.colour.proofs.ink.Ink.from.Goals as goal

pub returns-in-0 : goal.returns-in-0
unfolding ink_of
returns-in-0 c = ap ink_of (sym c.in-0.is)

pub returns-in-1 : goal.returns-in-1
unfolding ink_of
returns-in-1 c = ap ink_of (sym c.in-1.is)

pub returns-in-2 : goal.returns-in-2
unfolding ink_of
returns-in-2 c = ap ink_of (sym c.in-2.is)

pub returns-in-3 : goal.returns-in-3
unfolding ink_of
returns-in-3 c = ap ink_of (sym c.in-3.is)

pub returns-in-4 : goal.returns-in-4
unfolding ink_of
returns-in-4 c = ap ink_of (sym c.in-4.is)

pub returns-in_default : goal.returns-in_default
unfolding ink_of
returns-in_default c = let r = c.in_default.in_default-own.rest in simp (ne_eqb _ _ r.0.0.0.0.1, ne_eqb _ _ r.0.0.0.1, ne_eqb _ _ r.0.0.1, ne_eqb _ _ r.0.1, ne_eqb _ _ r.1)
