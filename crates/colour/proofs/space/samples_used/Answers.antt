use borrow.Author.Tests.{ne_eqb}
use Rattle.colour.specs.Spaces.{uses}
use Rattle.colour.proofs.space.samples_used.Goals as goal

pub returns-in-0 : goal.returns-in-0
unfolding uses
returns-in-0 c = rw c.in-0.is

pub returns-in-1 : goal.returns-in-1
unfolding uses
returns-in-1 c = rw c.in-1.is

pub returns-in-2 : goal.returns-in-2
unfolding uses
returns-in-2 c = rw c.in-2.is

pub returns-in-7 : goal.returns-in-7
unfolding uses
returns-in-7 c = rw c.in-7.is

pub returns-in-8 : goal.returns-in-8
unfolding uses
returns-in-8 c = rw c.in-8.is

pub returns-in_default : goal.returns-in_default
unfolding uses
returns-in_default c =
    let r = c.in_default.in_default-own.rest in
    simp (ne_eqb _ _ r.1, ne_eqb _ _ r.0.1, ne_eqb _ _ r.0.0.1, ne_eqb _ _ r.0.0.0.1, ne_eqb _ _ r.0.0.0.0.1)
