use borrow.Author.Tests.{ne_eqb}
use native.Mathlib.Omega.{arith}
use Rattle.acb_judge.proofs.is_space.Goals as goal

pub returns-in-0 : goal.returns-in-0
returns-in-0 c = rw c.in-0.is

pub returns-in-2 : goal.returns-in-2
returns-in-2 c = rw c.in-2.is

pub returns-in-7 : goal.returns-in-7
returns-in-7 c = rw c.in-7.is

pub returns-in_default : goal.returns-in_default
returns-in_default c = simp (ne_eqb c.args.space 0 (λ e. omega arith), ne_eqb c.args.space 2 (λ e. omega arith), ne_eqb c.args.space 7 (λ e. omega arith))
