use native.Mathlib.Omega.{arith}
use mathlib.Core.Path.{sym, ap, subst}
use Rattle.fault.proofs.Exit.{told-exit}
use Rattle.descriptor_judge.specs.scaffold.Counting.{told_rows, own_too, Small}
use Rattle.descriptor_judge.proofs.with_own.Goals as goal

pub overflow_add-result : goal.overflow_add-result
overflow_add-result c = let h = subst (λ b. Small (told_rows b)) c.in_ok-rows.was c.requires in omega arith

pub returns-in_err-rows : goal.returns-in_err-rows
returns-in_err-rows c = told-exit _ _ _ c.from_residual.ensures.1 (sym (ap (λ b. own_too (told_rows b)) c.in_err-rows.was))

pub returns : goal.returns
returns c = sym (ap (λ b. own_too (told_rows b)) c.in_ok-rows.was)
